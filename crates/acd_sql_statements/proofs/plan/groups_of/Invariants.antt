use Rattle.std.proofs.Common.{◌≡◌, ◌++◌, drop}
use Rattle.acd_sql_columns.specs.Relations.{groups_beside, after_first}
use Rattle.acd_sql_statements.proofs.plan.groups_of.Given as goal

abbrev pub invariant-loop-item : goal.invariant-loop-item
invariant-loop-item l = l.groups ++ groups_beside (drop l.item-index l.further) l.part.agent ≡ after_first l.part.group (groups_beside l.further l.part.agent)
