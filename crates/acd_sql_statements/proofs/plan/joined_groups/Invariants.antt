use Rattle.std.proofs.Common.{◌≡◌, map, take}
use Rattle.acd_sql_columns.specs.Relations.{joined_group}
use Rattle.acd_sql_statements.proofs.plan.joined_groups.Given as goal

abbrev pub invariant-loop-part : goal.invariant-loop-part
invariant-loop-part l = l.groups.items ≡ map (joined_group l.priorities) (take l.part-index l.parts)
