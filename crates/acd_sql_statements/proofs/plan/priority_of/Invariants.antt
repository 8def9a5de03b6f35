use Rattle.std.proofs.Common.{◌≡◌, drop}
use Rattle.acd_sql_columns.specs.Relations.{priority_of}
use Rattle.acd_sql_statements.proofs.plan.priority_of.Given as goal

abbrev pub invariant-loop-one : goal.invariant-loop-one
invariant-loop-one l = priority_of (drop l.one-index l.priorities) l.device ≡ priority_of l.priorities l.device
