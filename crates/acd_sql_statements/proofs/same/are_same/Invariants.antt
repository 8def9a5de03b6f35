use Rattle.std.proofs.Common.{◌≡◌, take}
use Rattle.acd_sql_statements.proofs.same.are_same.Given as goal

abbrev pub invariant-loop-at : goal.invariant-loop-at
invariant-loop-at g l = take l.at l.a ≡ take l.at l.b
