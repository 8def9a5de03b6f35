use Rattle.std.proofs.Common.{◌≡◌, map, take}
use Rattle.sqlite_schema.specs.Code.{term_in}
use Rattle.acd_sql_statements.proofs.same.are_same_roots.Given as goal

abbrev pub invariant-loop-at : goal.invariant-loop-at
invariant-loop-at l = map (term_in l.a) (take l.at l.roots) ≡ map (term_in l.b) (take l.at l.others)
