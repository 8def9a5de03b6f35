use Rattle.std.proofs.Common.{◌≡◌, ◌+◌, ◌++◌, length}
use Rattle.acd_sql_differences.specs.DifferenceSteps.{differences}
use Rattle.acd_sql_differences.proofs.difference.row_changes.Given as goal

abbrev pub invariant-loop-change : goal.invariant-loop-change
invariant-loop-change g l =
    l.changes.items
    ++ differences (λ x y. g.R.Key.Ord.cmp (g.R.Keyed.key_of x) (g.R.Keyed.key_of y)) g.R.PartialEq.eq g.R.TableRecord.changes.gone g.R.TableRecord.changes.put
    l.left l.rest
    ≡ differences (λ x y. g.R.Key.Ord.cmp (g.R.Keyed.key_of x) (g.R.Keyed.key_of y)) g.R.PartialEq.eq g.R.TableRecord.changes.gone g.R.TableRecord.changes.put
    l.held l.new

abbrev pub decreases-loop-change : goal.decreases-loop-change
decreases-loop-change g l = length l.left + length l.rest
