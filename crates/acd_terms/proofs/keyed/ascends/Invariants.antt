use Rattle.std.proofs.Common.{◌≡◌, ◌-◌, drop}
use Rattle.acd_terms.specs.Lists.{ascends}
use Rattle.acd_terms.proofs.keyed.ascends.Given as goal

abbrev pub invariant-loop-i : goal.invariant-loop-i
invariant-loop-i g l =
    ascends (λ x y. g.R.Key.Ord.cmp (g.R.Keyed.key_of x) (g.R.Keyed.key_of y)) (drop (l.i - 1) l.records)
    ≡ ascends (λ x y. g.R.Key.Ord.cmp (g.R.Keyed.key_of x) (g.R.Keyed.key_of y)) l.records
