use Rattle.std.proofs.Common.{◌≡◌, drop}
use Rattle.acd_terms.specs.Lists.{find_by}
use Rattle.acd_terms.proofs.keyed.find.Given as goal

abbrev pub invariant-loop-x : goal.invariant-loop-x
invariant-loop-x g l =
    find_by (λ x. g.R.Key.Ord.cmp l.key (g.R.Keyed.key_of x)) (drop l.x-index l.records)
    ≡ find_by (λ x. g.R.Key.Ord.cmp l.key (g.R.Keyed.key_of x)) l.records
