use Rattle.std.proofs.Common.{◌≡◌, ◌≤◌, ℕ, Bool, true, not, ◌&&◌, ◌==◌, length, ap, ◌∙◌, arith}
use Rattle.std.specs.Prelude.{nat_le}
use Rattle.std.specs.Ordering.{nat_cmp}
use Rattle.std.proofs.lemmas.Bool.Decides.{nat_tests}
use Rattle.acd_terms.specs.Lists.{ascends}
use Rattle.acd_rules.proofs.plan.is_choice.Goals as goal

-- at most eight are a choice where there is one
one_to_eight : (n : ℕ) (up : Bool) → up ≡ true → n ≤ 8
    → not (n == 0) ≡ (nat_le 1 n && (nat_le n 8 && up))
one_to_eight n up is few = grind (arith, nat_tests)

pub returns : goal.returns
returns c =
    let groups = c.args.groups.now in
    let slice = c.as_slice.ensures in
    ap not (c.is_empty.ensures ∙ ap (λ gs. length gs == 0) slice.value)
    ∙ one_to_eight (length groups) (ascends nat_cmp groups) slice.ascending slice.few
