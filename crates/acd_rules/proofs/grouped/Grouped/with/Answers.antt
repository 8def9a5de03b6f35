use Rattle.std.proofs.Common.{◌∙◌, ◌==◌, ap, subst, sym, refl}
use Rattle.std.specs.List.Sorted.{IsNonDecreasingBy}
use Rattle.acd_rules.specs.Groups.{those_with}
use Rattle.acd_rules.proofs.grouped.Grouped.with.Goals as goal
use Rattle.acd_lemmas.proofs.Lists.{filter-filter}

pub returns-in-Some : goal.returns-in-Some
returns-in-Some g c = record {
  has = λ key xs by there.
      let n = c.args.wanted in
      let lie = there.1 c.in-Some.sorted.items (rw c.in-Some.is refl) in
      let value = c.deref.ensures.value in
      let order = subst (λ ys. IsNonDecreasingBy key ys) (sym value) lie.0 in
      ap (those_with key n) (c.alike.ensures key by order ∙ ap (those_with key n) value)
      ∙ filter-filter (λ x. key x == n) (λ x. key x == n) (λ x is. is) c.in-Some.sorted.items
      ∙ lie.1 n;
}
