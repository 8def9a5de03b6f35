-- The first of ascending keys at which something is given.
use Rattle.std.proofs.Common.{◌≡◌, inl, inr, List, [], ◌∷◌, Option, Some, None, refl, ap, sym, ◌∙◌}
use Rattle.std.specs.List.{AllByRecursion}
use Rattle.std.specs.List.Sorted.{IsStrictlySortedBy}
use Rattle.std.specs.declared.cmp.Ordering.{Ordering}
use Rattle.std.specs.declared.cmp.Ordering.TheVariants.{Less, Equal, Greater}
use Rattle.std.specs.Ordering.{ordering_reverse}
use Rattle.std.specs.Cmp.{IsTotalOrder}
use Rattle.std.proofs.lemmas.Map.Lookups.{CmpEqualImpliesEq}
use Rattle.std.specs.Option.{option_or}
use Rattle.acd_terms.specs.Lists.{Among}
use Rattle.acd_lemmas.proofs.Lists.{none_from}
use Rattle.acd_tables.specs.FirstOffer.{first_given}

module _ {K T : Type 0} (cmp : K → K → Ordering) (total : IsTotalOrder cmp) (exact : CmpEqualImpliesEq cmp) (f : K → Option T) where
  abbrev pub IsFirst : Option T → Type 0
  IsFirst None = (j : K) → f j ≡ None
  IsFirst (Some o) = (k : K) × (f k ≡ Some o) × ((j : K) → cmp j k ≡ Less → f j ≡ None)

  pub one_first : (a b : Option T) → IsFirst a → IsFirst b → a ≡ b
  one_first None None h k = refl
  one_first None (Some o) h k = absurd (let e = h k.0 in let g = k.1 in cc (e, g))
  one_first (Some o) None h k = absurd (let e = k h.0 in let g = h.1 in cc (e, g))
  one_first (Some o) (Some q) h k = by (cmp h.0 k.0) refl
    where
      by : (c : Ordering) → cmp h.0 k.0 ≡ c → Some o ≡ Some q
      by Less e = absurd (let n = k.2 h.0 e in let g = h.1 in cc (n, g))
      by Equal e = sym h.1 ∙ ap f (exact h.0 k.0 e) ∙ k.1
      by Greater e = absurd (let n = h.2 k.0 (total.antisymm k.0 h.0 ∙ ap ordering_reverse e) in let g = k.1 in cc (n, g))

  below_among : (k j : K) (ks : List K) → AllByRecursion (λ y. cmp k y ≡ Less) ks → Among j ks → cmp k j ≡ Less
  below_among k j [] h a = absurd a
  below_among k j (x ∷ ks) h (inl e) = ap (cmp k) e ∙ h.0
  below_among k j (x ∷ ks) h (inr a) = below_among k j ks h.1 a

  not_both : (x y : K) → cmp x y ≡ Less → cmp y x ≡ Less → ⊥
  not_both x y e g = let turned = total.antisymm x y ∙ ap ordering_reverse g in cc (e, turned)

  -- of ascending keys, among which are all where f gives something
  pub first_sorted : (ks : List K) → IsStrictlySortedBy cmp ks → ((j : K) (o : T) → f j ≡ Some o → Among j ks) → IsFirst (first_given f ks)
  unfolding IsStrictlySortedBy
  first_sorted [] sorted listed = λ j. none_from (f j) (λ o e. listed j o e)
  first_sorted (k ∷ ks) sorted listed = by (f k) refl (λ later. first_sorted ks sorted.1 later)
    where
      by : (o : Option T) → f k ≡ o → (((j : K) (o : T) → f j ≡ Some o → Among j ks) → IsFirst (first_given f ks)) → IsFirst (option_or o (first_given f ks))
      by None e more = more (λ j o q. elim (listed j o q) [ inl same ↦ (let g : f k ≡ Some o = ap f (sym same) ∙ q in absurd (cc (e, g))) | inr a ↦ a ])
      by (Some o) e more = (
        k,
        e,
        λ j l. none_from (f j) (λ x q. elim (listed j x q) [
          | inl same ↦ not_both k k (sym (ap (λ z. cmp z k) same) ∙ l) (sym (ap (λ z. cmp z k) same) ∙ l)
          | inr a ↦ not_both j k l (below_among k j ks sorted.0 a)
        ]),
      )
