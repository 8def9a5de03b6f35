-- The least pair of a list, and the group of a list that precedes the others.
use Rattle.std.proofs.Common.{◌≡◌, ℕ, inl, inr, true, false, cond, List, [], ◌∷◌, Some, None, refl, sym, ◌∙◌, ap, ap₂, subst, arith, map}
use Rattle.std.proofs.lemmas.Bool.Decides.{nat_tests}
use Rattle.acd_model.specs.Choice.{pair_lt, lesser, least_from, precedes, sooner, foremost}
use Rattle.acd_model.specs.Offers.{IsLeast, FindsLeast}
use Rattle.acd_lemmas.proofs.Lists.{some_is}
use Rattle.acd_lemmas.proofs.Words.{GroupRecord, Among}

pair_itself : (p : ℕ × ℕ) → pair_lt p p ≡ false
pair_itself p = grind (arith, nat_tests)

pair_one_way : (p q : ℕ × ℕ) → pair_lt p q ≡ true → pair_lt q p ≡ false
pair_one_way p q e = grind (arith, nat_tests)

pair_chain : (p q r : ℕ × ℕ) → pair_lt p q ≡ false → pair_lt q r ≡ false → pair_lt p r ≡ false
pair_chain p q r e f = grind (arith, nat_tests)

-- two pairs of which neither is less are one
pair_same : (p q : ℕ × ℕ) → pair_lt p q ≡ false → pair_lt q p ≡ false → p ≡ q
pair_same p q e f =
    let first : p.0 ≡ q.0 = grind (arith, nat_tests) in
    let second : p.1 ≡ q.1 = grind (arith, nat_tests) in
    ap₂ (λ a b. (a, b)) first second

-- the least of a list with one of two before it, the lesser, is the least of the list with both
least_with : (b p q : ℕ × ℕ) (ps : List (ℕ × ℕ)) → IsLeast q (lesser (Some b) p ∷ ps) → IsLeast q (b ∷ p ∷ ps)
least_with b p q ps h =
    (elim (pair_lt p b) as (λ v. pair_lt p b ≡ v → IsLeast q (cond v p b ∷ ps) → IsLeast q (b ∷ p ∷ ps)) [
      | true ↦ λ e g. record {
        there = inr g.there;
        least = λ r a. elim a [
          | inl w ↦ subst (λ z. pair_lt z q ≡ false) (sym w) (pair_chain b p q (pair_one_way p b e) (g.least p (inl refl)))
          | inr c ↦ g.least r c
        ];
      }
      | false ↦ λ e g. record {
        there = elim g.there [ inl w ↦ inl w | inr c ↦ inr (inr c) ];
        least = λ r a. elim a [
          | inl w ↦ g.least r (inl w)
          | inr c ↦ elim c [
            | inl w ↦ subst (λ z. pair_lt z q ≡ false) (sym w) (pair_chain p b q e (g.least b (inl refl)))
            | inr d ↦ g.least r (inr d)
          ]
        ];
      }
    ]) refl h

-- a list that begins with a pair has a least one
found_from : (b : ℕ × ℕ) (ps : List (ℕ × ℕ)) → (q : ℕ × ℕ) × ((least_from (Some b) ps ≡ Some q) × IsLeast q (b ∷ ps))
found_from b [] = (
  b,
  (
    refl,
    record {
      there = inl refl;
      least = λ r a. elim a [ inl w ↦ subst (λ z. pair_lt z b ≡ false) (sym w) (pair_itself b) | inr c ↦ absurd c ];
    },
  ),
)
found_from b (p ∷ ps) =
    let f = found_from (lesser (Some b) p) ps in
    (f.0, (f.1.0, least_with b p f.0 ps f.1.1))

pub none_of : (ps : List (ℕ × ℕ)) → least_from None ps ≡ None → ps ≡ []
none_of [] e = refl
none_of (p ∷ ps) e = let f = found_from p ps in absurd (cc (f.1.0, e))

pub least_is : (ps : List (ℕ × ℕ)) (p : ℕ × ℕ) → least_from None ps ≡ Some p → IsLeast p ps
least_is [] p e = absurd (cc (e))
least_is (x ∷ ps) p e = let f = found_from x ps in subst (λ v. IsLeast v (x ∷ ps)) (some_is f.0 p (sym f.1.0 ∙ e)) f.1.1

-- and there is one least at most
pub least_found : (ps : List (ℕ × ℕ)) (p : ℕ × ℕ) → IsLeast p ps → least_from None ps ≡ Some p
least_found [] p h = absurd h.there
least_found (x ∷ ps) p h =
    let f = found_from x ps in
    f.1.0 ∙ ap Some (pair_same f.0 p (h.least f.0 f.1.1.there) (f.1.1.least p h.there))

pub none_mapped : {T : Type 0} (f : T → ℕ × ℕ) (xs : List T) → map f xs ≡ [] → xs ≡ []
none_mapped f [] e = refl
none_mapped f (x ∷ xs) e = absurd (cc (e))

-- the scan finds the least
pub finds_least : (ps : List (ℕ × ℕ)) → FindsLeast (least_from None ps) ps
finds_least ps = record {
  least = λ p. (least_is ps p, least_found ps p);
  none = (none_of ps, λ e. ap (least_from None) e);
}

-- the group that precedes the others

before_itself : (g : GroupRecord) → precedes g g ≡ false
before_itself g = grind (arith, nat_tests)

before_one_way : (g h : GroupRecord) → precedes g h ≡ true → precedes h g ≡ false
before_one_way g h e = grind (arith, nat_tests)

before_chain : (f g h : GroupRecord) → precedes f g ≡ false → precedes g h ≡ false → precedes f h ≡ false
before_chain f g h d e = grind (arith, nat_tests)

-- it is one of them, and none of them precedes it
pub record IsForemost (g : GroupRecord) (gs : List GroupRecord) : Type 0 where
  pub there : Among g gs
  pub first : (h : GroupRecord) → Among h gs → precedes h g ≡ false

with_sooner : (b p q : GroupRecord) (gs : List GroupRecord) → IsForemost q (sooner (Some b) p ∷ gs) → IsForemost q (b ∷ p ∷ gs)
with_sooner b p q gs h =
    (elim (precedes p b) as (λ v. precedes p b ≡ v → IsForemost q (cond v p b ∷ gs) → IsForemost q (b ∷ p ∷ gs)) [
      | true ↦ λ e g. record {
        there = inr g.there;
        first = λ r a. elim a [
          | inl w ↦ subst (λ (z : GroupRecord). precedes z q ≡ false) (sym w) (before_chain b p q (before_one_way p b e) (g.first p (inl refl)))
          | inr c ↦ g.first r c
        ];
      }
      | false ↦ λ e g. record {
        there = elim g.there [ inl w ↦ inl w | inr c ↦ inr (inr c) ];
        first = λ r a. elim a [
          | inl w ↦ g.first r (inl w)
          | inr c ↦ elim c [
            | inl w ↦ subst (λ (z : GroupRecord). precedes z q ≡ false) (sym w) (before_chain p b q e (g.first b (inl refl)))
            | inr d ↦ g.first r (inr d)
          ]
        ];
      }
    ]) refl h

foremost_from : (b : GroupRecord) (gs : List GroupRecord) → (q : GroupRecord) × ((foremost (Some b) gs ≡ Some q) × IsForemost q (b ∷ gs))
foremost_from b [] = (
  b,
  (
    refl,
    record {
      there = inl refl;
      first = λ r a. elim a [ inl w ↦ subst (λ (z : GroupRecord). precedes z b ≡ false) (sym w) (before_itself b) | inr c ↦ absurd c ];
    },
  ),
)
foremost_from b (p ∷ gs) = let f = foremost_from (sooner (Some b) p) gs in (f.0, (f.1.0, with_sooner b p f.0 gs f.1.1))

pub none_foremost : (gs : List GroupRecord) → foremost None gs ≡ None → gs ≡ []
none_foremost [] e = refl
none_foremost (g ∷ gs) e = let f = foremost_from g gs in absurd (cc (f.1.0, e))

pub foremost_is : (gs : List GroupRecord) (g : GroupRecord) → foremost None gs ≡ Some g → IsForemost g gs
foremost_is [] g e = absurd (cc (e))
foremost_is (x ∷ gs) g e = let f = foremost_from x gs in subst (λ v. IsForemost v (x ∷ gs)) (some_is f.0 g (sym f.1.0 ∙ e)) f.1.1
