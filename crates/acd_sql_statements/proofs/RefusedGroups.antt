-- A list that isn't accepted as the groups of an agent is longer than eight, or doesn't ascend.
use Rattle.std.proofs.Common.{◌≡◌, ℕ, ◌≤◌, ◌==◌, nat_le, nat_eq, Bool, true, false, List, [], ◌∷◌, ◌++◌, length, Option, Some, None, inl, inr, refl, sym, ap, ap₂, subst, ◌∙◌, append_assoc, append-nil, length-append, arith}
use Rattle.std.specs.Cmp.Lexicographic.{pointwise}
use Rattle.std.specs.Ordering.{nat_cmp, match_ordering}
use Rattle.std.specs.Option.{option_and_then}
use Rattle.std.specs.declared.cmp.Ordering.TheVariants.{Less}
use Rattle.std.proofs.lemmas.Cmp.{nat_cmp_total}
use Rattle.std.proofs.lemmas.Bool.{cases_Bool, and_parts}
use Rattle.std.proofs.lemmas.Bool.Decides.{nat_tests}
use Rattle.acd_terms.specs.Groups.{are_groups, is_one_of, with_one_more, with_all}
use Rattle.acd_terms.specs.Lists.{ascends, put_by, AllAfter, IsAscending}
use Rattle.acd_lemmas.proofs.RuleTests.{ascending_from}
use Rattle.acd_lemmas.proofs.Numbers.{greater_is}

-- one after all that are there
below : (g : ℕ) (front : List ℕ) (d : ℕ) (rest : List ℕ) → AllAfter nat_cmp g (front ++ d ∷ rest) → nat_cmp g d ≡ Less
below g [] d rest h = h.0
below g (x ∷ front) d rest h = below g front d rest h.1

above : (g d : ℕ) → nat_cmp g d ≡ Less → ◌≡◌ {A = Bool} (g == d) false
above g d h = grind (arith, nat_tests)

last_in : (front : List ℕ) (d : ℕ) (rest : List ℕ) → IsAscending nat_cmp (front ++ d ∷ rest)
    → (is_one_of front d ≡ false) × (put_by (nat_cmp d) front d ≡ front ++ d ∷ [])
last_in [] d rest up = (refl, refl)
last_in (g ∷ front) d rest up =
    let more = last_in front d rest up.1 in
    let low = below g front d rest up.0 in (
      rw (above g d low) more.0,
      ap (λ o. match_ordering o (d ∷ g ∷ front) (d ∷ front) (g ∷ put_by (nat_cmp d) front d)) (greater_is g d low)
          ∙ ap (λ l. g ∷ l) more.1,
    )

one_more : (front : List ℕ) (d : ℕ) (rest : List ℕ) → IsAscending nat_cmp (front ++ d ∷ rest) → length (front ++ d ∷ rest) ≤ 8
    → with_one_more front d ≡ Some (front ++ d ∷ [])
unfolding with_one_more
one_more front d rest up few =
    let long = subst (λ n. n ≤ 8) (length-append front (d ∷ rest)) few in
    let room : nat_le 8 (length front) ≡ false = grind (arith, nat_tests) in
    let last = last_in front d rest up in
    rw (room, last.0) (ap Some last.1)

all_in : (front rest : List ℕ) → IsAscending nat_cmp (front ++ rest) → length (front ++ rest) ≤ 8 → with_all front rest ≡ Some (front ++ rest)
all_in front [] up few = ap Some (sym (append-nil front))
all_in front (d ∷ rest) up few =
    let moved = append_assoc front (d ∷ []) rest in
    ap (option_and_then (λ (more : List ℕ). with_all more rest)) (one_more front d rest up few)
    ∙ all_in (front ++ d ∷ []) rest (subst (IsAscending nat_cmp) (sym moved) up) (subst (λ l. length l ≤ 8) (sym moved) few) ∙ ap Some moved

few_of : (n : ℕ) → nat_le n 8 ≡ true → n ≤ 8
few_of n h = grind (arith, nat_tests)

pub not_groups : (list : List ℕ) → (with_all [] list ≡ Some list → ⊥) → are_groups list ≡ false
not_groups list other = elim (cases_Bool (are_groups list)) [
  | inl are ↦ let both = and_parts (nat_le (length list) 8) (ascends nat_cmp list) are in
      absurd (other (all_in [] list (ascending_from nat_cmp nat_cmp_total list both.1) (few_of (length list) both.0)))
  | inr stray ↦ stray
]

pub equal_self : (xs : List ℕ) → pointwise nat_eq xs xs ≡ true
equal_self [] = refl
equal_self (x ∷ xs) = rw (reflexive x) (equal_self xs)
  where
    reflexive : (n : ℕ) → nat_eq n n ≡ true
    reflexive n = grind (arith, nat_tests)

pub not_made : (list slice : List ℕ) (o : Option (List ℕ)) → o ≡ None → o ≡ with_all [] slice → slice ≡ list → are_groups list ≡ false
not_made list slice o none is same = not_groups list (λ some. absurd (let apart = sym none ∙ is ∙ ap (with_all []) same ∙ some in cc))

pub not_same : (list slice groups xs ys : List ℕ) (o : Option (List ℕ)) (b : Bool) → o ≡ Some groups → o ≡ with_all [] slice → slice ≡ list
    → b ≡ pointwise nat_eq xs ys → b ≡ false → xs ≡ groups → ys ≡ list → are_groups list ≡ false
not_same list slice groups xs ys o b made is same tests apart xs-are ys-are =
    not_groups list (λ some.
    let same_groups : groups ≡ list = cc (sym made ∙ is ∙ ap (with_all []) same ∙ some) in
    absurd (let clash = sym (equal_self list) ∙ sym (ap₂ (pointwise nat_eq) (xs-are ∙ same_groups) ys-are) ∙ sym tests ∙ apart in cc))
