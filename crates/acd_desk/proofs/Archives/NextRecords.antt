-- The kept record of the least greater stamp.
use Rattle.std.proofs.Common.{◌≡◌, ℕ, ◌<◌, ◌≤◌, List, [], ◌∷◌, ◌++◌, Some, None, refl, sym, ap, subst, arith, inl, inr, ◌⊎◌}
use Rattle.acd_terms.specs.Lists.{Every, Among}
use Rattle.acd_lemmas.proofs.Lists.{every_among}
use Rattle.acd_book.specs.declared.kept.Kept.{Kept}
use Rattle.acd_book.specs.Content.{IsKeptAfter}
use Rattle.acd_book.specs.Memory.{stamp_of}
use Rattle.acd_book.specs.Order.{Rises}
use Rattle.acd_book.proofs.SharedLists.{every_back, not_both}

among_cases : {T : Type 0} (x : T) (xs ys : List T) → Among x (xs ++ ys) → Among x xs ⊎ Among x ys
among_cases x [] ys at = inr at
among_cases x (y ∷ xs) ys at = elim at [
  | inl same ↦ inl (inl same)
  | inr rest ↦ elim (among_cases x xs ys rest) [
    | inl here ↦ inl (inr here)
    | inr there ↦ inr there
  ]
]

rises_above : (n : ℕ) (x : Kept) (xs : List Kept) → Rises stamp_of n xs → Among x xs → n < x.stamp
rises_above n x [] rise at = absurd at
rises_above n x (y ∷ ys) rise at = elim at [
  | inl same ↦ subst (λ (k : Kept). n < k.stamp) (sym same) rise.0
  | inr rest ↦ let first : n < y.stamp = rise.0 in let more : y.stamp < x.stamp = rises_above y.stamp x ys rise.1 rest in omega (arith, first, more)
]

-- no record is left where none has a greater stamp
pub none_left : (n : ℕ) (past left : List Kept) → Rises stamp_of n left → IsKeptAfter (past ++ left) n None → left ≡ []
none_left n past [] rise h = refl
none_left n past (k ∷ left) rise h = absurd (not_both n k.stamp rise.0 (every_back (λ (other : Kept). other.stamp ≤ n) past (k ∷ left) h).0)

-- the record of the least greater stamp is the next
pub next_left : (n : ℕ) (past left : List Kept) (k : Kept) → Every (λ (other : Kept). other.stamp ≤ n) past → Rises stamp_of n left
    → IsKeptAfter (past ++ left) n (Some k)
    → (tail : List Kept) × (left ≡ k ∷ tail)
next_left n past [] k h rise found = elim (among_cases k past [] found.0) [
  | inl here ↦ absurd (not_both n k.stamp found.1 (every_among (λ (other : Kept). other.stamp ≤ n) past k h here))
  | inr there ↦ absurd there
]
next_left n past (x ∷ left) k h rise found = elim (among_cases k past (x ∷ left) found.0) [
  | inl here ↦ absurd (not_both n k.stamp found.1 (every_among (λ (other : Kept). other.stamp ≤ n) past k h here))
  | inr there ↦ elim there [
    | inl same ↦ (left, ap (λ (y : Kept). y ∷ left) (sym same))
    | inr in_rest ↦ absurd (not_both x.stamp k.stamp (rises_above x.stamp k left rise.1 in_rest)
        ((every_back (λ (other : Kept). n < other.stamp → k.stamp ≤ other.stamp) past (x ∷ left) found.2).0 rise.0))
  ]
]
