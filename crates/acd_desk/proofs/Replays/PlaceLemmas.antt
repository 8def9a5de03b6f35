-- Places of keys that were seen.
use Rattle.std.proofs.Common.{◌≡◌, ℕ, zero, suc, ◌<◌, ◌≤◌, Bool, true, List, [], ◌∷◌, length, slice_index_or, slice_set, refl, ap₂, ◌∙◌}
use Rattle.std.proofs.lemmas.List.{get_or_default}
use Rattle.std.proofs.Math.ListN.{get_or-eq_default}
use Rattle.acd_terms.specs.declared.command.Request.{Request}
use Rattle.acd_desk.specs.Contents.KeyPlaces.{place_from, place_of}

pub seen_within : (xs : List Bool) (p : ℕ) (x : Bool) → p < length xs → x ≡ slice_index_or xs p x → x ≡ slice_index_or xs p true
seen_within xs p x inside is = is ∙ get_or_default xs p x true inside

pub seen_past : (xs : List Bool) (p : ℕ) → length xs ≤ p → slice_index_or xs p true ≡ true
seen_past xs p past = get_or-eq_default xs true past

pub seen_itself : (xs : List Bool) (p : ℕ) → slice_index_or (slice_set xs p true) p true ≡ true
seen_itself [] p = refl
seen_itself (x ∷ xs) zero = refl
seen_itself (x ∷ xs) (suc p) = seen_itself xs p

pub seen_other : (xs : List Bool) (p q : ℕ) → slice_index_or xs q true ≡ true → slice_index_or (slice_set xs p true) q true ≡ true
seen_other [] p q h = refl
seen_other (x ∷ xs) zero zero h = refl
seen_other (x ∷ xs) zero (suc q) h = h
seen_other (x ∷ xs) (suc p) zero h = h
seen_other (x ∷ xs) (suc p) (suc q) h = seen_other xs p q h

-- requests of one key have one place
pub same_place : (a b : Request) → a.requester ≡ b.requester → a.invoke ≡ b.invoke → place_of a ≡ place_of b
unfolding place_of
same_place a b requester invoke = ap₂ (λ (q : List ℕ) (i : ℕ). place_from i q) requester invoke
