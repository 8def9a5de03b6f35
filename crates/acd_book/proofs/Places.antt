-- The place of the first record of a key, and the map of those places.
use Rattle.std.proofs.Common.{arith, ◌≡◌, ℕ, ◌+◌, ◌-◌, ◌≤◌, suc, Bool, true, false, cond, List, [], ◌∷◌, ◌++◌, length, slice_get, Option, Some, None, refl, ap, ◌∙◌, sym, subst, find}
use Rattle.std.specs.Prelude.{unwrap_or, Result, Ok, Err, OnOk, OnErr}
use Rattle.std.specs.List.{position_from}
use Rattle.std.specs.HashMap.{HashMap, get}
use Rattle.std.specs.declared.hash.FoldHasher.{FoldHasher}
use Rattle.std.specs.declared.hash.BuildHasherDefault.{BuildHasherDefault}
use Rattle.std.proofs.lemmas.Option.{none-some}
use Rattle.acd_book.specs.Content.{kept_of}
use Rattle.acd_book.specs.Memory.{key_of, is_kept_under, same_key, HasPlaces}
use Rattle.acd_book.specs.declared.kept.Kept.{Kept}
use Rattle.acd_book.specs.declared.key.Key.{Key}
use Rattle.acd_book.proofs.Keys.{key, same_itself, same_is, same_kept}

-- the record at the first place
some_is : (a b : ℕ) → Some a ≡ Some b → a ≡ b
some_is a b h = ap (λ (o : Option ℕ). unwrap_or o b) h

first_place : (b i : ℕ) → b ≡ i → i - b ≡ 0
first_place b i same = omega (arith, same)

next_place : (b i : ℕ) → b + 1 ≤ i → i - b ≡ suc (i - (b + 1))
next_place b i h = omega (arith, h)

found_from : {T : Type 0} (p : T → Bool) (b i : ℕ) (xs : List T) → position_from p b xs ≡ Some i → (b ≤ i) × (find p xs ≡ slice_get xs (i - b))
found_from p b i [] h = absurd (none-some i h)
found_from p b i (x ∷ xs) h =
    (elim (p x) as (λ c. cond c (Some b) (position_from p (b + 1) xs) ≡ Some i → (b ≤ i) × (cond c (Some x) (find p xs) ≡ slice_get (x ∷ xs) (i - b))) [
      | true ↦ λ h. let same : b ≡ i = some_is b i h in
          (omega (arith, same), sym (ap (slice_get (x ∷ xs)) (first_place b i same)))
      | false ↦ λ h. let rest = found_from p (b + 1) i xs h in
          (omega (arith, rest.0), rest.1 ∙ sym (ap (slice_get (x ∷ xs)) (next_place b i rest.0)))
    ]) h

found_none : {T : Type 0} (p : T → Bool) (b : ℕ) (xs : List T) → position_from p b xs ≡ None → find p xs ≡ None
found_none p b [] h = refl
found_none p b (x ∷ xs) h =
    (elim (p x) as (λ c. cond c (Some b) (position_from p (b + 1) xs) ≡ None → cond c (Some x) (find p xs) ≡ None) [
      | true ↦ λ h. absurd (none-some b (sym h))
      | false ↦ λ h. found_none p (b + 1) xs h
    ]) h

none_found : {T : Type 0} (p : T → Bool) (b : ℕ) (xs : List T) → find p xs ≡ None → position_from p b xs ≡ None
none_found p b [] h = refl
none_found p b (x ∷ xs) h =
    (elim (p x) as (λ c. cond c (Some x) (find p xs) ≡ None → cond c (Some b) (position_from p (b + 1) xs) ≡ None) [
      | true ↦ λ h. absurd (none-some x (sym h))
      | false ↦ λ h. none_found p (b + 1) xs h
    ]) h

-- one more that doesn't pass
position_other : {T : Type 0} (p : T → Bool) (b : ℕ) (xs : List T) (x : T) → p x ≡ false → position_from p b (xs ++ x ∷ []) ≡ position_from p b xs
position_other p b [] x h = ap (λ (c : Bool). cond c (Some b) None) h
position_other p b (y ∷ xs) x h = ap (λ (o : Option ℕ). cond (p y) (Some b) o) (position_other p (b + 1) xs x h)

more_places : (b n : ℕ) → (b + 1) + n ≡ b + suc n
more_places b n = omega arith

no_places : (b : ℕ) → b ≡ b + 0
no_places b = omega arith

-- one more that passes, where none did
position_one : {T : Type 0} (p : T → Bool) (b : ℕ) (xs : List T) (x : T) → p x ≡ true → position_from p b xs ≡ None
    → position_from p b (xs ++ x ∷ []) ≡ Some (b + length xs)
position_one p b [] x h none = ap (λ (c : Bool). cond c (Some b) None) h ∙ ap Some (no_places b)
position_one p b (y ∷ xs) x h none =
    (elim (p y) as (λ c. cond c (Some b) (position_from p (b + 1) xs) ≡ None
    → cond c (Some b) (position_from p (b + 1) (xs ++ x ∷ [])) ≡ Some (b + suc (length xs))) [
      | true ↦ λ none. absurd (none-some b (sym none))
      | false ↦ λ none. position_one p (b + 1) xs x h none ∙ ap Some (more_places b (length xs))
    ]) none

abbrev Places : Type 0
Places = HashMap Key ℕ (BuildHasherDefault FoldHasher)

zero_plus : (n : ℕ) → 0 + n ≡ n
zero_plus n = omega arith

minus_zero : (n : ℕ) → n - 0 ≡ n
minus_zero n = omega arith

-- a key that the map doesn't have is kept under no record
pub unkept : (places : Places) (kept : List Kept) (p : List ℕ) (q : ℕ) → HasPlaces places kept → get same_key places (key p q) ≡ None → kept_of kept p q ≡ None
unkept places kept p q placed h = found_none (is_kept_under (key p q)) 0 kept (sym (placed (key p q)) ∙ h)

-- and one that it has under the record at its place
pub kept_at : (places : Places) (kept : List Kept) (p : List ℕ) (q i : ℕ) → HasPlaces places kept → get same_key places (key p q) ≡ Some i
    → kept_of kept p q ≡ slice_get kept i
kept_at places kept p q i placed h =
    (found_from (is_kept_under (key p q)) 0 i kept (sym (placed (key p q)) ∙ h)).1 ∙ ap (slice_get kept) (minus_zero i)

-- a record of a new key is added at the end
pub placed_push : (old new : Places) (kept : List Kept) (x : Kept) → HasPlaces old kept → kept_of kept x.request.requester x.request.invoke ≡ None
    → ((k : Key) → get same_key new k ≡ cond (same_key (key_of x) k) (Some (length kept)) (get same_key old k)) → HasPlaces new (kept ++ x ∷ [])
placed_push old new kept x placed unkept updates k =
    (elim (same_key (key_of x) k) as (λ c. same_key (key_of x) k ≡ c → get same_key new k ≡ cond c (Some (length kept)) (get same_key old k)
    → get same_key new k ≡ position_from (is_kept_under k) 0 (kept ++ x ∷ [])) [
      | true ↦ λ same at.
          let one : key_of x ≡ k = same_is (key_of x) k same in
          let none : position_from (is_kept_under k) 0 kept ≡ None =
          subst (λ (k : Key). position_from (is_kept_under k) 0 kept ≡ None) one (none_found (is_kept_under (key_of x)) 0 kept unkept) in
          at ∙ ap Some (sym (zero_plus (length kept))) ∙ sym (position_one (is_kept_under k) 0 kept x (sym (same_kept x k) ∙ same) none)
      | false ↦ λ other at. at ∙ placed k ∙ sym (position_other (is_kept_under k) 0 kept x (sym (same_kept x k) ∙ other))
    ]) refl (updates k)

-- a place that was put in place of another, and the other in its place again
pub put_back : (first mid last : Places) (key : Key) (old place : ℕ) → get same_key first key ≡ Some old
    → ((k : Key) → get same_key mid k ≡ cond (same_key key k) (Some place) (get same_key first k))
    → ((k : Key) → get same_key last k ≡ cond (same_key key k) (Some old) (get same_key mid k))
    → (k : Key) → get same_key last k ≡ get same_key first k
put_back first mid last key old place there one two k =
    (elim (same_key key k) as (λ c. same_key key k ≡ c → get same_key mid k ≡ cond c (Some place) (get same_key first k)
    → get same_key last k ≡ cond c (Some old) (get same_key mid k) → get same_key last k ≡ get same_key first k) [
      | true ↦ λ same put back. back ∙ sym (subst (λ (k : Key). get same_key first k ≡ Some old) (same_is key k same) there)
      | false ↦ λ other put back. back ∙ put
    ]) refl (one k) (two k)

-- the key has a place in the map that it was put in
pub has_place : (first mid : Places) (key : Key) (place : ℕ)
    → ((k : Key) → get same_key mid k ≡ cond (same_key key k) (Some place) (get same_key first k))
    → ¬ (get same_key mid key ≡ None)
has_place first mid key place one none =
    absurd (none-some place (sym none ∙ one key ∙ ap (λ (c : Bool). cond c (Some place) (get same_key first key)) (same_itself key)))

-- a call whose error can't be
pub went : {A E : Type 0} (r : Result A E) (P N : Type 0) → OnOk r P → OnErr r N → ¬ N → P
went (Ok x) P N ok err never = ok
went (Err e) P N ok err never = absurd (never err)
