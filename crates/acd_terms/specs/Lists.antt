-- Lists of records in ascending key. `at x` compares the key that is meant with the key of x.
use Rattle.std.specs.Prelude.{◌≡◌, ◌⊎◌, ℕ, ◌+◌, Bool, true, false, ◌&&◌, List, [], ◌∷◌, Option, Some, None, slice_get, if◌then◌else◌}
use Rattle.std.specs.declared.cmp.Ordering.{Ordering}
use Rattle.std.specs.declared.cmp.Ordering.TheVariants.{Less}
use Rattle.std.specs.Ordering.{is_eq, match_ordering}

-- the record at the key
abbrev pub find_by : {T : Type 0} → (T → Ordering) → List T → Option T
find_by at [] = None
find_by at (x ∷ xs) = if is_eq (at x) then Some x else find_by at xs

-- the record put at its key, in place of the one that was there
abbrev pub put_by : {T : Type 0} → (T → Ordering) → List T → T → List T
put_by at [] r = r ∷ []
put_by at (x ∷ xs) r = match_ordering (at x) (r ∷ x ∷ xs) (r ∷ xs) (x ∷ put_by at xs r)

-- the records but the one at the key
abbrev pub remove_by : {T : Type 0} → (T → Ordering) → List T → List T
remove_by at [] = []
remove_by at (x ∷ xs) = if is_eq (at x) then xs else x ∷ remove_by at xs

abbrev pub is_less : Ordering → Bool
is_less Less = true
is_less _ = false

-- each is before the next
abbrev pub ascends : {T : Type 0} → (T → T → Ordering) → List T → Bool
ascends cmp [] = true
ascends cmp (x ∷ []) = true
ascends cmp (x ∷ y ∷ ys) = is_less (cmp x y) && ascends cmp (y ∷ ys)

-- the first two, where they are
abbrev pub first_two : {T : Type 0} → List T → List (Option T)
first_two xs = slice_get xs 0 ∷ slice_get xs 1 ∷ []

-- how many pass
abbrev pub count : {T : Type 0} → (T → Bool) → List T → ℕ
count p [] = 0
count p (x ∷ xs) = (if p x then 1 else 0) + count p xs

-- the sum over a list
abbrev pub total : {T : Type 0} → (T → ℕ) → List T → ℕ
total f [] = 0
total f (x ∷ xs) = f x + total f xs

-- x is in the list
abbrev pub Among : {T : Type 0} → T → List T → Type 0
Among x [] = ⊥
Among x (y ∷ ys) = (x ≡ y) ⊎ Among x ys

-- each of the list
abbrev pub Every : {T : Type 0} → (T → Type 0) → List T → Type 0
Every P [] = Unit {0}
Every P (x ∷ xs) = P x × Every P xs

-- x is before each of the list
abbrev pub AllAfter : {T : Type 0} → (T → T → Ordering) → T → List T → Type 0
AllAfter cmp x [] = Unit {0}
AllAfter cmp x (y ∷ ys) = (cmp x y ≡ Less) × AllAfter cmp x ys

-- strictly ascending
abbrev pub IsAscending : {T : Type 0} → (T → T → Ordering) → List T → Type 0
IsAscending cmp [] = Unit {0}
IsAscending cmp (x ∷ xs) = AllAfter cmp x xs × IsAscending cmp xs
