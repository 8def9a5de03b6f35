-- Lists as the tests of rules go over them.
use Rattle.std.proofs.Common.{◌≡◌, ◌∙◌, ap, sym, ℕ, Bool, true, false, cond, List, [], ◌∷◌, length, refl, arith}
use Rattle.std.specs.declared.cmp.Ordering.{Ordering}
use Rattle.std.specs.Prelude.{filter, find, slice_get, Option, Some, None, if◌then◌else◌, not, ◌||◌, ◌&&◌, ◌==◌}
use Rattle.std.specs.Ordering.{nat_cmp, is_eq}
use Rattle.std.specs.List.{list_any}
use Rattle.std.proofs.lemmas.Bool.Decides.{nat_tests}
use Rattle.acd_terms.specs.Lists.{count, find_by}
use Rattle.acd_model.specs.Scans.{has}
use Rattle.acd_model.specs.Rules.Occupied.{is_empty}
use Rattle.acd_rules.specs.Groups.{number_or_none, those_with}
use Rattle.acd_lemmas.proofs.Lists.{count_length, filter-filter}

-- a filter leaves none where none passes
pub none_left : {T : Type 0} (p : T → Bool) (xs : List T) → is_empty (filter p xs) ≡ not (list_any p xs)
none_left p [] = refl
none_left p (x ∷ xs) =
    elim (p x) as (λ b. is_empty (cond b (x ∷ filter p xs) (filter p xs)) ≡ not (b || list_any p xs)) [ true ↦ refl | false ↦ none_left p xs ]

-- so of a part that has all that q keeps
pub kept_of_part : {T : Type 0} (p q : T → Bool) → ((x : T) → p x ≡ true → q x ≡ true) → (part xs : List T)
    → filter q part ≡ filter q xs → filter p part ≡ filter p xs
kept_of_part p q so part xs same = sym (filter-filter p q so part) ∙ ap (filter p) same ∙ filter-filter p q so xs

pub tallied : {T : Type 0} (p q : T → Bool) → ((x : T) → p x ≡ true → q x ≡ true) → (part xs : List T) (n : ℕ)
    → n ≡ length (filter p part) → filter q part ≡ filter q xs → n ≡ count p xs
tallied p q so part xs n is same = is ∙ ap length (kept_of_part p q so part xs same) ∙ sym (count_length p xs)

not_same : (a b : Bool) → not a ≡ not b → a ≡ b
not_same true true same = refl
not_same true false same = cc
not_same false true same = cc
not_same false false same = refl

pub asked : {T : Type 0} (p q : T → Bool) → ((x : T) → p x ≡ true → q x ≡ true) → (part xs : List T) (b : Bool)
    → b ≡ list_any p part → filter q part ≡ filter q xs → b ≡ list_any p xs
asked p q so part xs b is same =
    is ∙ not_same _ _ (sym (none_left p part) ∙ ap is_empty (kept_of_part p q so part xs same) ∙ none_left p xs)

-- nobody passes a test that nobody passes
pub asked_none : {T : Type 0} (r : T → Bool) → ((x : T) → r x ≡ false) → (xs : List T) → false ≡ list_any r xs
asked_none r none [] = refl
asked_none r none (x ∷ xs) = rw (none x) (asked_none r none xs)

-- the first that passes is the first of those that pass
first_found : {T : Type 0} (p : T → Bool) (xs : List T) → find p xs ≡ slice_get (filter p xs) 0
first_found p [] = refl
first_found p (x ∷ xs) =
    elim (p x) as (λ b. (if b then Some x else find p xs) ≡ slice_get (cond b (x ∷ filter p xs) (filter p xs)) 0) [ true ↦ refl | false ↦ first_found p xs ]

pub first_of_part : {T : Type 0} (p q : T → Bool) → ((x : T) → p x ≡ true → q x ≡ true) → (part xs : List T)
    → filter q part ≡ filter q xs → find p part ≡ find p xs
first_of_part p q so part xs same =
    first_found p part ∙ ap (λ ys. slice_get ys 0) (kept_of_part p q so part xs same) ∙ sym (first_found p xs)

first_at : {T : Type 0} (at : T → Ordering) (xs : List T) → find_by at xs ≡ find (λ x. is_eq (at x)) xs
first_at at [] = refl
first_at at (x ∷ xs) = ap (λ o. if is_eq (at x) then Some x else o) (first_at at xs)

same_number : (k a : ℕ) → is_eq (nat_cmp k a) ≡ true → (a == k) ≡ true
same_number k a is = grind (arith, nat_tests)

-- the record at a number is that of a part that has all of the number
pub found_of_part : {T : Type 0} (number : T → ℕ) (k : ℕ) (part xs : List T) → those_with number k part ≡ those_with number k xs
    → find_by (λ x. nat_cmp k (number x)) part ≡ find_by (λ x. nat_cmp k (number x)) xs
found_of_part number k part xs same =
    first_at (λ x. nat_cmp k (number x)) part
    ∙ first_of_part (λ x. is_eq (nat_cmp k (number x))) (λ x. number x == k) (λ x is. same_number k (number x) is) part xs same
    ∙ sym (first_at (λ x. nat_cmp k (number x)) xs)

-- the number that is there is that number
pub has_number : (o : Option ℕ) (n : ℕ) → has o n ≡ true → (number_or_none o == n) ≡ true
has_number None n is = absurd (cc is)
has_number (Some m) n is = is

pub and_left : (a b : Bool) → (a && b) ≡ true → a ≡ true
and_left true b is = refl
and_left false b is = absurd (cc is)

pub and_right : (a b : Bool) → (a && b) ≡ true → b ≡ true
and_right true b is = is
and_right false b is = absurd (cc is)

-- the connection at the device that is there
pub has_there : (o : Option ℕ) (d n : ℕ) → o ≡ Some d → has o n ≡ true → (n == d) ≡ true
has_there o d n is has_it = turned d n (rw is at has_it)
  where
    turned : (a b : ℕ) → (a == b) ≡ true → (b == a) ≡ true
    turned a b same = grind (arith, nat_tests)

pub has_none : (o : Option ℕ) (n : ℕ) (b : Bool) → o ≡ None → (has o n && b) ≡ false
has_none o n b is = rw is refl

pub has_none_of : (o : Option ℕ) (n : ℕ) (a b : Bool) → o ≡ None → (has o n && a && b) ≡ false
has_none_of o n a b is = rw is refl
