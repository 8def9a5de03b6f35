-- Lists that are numbered on from a number: the entries above one of the numbers are those after its place.
use Rattle.std.proofs.Common.{arith, ◌≡◌, ℕ, zero, suc, ◌+◌, ◌≤◌, Bool, true, cond, ◌&&◌, ◌==◌, nat_lt, List, [], ◌∷◌, ◌++◌, length, drop, slice_get, refl, ap, ap₂, ◌∙◌, sym, eqb-true, subst, filter}
use Rattle.std.proofs.Common.{Option, Some, None, ◌<◌, inl, inr}
use Rattle.acd_terms.specs.Lists.{Every}
use Rattle.acd_book.specs.declared.kept.Kept.{Kept}
use Rattle.acd_book.specs.Content.{IsKeptAfter}
use Rattle.std.proofs.lemmas.Bool.{lt-ltb, le-ltb, and_from, eq-eqb, and_parts}
use Rattle.std.proofs.Math.Bool.{and-true, and-false}
use Rattle.acd_book.specs.Memory.{is_numbered, stamp_of}
use Rattle.acd_lemmas.proofs.Lists.{filter_true}

plus_zero : (b : ℕ) → b + 0 ≡ b
plus_zero b = omega arith

zero_plus : (n : ℕ) → 0 + n ≡ n
zero_plus n = omega arith

-- the number of the first, and the rest
pub first : {T : Type 0} (f : T → ℕ) (b : ℕ) (x : T) (xs : List T) → is_numbered f b (x ∷ xs) ≡ true → (f x ≡ b + 1) × (is_numbered f (b + 1) xs ≡ true)
first f b x xs h = let h = and_parts (f x == b + 1) (is_numbered f (b + 1) xs) h in (eqb-true (f x) (b + 1) h.0, h.1)

pub numbered-append : {T : Type 0} (f : T → ℕ) (b : ℕ) (xs ys : List T) → is_numbered f b xs ≡ true → is_numbered f (b + length xs) ys ≡ true
    → is_numbered f b (xs ++ ys) ≡ true
numbered-append f b [] ys h more = subst (λ n. is_numbered f n ys ≡ true) (plus_zero b) more
numbered-append f b (x ∷ xs) ys h more =
    let parts = and_parts (f x == b + 1) (is_numbered f (b + 1) xs) h in
    let same : b + length (x ∷ xs) ≡ (b + 1) + length xs = omega arith in
    and_from (f x == b + 1) (is_numbered f (b + 1) (xs ++ ys)) parts.0
    (numbered-append f (b + 1) xs ys parts.1 (subst (λ n. is_numbered f n ys ≡ true) same more))

-- one more than the last
pub numbered-push : {T : Type 0} (f : T → ℕ) (xs : List T) (x : T) → is_numbered f 0 xs ≡ true → f x ≡ length xs + 1 → is_numbered f 0 (xs ++ x ∷ []) ≡ true
numbered-push {T} f xs x h next =
    numbered-append f 0 xs (x
    ∷ []) h (subst (λ (n : ℕ). is_numbered f n (x ∷ []) ≡ true) (sym (zero_plus (length xs)))
    (and_from (f x == length xs + 1) true (eq-eqb (f x) (length xs + 1) next) refl))

-- all are above the number from which they are numbered on
below_all : (b m n : ℕ) (kept : List Kept) → is_numbered stamp_of b kept ≡ true → m ≤ b + 1 → Every (λ (other : Kept). n < other.stamp → m ≤ other.stamp) kept
below_all b m n [] h least = tt
below_all b m n (k ∷ kept) h least =
    let parts = first stamp_of b k kept h in
    ((λ above. omega (arith, parts.0, least)), below_all (b + 1) m n kept parts.1 (omega (arith, least)))

-- one more at the front, which isn't above the number
pub kept_after_more : (k : Kept) (kept : List Kept) (n : ℕ) (found : Option Kept) → k.stamp ≤ n → IsKeptAfter kept n found → IsKeptAfter (k ∷ kept) n found
kept_after_more k kept n None below h = (below, h)
kept_after_more k kept n (Some x) below h = (inr h.0, h.1, ((λ above. absurd (omega (arith, below, above))), h.2))

kept_after_from : (b n : ℕ) (kept : List Kept) → is_numbered stamp_of b kept ≡ true → IsKeptAfter kept (b + n) (slice_get kept n)
kept_after_from b n [] h = tt
kept_after_from b zero (k ∷ kept) h =
    let parts = first stamp_of b k kept h in
    (inl refl, omega (arith, parts.0), ((λ above. omega arith), below_all (b + 1) k.stamp (b + 0) kept parts.1 (omega (arith, parts.0))))
kept_after_from b (suc n) (k ∷ kept) h =
    let parts = first stamp_of b k kept h in
    let same : (b + 1) + n ≡ b + suc n = omega arith in
    kept_after_more k kept (b + suc n) (slice_get kept n) (omega (arith, parts.0))
    (subst (λ (m : ℕ). IsKeptAfter kept m (slice_get kept n)) same (kept_after_from (b + 1) n kept parts.1))

-- the record of the least greater stamp is at the place of the stamp
pub kept_after_at : (n : ℕ) (kept : List Kept) → is_numbered stamp_of 0 kept ≡ true → IsKeptAfter kept n (slice_get kept n)
kept_after_at n kept h = subst (λ (m : ℕ). IsKeptAfter kept m (slice_get kept n)) (zero_plus n) (kept_after_from 0 n kept h)

filter_all : {T : Type 0} (f : T → ℕ) (p : T → Bool) (b m : ℕ) (xs : List T) → is_numbered f b xs ≡ true → m ≤ b
    → filter (λ x. p x && nat_lt m (f x)) xs ≡ filter p xs
filter_all f p b m [] h below = refl
filter_all f p b m (x ∷ xs) h below =
    let parts = first f b x xs h in
    let rest = filter_all f p (b + 1) m xs parts.1 (omega (arith, below)) in
    ap₂ (λ (c : Bool) (l : List _). cond c (x ∷ l) l) (ap (λ (c : Bool). p x && c) (lt-ltb m (f x) (omega (arith, parts.0, below))) ∙ and-true (p x)) rest

filter_numbered : {T : Type 0} (f : T → ℕ) (p : T → Bool) (b n : ℕ) (xs : List T) → is_numbered f b xs ≡ true
    → filter (λ x. p x && nat_lt (b + n) (f x)) xs ≡ filter p (drop n xs)
filter_numbered f p b zero xs h = filter_all f p b (b + 0) xs h (omega arith)
filter_numbered f p b (suc n) [] h = refl
filter_numbered f p b (suc n) (x ∷ xs) h =
    let parts = first f b x xs h in
    let same : b + suc n ≡ (b + 1) + n = omega arith in
    ap (λ (c : Bool). cond c (x ∷ filter (λ x. p x && nat_lt (b + suc n) (f x)) xs) (filter (λ x. p x && nat_lt (b + suc n) (f x)) xs))
    (ap (λ (c : Bool). p x && c) (le-ltb (b + suc n) (f x) (omega (arith, parts.0))) ∙ and-false (p x))
    ∙ ap (λ (m : ℕ). filter (λ x. p x && nat_lt m (f x)) xs) same
    ∙ filter_numbered f p (b + 1) n xs parts.1

-- the entries above a number that pass, after the place of that number
pub filter_above : {T : Type 0} (f : T → ℕ) (p : T → Bool) (n : ℕ) (xs : List T) → is_numbered f 0 xs ≡ true
    → filter (λ x. p x && nat_lt n (f x)) xs ≡ filter p (drop n xs)
filter_above {T} f p n xs h =
    subst (λ (m : ℕ). filter (λ (x : T). p x && nat_lt m (f x)) xs ≡ filter p (drop n xs)) (zero_plus n) (filter_numbered f p 0 n xs h)

-- all above a number
pub above : {T : Type 0} (f : T → ℕ) (n : ℕ) (xs : List T) → is_numbered f 0 xs ≡ true → filter (λ x. nat_lt n (f x)) xs ≡ drop n xs
above f n xs h = filter_above f (λ _. true) n xs h ∙ filter_true (drop n xs)
