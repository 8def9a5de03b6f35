-- The records at one number of a list, sorted by a number of its records: they are those that an unsorted one has
-- there.
use Rattle.std.proofs.Common.{◌≡◌, ℕ, ◌+◌, ◌<◌, ◌≤◌, ◌==◌, Bool, true, false, not, ◌&&◌, List, [], ◌∷◌, ◌++◌, length, take, drop, length-drop, length-take-le, append-nil, refl, sym, ◌∙◌, ap, arith, leb, ltb}
use Rattle.std.specs.Prelude.{filter}
use Rattle.std.specs.List.{All}
use Rattle.std.specs.Ordering.{nat_cmp, is_lt}
use Rattle.std.specs.List.Sorted.{IsPartitionPoint, IsStableByKey, ties}
use Rattle.std.proofs.lemmas.Bool.Decides.{nat_tests}
use Rattle.std.proofs.lemmas.List.{take-append-drop, get_or-take, get_or-drop}
use Rattle.std.proofs.lemmas.List.Elements.{All-head, All-tail, All-weaker, filter-append, filter_agree, filter_passes}

-- where no record passes
none_pass : {X : Type 0} (p : X → Bool) (xs : List X) → All (λ x. p x ≡ false) xs → filter p xs ≡ []
none_pass p [] none = refl
none_pass p (x ∷ xs) none = rw (All-head (λ x. p x ≡ false) x xs none) (none_pass p xs (All-tail (λ x. p x ≡ false) x xs none))

-- where each record passes
all_pass : {X : Type 0} (p : X → Bool) (xs : List X) → All (λ x. p x ≡ true) xs → filter p xs ≡ xs
all_pass p [] all = refl
all_pass p (x ∷ xs) all = rw (All-head (λ x. p x ≡ true) x xs all) (ap (λ ys. x ∷ ys) (all_pass p xs (All-tail (λ x. p x ≡ true) x xs all)))

below : (a k : ℕ) → ltb a k ≡ true → (a == k) ≡ false
below a k h = grind (arith, nat_tests)

above : (a k : ℕ) → leb a k ≡ false → (a == k) ≡ false
above a k h = grind (arith, nat_tests)

between : (a k : ℕ) → ltb a k ≡ false → leb a k ≡ true → (a == k) ≡ true
between a k low high = grind (arith, nat_tests)

joined : {X : Type 0} (p : X → Bool) (xs front middle back : List X)
    → xs ≡ front ++ (middle ++ back) → filter p front ≡ [] → filter p middle ≡ middle → filter p back ≡ []
    → middle ≡ filter p xs
joined p xs front middle back is none all rest = rw (is, filter-append, none, filter-append, all, rest) (sym (append-nil middle))

equal : (a k : ℕ) → (a == k) ≡ true → a ≡ k
equal a k t = grind (arith, nat_tests)

-- the records after the lesser ones and before the greater ones are those of the number
pub alike : {X : Type 0} (number : X → ℕ) (xs : List X) (k from len : ℕ)
    → from ≤ length xs → len ≤ length (drop from xs)
    → IsPartitionPoint (λ y. ltb (number y) k ≡ true) (λ y. ltb (number y) k ≡ false) xs from
    → IsPartitionPoint (λ y. leb (number y) k ≡ true) (λ y. leb (number y) k ≡ false) (drop from xs) len
    → take len (drop from xs) ≡ filter (λ x. number x == k) xs
alike number xs k from len within short low high =
    let front =
    none_pass (λ x. number x == k) (take from xs)
    (λ i d lt. let below_from : i < from = omega (arith, length-take-le from xs within) in
    rw get_or-take (below _ k (low.0 i d (omega arith) below_from))) in
    let middle = all_pass (λ x. number x == k) (take len (drop from xs)) (λ i d lt.
    let below_len : i < len = omega (arith, length-take-le len (drop from xs) short) in
    rw get_or-take (between _ k
    (rw get_or-drop (low.1 (from + i) d (omega arith) (omega (arith, length-drop from xs))))
    (high.0 i d (omega arith) below_len))) in
    let back = none_pass (λ x. number x == k) (drop len (drop from xs)) (λ i d lt.
    rw get_or-drop (above _ k (high.1 (len + i) d (omega arith) (omega (arith, length-drop len (drop from xs)))))) in
    joined (λ x. number x == k) xs (take from xs) (take len (drop from xs)) (drop len (drop from xs))
    (sym (take-append-drop from xs) ∙ ap (λ ys. take from xs ++ ys) (sym (take-append-drop len (drop from xs)))) front middle back

-- records of one number tie
tied : (a k : ℕ) → (not (is_lt (nat_cmp k a)) && not (is_lt (nat_cmp a k))) ≡ (a == k)
tied a k = grind (arith, nat_tests)

at_one : {X : Type 0} (number : X → ℕ) (xs ys : List X) → IsStableByKey number nat_cmp xs ys
    → (k : ℕ) (x : X) → number x ≡ k → filter (λ y. number y == k) ys ≡ filter (λ y. number y == k) xs
at_one number xs ys stable k x is =
    let agree : (y : _) → ties (λ a b. is_lt (nat_cmp (number a) (number b))) x y ≡ (number y == k) = λ y. rw is (tied (number y) k) in
    sym (filter_agree _ _ agree ys) ∙ stable x ∙ filter_agree _ _ agree xs

pub same_groups : {X : Type 0} (number : X → ℕ) (xs ys : List X) → IsStableByKey number nat_cmp xs ys
    → (k : ℕ) → filter (λ y. number y == k) ys ≡ filter (λ y. number y == k) xs
same_groups number xs ys stable k =
    by_first (filter (λ y. number y == k) xs) (filter (λ y. number y == k) ys)
    (passes xs) (passes ys) (λ x is. at_one number xs ys stable k x is)
  where
    passes : (zs : List _) → All (λ y. number y ≡ k) (filter (λ y. number y == k) zs)
    passes zs = All-weaker (λ y. (number y == k) ≡ true) (λ y. number y ≡ k) (λ y t. equal (number y) k t) _ (filter_passes (λ y. number y == k) zs)

    by_first : (us vs : List _) → All (λ y. number y ≡ k) us → All (λ y. number y ≡ k) vs → ((x : _) → number x ≡ k → vs ≡ us) → vs ≡ us
    by_first [] [] us_are vs_are same = refl
    by_first (x ∷ us) vs us_are vs_are same = same x (All-head (λ y. number y ≡ k) x us us_are)
    by_first [] (x ∷ vs) us_are vs_are same = same x (All-head (λ y. number y ≡ k) x vs vs_are)
