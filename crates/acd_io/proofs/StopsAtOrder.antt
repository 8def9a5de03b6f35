-- A reader that stopped at the order came to it, and gave on all before it.
use Rattle.std.proofs.Common.{◌≡◌, ◌==◌, ℕ, Bool, true, false, ◌&&◌, if◌then◌else◌, List, [], ◌∷◌, ◌++◌, refl, sym, ap, ◌∙◌, subst, append-nil, codes}
use Rattle.std.proofs.lemmas.Bool.{and_parts, true≢false}
use Rattle.std.proofs.lemmas.List.{append_cancel_right}
use Rattle.acd_io.specs.Order.{begins_order, before_order, has_order, mark, marked}
use Rattle.acd_io.specs.Laws.{ComesToOrder, OrderIsFirst}
use Rattle.acd_io.proofs.PassedBytes.{stopped_more}

-- no input without the order ends as the mark does
marked_has : (starts : Bool) (bytes : List ℕ) → has_order starts (bytes ++ mark) ≡ true
unfolding has_order
marked_has starts [] = elim starts as (λ b. (if b && begins_order mark then true else has_order true (codes "serve\n")) ≡ true) [ false ↦ refl | true ↦ refl ]
marked_has starts (x ∷ xs) = elim (starts && begins_order (x ∷ (xs ++ mark))) as (λ b. (if b then true else has_order (x == 10) (xs ++ mark)) ≡ true) [
  | false ↦ marked_has (x == 10) xs
  | true ↦ refl
]

-- without it all comes before it
pub before_all : (starts : Bool) (xs : List ℕ) → has_order starts xs ≡ false → before_order starts xs ≡ xs
unfolding before_order has_order
before_all starts [] h = refl
before_all starts (x ∷ xs) h = elim (starts && begins_order (x ∷ xs)) as (λ b. (if b then true else has_order (x == 10) xs) ≡ false → (if b then [] else x ∷ before_order (x == 10) xs) ≡ x ∷ xs) [
  | false ↦ λ h. ap (λ (l : List ℕ). x ∷ l) (before_all (x == 10) xs h)
  | true ↦ λ h. absurd (true≢false h)
] h

pub told_by : (input bytes : List ℕ) → marked input ≡ bytes ++ mark → (has_order true input ≡ true) × (bytes ≡ before_order true input)
told_by input bytes h =
    elim (has_order true input) as (λ b. has_order true input ≡ b → before_order true input ++ (if b then mark else []) ≡ bytes ++ mark → (has_order true input ≡ true) × (bytes ≡ before_order true input)) [
      | true ↦ λ some h. (some, sym (append_cancel_right (before_order true input) bytes mark h))
      | false ↦ λ none h.
          let all : input ≡ bytes ++ mark = sym (before_all true input none) ∙ sym (append-nil (before_order true input)) ∙ h in
          absurd (true≢false (sym (ap (has_order true) all ∙ marked_has true bytes) ∙ none))
    ] refl h

-- ---- the law

-- a beginning of bytes that don't begin with the order doesn't either
not_begun : (starts : Bool) (w xs : List ℕ) → (starts && begins_order (w ++ xs)) ≡ false → (starts && begins_order w) ≡ false
not_begun starts w xs h = by (starts && begins_order w) refl
  where
    by : (b : Bool) → (starts && begins_order w) ≡ b → (starts && begins_order w) ≡ false
    by true e = absurd (true≢false (sym (stopped_more starts w xs e) ∙ h))
    by false e = e

-- bytes that come to the order do so after one more
one_more : (starts : Bool) (x : ℕ) (xs before : List ℕ) → (starts && begins_order (x ∷ xs)) ≡ false → ComesToOrder (x == 10) xs before → ComesToOrder starts (x ∷ xs) (x ∷ before)
unfolding has_order
one_more starts x xs before none h =
    let whole : x ∷ xs ≡ (x ∷ before) ++ h.rest = ap (λ (l : List ℕ). x ∷ l) h.whole in
    let free : (starts && begins_order (x ∷ before)) ≡ false = not_begun starts (x ∷ before) h.rest (subst (λ (l : List ℕ). (starts && begins_order l) ≡ false) whole none) in
    record {
      rest = h.rest;
      whole = whole;
      order = h.order;
      lines = h.lines;
      first = ap (λ (b : Bool). if b then true else has_order (x == 10) before) free ∙ h.first;
    }

comes_to : (starts : Bool) (xs : List ℕ) → has_order starts xs ≡ true → ComesToOrder starts xs (before_order starts xs)
unfolding before_order has_order
comes_to starts [] h = absurd (true≢false (sym h))
comes_to starts (x ∷ xs) h =
    elim (starts && begins_order (x ∷ xs)) as (λ b. (starts && begins_order (x ∷ xs)) ≡ b → (if b then true else has_order (x == 10) xs) ≡ true → ComesToOrder starts (x ∷ xs) (if b then [] else x ∷ before_order (x == 10) xs)) [
      | true ↦ λ is h.
          let parts = and_parts starts (begins_order (x ∷ xs)) is in
          record { rest = x ∷ xs; whole = refl; order = parts.1; lines = parts.0; first = refl }
      | false ↦ λ is h. one_more starts x xs (before_order (x == 10) xs) is (comes_to (x == 10) xs h)
    ] refl h

pub order_first : OrderIsFirst
order_first input = (comes_to true input, before_all true input)
