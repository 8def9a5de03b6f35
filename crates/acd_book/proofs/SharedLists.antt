-- A list that begins with what another one has above a number.
use Rattle.std.proofs.Common.{◌≡◌, ℕ, ◌+◌, ◌-◌, ◌<◌, ◌≤◌, List, [], ◌∷◌, ◌++◌, take, filter, cond, min, refl, sym, ap, ap₂, subst, ◌∙◌, arith, append_assoc, append-nil, Bool, true, false, nat_lt, ltb-true, ltb-false, lt-ltb}
use Rattle.std.proofs.Math.Nat.{le_refl}
use Rattle.std.proofs.lemmas.Bool.{le-ltb}
use Rattle.std.proofs.lemmas.List.{append_cancel_left}
use Rattle.std.proofs.lemmas.List.Elements.{filter-append}
use Rattle.acd_terms.specs.Lists.{Every}
use Rattle.acd_book.specs.Order.{Rises}
use Rattle.acd_lemmas.proofs.Lists.{every-append, head_is, tail_is}
use Rattle.acd_book.specs.ListOverlap.{IsSplitAt, BeginsWithin, cut_before}

-- ---- numbers in order ----

pub within : (a m n : ℕ) → a ≤ m → m ≤ n → a ≤ n
within a m n h le = omega (arith, h, le)

pub below : (m n k : ℕ) → m ≤ n → n < k → m < k
below m n k le less = omega (arith, le, less)

pub not_both : (a b : ℕ) → a < b → b ≤ a → ⊥
not_both a b lt le = omega (arith, lt, le)

weaker : (m n : ℕ) → m < n → m ≤ n
weaker m n h = omega (arith, h)

-- ---- lists in order ----

pub rises_lower : {T : Type 0} (f : T → ℕ) (m n : ℕ) (xs : List T) → m ≤ n → Rises f n xs → Rises f m xs
rises_lower f m n [] le h = tt
rises_lower f m n (x ∷ xs) le h = (below m n (f x) le h.0, h.1)

pub rises_append : {T : Type 0} (f : T → ℕ) (m top : ℕ) (xs ys : List T) → m ≤ top → Rises f m xs → Every (λ (x : T). f x ≤ top) xs → Rises f top ys
    → Rises f m (xs ++ ys)
rises_append f m top [] ys le h all more = rises_lower f m top ys le more
rises_append f m top (x ∷ xs) ys le h all more = (h.0, rises_append f (f x) top xs ys all.0 h.1 all.1 more)

pub every_front : {T : Type 0} (P : T → Type 0) (xs ys : List T) → Every P (xs ++ ys) → Every P xs
every_front P [] ys h = tt
every_front P (x ∷ xs) ys h = (h.0, every_front P xs ys h.1)

pub every_back : {T : Type 0} (P : T → Type 0) (xs ys : List T) → Every P (xs ++ ys) → Every P ys
every_back P [] ys h = h
every_back P (x ∷ xs) ys h = every_back P xs ys h.1

pub every_each : {T : Type 0} (P Q : T → Type 0) (xs : List T) → ((x : T) → P x → Q x) → Every P xs → Every Q xs
every_each P Q [] more h = tt
every_each P Q (x ∷ xs) more h = (more x h.0, every_each P Q xs more h.1)

pub every_upto : {T : Type 0} (f : T → ℕ) (m n : ℕ) (xs : List T) → m ≤ n → Every (λ (x : T). f x ≤ m) xs → Every (λ (x : T). f x ≤ n) xs
every_upto f m n [] le h = tt
every_upto f m n (x ∷ xs) le h = (within (f x) m n h.0 le, every_upto f m n xs le h.1)

-- the rest after the front
pub rises_back : {T : Type 0} (f : T → ℕ) (m : ℕ) (xs ys : List T) → Rises f m (xs ++ ys) → Rises f m ys
rises_back f m [] ys h = h
rises_back f m (x ∷ xs) ys h = rises_lower f m (f x) ys (weaker m (f x) h.0) (rises_back f (f x) xs ys h.1)

-- those before an element are below it
before_head : {T : Type 0} (f : T → ℕ) (m : ℕ) (past : List T) (x : T) (rest : List T) → Rises f m (past ++ x ∷ rest) → Every (λ (y : T). f y ≤ f x - 1) past
before_head f m [] x rest h = tt
before_head f m (y ∷ past) x rest h = (pred (f y) (f x) (rises_back f (f y) past (x ∷ rest) h.1).0, before_head f (f y) past x rest h.1)
  where
    pred : (a b : ℕ) → a < b → a ≤ b - 1
    pred a b h = omega (arith, h)

at_head : {T : Type 0} (f : T → ℕ) (m : ℕ) (past : List T) (x : T) (rest : List T) → Rises f m (past ++ x ∷ rest) → Rises f (f x) rest
at_head f m [] x rest h = h.1
at_head f m (y ∷ past) x rest h = at_head f (f y) past x rest h.1

-- ---- a list in two, at a number ----

pub split_at : {T : Type 0} (f : T → ℕ) (m n : ℕ) (xs : List T) → m ≤ n → Rises f m xs → (past : List T) × (left : List T) × IsSplitAt f n xs past left
split_at f m n [] le h = ([], [], record { whole = refl; below = tt; above = tt })
split_at {T = T} f m n (x ∷ xs) le h =
    let cases : (b : Bool) → nat_lt n (f x) ≡ b → (past : List T) × (left : List T) × IsSplitAt f n (x ∷ xs) past left
    = λ b. elim b as (λ b. nat_lt n (f x) ≡ b → (past : List T) × (left : List T) × IsSplitAt f n (x ∷ xs) past left) [
      | true ↦ λ is. ([], x ∷ xs, record { whole = refl; below = tt; above = (ltb-true n (f x) is, h.1) })
      | false ↦ λ is.
          let low : f x ≤ n = ltb-false n (f x) is in
          let rest = split_at f (f x) n xs low h.1 in
          let split : IsSplitAt f n xs rest.0 rest.1 = rest.2 in
          (x ∷ rest.0, rest.1, record { whole = ap (λ (l : List T). x ∷ l) split.whole; below = (low, split.below); above = split.above })
    ] in
    cases (nat_lt n (f x)) refl

not_equal : (a b n : ℕ) → a ≡ b → a ≤ n → n < b → ⊥
not_equal a b n is le lt = omega (arith, is, le, lt)

pub cons_not_nil : {T : Type 0} (x : T) (xs : List T) → x ∷ xs ≡ [] → ⊥
cons_not_nil x xs h = cc

-- there is one way
pub split_once : {T : Type 0} (f : T → ℕ) (n : ℕ) (past left old new : List T) → past ++ left ≡ old ++ new → Every (λ (x : T). f x ≤ n) past
    → Every (λ (x : T). f x ≤ n) old → Rises f n left → Rises f n new
    → (past ≡ old) × (left ≡ new)
split_once f n [] left [] new is low lows up ups = (refl, is)
split_once f n [] [] (y ∷ old) new is low lows up ups = absurd (cons_not_nil y (old ++ new) (sym is))
split_once f n [] (x ∷ left) (y ∷ old) new is low lows up ups = absurd (not_equal (f y) (f x) n (ap f (sym (head_is x y left (old ++ new) is))) lows.0 up.0)
split_once f n (x ∷ past) left [] [] is low lows up ups = absurd (cons_not_nil x (past ++ left) is)
split_once f n (x ∷ past) left [] (y ∷ new) is low lows up ups = absurd (not_equal (f x) (f y) n (ap f (head_is x y (past ++ left) new is)) low.0 ups.0)
split_once {T = T} f n (x ∷ past) left (y ∷ old) new is low lows up ups =
    let rest = split_once f n past left old new (tail_is x y (past ++ left) (old ++ new) is) low.1 lows.1 up ups in
    (ap₂ (λ (a : T) (l : List T). a ∷ l) (head_is x y (past ++ left) (old ++ new) is) rest.0, rest.1)

-- ---- one list begins with what another one has above a cut ----

-- so far they have the same
pub record Shares {T : Type 0} (f : T → ℕ) (cut n : ℕ) (archived current : List T) : Type 0 where
  pub past : List T
  pub done : List T
  pub left : List T
  pub rest : List T
  pub split : IsSplitAt f cut archived past (done ++ left)
  pub mine : current ≡ done ++ rest
  pub done_low : Every (λ (x : T). f x ≤ n) done
  pub left_high : Rises f n left
  pub rest_high : Rises f n rest
  pub above : cut ≤ n

pub shares_nothing : {T : Type 0} (f : T → ℕ) (cut : ℕ) (archived current : List T) → Rises f 0 archived → Rises f cut current
    → Shares f cut cut archived current
shares_nothing f cut archived current rise current_rise =
    let two = split_at f 0 cut archived (omega arith) rise in
    let split : IsSplitAt f cut archived two.0 two.1 = two.2 in
    record {
      past = two.0;
      done = [];
      left = two.1;
      rest = current;
      split = split;
      mine = refl;
      done_low = tt;
      left_high = split.above;
      rest_high = current_rise;
      above = omega arith;
    }

-- all that the other one has up to there
pub archived_split : {T : Type 0} (f : T → ℕ) (cut n : ℕ) (archived current : List T) (s : Shares f cut n archived current)
    → IsSplitAt f n archived (s.past ++ s.done) s.left
archived_split {T = T} f cut n archived current s = record {
  whole = s.split.whole ∙ sym (append_assoc s.past s.done s.left);
  below = every-append (λ (x : T). f x ≤ n) s.past s.done (every_upto f cut n s.past s.above s.split.below) s.done_low;
  above = s.left_high;
}

-- both have this next
pub shares_next : {T : Type 0} (f : T → ℕ) (cut n : ℕ) (archived current : List T) (s : Shares f cut n archived current) (x : T) (left rest : List T)
    → s.left ≡ x ∷ left → s.rest ≡ x ∷ rest → Shares f cut (f x) archived current
shares_next {T = T} f cut n archived current s x left rest is_left is_rest =
    let high : Rises f n (x ∷ left) = subst (Rises f n) is_left s.left_high in
    let highs : Rises f n (x ∷ rest) = subst (Rises f n) is_rest s.rest_high in
    let le : n ≤ f x = weaker n (f x) high.0 in
    let one : s.done ++ s.left ≡ (s.done ++ x ∷ []) ++ left = ap (λ (l : List T). s.done ++ l) is_left ∙ sym (append_assoc s.done (x ∷ []) left) in
    record {
      past = s.past;
      done = s.done ++ x ∷ [];
      left = left;
      rest = rest;
      split = subst (IsSplitAt f cut archived s.past) one s.split;
      mine = s.mine ∙ ap (λ (l : List T). s.done ++ l) is_rest ∙ sym (append_assoc s.done (x ∷ []) rest);
      done_low = every-append (λ (y : T). f y ≤ f x) s.done (x ∷ []) (every_upto f n (f x) s.done le s.done_low) (le_refl (f x), tt);
      left_high = high.1;
      rest_high = highs.1;
      above = within cut n (f x) s.above le;
    }

-- nothing is left of the other one
pub shares_all : {T : Type 0} (f : T → ℕ) (cut n last : ℕ) (archived current : List T) (s : Shares f cut n archived current) → s.left ≡ [] → Rises f last s.rest
    → BeginsWithin f cut last archived current
shares_all {T = T} f cut n last archived current s none newer = record {
  past = s.past;
  carried = s.done;
  rest = s.rest;
  split = subst (IsSplitAt f cut archived s.past) (ap (λ (l : List T). s.done ++ l) none ∙ append-nil s.done) s.split;
  mine = s.mine;
  newer = newer;
}

-- where one begins so, what is left of it begins with what is left of the other one
pub begins_left : {T : Type 0} (f : T → ℕ) (cut n last : ℕ) (archived current : List T) (s : Shares f cut n archived current)
    (b : BeginsWithin f cut last archived current)
    → s.rest ≡ s.left ++ b.rest
begins_left {T = T} f cut n last archived current s b =
    let once =
    split_once f cut s.past (s.done ++ s.left) b.past b.carried (sym s.split.whole ∙ b.split.whole) s.split.below b.split.below s.split.above
    b.split.above in
    append_cancel_left s.done s.rest (s.left ++ b.rest)
    (sym s.mine ∙ b.mine ∙ ap (λ (l : List T). l ++ b.rest) (sym once.1) ∙ append_assoc s.done s.left b.rest)

-- ---- the cut ----

pub cut_rises : {T : Type 0} (f : T → ℕ) (last : ℕ) (current : List T) → Rises f 0 current → Rises f (cut_before f last current) current
cut_rises f last [] h = tt
cut_rises f last (x ∷ xs) h = (below last (f x) h.0, h.1)
  where
    below : (last n : ℕ) → 0 < n → min last (n - 1) < n
    below last n h = omega (arith, h)

pub cut_within : {T : Type 0} (f : T → ℕ) (last : ℕ) (current : List T) → cut_before f last current ≤ last
cut_within f last [] = omega arith
cut_within f last (x ∷ xs) = less last (f x)
  where
    less : (last n : ℕ) → min last (n - 1) ≤ last
    less last n = omega arith

-- wherever the other one was cut, that is the cut
pub split_there : {T : Type 0} (f : T → ℕ) (last : ℕ) (archived current past carried rest : List T) → archived ≡ past ++ carried → current ≡ carried ++ rest
    → Rises f 0 archived → Every (λ (x : T). f x ≤ last) archived → Rises f last rest
    → IsSplitAt f (cut_before f last current) archived past carried
split_there {T = T} f last archived current past [] rest whole mine rise low newer =
    let far : (l : List T) → Rises f last l → cut_before f last l ≡ last = λ l. elim l as (λ l. Rises f last l → cut_before f last l ≡ last) [
      | [] ↦ λ h. refl
      | x ∷ xs ↦ λ h. beyond last (f x) h.0
    ] in
    let cut : cut_before f last current ≡ last = ap (cut_before f last) mine ∙ far rest newer in
    record {
      whole = whole;
      below =
          subst (λ (n : ℕ). Every (λ (x : T). f x ≤ n) past) (sym cut)
          (every_front (λ (x : T). f x ≤ last) past [] (subst (Every (λ (x : T). f x ≤ last)) whole low));
      above = tt;
    }
  where
    beyond : (last n : ℕ) → last < n → min last (n - 1) ≡ last
    beyond last n h = omega (arith, h)
split_there {T = T} f last archived current past (x ∷ carried) rest whole mine rise low newer =
    let rises : Rises f 0 (past ++ x ∷ carried) = subst (Rises f 0) whole rise in
    let lows : Every (λ (y : T). f y ≤ last) (past ++ x ∷ carried) = subst (Every (λ (y : T). f y ≤ last)) whole low in
    let most : f x ≤ last = (every_back (λ (y : T). f y ≤ last) past (x ∷ carried) lows).0 in
    let cut : cut_before f last current ≡ f x - 1 = ap (cut_before f last) mine ∙ within last (f x) most in
    let first : 0 < f x = (rises_back f 0 past (x ∷ carried) rises).0 in
    record {
      whole = whole;
      below = subst (λ (n : ℕ). Every (λ (y : T). f y ≤ n) past) (sym cut) (before_head f 0 past x carried rises);
      above = subst (λ (n : ℕ). Rises f n (x ∷ carried)) (sym cut) (pred (f x) first, at_head f 0 past x carried rises);
    }
  where
    within : (last n : ℕ) → n ≤ last → min last (n - 1) ≡ n - 1
    within last n h = omega (arith, h)

    pred : (n : ℕ) → 0 < n → n - 1 < n
    pred n h = omega (arith, h)

-- ---- what comes next ----

-- the first above a number
abbrev pub next_above : {T : Type 0} → (T → ℕ) → ℕ → List T → List T
next_above {T = T} f n xs = take 1 (filter (λ (x : T). nat_lt n (f x)) xs)

pub none_above : {T : Type 0} (f : T → ℕ) (n : ℕ) (xs : List T) → Every (λ (x : T). f x ≤ n) xs → filter (λ (x : T). nat_lt n (f x)) xs ≡ []
none_above f n [] low = refl
none_above {T = T} f n (x ∷ xs) low =
    ap (λ (b : Bool). cond b (x ∷ filter (λ (y : T). nat_lt n (f y)) xs) (filter (λ (y : T). nat_lt n (f y)) xs)) (le-ltb n (f x) low.0)
    ∙ none_above f n xs low.1

pub all_above : {T : Type 0} (f : T → ℕ) (n m : ℕ) (xs : List T) → n ≤ m → Rises f m xs → filter (λ (x : T). nat_lt n (f x)) xs ≡ xs
all_above f n m [] le up = refl
all_above {T = T} f n m (x ∷ xs) le up =
    ap (λ (b : Bool). cond b (x ∷ filter (λ (y : T). nat_lt n (f y)) xs) (filter (λ (y : T). nat_lt n (f y)) xs)) (lt-ltb n (f x) (below n m (f x) le up.0))
    ∙ ap (λ (l : List T). x ∷ l) (all_above f n (f x) xs (further n m (f x) le up.0) up.1)
  where
    further : (n m k : ℕ) → n ≤ m → m < k → n ≤ k
    further n m k le lt = omega (arith, le, lt)

-- a book reads above a number what is left there
pub next_left : {T : Type 0} (f : T → ℕ) (n : ℕ) (xs past left : List T) → IsSplitAt f n xs past left
    → next_above f n xs ≡ take 1 left
next_left {T = T} f n xs past left s =
    let p : T → Bool = λ (x : T). nat_lt n (f x) in
    ap (λ (l : List T). take 1 (filter p l)) s.whole
    ∙ ap (take 1) (filter-append p past left ∙ ap₂ (λ (a b : List T). a ++ b) (none_above f n past s.below) (all_above f n n left (le_refl n) s.above))

current_split : {T : Type 0} (f : T → ℕ) (cut n : ℕ) (archived current : List T) (s : Shares f cut n archived current) → IsSplitAt f n current s.done s.rest
current_split f cut n archived current s = record { whole = s.mine; below = s.done_low; above = s.rest_high }

pub archived_left : {T : Type 0} (f : T → ℕ) (cut n : ℕ) (archived current : List T) (s : Shares f cut n archived current)
    → next_above f n archived ≡ take 1 s.left
archived_left f cut n archived current s = next_left f n archived (s.past ++ s.done) s.left (archived_split f cut n archived current s)

pub current_left : {T : Type 0} (f : T → ℕ) (cut n : ℕ) (archived current : List T) (s : Shares f cut n archived current)
    → next_above f n current ≡ take 1 s.rest
current_left f cut n archived current s = next_left f n current s.done s.rest (current_split f cut n archived current s)

pub first_is : {T : Type 0} (x : T) (xs ys : List T) → take 1 xs ≡ x ∷ ys → (tail : List T) × (xs ≡ x ∷ tail)
first_is x [] ys h = absurd (cons_not_nil x ys (sym h))
first_is {T = T} x (y ∷ xs) ys h = (xs, ap (λ (z : T). z ∷ xs) (head_is y x [] ys h))

pub none_first : {T : Type 0} (xs : List T) → take 1 xs ≡ [] → xs ≡ []
none_first [] h = refl
none_first (x ∷ xs) h = absurd (cons_not_nil x [] h)

-- both have the same next
pub same_next : {T : Type 0} (f : T → ℕ) (cut n : ℕ) (archived current : List T) (s : Shares f cut n archived current) (x : T) (xs ys : List T)
    → next_above f n archived ≡ x ∷ xs → next_above f n current ≡ x ∷ ys → Shares f cut (f x) archived current
same_next f cut n archived current s x xs ys is_archived is_current =
    let left = first_is x s.left xs (sym (archived_left f cut n archived current s) ∙ is_archived) in
    let rest = first_is x s.rest ys (sym (current_left f cut n archived current s) ∙ is_current) in
    shares_next f cut n archived current s x left.0 rest.0 left.1 rest.1

-- they haven't
pub other_next : {T : Type 0} (f : T → ℕ) (cut n last : ℕ) (archived current : List T) (s : Shares f cut n archived current) (x : T) (xs : List T)
    → next_above f n archived ≡ x ∷ xs → ¬ (next_above f n current ≡ next_above f n archived) → ¬ BeginsWithin f cut last archived current
other_next {T = T} f cut n last archived current s x xs is_archived other b =
    let left = first_is x s.left xs (sym (archived_left f cut n archived current s) ∙ is_archived) in
    let rest : s.rest ≡ x ∷ (left.0 ++ b.rest) = begins_left f cut n last archived current s b ∙ ap (λ (l : List T). l ++ b.rest) left.1 in
    other (current_left f cut n archived current s ∙ ap (take 1) rest ∙ sym (ap (take 1) left.1) ∙ sym (archived_left f cut n archived current s))

-- the last number is reached
pub reached : {T : Type 0} (f : T → ℕ) (cut n last : ℕ) (archived current : List T) (s : Shares f cut n archived current) → last ≤ n
    → Every (λ (x : T). f x ≤ last) archived → BeginsWithin f cut last archived current
reached {T = T} f cut n last archived current s le low =
    let left_low : Every (λ (x : T). f x ≤ last) s.left =
    every_back (λ (x : T). f x ≤ last) s.done s.left
    (every_back (λ (x : T). f x ≤ last) s.past (s.done ++ s.left) (subst (Every (λ (x : T). f x ≤ last)) s.split.whole low)) in
    let empty : (l : List T) → Every (λ (x : T). f x ≤ last) l → Rises f n l → l ≡ []
    = λ l. elim l as (λ l. Every (λ (x : T). f x ≤ last) l → Rises f n l → l ≡ []) [
      | [] ↦ λ h up. refl
      | x ∷ xs ↦ λ h up. absurd (clash last n (f x) le h.0 up.0)
    ] in
    shares_all f cut n last archived current s (empty s.left left_low s.left_high) (rises_lower f last n s.rest le s.rest_high)
  where
    clash : (last n k : ℕ) → last ≤ n → k ≤ last → n < k → ⊥
    clash last n k le h up = omega (arith, le, h, up)
