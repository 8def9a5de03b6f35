-- Lists of the numbers of events, by device.
use Rattle.std.proofs.Common.{◌≡◌, ℕ, ◌+◌, ◌<◌, ◌≤◌, ◌==◌, Bool, true, false, cond, ◌&&◌, nat_lt, leb, List, [], ◌∷◌, ◌++◌, length, take, drop, map, filter, min, Option, Some, Result, Ok, Err, OnOk, OnErr, ◌⊎◌, inl, inr, zero, suc, true≢false, refl, ap, sym, subst, ◌∙◌, eqb-true, arith, length-drop, length-take-le, append-nil}
use Rattle.std.specs.Prelude.{IfSome, is_err}
use Rattle.std.specs.Map.{lookup}
use Rattle.std.specs.List.{All}
use Rattle.std.specs.List.Sorted.{IsPartitionPoint}
use Rattle.std.proofs.lemmas.Bool.{le-ltb}
use Rattle.std.proofs.lemmas.Bool.Decides.{nat_tests}
use Rattle.std.proofs.lemmas.Grind.{common_steps}
use Rattle.std.proofs.lemmas.Option.{IfSome_then}
use Rattle.std.proofs.lemmas.List.{take-append-drop, get_or-take, get_or-drop}
use Rattle.std.proofs.lemmas.List.Elements.{All-head, All-tail, filter-append}
use Rattle.acd_terms.specs.Columns.{columns_of}
use Rattle.acd_terms.specs.Lists.{Every}
use Rattle.acd_terms.specs.declared.event.Event.{Event}
use Rattle.acd_model.specs.Scans.{has}
use Rattle.acd_book.specs.Content.{is_at, is_at_after}
use Rattle.acd_book.specs.Memory.{number_of_event}
use Rattle.acd_book.specs.MonitorIndexes.{IsListed}
use Rattle.acd_book.specs.declared.numbers.Numbers.{Numbers}
use Rattle.acd_lemmas.proofs.KeyedLists.{eqb_self}
use Rattle.acd_lemmas.proofs.Numbers.{still_below}

-- the list at each device, in the entries of a map
abbrev pub Lists : Type 0
Lists = List (ℕ × Numbers)

abbrev pub list_at : ℕ → Lists → Option Numbers
list_at device m = lookup (λ (d : ℕ). device == d) m

abbrev pub AreListed : List Event → Lists → Type 0
AreListed events m = (device : ℕ) → IfSome (list_at device m) (IsListed events device)

-- what is listed at another device still is
abbrev pub StaysListed : ℕ → List Event → List Event → Type 0
StaysListed d before after = (q : ℕ) (l : Numbers) → (d == q) ≡ false → IsListed before q l → IsListed after q l

-- one list is another, and the others are what they were
pub listed_but : (before after : List Event) (m n : Lists) (d : ℕ) (w : Option Numbers) → list_at d n ≡ w
    → ((q : ℕ) → (d == q) ≡ false → list_at q n ≡ list_at q m) → IfSome w (IsListed after d) → StaysListed d before after → AreListed before m
    → AreListed after n
listed_but before after m n d w is others here there h q =
    (elim (d == q) as (λ c. (d == q) ≡ c → IfSome (list_at q n) (IsListed after q)) [
      | true ↦ λ same. subst (λ (z : ℕ). IfSome (list_at z n) (IsListed after z)) (eqb-true d q same)
          (subst (λ (o : Option Numbers). IfSome o (IsListed after d)) (sym is) here)
      | false ↦ λ other. subst (λ (o : Option Numbers). IfSome o (IsListed after q)) (sym (others q other))
          (IfSome_then (list_at q m) (h q) (λ l listed. there q l other listed))
    ]) refl

-- no event has a number above one that none exceeds
pub none_above : (d n : ℕ) (events : List Event) → Every (λ (e : Event). e.number ≤ n) events → filter (is_at_after (Some d) n) events ≡ []
none_above d n [] low = refl
none_above d n (e ∷ events) low =
    ap (λ (c : Bool). cond c (e ∷ filter (is_at_after (Some d) n) events) (filter (is_at_after (Some d) n) events))
    (rest (is_at (Some d) e) (le-ltb n e.number low.0))
    ∙ none_above d n events low.1
  where
    rest : (b : Bool) {c : Bool} → c ≡ false → (b && c) ≡ false
    rest true h = h
    rest false h = refl

-- an event at another device
pub filter_elsewhere : (d q above : ℕ) (e : Event) (events : List Event) → (columns_of e.report).device ≡ Some d → (d == q) ≡ false
    → filter (is_at_after (Some q) above) (events ++ e ∷ []) ≡ filter (is_at_after (Some q) above) events ++ []
filter_elsewhere d q above e events at other =
    filter-append (is_at_after (Some q) above) events (e ∷ [])
    ∙ ap (λ (c : Bool). filter (is_at_after (Some q) above) events ++ cond (c && nat_lt above e.number) (e ∷ []) []) (ap (λ (o : Option ℕ). has o q) at ∙ other)

map-append : {T S : Type 0} (f : T → S) (xs ys : List T) → map f (xs ++ ys) ≡ map f xs ++ map f ys
map-append f [] ys = refl
map-append f (x ∷ xs) ys = ap (λ (l : List _). f x ∷ l) (map-append f xs ys)

pub listed_elsewhere : (d q : ℕ) (l : Numbers) (e : Event) (events : List Event) → (columns_of e.report).device ≡ Some d → (d == q) ≡ false
    → IsListed events q l → IsListed (events ++ e ∷ []) q l
listed_elsewhere d q l e events at other listed =
    listed ∙ sym (ap (map number_of_event) (filter_elsewhere d q l.above e events at other ∙ append-nil (filter (is_at_after (Some q) l.above) events)))

one_number : (c : Bool) (e : Event) → cond c (e.number ∷ []) [] ≡ map number_of_event (cond c (e ∷ []) [])
one_number true e = refl
one_number false e = refl

-- an event at the device
pub listed_here : (d : ℕ) (old new : Numbers) (e : Event) (events : List Event) → (columns_of e.report).device ≡ Some d → new.above ≡ old.above
    → new.numbers.items ≡ old.numbers.items ++ filter (nat_lt old.above) (e.number ∷ []) → IsListed events d old → IsListed (events ++ e ∷ []) d new
listed_here d old new e events at same added listed =
    let one : filter (is_at_after (Some d) old.above) (e ∷ []) ≡ cond (nat_lt old.above e.number) (e ∷ []) []
    = ap (λ (c : Bool). cond (c && nat_lt old.above e.number) (e ∷ []) []) (ap (λ (o : Option ℕ). has o d) at ∙ eqb_self d) in
    subst (λ (n : ℕ). new.numbers.items ≡ map number_of_event (filter (is_at_after (Some d) n) (events ++ e ∷ []))) (sym same)
    (added
    ∙ ap (λ (l : List ℕ). l ++ cond (nat_lt old.above e.number) (e.number ∷ []) []) listed
    ∙ ap (λ (l : List ℕ). map number_of_event (filter (is_at_after (Some d) old.above) events) ++ l) (one_number (nat_lt old.above e.number) e)
    ∙ sym (map-append number_of_event (filter (is_at_after (Some d) old.above) events) (cond (nat_lt old.above e.number) (e ∷ []) []))
    ∙ ap (map number_of_event) (ap (λ (l : List Event). filter (is_at_after (Some d) old.above) events ++ l) (sym one)
    ∙ sym (filter-append (is_at_after (Some d) old.above) events (e ∷ []))))

-- an event more before those above a number
above_more : (low high : ℕ) (e : Event) (events more : List Event) (a b c : Bool) → nat_lt low e.number ≡ b → nat_lt high e.number ≡ c → (c ≡ true → b ≡ true)
    → filter (nat_lt high) (map number_of_event events) ≡ map number_of_event more
    → filter (nat_lt high) (map number_of_event (cond (a && b) (e ∷ events) events)) ≡ map number_of_event (cond (a && c) (e ∷ more) more)
above_more low high e events more false b c p q h rest = rest
above_more low high e events more true true true p q h rest = rw q (ap (λ (l : List ℕ). e.number ∷ l) rest)
above_more low high e events more true true false p q h rest = rw q rest
above_more low high e events more true false true p q h rest = absurd (true≢false (sym (h refl)))
above_more low high e events more true false false p q h rest = rest

-- the numbers above a higher one
numbers_above : (d low high : ℕ) (events : List Event) → low ≤ high
    → filter (nat_lt high) (map number_of_event (filter (is_at_after (Some d) low) events)) ≡ map number_of_event (filter (is_at_after (Some d) high) events)
numbers_above d low high [] h = refl
numbers_above d low high (e ∷ events) h =
    above_more low high e (filter (is_at_after (Some d) low) events) (filter (is_at_after (Some d) high) events) (is_at (Some d) e) (nat_lt low e.number)
    (nat_lt high e.number) refl refl (still_below low high e.number h)
    (numbers_above d low high events h)

take-map : {T S : Type 0} (f : T → S) (n : ℕ) (xs : List T) → take n (map f xs) ≡ map f (take n xs)
take-map f zero xs = refl
take-map f (suc n) [] = refl
take-map f (suc n) (x ∷ xs) = ap (λ (l : List _). f x ∷ l) (take-map f n xs)

-- a page of a list
pub page_listed : (d n limit : ℕ) (l : Numbers) (events : List Event) → l.above ≤ n → IsListed events d l
    → take limit (filter (nat_lt n) l.numbers.items) ≡ map number_of_event (take limit (filter (is_at_after (Some d) n) events))
page_listed d n limit l events within listed =
    ap (λ (xs : List ℕ). take limit (filter (nat_lt n) xs)) listed
    ∙ ap (take limit) (numbers_above d l.above n events within)
    ∙ take-map number_of_event limit (filter (is_at_after (Some d) n) events)

-- ---- the records after a place of an ordered list

none_pass : (p : ℕ → Bool) (xs : List ℕ) → All (λ (x : ℕ). p x ≡ false) xs → filter p xs ≡ []
none_pass p [] none = refl
none_pass p (x ∷ xs) none = rw (All-head (λ (x : ℕ). p x ≡ false) x xs none) (none_pass p xs (All-tail (λ (x : ℕ). p x ≡ false) x xs none))

all_pass : (p : ℕ → Bool) (xs : List ℕ) → All (λ (x : ℕ). p x ≡ true) xs → filter p xs ≡ xs
all_pass p [] all = refl
all_pass p (x ∷ xs) all =
    rw (All-head (λ (x : ℕ). p x ≡ true) x xs all) (ap (λ (l : List ℕ). x ∷ l) (all_pass p xs (All-tail (λ (x : ℕ). p x ≡ true) x xs all)))

below : (a n : ℕ) → leb a n ≡ true → nat_lt n a ≡ false
below a n h = grind (arith, nat_tests)

is_above : (a n : ℕ) → leb a n ≡ false → nat_lt n a ≡ true
is_above a n h = grind (arith, nat_tests)

pub above_is : (xs : List ℕ) (n i : ℕ) → i ≤ length xs → IsPartitionPoint (λ (y : ℕ). leb y n ≡ true) (λ (y : ℕ). leb y n ≡ false) xs i
    → drop i xs ≡ filter (nat_lt n) xs
above_is xs n i within point =
    let front =
    none_pass (nat_lt n) (take i xs)
    (λ j d lt. let below_i : j < i = omega (arith, length-take-le i xs within) in rw get_or-take (below _ n (point.0 j d (omega arith) below_i))) in
    let back = all_pass (nat_lt n) (drop i xs) (λ j d lt. rw get_or-drop (is_above _ n (point.1 (i + j) d (omega arith) (omega (arith, length-drop i xs))))) in
    sym (ap (filter (nat_lt n)) (sym (take-append-drop i xs)) ∙ filter-append (nat_lt n) (take i xs) (drop i xs)
    ∙ ap (λ (l : List ℕ). l ++ filter (nat_lt n) (drop i xs)) front ∙ back)

-- the first so many, if there are so many
pub taken_min : (n : ℕ) (xs : List ℕ) → take (min n (length xs)) xs ≡ take n xs
taken_min n xs = grind (arith, common_steps)

-- ---- loops

-- ---- outcomes

pub was_ok : {A E P : Type 0} (r : Result A E) → false ≡ is_err r → OnOk r P → P
was_ok (Ok x) e h = h
was_ok (Err x) e h = absurd (true≢false (sym e))

pub either : {A E P Q : Type 0} (r : Result A E) → OnOk r P → OnErr r Q → P ⊎ Q
either (Ok x) p q = inl p
either (Err x) p q = inr q
