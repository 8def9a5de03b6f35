-- Two records decide whether a cut leaves an event of a carried record in the archive.
use Rattle.std.proofs.Common.{◌≡◌, ℕ, ◌+◌, ◌-◌, ◌<◌, ◌≤◌, Bool, true, false, nat_lt, List, [], ◌∷◌, ◌++◌, length, take, Some, None, refl, sym, ap, subst, ◌∙◌, arith, append_assoc, append-nil, ltb-true, ltb-false, le_refl, le_antisymm, lt_of_lt_of_le, sub-le}
use Rattle.std.specs.Bool.{Decides}
use Rattle.acd_terms.specs.Lists.{Every}
use Rattle.acd_terms.specs.declared.event.Event.{Event}
use Rattle.acd_lemmas.proofs.Lists.{every-append, every_from}
use Rattle.acd_book.specs.declared.kept.Kept.{Kept}
use Rattle.acd_book.specs.Content.{Content, IsKeptAfter, GoOn, events_after}
use Rattle.acd_book.specs.Memory.{stamp_of, number_of_event}
use Rattle.acd_book.specs.Order.{Rises}
use Rattle.acd_book.specs.ListOverlap.{IsSplitAt}
use Rattle.acd_desk.specs.Audits.AuditWith.{Ascends, StandsInTime}
use Rattle.acd_desk.specs.Audits.Overlap.{IsCleanCut, IsBefore}
use Rattle.acd_desk.proofs.Archives.NextRecords.{none_left, next_left as next_record}
use Rattle.acd_book.proofs.SharedLists.{within, below, cons_not_nil, every_front, every_back, every_upto, split_at, split_once, next_left}

-- ---- moments that don't go back ----

pub ascends_lower : {T : Type 0} (f : T → ℕ) (m n : ℕ) (xs : List T) → m ≤ n → Ascends f n xs → Ascends f m xs
ascends_lower f m n [] le h = tt
ascends_lower f m n (x ∷ xs) le h = (within m n (f x) le h.0, h.1)

pub ascends_back : {T : Type 0} (f : T → ℕ) (m : ℕ) (xs ys : List T) → Ascends f m (xs ++ ys) → Ascends f m ys
ascends_back f m [] ys h = h
ascends_back f m (x ∷ xs) ys h = ascends_lower f m (f x) ys h.0 (ascends_back f (f x) xs ys h.1)

-- all are at or after the first
ascends_least : {T : Type 0} (f : T → ℕ) (m : ℕ) (xs : List T) → Ascends f m xs → Every (λ (x : T). m ≤ f x) xs
ascends_least f m [] h = tt
ascends_least f m (x ∷ xs) h = (h.0, ascends_least f m xs (ascends_lower f m (f x) xs h.0 h.1))

first_least : {T : Type 0} (f : T → ℕ) (m : ℕ) (x : T) (xs : List T) → Ascends f m (x ∷ xs) → Every (λ (y : T). f x ≤ f y) (x ∷ xs)
first_least f m x xs h = (le_refl (f x), ascends_least f (f x) xs h.1)

-- all are at or before the last
last_most : {T : Type 0} (f : T → ℕ) (m : ℕ) (xs : List T) (x : T) (ys : List T) → Ascends f m (xs ++ x ∷ ys) → Every (λ (y : T). f y ≤ f x) (xs ++ x ∷ [])
last_most f m [] x ys h = (le_refl (f x), tt)
last_most f m (y ∷ xs) x ys h = ((ascends_back f (f y) xs (x ∷ ys) h.1).0, last_most f (f y) xs x ys h.1)

-- ---- numbers that go on ----

-- the last of some has its place's number
last_number : (n m : ℕ) (e : Event) (es : List Event) → GoOn n (e ∷ es) → Every (λ (x : Event). x.number ≤ m) (e ∷ es) → n + length (e ∷ es) ≤ m
last_number n m e [] go low = let here = go.0 in let most = low.0 in omega (arith, here, most)
last_number n m e (x ∷ es) go low = let rest = last_number (n + 1) m x es go.1 low.1 in omega (arith, rest)

go_front : (n : ℕ) (xs ys : List Event) → GoOn n (xs ++ ys) → GoOn n xs
go_front n [] ys go = tt
go_front n (x ∷ xs) ys go = (go.0, go_front (n + 1) xs ys go.1)

next_number : (n : ℕ) (xs : List Event) (y : Event) (ys : List Event) → GoOn n (xs ++ y ∷ ys) → y.number ≡ n + length xs + 1
next_number n [] y ys go = let here = go.0 in omega (arith, here)
next_number n (x ∷ xs) y ys go = let rest = next_number (n + 1) xs y ys go.1 in omega (arith, rest)

-- where the next of these is above this number, none of them is below it
none_below : (n number : ℕ) (past : List Event) (e : Event) (rest : List Event) → GoOn n (past ++ e ∷ rest) → Every (λ (x : Event). x.number ≤ number - 1) past
    → Every (λ (x : Event). 0 < x.number) past → number < e.number → past ≡ []
none_below n number [] e rest go low positive above = refl
none_below n number (x ∷ past) e rest go low positive above =
    let most : n + length (x ∷ past) ≤ number - 1 = last_number n (number - 1) x past (go_front n (x ∷ past) (e ∷ rest) go) low in
    let next : e.number ≡ n + length (x ∷ past) + 1 = next_number n (x ∷ past) e rest go in
    absurd (clash (n + length (x ∷ past)) number e.number x.number most next above positive.0 low.0)
  where
    clash : (l number next first : ℕ) → l ≤ number - 1 → next ≡ l + 1 → number < next → 0 < first → first ≤ number - 1 → ⊥
    clash l number next first most is above positive low = omega (arith, most, is, above, positive, low)

-- where none is above it, there is none
none_at_all : (n number last : ℕ) (past : List Event) → GoOn n past → n + length past ≡ last → number ≤ last
    → Every (λ (x : Event). x.number ≤ number - 1) past → past ≡ []
none_at_all n number last [] go is le low = refl
none_at_all n number last (x ∷ past) go is le low =
    let most : n + length (x ∷ past) ≤ number - 1 = last_number n (number - 1) x past go low in
    absurd (clash n (length past) number last most is le)
  where
    clash : (n l number last : ℕ) → n + length (x ∷ past) ≤ number - 1 → n + length (x ∷ past) ≡ last → number ≤ last → ⊥
    clash n l number last most is le = omega (arith, most, is, le)

positive : (es : List Event) (n : ℕ) → Rises number_of_event n es → Every (λ (x : Event). 0 < x.number) es
positive [] n h = tt
positive (e ∷ es) n h = let here : n < e.number = h.0 in (omega (arith, here), positive es e.number h.1)

-- ---- the two records ----

abbrev IsEarlier : List Kept → Event → Type 0
IsEarlier carried e = Every (λ (k : Kept). e.moment < k.moment) carried

pub clean_none : (a : Content) (stamp number : ℕ) → IsKeptAfter a.kept stamp None → IsCleanCut a stamp number
clean_none a stamp number none past carried left reported kept_two events_two =
    let empty : carried ≡ [] = none_left stamp past carried kept_two.above (subst (λ (l : List Kept). IsKeptAfter l stamp None) kept_two.whole none) in
    subst (λ (ks : List Kept). Every (IsEarlier ks) left) (sym empty) (every_from (IsEarlier []) left (λ e at. tt))

earlier_all : (m : ℕ) (e : Event) (carried : List Kept) → e.moment < m → Every (λ (k : Kept). m ≤ k.moment) carried → IsEarlier carried e
earlier_all m e [] lt h = tt
earlier_all m e (k ∷ carried) lt h = (lt_of_lt_of_le lt h.0, earlier_all m e carried lt h.1)

earlier_each : (m top : ℕ) (carried : List Kept) (left : List Event) → top < m → Every (λ (e : Event). e.moment ≤ top) left
    → Every (λ (k : Kept). m ≤ k.moment) carried → Every (IsEarlier carried) left
earlier_each m top carried [] lt low h = tt
earlier_each m top carried (e ∷ left) lt low h = (earlier_all m e carried (below e.moment top m low.0 lt) h, earlier_each m top carried left lt low.1 h)

-- the event of the number is the last one left in the archive
at_number : (number : ℕ) {es past : List Event} {e : Event} {rest left reported : List Event} → IsSplitAt number_of_event (number - 1) es past (e ∷ rest)
    → IsSplitAt number_of_event number es left reported → e.number ≡ number → past ++ e ∷ [] ≡ left
at_number number {past = past} {e = e} {rest = rest} {left = left} {reported = reported} one two here =
    (split_once number_of_event number (past ++ e ∷ []) rest left reported (append_assoc past (e ∷ []) rest ∙ sym one.whole ∙ two.whole)
    (every-append (λ (x : Event). x.number ≤ number) past (e ∷ []) (every_upto number_of_event (number - 1) number past (sub-le number 1) one.below)
    (subst (λ (n : ℕ). n ≤ number) (sym here) (le_refl number), tt))
    two.below (subst (λ (n : ℕ). Rises number_of_event n rest) here one.above.1) two.above).0

-- no event has the number: none is left in the archive
beside_number : (number : ℕ) {es past : List Event} {e : Event} {rest left reported : List Event} → IsSplitAt number_of_event (number - 1) es past (e ∷ rest)
    → IsSplitAt number_of_event number es left reported → number < e.number → past ≡ left
beside_number number {past = past} {e = e} {rest = rest} {left = left} {reported = reported} one two above =
    (split_once number_of_event number past (e ∷ rest) left reported (sym one.whole ∙ two.whole)
    (every_upto number_of_event (number - 1) number past (sub-le number 1) one.below) two.below (above, one.above.1) two.above).0

-- the events left in the archive, by the event that comes first above the number before
clean_left : (a : Content) (number moment : ℕ) (past rest left reported : List Event) (carried : List Kept) → StandsInTime a → number ≤ a.rows.last_event
    → IsSplitAt number_of_event (number - 1) a.events past rest → IsSplitAt number_of_event number a.events left reported → IsBefore (take 1 rest) number moment
    → Every (λ (k : Kept). moment ≤ k.moment) carried → Every (IsEarlier carried) left
clean_left a number moment past [] left reported carried stands within_last one two before late =
    let whole : a.events ≡ past = one.whole ∙ append-nil past in
    let none : a.events ≡ [] = whole ∙ none_at_all stands.numbered.before number a.rows.last_event past
    (subst (GoOn stands.numbered.before) whole stands.numbered.go_on)
    (subst (λ (l : List Event). stands.numbered.before + length l ≡ a.rows.last_event) whole stands.numbered.up_to) within_last one.below in
    subst (Every (IsEarlier carried)) (no_front left reported (sym two.whole ∙ none)) tt
  where
    no_front : (xs ys : List Event) → xs ++ ys ≡ [] → [] ≡ xs
    no_front [] ys h = refl
    no_front (x ∷ xs) ys h = absurd (cons_not_nil x (xs ++ ys) h)
clean_left a number moment past (e ∷ rest) left reported carried stands within_last one two before late =
    let cases : (b c : Bool) → nat_lt number e.number ≡ b → nat_lt e.number number ≡ c → Every (IsEarlier carried) left
    = λ b. elim b as (λ b. (c : Bool) → nat_lt number e.number ≡ b → nat_lt e.number number ≡ c → Every (IsEarlier carried) left) [
      | true ↦ λ c is other.
          let above : number < e.number = ltb-true number e.number is in
          let positives : Every (λ (x : Event). 0 < x.number) (past ++ e ∷ rest)
          = subst (Every (λ (x : Event). 0 < x.number)) one.whole (positive a.events 0 stands.ordered.events) in
          let empty : past ≡ [] = none_below stands.numbered.before number past e rest (subst (GoOn stands.numbered.before) one.whole stands.numbered.go_on)
          one.below (every_front (λ (x : Event). 0 < x.number) past (e ∷ rest) positives) above in
          subst (Every (IsEarlier carried)) (sym empty ∙ beside_number number one two above) tt
      | false ↦ λ c. elim c as (λ c. nat_lt number e.number ≡ false → nat_lt e.number number ≡ c → Every (IsEarlier carried) left) [
        | true ↦ λ is other. absurd (too_low number e.number one.above.0 (ltb-true e.number number other))
        | false ↦ λ is other.
            let here : e.number ≡ number = le_antisymm (ltb-false number e.number is) (ltb-false e.number number other) in
            subst (Every (IsEarlier carried)) (at_number number one two here)
            (earlier_each moment e.moment carried (past ++ e ∷ []) (before here)
            (last_most (λ (x : Event). x.moment) 0 past e rest (subst (Ascends (λ (x : Event). x.moment) 0) one.whole stands.events)) late)
      ]
    ] in
    cases (nat_lt number e.number) (nat_lt e.number number) refl refl
  where
    too_low : (n m : ℕ) → n - 1 < m → m < n → ⊥
    too_low n m lt less = omega (arith, lt, less)

-- the event is left in the archive, and the record carried over
before_left : (number : ℕ) (es past rest left reported : List Event) (k : Kept) (tail : List Kept) → IsSplitAt number_of_event (number - 1) es past rest
    → IsSplitAt number_of_event number es left reported → Every (IsEarlier (k ∷ tail)) left → IsBefore (take 1 rest) number k.moment
before_left number es past [] left reported k tail one two clean = tt
before_left number es past (e ∷ rest) left reported k tail one two clean = λ here.
    (every_back (IsEarlier (k ∷ tail)) past (e ∷ []) (subst (Every (IsEarlier (k ∷ tail))) (sym (at_number number one two here)) clean)).0.0

pub clean_decided : (a : Content) (stamp number before : ℕ) (k : Kept) (found : List Event) (b : Bool) → StandsInTime a → number ≤ a.rows.last_event
    → IsKeptAfter a.kept stamp (Some k) → before ≡ number - 1 → found ≡ events_after a.events before 1 → Decides b (IsBefore found number k.moment)
    → Decides b (IsCleanCut a stamp number)
clean_decided a stamp number before k found b stands within_last next is_before is decides =
    let events_two = split_at number_of_event 0 (number - 1) a.events (omega arith) stands.ordered.events in
    let one : IsSplitAt number_of_event (number - 1) a.events events_two.0 events_two.1 = events_two.2 in
    let found_is : found ≡ take 1 events_two.1
    = is ∙ ap (λ (n : ℕ). events_after a.events n 1) is_before ∙ next_left number_of_event (number - 1) a.events events_two.0 events_two.1 one in
    let IsNext : List Kept → Type 0 = λ l. IsKeptAfter l stamp (Some k) in (
      λ holds past carried left reported kept_split events_split.
          let front = next_record stamp past carried k kept_split.below kept_split.above (subst IsNext kept_split.whole next) in
          let late : Every (λ (x : Kept). k.moment ≤ x.moment) carried
          = subst (Every (λ (x : Kept). k.moment ≤ x.moment)) (sym front.1)
          (first_least (λ (x : Kept). x.moment) 0 k front.0
          (ascends_back (λ (x : Kept). x.moment) 0 past (k ∷ front.0)
          (subst (Ascends (λ (x : Kept). x.moment) 0) (kept_split.whole ∙ ap (λ (l : List Kept). past ++ l) front.1) stands.kept))) in
          clean_left a number k.moment events_two.0 events_two.1 left reported carried stands within_last one events_split
          (subst (λ (l : List Event). IsBefore l number k.moment) found_is (decides.0 holds)) late,
      λ clean.
          let kept_parts = split_at stamp_of 0 stamp a.kept (omega arith) stands.ordered.kept in
          let kept_split : IsSplitAt stamp_of stamp a.kept kept_parts.0 kept_parts.1 = kept_parts.2 in
          let parts = split_at number_of_event 0 number a.events (omega arith) stands.ordered.events in
          let events_split : IsSplitAt number_of_event number a.events parts.0 parts.1 = parts.2 in
          let front = next_record stamp kept_parts.0 kept_parts.1 k kept_split.below kept_split.above (subst IsNext kept_split.whole next) in
          let all : Every (IsEarlier (k ∷ front.0)) parts.0
          = subst (λ (ks : List Kept). Every (IsEarlier ks) parts.0) front.1 (clean kept_parts.0 kept_parts.1 parts.0 parts.1 kept_split events_split) in
          decides.1 (subst (λ (l : List Event). IsBefore l number k.moment) (sym found_is)
          (before_left number a.events events_two.0 events_two.1 parts.0 parts.1 k front.0 one events_split all)),
    )
