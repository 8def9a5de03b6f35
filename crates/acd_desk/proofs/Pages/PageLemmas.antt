-- Pages of events, one after the other, are all events.
use Rattle.std.proofs.Common.{◌≡◌, ℕ, ◌-◌, ◌<◌, ◌≤◌, zero, suc, true, false, cond, List, [], ◌∷◌, ◌++◌, Option, Some, None, Ok, refl, ap, ap₂, sym, ◌∙◌, subst, take, drop, length, arith, append_assoc, le_refl, take-append-drop}
use Rattle.std.specs.Prelude.{nat_lt, slice_get}
use Rattle.std.proofs.lemmas.List.Elements.{filter-append}
use Rattle.std.proofs.lemmas.Bool.Decides.{nat_tests}
use Rattle.acd_terms.specs.declared.event.Event.{Event}
use Rattle.acd_book.specs.Content.{Content, events_after}
use Rattle.acd_book.specs.Memory.{number_of_event}
use Rattle.acd_book.specs.ListOverlap.{IsSplitAt}
use Rattle.acd_book.proofs.SharedLists.{split_at, none_above, all_above as all_are_above}
use Rattle.acd_lemmas.proofs.Lists.{filter-filter}
use Rattle.acd_lemmas.proofs.Numbers.{still_below}
use Rattle.acd_desk.specs.Reads.Kinds.{all_above}
use Rattle.acd_reports.proofs.ExportLemmas.{joined}
use Rattle.acd_reports.specs.Export.{header_record, records_text, events_csv}
use Rattle.acd_desk.specs.Desks.DeskState.{DeskState}
use Rattle.acd_desk.specs.Reads.DeskReads.{ReadDone}
use Rattle.acd_desk.specs.Reads.ReadAnswers.{Rise, above, records_left}
use Rattle.acd_desk.proofs.Pages.ReadsDone.{read_twice}

pub is_above : (m : ℕ) (e : Event) → m < e.number → nat_lt m e.number ≡ true
is_above m e lt = grind (arith, nat_tests)

pub not_above : (m : ℕ) (e : Event) → e.number ≤ m → nat_lt m e.number ≡ false
not_above m e le = grind (arith, nat_tests)

-- those above a number ascend from it
rises_above : (n : ℕ) (es : List Event) → Rise 0 es → Rise n (above es n)
rises_above n es h =
    let two = split_at number_of_event 0 n es (omega arith) h in
    let split : IsSplitAt number_of_event n es two.0 two.1 = two.2 in
    let left_over : above es n ≡ two.1
    = ap (λ l. above l n) split.whole ∙ filter-append (λ (e : Event). nat_lt n e.number) two.0 two.1
    ∙ ap₂ (λ (a b : List Event). a ++ b) (none_above number_of_event n two.0 split.below) (all_are_above number_of_event n n two.1 (le_refl n) split.above) in
    subst (Rise n) (sym left_over) split.above

-- the number of the last event, or of the one before
abbrev last_of : ℕ → List Event → ℕ
last_of m [] = m
last_of m (e ∷ es) = last_of e.number es

last-up : (m : ℕ) (es more : List Event) → Rise m (es ++ more) → m ≤ last_of m es
last-up m [] more h = omega arith
last-up m (e ∷ es) more h = let up = last-up e.number es more h.1 in let here : m < e.number = h.0 in omega (arith, up, here)

-- the second part follows the last event of the first
after_last : (m : ℕ) (es more : List Event) → Rise m (es ++ more) → above (es ++ more) (last_of m es) ≡ more
after_last m [] more h = all_are_above number_of_event m m more (le_refl m) h
after_last m (e ∷ es) more h =
    ap (λ b. cond b (e ∷ above (es ++ more) (last_of e.number es)) (above (es ++ more) (last_of e.number es)))
    (not_above (last_of e.number es) e (last-up e.number es more h.1))
    ∙ after_last e.number es more h.1

-- those above a lower place have all of those above a place
pub above_again : {T : Type 0} (f : T → ℕ) (m n : ℕ) (xs : List T) → m ≤ n → all_above f n (all_above f m xs) ≡ all_above f n xs
above_again {T = T} f m n xs le =
    filter-filter (λ (x : T). nat_lt n (f x)) (λ (x : T). nat_lt m (f x)) (λ x. still_below m n (f x) le) xs

last-at : (m : ℕ) (x : Event) (es : List Event) (e : Event) → slice_get (x ∷ es) (length es) ≡ Some e → last_of m (x ∷ es) ≡ e.number
last-at m x [] e h = cc h
last-at m x (y ∷ es) e h = last-at x.number y es e h

last-there : (x : Event) (es : List Event) → slice_get (x ∷ es) (length es) ≡ None → ⊥
last-there x [] h = cc h
last-there x (y ∷ es) h = last-there y es h

last-number : (m : ℕ) (es : List Event) (e : Event) → slice_get es (length es - 1) ≡ Some e → last_of m es ≡ e.number
last-number m [] e h = absurd (cc h)
last-number m (x ∷ es) e h =
    let size : length (x ∷ es) - 1 ≡ length es = omega arith in
    last-at m x es e (subst (λ n. slice_get (x ∷ es) n ≡ Some e) size h)

no-last : (es : List Event) → slice_get es (length es - 1) ≡ None → es ≡ []
no-last [] h = refl
no-last (x ∷ es) h =
    let size : length (x ∷ es) - 1 ≡ length es = omega arith in
    absurd (last-there x es (subst (λ n. slice_get (x ∷ es) n ≡ None) size h))

-- a page, and the events above its last one, are those above the number
pub page-then : (n limit : ℕ) (events : List Event) (e : Event) → Rise 0 events
    → slice_get (events_after events n limit) (length (events_after events n limit) - 1) ≡ Some e
    → above events n ≡ events_after events n limit ++ above events e.number
page-then n limit events e rise last =
    let all : List Event = above events n in
    let page : List Event = take limit all in
    let rest : List Event = drop limit all in
    let whole : page ++ rest ≡ all = take-append-drop limit all in
    let rises : Rise n (page ++ rest) = subst (Rise n) (sym whole) (rises_above n events rise) in
    let number : last_of n page ≡ e.number = last-number n page e last in
    let up : n ≤ e.number = subst (λ k. n ≤ k) number (last-up n page rest rises) in
    let rest_above : rest ≡ above events e.number
    = sym (after_last n page rest rises) ∙ ap (λ l. above l (last_of n page)) whole ∙ ap (above all) number ∙ above_again number_of_event n e.number events up in
    sym whole ∙ ap (λ l. page ++ l) rest_above

-- where a page has none, there is none
pub page-none : (n limit : ℕ) (events : List Event) → 1 ≤ limit → events_after events n limit ≡ [] → above events n ≡ []
page-none n limit events some none = by limit (above events n) some none
  where
    by : (k : ℕ) (l : List Event) → 1 ≤ k → take k l ≡ [] → l ≡ []
    by zero l le h = absurd (omega (arith, le))
    by (suc k) [] le h = refl
    by (suc k) (x ∷ l) le h = absurd (cc h)

-- an export whose next page has no event is done
pub export_ends : (text : List ℕ) (events page shown : List Event) (after limit : ℕ) → 1 ≤ limit → shown ≡ page
    → slice_get shown (length shown - 1) ≡ None → page ≡ events_after events after limit
    → text ++ [] ≡ text ++ records_text (above events after)
unfolding records_text
export_ends text events page shown after limit some same none is =
    ap (λ l. text ++ records_text l) (sym (page-none after limit events some (sym is ∙ sym same ∙ no-last shown none)))

-- else it continues with the records of the page
pub export_goes_on : (old more new : List ℕ) (events page shown : List Event) (after limit : ℕ) (e : Event) → shown ≡ page
    → slice_get shown (length shown - 1) ≡ Some e → page ≡ events_after events after limit
    → more ≡ records_text shown → new ≡ old ++ more → Rise 0 events → new ++ records_text (above events e.number) ≡ old ++ records_text (above events after)
export_goes_on old more new events page shown after limit e same last is records pushed rise =
    let here : shown ≡ events_after events after limit = same ∙ is in
    let whole : above events after ≡ shown ++ above events e.number
    = page-then after limit events e rise (subst (λ l. slice_get l (length l - 1) ≡ Some e) here last) ∙ ap (λ l. l ++ above events e.number) (sym here) in
    ap (λ l. l ++ records_text (above events e.number)) (pushed ∙ ap (λ l. old ++ l) records)
    ∙ append_assoc old (records_text shown) (records_text (above events e.number))
    ∙ ap (λ l. old ++ l) (sym (joined shown (above events e.number)) ∙ ap records_text (sym whole))

-- an export begins with the header, and has all events left
pub export_begins : (text : List ℕ) (events : List Event) → text ≡ header_record → Rise 0 events → text ++ records_text (above events 0) ≡ events_csv events
unfolding events_csv
export_begins text events is rise =
    ap (λ l. l ++ records_text (above events 0)) is
    ∙ ap (λ l. header_record ++ records_text l) (all_are_above number_of_event 0 0 events (le_refl 0) rise)

-- one page more: with it, what is left makes the whole
pub export_step : (old mid new : DeskState) (last : Option ℕ) (before after : List ℕ) (n : ℕ)
    → ReadDone {A = Unit {0}} old mid (Ok tt) (λ (c : Content) done. Rise 0 c.events → before ++ records_text (above c.events n) ≡ events_csv c.events)
    → ReadDone mid new (Ok last) (λ (c : Content) next. Rise 0 c.events → after ++ records_left c.events next ≡ before ++ records_text (above c.events n))
    → ReadDone old new (Ok last) (λ (c : Content) next. Rise 0 c.events → after ++ records_left c.events next ≡ events_csv c.events)
export_step old mid new last before after n first second =
    read_twice old mid new tt (Ok last) _ _ _ first second (λ c left next more rise. more rise ∙ left rise)
