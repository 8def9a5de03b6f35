-- The events that a running monitor reports, and how a log that is numbered from 1 finds them.
use Rattle.std.proofs.Common.{arith, ◌≡◌, ℕ, ◌+◌, ◌-◌, ◌<◌, ◌≤◌, ◌==◌, suc, max, Bool, true, cond, List, [], ◌∷◌, length, take, drop, filter, map, slice_get, Option, Some, None, inl, inr, refl, sym, ap, subst, ◌∙◌}
use Rattle.std.specs.List.{cons_option, filter_map}
use Rattle.acd_terms.specs.Lists.{Among, Every}
use Rattle.acd_terms.proofs.Numbers.{not_zero}
use Rattle.acd_terms.specs.declared.event.Event.{Event}
use Rattle.acd_terms.specs.declared.record.MonitorRecord.{MonitorRecord}
use Rattle.acd_lemmas.proofs.Lists.{every_from, every-take, every-filter}
use Rattle.acd_model.specs.Scans.{monitor_of}
use Rattle.acd_book.specs.Content.{Content, is_at, is_at_after, watched_by, events_of_monitor}
use Rattle.acd_book.specs.Memory.{event_numbered, is_numbered, number_of_event}
use Rattle.acd_book.proofs.NumberedLists.{filter_above, first}

pub monitor_found : (c : Content) (monitor number limit : ℕ) (w : MonitorRecord) (found : List Event) → monitor_of c.rows monitor ≡ Some w
    → found ≡ take limit (filter (is_at_after (Some w.device) (max number w.after_event)) c.events) → found ≡ events_of_monitor c monitor number limit
monitor_found c monitor number limit w found runs is = is ∙ ap (λ (o : Option MonitorRecord). watched_by o c.events number limit) (sym runs)

-- the events at a device that a log has after a number
pub device_found : (device number limit : ℕ) (events found : List Event) → is_numbered number_of_event 0 events ≡ true
    → found ≡ take limit (filter (is_at (Some device)) (drop number events))
    → found ≡ take limit (filter (is_at_after (Some device) number) events)
device_found device number limit events found numbered is = is ∙ ap (take limit) (sym (filter_above number_of_event (is_at (Some device)) number events numbered))

-- no number is above how many there are
pub none_exceeds : (b : ℕ) (events : List Event) → is_numbered number_of_event b events ≡ true → Every (λ (e : Event). e.number ≤ b + length events) events
none_exceeds b [] numbered = tt
none_exceeds b (e ∷ events) numbered =
    let parts = first number_of_event b e events numbered in
    let same : (b + 1) + length events ≡ b + length (e ∷ events) = omega arith in
    (omega (arith, parts.0), subst (λ (n : ℕ). Every (λ (e : Event). e.number ≤ n) events) same (none_exceeds (b + 1) events parts.1))

-- each is at the place that its number gives
placed : (b : ℕ) (events : List Event) (e : Event) → is_numbered number_of_event b events ≡ true → Among e events
    → (b < e.number) × (slice_get events (e.number - (b + 1)) ≡ Some e)
placed b [] e numbered a = absurd a
placed b (x ∷ events) e numbered (inl is) =
    let parts = first number_of_event b x events numbered in
    let number : e.number ≡ b + 1 = ap number_of_event is ∙ parts.0 in
    let place : e.number - (b + 1) ≡ 0 = omega (arith, number) in
    (omega (arith, number), ap (slice_get (x ∷ events)) place ∙ ap Some (sym is))
placed b (x ∷ events) e numbered (inr a) =
    let parts = first number_of_event b x events numbered in
    let rest = placed (b + 1) events e parts.1 a in
    let place : e.number - (b + 1) ≡ suc (e.number - ((b + 1) + 1)) = omega (arith, rest.0) in
    (omega (arith, rest.0), ap (slice_get (x ∷ events)) place ∙ rest.1)

at_number : (n : ℕ) (found : Option Event) → 0 < n → cond (n == 0) None found ≡ found
at_number n found h = ap (λ (b : Bool). cond b None found) (not_zero n h)

found_at : (events : List Event) (e : Event) → is_numbered number_of_event 0 events ≡ true → Among e events → event_numbered events e.number ≡ Some e
found_at events e numbered a = let at = placed 0 events e numbered a in at_number e.number (slice_get events (e.number - 1)) at.0 ∙ at.1

-- those of the numbers of some are these
pub found_all : (events some : List Event) → is_numbered number_of_event 0 events ≡ true → Every (λ (e : Event). Among e events) some
    → filter_map (event_numbered events) (map number_of_event some) ≡ some
found_all events [] numbered all = refl
found_all events (e ∷ some) numbered all =
    ap (λ (o : Option Event). cons_option o (filter_map (event_numbered events) (map number_of_event some))) (found_at events e numbered all.0)
    ∙ ap (λ (l : List Event). e ∷ l) (found_all events some numbered all.1)

-- a page of a list of numbers
pub page_found : (device number limit : ℕ) (events : List Event) (numbers : List ℕ) → is_numbered number_of_event 0 events ≡ true
    → numbers ≡ map number_of_event (take limit (filter (is_at_after (Some device) number) events))
    → filter_map (event_numbered events) numbers ≡ take limit (filter (is_at_after (Some device) number) events)
page_found device number limit events numbers numbered are =
    let passes = is_at_after (Some device) number in
    let there =
    every-take (λ (e : Event). Among e events) limit (filter passes events)
    (every-filter (λ (e : Event). Among e events) passes events (every_from (λ (e : Event). Among e events) events (λ e among. among))) in
    ap (filter_map (event_numbered events)) are ∙ found_all events (take limit (filter passes events)) numbered there
