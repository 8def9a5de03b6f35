-- What a desk makes of any content adds to it.
use Rattle.std.proofs.Common.{◌≡◌, ℕ, ◌+◌, ◌<◌, ◌≤◌, List, [], ◌∷◌, ◌++◌, length, refl, sym, ap, subst, ◌∙◌, arith, append_assoc, append-nil, Bool, true, false, cond, nat_lt, None, is_some, inl, inr, ◌⊎◌, ltb-true}
use Rattle.std.proofs.Math.Nat.{le_refl}
use Rattle.std.proofs.Math.Numerals.{lt-add-one}
use Rattle.std.proofs.lemmas.List.{length-append, append_cancel_left}
use Rattle.acd_terms.specs.Lists.{Every}
use Rattle.acd_terms.specs.declared.event.Event.{Event}
use Rattle.acd_terms.specs.declared.command.Arrival.{Arrival}
use Rattle.acd_lemmas.proofs.Lists.{every-append}
use Rattle.acd_book.specs.declared.kept.Kept.{Kept}
use Rattle.acd_book.specs.Content.{Content, kept_of, IsCounted}
use Rattle.acd_book.specs.Memory.{stamp_of, number_of_event}
use Rattle.acd_book.specs.Order.{Rises}
use Rattle.acd_desk.specs.Contents.AbstractDesk.{stepped, record_of, executed}
use Rattle.acd_desk.specs.Contents.Replies.{after}
use Rattle.acd_desk.specs.Contents.AnyContent.{led}
use Rattle.acd_desk.proofs.Replays.AuditLaws.{going_rises, zero_least}
use Rattle.acd_desk.proofs.Replays.Audits.{none_of}
use Rattle.acd_desk.proofs.Contents.CountersBound.{counted_executed}
use Rattle.acd_desk.proofs.Archives.LookUps.{none_front}
use Rattle.acd_book.proofs.SharedLists.{rises_append, every_each, every_upto, within}
use Rattle.acd_desk.proofs.Contents.Steps.{step_stamp, step_event, step_numbers}

-- a content has so many records more, and events, numbered on
pub record Grows (c d : Content) (n : ℕ) : Type 0 where
  pub more : List Kept
  pub reported : List Event
  pub kept : d.kept ≡ c.kept ++ more
  pub events : d.events ≡ c.events ++ reported
  pub kept_rise : Rises stamp_of c.rows.last_stamp more
  pub events_rise : Rises number_of_event c.rows.last_event reported
  pub kept_low : Every (λ (k : Kept). k.stamp ≤ d.rows.last_stamp) more
  pub events_low : Every (λ (e : Event). e.number ≤ d.rows.last_event) reported
  pub stamps : c.rows.last_stamp ≤ d.rows.last_stamp
  pub numbers : c.rows.last_event ≤ d.rows.last_event
  pub few : length more ≤ n

grows_none : (c : Content) (n : ℕ) → Grows c c n
grows_none c n = record {
  more = [];
  reported = [];
  kept = sym (append-nil c.kept);
  events = sym (append-nil c.events);
  kept_rise = tt;
  events_rise = tt;
  kept_low = tt;
  events_low = tt;
  stamps = le_refl c.rows.last_stamp;
  numbers = le_refl c.rows.last_event;
  few = zero_least n;
}

grows_one : (c : Content) (a : Arrival) → Grows c (executed c a) 1
grows_one c a =
    let es : List Event = (stepped c.rows a).events in
    let bare : Content = record { rows = c.rows; events = []; kept = [] } in
    let low : IsCounted (executed bare a) = counted_executed bare a (record { events = tt; kept = tt }) in
    let stamp = step_stamp c.rows a.moment a.request.command in
    let event = step_event c.rows a.moment a.request.command in
    record {
      more = record_of c.rows a ∷ [];
      reported = es;
      kept = refl;
      events = refl;
      kept_rise = (lt-add-one c.rows.last_stamp, tt);
      events_rise = going_rises c.rows.last_event es (step_numbers c.rows a.moment a.request.command);
      kept_low = low.kept;
      events_low = low.events;
      stamps = omega (arith, stamp);
      numbers = omega (arith, event);
      few = le_refl 1;
    }

grows_then : (c d e : Content) (n m : ℕ) → Grows c d n → Grows d e m → Grows c e (n + m)
grows_then c d e n m one two =
    let long = length-append one.more two.more in
    let few = one.few in
    let few_more = two.few in
    record {
      more = one.more ++ two.more;
      reported = one.reported ++ two.reported;
      kept = two.kept ∙ ap (λ (l : List Kept). l ++ two.more) one.kept ∙ append_assoc c.kept one.more two.more;
      events = two.events ∙ ap (λ (l : List Event). l ++ two.reported) one.events ∙ append_assoc c.events one.reported two.reported;
      kept_rise = rises_append stamp_of c.rows.last_stamp d.rows.last_stamp one.more two.more one.stamps one.kept_rise one.kept_low two.kept_rise;
      events_rise = rises_append number_of_event c.rows.last_event d.rows.last_event one.reported two.reported one.numbers one.events_rise one.events_low two.events_rise;
      kept_low = every-append (λ (k : Kept). k.stamp ≤ e.rows.last_stamp) one.more two.more (every_upto stamp_of d.rows.last_stamp e.rows.last_stamp one.more two.stamps one.kept_low) two.kept_low;
      events_low = every-append (λ (x : Event). x.number ≤ e.rows.last_event) one.reported two.reported (every_upto number_of_event d.rows.last_event e.rows.last_event one.reported two.numbers one.events_low) two.events_low;
      stamps = within c.rows.last_stamp d.rows.last_stamp e.rows.last_stamp one.stamps two.stamps;
      numbers = within c.rows.last_event d.rows.last_event e.rows.last_event one.numbers two.numbers;
      few = omega (arith, long, few, few_more);
    }

-- an arrival changes nothing, or it is executed: its key is new, and a request is left
pub after_cases : (c : Content) (a : Arrival) → (after c a ≡ c) ⊎ ((after c a ≡ executed c a) × (kept_of c.kept a.request.requester a.request.invoke ≡ None) × (c.rows.last_stamp < c.rows.limits.requests))
after_cases c a =
    let Does : Content → Type 0 = λ (d : Content). (d ≡ c) ⊎ ((d ≡ executed c a) × (kept_of c.kept a.request.requester a.request.invoke ≡ None) × (c.rows.last_stamp < c.rows.limits.requests)) in
    let P : Bool → Bool → Type 0 = λ x y. is_some (kept_of c.kept a.request.requester a.request.invoke) ≡ x → nat_lt c.rows.last_stamp c.rows.limits.requests ≡ y → Does (cond x c (cond y (executed c a) c)) in
    let cases : (x y : Bool) → P x y
    = λ x. elim x as (λ x. (y : Bool) → P x y) [
      | true ↦ λ y old room. inl refl
      | false ↦ λ y. elim y as (λ y. P false y) [
        | true ↦ λ new room. inr (refl, none_of (kept_of c.kept a.request.requester a.request.invoke) new, ltb-true c.rows.last_stamp c.rows.limits.requests room)
        | false ↦ λ new room. inl refl
      ]
    ] in
    cases (is_some (kept_of c.kept a.request.requester a.request.invoke)) (nat_lt c.rows.last_stamp c.rows.limits.requests) refl refl

grows_room : (c d : Content) (n m : ℕ) → n ≤ m → Grows c d n → Grows c d m
grows_room c d n m le g = record {
  more = g.more;
  reported = g.reported;
  kept = g.kept;
  events = g.events;
  kept_rise = g.kept_rise;
  events_rise = g.events_rise;
  kept_low = g.kept_low;
  events_low = g.events_low;
  stamps = g.stamps;
  numbers = g.numbers;
  few = within (length g.more) n m g.few le;
}

pub led_grows : (c : Content) (l : List Arrival) → Grows c (led c l) (length l)
led_grows c [] = grows_none c 0
led_grows c (a ∷ l) =
    let rest : Grows (after c a) (led (after c a) l) (length l) = led_grows (after c a) l in
    elim (after_cases c a) [
      | inl same ↦ grows_room c (led (after c a) l) (length l) (length (a ∷ l)) (omega arith) (subst (λ (d : Content). Grows d (led (after c a) l) (length l)) same rest)
      | inr does ↦ grows_room c (led (after c a) l) (1 + length l) (length (a ∷ l)) (omega arith)
          (grows_then c (executed c a) (led (after c a) l) 1 (length l) (grows_one c a) (subst (λ (d : Content). Grows d (led (after c a) l) (length l)) does.0 rest))
    ]

pub led_append : (c : Content) (l m : List Arrival) → led c (l ++ m) ≡ led (led c l) m
led_append c [] m = refl
led_append c (a ∷ l) m = led_append (after c a) l m

-- its counters stay up to its records
pub led_counted : (l : List Arrival) (c : Content) → IsCounted c → IsCounted (led c l)
led_counted [] c h = h
led_counted (a ∷ l) c h =
    led_counted l (after c a) (elim (after_cases c a) [ inl same ↦ subst IsCounted (sym same) h | inr does ↦ subst IsCounted (sym does.0) (counted_executed c a h) ])

-- where each arrival adds a record, none has a key that was there before
pub all_new : (c : Content) (l : List Arrival) (more : List Kept) → (led c l).kept ≡ c.kept ++ more → length l ≤ length more → Every (λ (a : Arrival). kept_of c.kept a.request.requester a.request.invoke ≡ None) l
all_new c [] more is long = tt
all_new c (a ∷ l) more is long =
    elim (after_cases c a) [
      | inl same ↦
          let grown : Grows c (led (after c a) l) (length l) = subst (λ (d : Content). Grows d (led (after c a) l) (length l)) same (led_grows (after c a) l) in
          let all : grown.more ≡ more = append_cancel_left c.kept grown.more more (sym grown.kept ∙ is) in
          absurd (too_few a l more (subst (λ (ks : List Kept). length ks ≤ length l) all grown.few) long)
      | inr does ↦
          let grown : Grows (executed c a) (led (after c a) l) (length l) = subst (λ (d : Content). Grows d (led (after c a) l) (length l)) does.0 (led_grows (after c a) l) in
          let all : record_of c.rows a ∷ grown.more ≡ more
          = append_cancel_left c.kept (record_of c.rows a ∷ grown.more) more (sym (grown.kept ∙ append_assoc c.kept (record_of c.rows a ∷ []) grown.more) ∙ is) in
          let rest : Every (λ (x : Arrival). kept_of (executed c a).kept x.request.requester x.request.invoke ≡ None) l
          = all_new (executed c a) l grown.more (ap (λ (d : Content). (led d l).kept) (sym does.0) ∙ grown.kept)
          (fewer a (record_of c.rows a) l grown.more (subst (λ (ks : List Kept). length (a ∷ l) ≤ length ks) (sym all) long)) in (
            does.1,
            every_each (λ (x : Arrival). kept_of (executed c a).kept x.request.requester x.request.invoke ≡ None) (λ (x : Arrival). kept_of c.kept x.request.requester x.request.invoke ≡ None) l
                (λ x none. none_front c.kept (record_of c.rows a ∷ []) x.request.requester x.request.invoke none) rest,
          )
    ]
  where
    too_few : (a : Arrival) (l : List Arrival) (more : List Kept) → length more ≤ length l → length (a ∷ l) ≤ length more → ⊥
    too_few a l more few long = omega (arith, few, long)

    fewer : (a : Arrival) (k : Kept) (l : List Arrival) (more : List Kept) → length (a ∷ l) ≤ length (k ∷ more) → length l ≤ length more
    fewer a k l more long = omega (arith, long)
