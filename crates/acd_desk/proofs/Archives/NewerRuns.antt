-- The newer requests of a content run again from its archive's state on.
use Rattle.std.proofs.Common.{◌≡◌, ℕ, ◌≤◌, List, [], ◌∷◌, ◌++◌, length, take, drop, refl, sym, ap, subst, ◌∙◌, arith, append_assoc, append-nil, None, option_map, inl, inr, take-append-drop}
use Rattle.std.proofs.Math.Seq.{take-append_seam}
use Rattle.std.proofs.lemmas.List.{append_cancel_left}
use Rattle.acd_terms.specs.Lists.{Every}
use Rattle.acd_terms.specs.declared.rows.Rows.{Rows}
use Rattle.acd_terms.specs.declared.event.Event.{Event}
use Rattle.acd_terms.specs.declared.command.Arrival.{Arrival}
use Rattle.acd_lemmas.proofs.Lists.{head_is}
use Rattle.acd_book.specs.declared.kept.Kept.{Kept}
use Rattle.acd_book.specs.Content.{Content, kept_of, events_after, IsCounted}
use Rattle.acd_book.specs.Memory.{stamp_of, number_of_event}
use Rattle.acd_book.specs.Order.{Rises}
use Rattle.acd_book.proofs.EventsAbove.{left_after}
use Rattle.acd_desk.specs.declared.seen_keys.SeenKeys.{SeenKeys}
use Rattle.acd_desk.specs.Contents.AbstractDesk.{stepped, record_of, executed}
use Rattle.acd_desk.specs.Contents.Replies.{after}
use Rattle.acd_desk.specs.Contents.SoundContent.{arrivals_of}
use Rattle.acd_desk.specs.Contents.AnyContent.{led}
use Rattle.acd_desk.specs.Contents.KeyPlaces.{IsSeenKey}
use Rattle.acd_desk.specs.Audits.Replay.{HasRoom, again, IsFirstOfKey, Matches}
use Rattle.acd_desk.specs.Contents.WithArchive.{IsLedFrom}
use Rattle.acd_desk.specs.Audits.AuditWith.{HoldsArchive, RunsOn}
use Rattle.acd_desk.proofs.Replays.Audits.{rises_after, same_content, unkept_before}
use Rattle.acd_desk.proofs.Contents.CountersBound.{counted_executed}
use Rattle.acd_desk.proofs.Replays.ReplayStates.{none_of_new}
use Rattle.acd_desk.proofs.Contents.AddedRecords.{Grows, after_cases, led_grows, led_append}
use Rattle.acd_desk.proofs.Contents.RunsOfAnyContent.{led_push}
use Rattle.acd_desk.proofs.Archives.CarriedPart.{kept_whole, carried_low, carried_events_low, carried_rows, carried_counted, Newer, led_newer}
use Rattle.acd_desk.proofs.Archives.LookUps.{none_front, none_rest, none_in_both, first_record}
use Rattle.acd_desk.proofs.Contents.Runs.{executes}
use Rattle.acd_book.proofs.SharedLists.{none_first, rises_append, split_once}
use Rattle.acd_desk.proofs.Contents.SoundRuns.{arrivals_append, length-arrivals}
use Rattle.acd_desk.proofs.Contents.Steps.{step_stamp, step_event, step_numbers}

-- ---- it starts, continues and ends ----

pub runs_start : (a c : Content) (h : HoldsArchive a c) → IsCounted a → (s : RunsOn a c h.carried h.kept_left h.events_left) × (s.newer ≡ [])
runs_start a c h counted =
    let rows : a.rows ≡ h.carried.rows = sym (carried_rows a h.left h.carried h.cut) in (
      record {
        left = h.left;
        carried = h.carried;
        cut = h.cut;
        newer = [];
        ran = sym (append-nil h.carried.kept);
        made = refl;
        kept = h.kept;
        events = h.events;
        counted = carried_counted a h.left h.carried h.cut counted;
        kept_rise = subst (λ (s : Rows). Rises stamp_of s.last_stamp h.kept_left) rows h.kept_rise;
        events_rise = subst (λ (s : Rows). Rises number_of_event s.last_event h.events_left) rows h.events_rise;
      },
      refl,
    )

-- the events after those of a run, as a book reads them
pub read_newer : (a c r : Content) (kl : List Kept) (el : List Event) (n : ℕ) → RunsOn a c r kl el → events_after c.events r.rows.last_event n ≡ take n el
read_newer a c r kl el n s =
    ap (λ (l : List Event). events_after l r.rows.last_event n) s.events ∙ left_after r.rows.last_event n r.events el s.counted.events s.events_rise

-- the key of a record that matches is new
unkept : (a c r : Content) (k : Kept) (tail : List Kept) (el : List Event) → RunsOn a c r (k ∷ tail) el → Matches c r.rows k
    → kept_of r.kept k.request.requester k.request.invoke ≡ None
unkept a c r k tail el s m = unkept_before c.kept r.kept tail k r.rows.last_stamp s.kept s.counted.kept (ap (λ (x : Kept). x.stamp) m.kept) m.first

-- so it isn't that of a carried record
pub carried_none : (a c r : Content) (k : Kept) (tail : List Kept) (el : List Event) (s : RunsOn a c r (k ∷ tail) el) → Matches c r.rows k
    → kept_of s.carried.kept k.request.requester k.request.invoke ≡ None
carried_none a c r k tail el s m =
    none_front s.carried.kept s.newer k.request.requester k.request.invoke
    (ap (λ (l : List Kept). kept_of l k.request.requester k.request.invoke) (sym s.ran) ∙ unkept a c r k tail el s m)

pub runs_next : (a c r : Content) (k : Kept) (tail : List Kept) (el : List Event) (s : RunsOn a c r (k ∷ tail) el) → Matches c r.rows k → HasRoom r.rows
    → (t : RunsOn a c (executed r (again k)) tail (drop (length (stepped r.rows (again k)).events) el)) × (t.newer ≡ s.newer ++ k ∷ []) × (t.left ≡ s.left)
runs_next a c r k tail el s m room =
    let x : Arrival = again k in
    let evs : List Event = (stepped r.rows x).events in
    let mine : r.kept ++ k ∷ [] ≡ r.kept ++ record_of r.rows x ∷ [] = ap (λ (y : Kept). r.kept ++ y ∷ []) m.kept in
    let stamp = step_stamp r.rows x.moment x.request.command in
    let event = step_event r.rows x.moment x.request.command in
    let left : el ≡ evs ++ drop (length evs) el
    = sym (take-append-drop (length evs) el) ∙ ap (λ (l : List Event). l ++ drop (length evs) el)
    (sym (read_newer a c r (k ∷ tail) el (length evs) s) ∙ m.events) in
    let is_stamp : k.stamp ≡ (stepped r.rows x).rows.last_stamp = ap (λ (y : Kept). y.stamp) m.kept ∙ sym stamp in (
      record {
        left = s.left;
        carried = s.carried;
        cut = s.cut;
        newer = s.newer ++ k ∷ [];
        ran = sym mine ∙ ap (λ (l : List Kept). l ++ k ∷ []) s.ran ∙ append_assoc s.carried.kept s.newer (k ∷ []);
        made = sym (executes r x (unkept a c r k tail el s m) room) ∙ ap (λ (d : Content). after d x) s.made ∙ led_push s.carried (arrivals_of s.newer) x
            ∙ ap (led s.carried) (sym (arrivals_append s.newer (k ∷ [])));
        kept = s.kept ∙ sym (append_assoc r.kept (k ∷ []) tail) ∙ ap (λ (l : List Kept). l ++ tail) mine;
        events = s.events ∙ ap (λ (l : List Event). r.events ++ l) left ∙ sym (append_assoc r.events evs (drop (length evs) el));
        counted = counted_executed r x s.counted;
        kept_rise = subst (λ (n : ℕ). Rises stamp_of n tail) is_stamp s.kept_rise.1;
        events_rise = subst (λ (n : ℕ). Rises number_of_event n (drop (length evs) el)) (sym event)
            (rises_after r.rows.last_event evs (drop (length evs) el) (step_numbers r.rows x.moment x.request.command)
            (subst (Rises number_of_event r.rows.last_event) left s.events_rise));
      },
      refl,
      refl,
    )

-- all are replayed, no event is left, and the tables are these
pub runs_led : (a c r : Content) (el : List Event) (s : RunsOn a c r [] el) → events_after c.events r.rows.last_event 1 ≡ [] → c.rows ≡ r.rows
    → (goes : IsLedFrom a c) × (goes.newer ≡ s.newer) × (goes.left ≡ s.left)
runs_led a c r el s none rows =
    let no_event : el ≡ [] = none_first el (sym (read_newer a c r [] el 1 s) ∙ none) in
    let same : c ≡ r = same_content c r rows (s.events ∙ ap (λ (l : List Event). r.events ++ l) no_event ∙ append-nil r.events) (s.kept ∙ append-nil r.kept) in
    let goes : IsLedFrom a c
    = record { left = s.left; carried = s.carried; cut = s.cut; newer = s.newer; kept = ap (λ (x : Content). x.kept) same ∙ s.ran; made = same ∙ s.made } in
    (goes, refl, refl)

-- ---- a content that is led from the carried part holds the archive, and continues so ----

abbrev pub led_holds : (a c : Content) (goes : IsLedFrom a c) → HoldsArchive a c
led_holds a c goes =
    let new : Newer a c goes = led_newer a c goes in
    record {
      left = goes.left;
      carried = goes.carried;
      cut = goes.cut;
      kept_left = goes.newer;
      events_left = new.reported;
      kept = goes.kept;
      events = new.events;
      kept_rise = new.kept_rise;
      events_rise = new.events_rise;
    }

-- what is left of its requests makes it of a run of the first newer ones
rest_led : (a c r : Content) (kl : List Kept) (el : List Event) (s : RunsOn a c r kl el) (goes : IsLedFrom a c) → IsCounted a → c ≡ led r (arrivals_of kl)
rest_led a c r kl el s goes counted =
    let new : Newer a c goes = led_newer a c goes in
    let made : Content = led s.carried (arrivals_of s.newer) in
    let grown : Grows s.carried made (length (arrivals_of s.newer)) = led_grows s.carried (arrivals_of s.newer) in
    let rows : r.rows ≡ made.rows = ap (λ (x : Content). x.rows) s.made in
    let first_rows : s.carried.rows ≡ a.rows = carried_rows a s.left s.carried s.cut in
    let more : grown.more ≡ s.newer
    = append_cancel_left s.carried.kept grown.more s.newer (sym grown.kept ∙ sym (ap (λ (x : Content). x.kept) s.made) ∙ s.ran) in
    -- kept records
    let kept_rise : Rises stamp_of a.rows.last_stamp (s.newer ++ kl)
    = subst (λ (x : Rows). Rises stamp_of x.last_stamp (s.newer ++ kl)) first_rows
    (subst (λ (l : List Kept). Rises stamp_of s.carried.rows.last_stamp (l ++ kl)) more
    (rises_append stamp_of s.carried.rows.last_stamp made.rows.last_stamp grown.more kl grown.stamps grown.kept_rise grown.kept_low
    (subst (λ (x : Rows). Rises stamp_of x.last_stamp kl) rows s.kept_rise))) in
    let kept_once = split_once stamp_of a.rows.last_stamp s.carried.kept (s.newer ++ kl) goes.carried.kept goes.newer
    (sym (append_assoc s.carried.kept s.newer kl) ∙ ap (λ (l : List Kept). l ++ kl) (sym s.ran) ∙ sym s.kept ∙ goes.kept)
    (carried_low a s.left s.carried s.cut counted) (carried_low a goes.left goes.carried goes.cut counted) kept_rise new.kept_rise in
    -- events
    let events_rise : Rises number_of_event a.rows.last_event (grown.reported ++ el)
    = subst (λ (x : Rows). Rises number_of_event x.last_event (grown.reported ++ el)) first_rows
    (rises_append number_of_event s.carried.rows.last_event made.rows.last_event grown.reported el grown.numbers grown.events_rise grown.events_low
    (subst (λ (x : Rows). Rises number_of_event x.last_event el) rows s.events_rise)) in
    let events_once = split_once number_of_event a.rows.last_event s.carried.events (grown.reported ++ el) goes.carried.events new.reported
    (sym (append_assoc s.carried.events grown.reported el) ∙ ap (λ (l : List Event). l ++ el) (sym (ap (λ (x : Content). x.events) s.made ∙ grown.events))
    ∙ sym s.events ∙ new.events)
    (carried_events_low a s.left s.carried s.cut counted) (carried_events_low a goes.left goes.carried goes.cut counted) events_rise new.events_rise in
    let same : s.carried ≡ goes.carried
    = same_content s.carried goes.carried (first_rows ∙ sym (carried_rows a goes.left goes.carried goes.cut)) events_once.0 kept_once.0 in
    goes.made ∙ ap (λ (x : Content). led x (arrivals_of goes.newer)) (sym same) ∙ ap (λ (l : List Kept). led s.carried (arrivals_of l)) (sym kept_once.1)
    ∙ ap (led s.carried) (arrivals_append s.newer kl) ∙ led_append s.carried (arrivals_of s.newer) (arrivals_of kl)
    ∙ ap (λ (x : Content). led x (arrivals_of kl)) (sym s.made)

-- so the next record is what its request gives
pub led_matches : (a c r : Content) (k : Kept) (tail : List Kept) (el : List Event) (s : RunsOn a c r (k ∷ tail) el) (goes : IsLedFrom a c) → IsCounted a
    → Matches c r.rows k × HasRoom r.rows
led_matches a c r k tail el s goes counted =
    let x : Arrival = again k in
    let p : List ℕ = k.request.requester in
    let q : ℕ = k.request.invoke in
    let evs : List Event = (stepped r.rows x).events in
    let all : c ≡ led (after r x) (arrivals_of tail) = rest_led a c r (k ∷ tail) el s goes counted in
    let kept : (led (after r x) (arrivals_of tail)).kept ≡ r.kept ++ k ∷ tail = ap (λ (e : Content). e.kept) (sym all) ∙ s.kept in
    let events : (led (after r x) (arrivals_of tail)).events ≡ r.events ++ el = ap (λ (e : Content). e.events) (sym all) ∙ s.events in
    let Goal : Type 0 = Matches c r.rows k × HasRoom r.rows in
    elim (after_cases r x) as (λ h. Goal) [
      | inl same ↦
          let grown : Grows r (led (after r x) (arrivals_of tail)) (length (arrivals_of tail))
          = subst (λ (e : Content). Grows e (led (after r x) (arrivals_of tail)) (length (arrivals_of tail))) same (led_grows (after r x) (arrivals_of tail)) in
          let more : grown.more ≡ k ∷ tail = append_cancel_left r.kept grown.more (k ∷ tail) (sym grown.kept ∙ kept) in
          absurd (too_few k tail (length (arrivals_of tail)) (subst (λ (l : List Kept). length l ≤ length (arrivals_of tail)) more grown.few)
          (length-arrivals tail))
      | inr does ↦
          let grown : Grows (executed r x) (led (after r x) (arrivals_of tail)) (length (arrivals_of tail))
          = subst (λ (e : Content). Grows e (led (after r x) (arrivals_of tail)) (length (arrivals_of tail))) does.0
          (led_grows (after r x) (arrivals_of tail)) in
          let more : record_of r.rows x ∷ grown.more ≡ k ∷ tail
          = append_cancel_left r.kept (record_of r.rows x ∷ grown.more) (k ∷ tail)
          (sym (grown.kept ∙ append_assoc r.kept (record_of r.rows x ∷ []) grown.more) ∙ kept) in
          let reported : evs ++ grown.reported ≡ el
          = append_cancel_left r.events (evs ++ grown.reported) el (sym (grown.events ∙ append_assoc r.events evs grown.reported) ∙ events) in (
            record {
              kept = sym (head_is (record_of r.rows x) k grown.more tail more);
              first = ap (option_map stamp_of) (ap (λ (l : List Kept). kept_of l p q) s.kept ∙ first_record r.kept tail k does.1);
              events = read_newer a c r (k ∷ tail) el (length evs) s ∙ ap (take (length evs)) (sym reported) ∙ take-append_seam evs grown.reported;
            },
            does.2,
          )
    ]
  where
    too_few : (k : Kept) (tail : List Kept) (n : ℕ) → length (k ∷ tail) ≤ n → n ≡ length tail → ⊥
    too_few k tail n le is = omega (arith, le, is)

-- where nothing is left of its requests, nothing else is
pub led_ends : (a c r : Content) (el : List Event) (s : RunsOn a c r [] el) (goes : IsLedFrom a c) → IsCounted a
    → (events_after c.events r.rows.last_event 1 ≡ []) × (c.rows ≡ r.rows)
led_ends a c r el s goes counted =
    let all : c ≡ r = rest_led a c r [] el s goes counted in
    let none : el ≡ [] = append_cancel_left r.events el [] (sym s.events ∙ ap (λ (e : Content). e.events) all ∙ sym (append-nil r.events)) in
    (read_newer a c r [] el 1 s ∙ ap (take 1) none, ap (λ (e : Content). e.rows) all)

-- a run never goes past the archive's last stamp
pub runs_above : (a c r : Content) (kl : List Kept) (el : List Event) → RunsOn a c r kl el → a.rows.last_stamp ≤ r.rows.last_stamp
runs_above a c r kl el s =
    subst (λ (x : Rows). a.rows.last_stamp ≤ x.last_stamp) (sym (ap (λ (x : Content). x.rows) s.made))
    (subst (λ (x : Rows). x.last_stamp ≤ (led s.carried (arrivals_of s.newer)).rows.last_stamp) (carried_rows a s.left s.carried s.cut)
    (led_grows s.carried (arrivals_of s.newer)).stamps)

-- the next record, where its key was neither seen nor is in the archive, is the first of its key
pub newer_first : (a c r : Content) (k : Kept) (tail kl : List Kept) (el : List Event) (s : RunsOn a c r kl el) → kl ≡ k ∷ tail → (keys : SeenKeys)
    → Every (λ (x : Kept). IsSeenKey keys x.request) s.newer
    → kept_of a.kept k.request.requester k.request.invoke ≡ None → ¬ IsSeenKey keys k.request → IsFirstOfKey c k
newer_first a c r k tail kl el s is keys seen older new =
    let p : List ℕ = k.request.requester in
    let q : ℕ = k.request.invoke in
    let carried : kept_of s.carried.kept p q ≡ None
    = none_rest s.left.kept s.carried.kept p q (ap (λ (l : List Kept). kept_of l p q) (sym (kept_whole a s.left s.carried s.cut)) ∙ older) in
    let none : kept_of r.kept p q ≡ None
    = ap (λ (l : List Kept). kept_of l p q) s.ran ∙ none_in_both s.carried.kept s.newer p q carried (none_of_new keys k.request s.newer seen new) in
    ap (option_map stamp_of) (ap (λ (l : List Kept). kept_of l p q) (s.kept ∙ ap (λ (l : List Kept). r.kept ++ l) is) ∙ first_record r.kept tail k none)
