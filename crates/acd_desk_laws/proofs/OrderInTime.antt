-- A sound content keeps to time, also where an archive has its older records.
use Rattle.std.proofs.Common.{◌≡◌, ℕ, ◌+◌, ◌≤◌, List, [], ◌∷◌, ◌++◌, length, max, Option, Some, None, refl, sym, subst, ◌∙◌, arith}
use Rattle.std.proofs.Math.Nat.{le_refl}
use Rattle.std.proofs.lemmas.List.{length-append}
use Rattle.acd_terms.specs.Lists.{Every}
use Rattle.acd_terms.specs.declared.rows.Rows.{Rows}
use Rattle.acd_terms.specs.declared.command.Arrival.{Arrival}
use Rattle.acd_terms.specs.declared.command.Command.{Command}
use Rattle.acd_terms.specs.declared.event.Event.{Event}
use Rattle.acd_terms.specs.declared.event.Report.{Report}
use Rattle.acd_model.specs.Moves.{events_of, with_event}
use Rattle.acd_model.specs.Services.Serve.{serve}
use Rattle.acd_model.specs.Step.{step, step_moves, numbered, executed_moment, next_turn}
use Rattle.acd_model.specs.declared.moves.Move.{Move}
use Rattle.acd_lemmas.proofs.Lists.{every-append}
use Rattle.acd_switch.proofs.RoomOfRules.{moment_after}
use Rattle.acd_book.specs.declared.kept.Kept.{Kept}
use Rattle.acd_book.specs.Content.{Content, empty_content, GoOn}
use Rattle.acd_book.specs.Memory.{stamp_of, number_of_event}
use Rattle.acd_book.specs.Order.{IsOrdered}
use Rattle.acd_desk.specs.Contents.AbstractDesk.{stepped, record_of, executed, run_from, firsts}
use Rattle.acd_desk.specs.Contents.SoundContent.{IsSound, arrivals_of}
use Rattle.acd_desk.specs.Contents.CarriedContent.{Archive, together}
use Rattle.acd_desk.specs.Audits.AuditWith.{Ascends, StandsInTime}
use Rattle.acd_desk.proofs.Replays.AuditLaws.{sound_ordered, zero_least}
use Rattle.acd_desk.proofs.Contents.OlderRecords.{counted_alone}
use Rattle.acd_desk.proofs.Archives.CleanCuts.{ascends_lower, ascends_back}
use Rattle.acd_book.proofs.SharedLists.{every_upto, rises_back}
use Rattle.acd_desk.proofs.Contents.Steps.{step_event, step_numbers}

-- ---- a step ----

event_at : (m : ℕ) (report : Option Report) (es : List Event) → Every (λ (e : Event). e.moment ≡ m) es → Every (λ (e : Event). e.moment ≡ m) (with_event m report es)
event_at m None es h = h
event_at m (Some report) es h = (refl, h)

events_at : (m : ℕ) (moves : List Move) → Every (λ (e : Event). e.moment ≡ m) (events_of m moves)
events_at m [] = tt
events_at m (move ∷ moves) = event_at m move.report (events_of m moves) (events_at m moves)

numbered_at : (m n : ℕ) (es : List Event) → Every (λ (e : Event). e.moment ≡ m) es → Every (λ (e : Event). e.moment ≡ m) (numbered n es)
numbered_at m n [] h = tt
numbered_at m n (e ∷ es) h = (h.0, numbered_at m (n + 1) es h.1)

step_events_at : (s : Rows) (m : ℕ) (c : Command) → Every (λ (e : Event). e.moment ≡ executed_moment s m) (step s m c).events
unfolding step
step_events_at s m c =
    numbered_at (executed_moment s m) s.last_event (events_of (executed_moment s m) (step_moves s (executed_moment s m) (serve s (next_turn s m) c)))
    (events_at (executed_moment s m) (step_moves s (executed_moment s m) (serve s (next_turn s m) c)))

-- ---- lists ----

ascends_both : {T : Type 0} (f : T → ℕ) (m top : ℕ) (xs ys : List T) → m ≤ top → Ascends f m xs → Every (λ (x : T). f x ≤ top) xs → Ascends f top ys → Ascends f m (xs ++ ys)
ascends_both f m top [] ys le h low more = ascends_lower f m top ys le more
ascends_both f m top (x ∷ xs) ys le h low more = (h.0, ascends_both f (f x) top xs ys low.0 h.1 low.1 more)

level_ascends : (m last : ℕ) (es : List Event) → last ≤ m → Every (λ (e : Event). e.moment ≡ m) es → Ascends (λ (e : Event). e.moment) last es
level_ascends m last [] le h = tt
level_ascends m last (e ∷ es) le h = (subst (λ (n : ℕ). last ≤ n) (sym h.0) le, level_ascends m e.moment es (subst (λ (n : ℕ). n ≤ m) (sym h.0) (le_refl m)) h.1)

level_low : (m : ℕ) (es : List Event) → Every (λ (e : Event). e.moment ≡ m) es → Every (λ (e : Event). e.moment ≤ m) es
level_low m [] h = tt
level_low m (e ∷ es) h = (subst (λ (n : ℕ). n ≤ m) (sym h.0) (le_refl m), level_low m es h.1)

go_both : (n : ℕ) (xs ys : List Event) → GoOn n xs → GoOn (n + length xs) ys → GoOn n (xs ++ ys)
go_both n [] ys one two = subst (λ (k : ℕ). GoOn k ys) (omega arith) two
go_both n (x ∷ xs) ys one two = (one.0, go_both (n + 1) xs ys one.1 (subst (λ (k : ℕ). GoOn k ys) (omega arith) two))

go_back : (n : ℕ) (xs ys : List Event) → GoOn n (xs ++ ys) → GoOn (n + length xs) ys
go_back n [] ys go = subst (λ (k : ℕ). GoOn k ys) (omega arith) go
go_back n (x ∷ xs) ys go = subst (λ (k : ℕ). GoOn k ys) (omega arith) (go_back (n + 1) xs ys go.1)

-- ---- a run ----

record InTime (c : Content) : Type 0 where
  kept : Ascends (λ (k : Kept). k.moment) 0 c.kept
  kept_low : Every (λ (k : Kept). k.moment ≤ c.rows.last_moment) c.kept
  events : Ascends (λ (e : Event). e.moment) 0 c.events
  events_low : Every (λ (e : Event). e.moment ≤ c.rows.last_moment) c.events
  go_on : GoOn 0 c.events
  up_to : length c.events ≡ c.rows.last_event

executed_in_time : (c : Content) (a : Arrival) → InTime c → InTime (executed c a)
executed_in_time c a h =
    let m : ℕ = executed_moment c.rows a.moment in
    let es : List Event = (stepped c.rows a).events in
    let is : (stepped c.rows a).rows.last_moment ≡ m = moment_after c.rows a.moment a.request.command in
    let later : c.rows.last_moment ≤ m = greater a.moment c.rows.last_moment in
    let level : Every (λ (e : Event). e.moment ≡ m) es = step_events_at c.rows a.moment a.request.command in
    let event = step_event c.rows a.moment a.request.command in
    let long = length-append c.events es in
    let up = h.up_to in
    record {
      kept = ascends_both (λ (k : Kept). k.moment) 0 c.rows.last_moment c.kept (record_of c.rows a ∷ []) (zero_least c.rows.last_moment) h.kept h.kept_low (later, tt);
      kept_low = subst (λ (n : ℕ). Every (λ (k : Kept). k.moment ≤ n) (c.kept ++ record_of c.rows a ∷ [])) (sym is)
          (every-append (λ (k : Kept). k.moment ≤ m) c.kept (record_of c.rows a ∷ []) (every_upto (λ (k : Kept). k.moment) c.rows.last_moment m c.kept later h.kept_low) (le_refl m, tt));
      events = ascends_both (λ (e : Event). e.moment) 0 c.rows.last_moment c.events es (zero_least c.rows.last_moment) h.events h.events_low (level_ascends m c.rows.last_moment es later level);
      events_low = subst (λ (n : ℕ). Every (λ (e : Event). e.moment ≤ n) (c.events ++ es)) (sym is)
          (every-append (λ (e : Event). e.moment ≤ m) c.events es (every_upto (λ (e : Event). e.moment) c.rows.last_moment m c.events later h.events_low) (level_low m es level));
      go_on = go_both 0 c.events es h.go_on (subst (λ (n : ℕ). GoOn n es) (sym up ∙ plain (length c.events)) (step_numbers c.rows a.moment a.request.command));
      up_to = omega (arith, long, up, event);
    }
  where
    greater : (m last : ℕ) → last ≤ max m last
    greater m last = omega arith

    plain : (n : ℕ) → n ≡ 0 + n
    plain n = omega arith

run_in_time : (l : List Arrival) (c : Content) → InTime c → InTime (run_from c l)
run_in_time [] c h = h
run_in_time (a ∷ l) c h = run_in_time l (executed c a) (executed_in_time c a h)

sound_in_time : (c : Content) → IsSound c → InTime c
sound_in_time c sound =
    subst InTime (sym sound.replays)
    (run_in_time (firsts c.rows.limits.requests (arrivals_of c.kept)) (empty_content c.rows.limits)
    (record { kept = tt; kept_low = tt; events = tt; events_low = tt; go_on = tt; up_to = refl }))

pub stands_in_time : (p : Archive) (a : Content) → IsSound (together p a) → StandsInTime a
stands_in_time p a sound =
    let whole : InTime (together p a) = sound_in_time (together p a) sound in
    let ordered : IsOrdered (together p a) = sound_ordered (together p a) sound in
    let long = length-append p.events a.events in
    let up = whole.up_to in
    record {
      ordered = record { kept = rises_back stamp_of 0 p.kept a.kept ordered.kept; events = rises_back number_of_event 0 p.events a.events ordered.events };
      counted = counted_alone p a sound;
      numbered = record { before = 0 + length p.events; go_on = go_back 0 p.events a.events whole.go_on; up_to = omega (arith, long, up) };
      kept = ascends_back (λ (k : Kept). k.moment) 0 p.kept a.kept whole.kept;
      events = ascends_back (λ (e : Event). e.moment) 0 p.events a.events whole.events;
    }
