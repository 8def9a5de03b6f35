-- The place of each call, how often it was cleared and which calls events name: of a state, by each step, and after every run.
use Rattle.std.proofs.Common.{◌≡◌, ℕ, ◌+◌, ◌≤◌, ◌⊎◌, inl, inr, Bool, true, false, ◌&&◌, List, Some, None, refl, sym, ◌∙◌, ap, subst, arith, [], ◌++◌, length, ◌<◌, Option}
use Rattle.std.specs.Prelude.{◌==◌, is_some, is_none, nat_le}
use Rattle.std.proofs.lemmas.Bool.{and_parts, and_from, eqb-true, false_from_ne_true, le-leb, lt-leb}
use Rattle.acd_lemmas.proofs.Words.{Rows, Limits, CallRecord, ConnectionRecord, ConnectionState, Command, Event, Move, Report, count, Among, Every, is_initiated, is_alerting, is_queued, call_of, is_group, is_station, empty_rows, with_last, moved, events_of, is_open, parties_of, initiated_of, open_of}
use Rattle.acd_terms.specs.declared.state.ConnectionState.TheVariants as S
use Rattle.acd_model.specs.CallPlaces.{cleared_by, is_queued_of, is_alerting_of, IsCleared, IsWaiting, IsAtDevices, IsPlaced, clears}
use Rattle.acd_lemmas.proofs.RuleFacts.{Rules, ConnectionRule, IsCaller, StandsAt, two_if}
use Rattle.acd_laws.specs.PlacedLaws.{KeepsClearings, PlacesExclude, NamesNoLaterCall, RunNamesNoLaterCall, RunIsPlaced, IsCallUpTo, clearings}
use Rattle.acd_lemmas.proofs.Lists.{one, every_among, counted, fewer, both_fewer, count_zero}
use Rattle.acd_lemmas.proofs.RuleTests.{zero_or}
use Rattle.acd_model.specs.Figures.{with_figures}
use Rattle.acd_model.specs.Services.Serve.{serve}
use Rattle.acd_model.specs.Step.{step_moves, step, next_turn}
use Rattle.acd_laws.proofs.Offers.DistributionSteps.{Kept}
use Rattle.acd_laws.proofs.Rules.RulesOfSteps.{by_effects}
use Rattle.acd_laws.proofs.Rules.StepEnds.{rules_step, ended, kept_by_run, rules_first, KeptByRules}
use Rattle.acd_laws.proofs.Places.ClearedCalls.{AllCounted, Named, SameCalls, same_clearings, clearings_moved, clearings_numbered, names_moved, names_numbered, counted_effect, counted_regroups, counted_round}
use Rattle.std.proofs.lemmas.Bool.Decides.{leb_tells}
use Rattle.acd_terms.specs.Columns.{columns_of}
use Rattle.acd_terms.specs.declared.event.Report.TheVariants as report
use Rattle.acd_terms.specs.declared.command.Turn.{Turn}

queued_or_alerting : (c : ℕ) (x : ConnectionRecord) → one (is_queued_of c x) + one (is_alerting_of c x) ≤ one (open_of c x)
queued_or_alerting c x = go x.state (x.call == c)
  where
    go : (st : ConnectionState) (b : Bool) → one (b && is_queued st) + one (b && is_alerting st) ≤ one (is_open st && b)
    go S.Queued true = omega arith
    go S.Queued false = omega arith
    go _ true = omega arith
    go _ false = omega arith

-- a connection that isn't queued is at a station or at the caller
at_device : (s : Rows) (x : ConnectionRecord) (k : CallRecord) (st : ConnectionState) → StandsAt s x st → is_queued st ≡ false → call_of s x.call ≡ Some k
    → (x.device ≡ k.caller) ⊎ (is_station s x.device ≡ true)
at_device s x k S.Queued h e q = absurd (cc (e))
at_device s x k S.Initiated h e q = inr h.0
at_device s x k S.Connected (inl h) e q = inr h
at_device s x k S.Connected (inr h) e q = inl (sym (subst (λ o. IsCaller o x.device) q h.1))
at_device s x k _ h e q = inr h

at_queue : (s : Rows) (x : ConnectionRecord) (st : ConnectionState) → StandsAt s x st → is_queued st ≡ true → is_group s x.device ≡ true
at_queue s x S.Queued h e = h
at_queue s x _ h e = absurd (cc (e))

-- a live call waits in one queue, or is at devices
placed_live : (s : Rows) (events : List Event) (c : ℕ) (k : CallRecord) → Rules s → call_of s c ≡ Some k → cleared_by c events ≡ 0
    → IsWaiting s events c ⊎ IsAtDevices s events c
placed_live s events c k r live never =
    let open_le = r.one_open c in
    let both = both_fewer (is_queued_of c) (is_alerting_of c) (open_of c) (queued_or_alerting c) s.connections in
    let rule : (x : ConnectionRecord) → Among x s.connections → ConnectionRule s x = λ x a. every_among (ConnectionRule s) s.connections x r.connections a in
    elim (zero_or (count (is_queued_of c) s.connections)) [
      | inr m ↦ inl (record {
        live = k;
        there = live;
        never = never;
        once = omega (arith, m, both, open_le);
        at_group = λ x a e. at_queue s x x.state (rule x a).2 (and_parts (x.call == c) (is_queued x.state) e).1;
        silent = omega (arith, m, both, open_le);
      })
      | inl z ↦ inr (record {
        live = k;
        there = live;
        never = never;
        some =
            let p = r.parties c in
            let f = fewer (initiated_of c) (parties_of c) (λ w h. (and_parts (is_initiated w.state) (w.call == c) h).1) s.connections in
            let t : two_if (is_some (call_of s c)) ≡ 2 = rw live refl in
            omega (arith, p, f, t);
        none_queued = z;
        at_devices = λ x a q.
            let same : x.call ≡ c = eqb-true x.call c q in
            at_device s x k x.state (rule x a).2
            (false_from_ne_true (is_queued x.state)
            (λ e. let n = counted (is_queued_of c) s.connections x a (and_from (x.call == c) (is_queued x.state) q e) in omega (arith, n, z)))
            (ap (call_of s) same ∙ live);
      })
    ]

pub placed_from : (s : Rows) (events : List Event) → Rules s → KeepsClearings s events → IsPlaced s events
placed_from s events r h c pos le =
    (elim (call_of s c) as (λ o. call_of s c ≡ o → cleared_by c events ≡ one (nat_le c s.last_call && is_none o)
    → IsCleared s events c ⊎ IsWaiting s events c ⊎ IsAtDevices s events c) [
      | None ↦ λ e q. inl (record { ended = e; once = q ∙ rw (le-leb c s.last_call le) refl })
      | Some k ↦ λ e q. inr (placed_live s events c k r e (q ∙ none_if (nat_le c s.last_call)))
    ]) refl (h c pos)
  where
    none_if : (b : Bool) → one (b && false) ≡ 0
    none_if true = refl
    none_if false = refl

-- the three ways exclude one another
pub places_exclude : PlacesExclude
places_exclude s events c =
    (λ a b. cc (a.ended, b.there), λ a b. cc (a.ended, b.there), λ a b. let e = a.once in let z = b.none_queued in absurd (omega (arith, e, z)))

-- a property that counted moves keep, effects and rounds keep, and so a step's moves
moves_keep : (P : Rows → List Event → Type 0) (turn : Turn)
    → ((s : Rows) (es : List Event) (ms : List Move) → AllCounted s ms → P s es → Kept P turn.moment s es ms)
    → (s : Rows) (es : List Event) (c : Command) → Rules s → P s es → Kept P turn.moment s es (step_moves s turn.moment (serve s turn c))
moves_keep P turn f s es c r h =
    by_effects P turn c (λ _ v fs ms d rv p. f v fs ms (counted_effect v turn ms d rv) p) (λ v fs ms d rv p. f v fs ms (counted_regroups v c ms d) p)
    (λ v fs ms d rv p. f v fs ms (counted_round v turn ms d rv) p) s es r h

-- the end of a step sets figures and counters: calls stay
calls_ended : (t : Rows) (es : List Event) (k m n : ℕ) → SameCalls t (ended t es k m n)
unfolding with_last with_figures
calls_ended t es k m n = (refl, refl)

pub step_names_no_later_call : KeptByRules NamesNoLaterCall
unfolding step
step_names_no_later_call s events moment command r h =
    let turn : Turn = next_turn s moment in
    let ms : List Move = step_moves s turn.moment (serve s turn command) in
    let es : List Event = events_of turn.moment ms in
    let t : Rows = moved s ms in
    let same = calls_ended t es turn.stamp turn.moment (s.last_event + length es) in
    let kept : NamesNoLaterCall t (events ++ es) = moves_keep NamesNoLaterCall turn (names_moved turn.moment) s events command r h in
    names_numbered (ended t es turn.stamp turn.moment (s.last_event + length es)).last_call events es s.last_event
    (subst (λ (l : ℕ). Every (Named l) (events ++ es)) (sym same.1) kept)

pub step_keeps_clearings : KeptByRules KeepsClearings
unfolding step
step_keeps_clearings s events moment command r h n p =
    let turn : Turn = next_turn s moment in
    let ms : List Move = step_moves s turn.moment (serve s turn command) in
    let es : List Event = events_of turn.moment ms in
    let t : Rows = moved s ms in
    let same = calls_ended t es turn.stamp turn.moment (s.last_event + length es) in
    let kept : KeepsClearings t (events ++ es) = moves_keep KeepsClearings turn (clearings_moved turn.moment) s events command r h in
    clearings_numbered t events es s.last_event kept n p ∙ sym (same_clearings t (ended t es turn.stamp turn.moment (s.last_event + length es)) same n)

pub step_places : (s : Rows) (events : List Event) (moment : ℕ) (command : Command) → Rules s → KeepsClearings s events
    → IsPlaced (step s moment command).rows (events ++ (step s moment command).events)
step_places s events moment command r h = placed_from _ _ (rules_step s moment command r) (step_keeps_clearings s events moment command r h)

-- runs

record History (s : Rows) (events : List Event) : Type 0 where
  rules : Rules s
  names : NamesNoLaterCall s events
  cleared : KeepsClearings s events

none_cleared : (limits : Limits) → KeepsClearings (empty_rows limits) []
unfolding cleared_by call_of
none_cleared limits n p = sym (ap (λ b. one (b && true)) (lt-leb n 0 p))

history_first : (limits : Limits) → History (empty_rows limits) []
history_first limits = record { rules = rules_first limits; names = tt; cleared = none_cleared limits }

history_step : (s : Rows) (events : List Event) (moment : ℕ) (command : Command) → History s events
    → History (step s moment command).rows (events ++ (step s moment command).events)
history_step s events moment command h = record {
  rules = rules_step s moment command h.rules;
  names = step_names_no_later_call s events moment command h.rules h.names;
  cleared = step_keeps_clearings s events moment command h.rules h.cleared;
}

pub run_names_no_later_call : RunNamesNoLaterCall
run_names_no_later_call limits commands = (kept_by_run History history_step limits (history_first limits) commands).names

pub run_is_placed : RunIsPlaced
run_is_placed limits commands = let h = kept_by_run History history_step limits (history_first limits) commands in placed_from _ _ h.rules h.cleared

-- a report that names no call above the last clears none there
clears_none : (last c : ℕ) (r : Report) → last < c → IsCallUpTo last (columns_of r).call → clears c r ≡ false
clears_none last c (report.CallCleared n g) l h = false_from_ne_true (n == c) (λ e. let q = eqb-true n c e in absurd (omega (arith, l, h, q)))
clears_none last c _ l h = refl

never_cleared : (s : Rows) (events : List Event) (c : ℕ) → NamesNoLaterCall s events → s.last_call < c → cleared_by c events ≡ 0
unfolding cleared_by
never_cleared s events c h l =
    count_zero (λ (e : Event). clears c e.report) events
    (λ e i. clears_none s.last_call c e.report l (every_among (λ (e : Event). IsCallUpTo s.last_call (columns_of e.report).call) events e h i))

-- the place of each call gives how often it was cleared
cleared_as_placed : (s : Rows) (events : List Event) → NamesNoLaterCall s events → IsPlaced s events → KeepsClearings s events
cleared_as_placed s events names placed c above =
    elim (leb_tells c s.last_call) [
      | inr w ↦ never_cleared s events c names w.1 ∙ sym (ap (λ b. one (b && is_none (call_of s c))) w.0)
      | inl w ↦ elim (placed c above w.1) [
        | inl p ↦ p.once ∙ sym (found w.0 p.ended)
        | inr (inl p) ↦ p.never ∙ sym (found w.0 p.there)
        | inr (inr p) ↦ p.never ∙ sym (found w.0 p.there)
      ]
    ]
  where
    found : {o : Option CallRecord} → nat_le c s.last_call ≡ true → call_of s c ≡ o → clearings s c ≡ one (is_none o)
    found l e = rw (l, e) refl

pub step_keeps_places : (s : Rows) (events : List Event) (moment : ℕ) (command : Command) → Rules s → NamesNoLaterCall s events → IsPlaced s events
    → IsPlaced (step s moment command).rows (events ++ (step s moment command).events)
step_keeps_places s events moment command r names placed = step_places s events moment command r (cleared_as_placed s events names placed)
