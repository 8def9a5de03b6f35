-- The moves of a step stay within bounds: by each effect, and by rounds.
use Rattle.acd_lemmas.proofs.KeyedLists.{counted_old}
use Rattle.std.proofs.Common.{◌≡◌, ℕ, ◌+◌, ◌≤◌, ◌⊎◌, inl, inr, Bool, true, false, List, [], ◌∷◌, Option, Some, None, refl, sym, ◌∙◌, ap, subst, arith, length, cond, ◌++◌}
use Rattle.std.specs.Prelude.{◌==◌, is_some, nat_le}
use Rattle.std.proofs.lemmas.Bool.{or_cases, or_parts, or_right, or_left, leb-false}
use Rattle.acd_terms.specs.Groups.{only_group}
use Rattle.acd_lemmas.proofs.Words.{Rows, GroupRecord, StationRecord, AgentRecord, CallRecord, ConnectionRecord, MonitorRecord, Cause, Change, Command, Event, Move, Report, put_by, count, Among, Every, IsAscending, state_wanted, at_group, at_station, at_agent, at_call, at_monitor, group_of, station_of, is_group, is_station, is_planned, other_of, is_calling, with_group, with_station, with_agent, with_call, with_monitor, silent, reported, moved, events_of, agent_order, group_order}
use Rattle.acd_terms.specs.declared.state.AgentState.TheVariants as A
use Rattle.acd_terms.specs.declared.state.ConnectionState.TheVariants as S
use Rattle.acd_terms.specs.declared.event.Cause.TheVariants.{NewCall, Deflected, Transferred}
use Rattle.acd_terms.specs.declared.event.Report.TheVariants as report
use Rattle.acd_model.specs.declared.moves.Change.TheVariants.{Nothing, PutGroup, PutStation, PutAgent, PutCall, PutMonitor, RemoveCall, RemoveConnection, RemoveMonitor}
use Rattle.acd_model.specs.CallMoves.{unqueued, connect_caller, initiate, arrive, talking, waited_by}
use Rattle.acd_model.specs.Release.{release, ending_of}
use Rattle.acd_model.specs.Services.{new_group, new_agent, next_call, cleared_group, clear_other, release_other, next_monitor}
use Rattle.std.specs.declared.cmp.Ordering.{Ordering}
use Rattle.acd_laws.proofs.MoveKinds.{LeavesConnections, AgentMove, stays, remains, Recorded, goes_from, releases_here, occupies_here}
use Rattle.acd_lemmas.proofs.RuleFacts.{Rules, Sizes, AgentTimed, ConnectionTimed, Timed, MonitorRule, Monitored, at_place}
use Rattle.acd_lemmas.proofs.Lists.{every_among, every_from, every-put, one, count-append, among_put, every-append, some_from, length-put, count_all}
use Rattle.acd_lemmas.proofs.State.{group_put, station_put, group_among, by_group}
use Rattle.acd_laws.proofs.Watched.Order.{entry_by}
use Rattle.acd_laws.specs.FigureLaws.{group_given}
use Rattle.acd_laws.proofs.Effects.{new_call, Effect, nothing, adds_group, adds_station, adds_agent, watches, unwatches, arrives, makes, goes_out, answers, holds, retrieves, clears, deflects, transfers, logs_on, rejects, renames, waits, goes, ChangesGroup, refuses, puts, given_device, given_figures, given_priority, given_planned, effect_of_serve, returns}
use Rattle.acd_laws.proofs.Rules.MoveOrder.{Steady, knows, AllSteady, IsNew, IsRegrouped, IsGroupAfter, Steadied, Settled, settled, steadied, sizes_steadied, monitored_steadied, WaitsUpTo, Neat, Steps, done, neat, comes, neat_quiet, neat_silent, neat_agent, neat_remove, neat_put, neat_turned, timed_plain, comes_to, steady_agent, steady_arrive, steps_timed, steps_place, Fit}
use Rattle.acd_model.specs.ServiceAnswers.{moves_of}
use Rattle.acd_model.specs.Figures.{is_entry}
use Rattle.acd_model.specs.Services.Serve.{serve}
use Rattle.acd_model.specs.Distribution.{distribution}
use Rattle.acd_model.specs.Tick.{tick}
use Rattle.acd_model.specs.Step.{step_moves, turn_at}
use Rattle.acd_model.proofs.MoveLemmas.{moved_append, events_of_append}
use Rattle.acd_laws.proofs.Rules.RulesOfSteps.{rules_serve}
use Rattle.acd_laws.proofs.Rules.Rounds.{AllWait, Within, round_steps, steps_entered, steps_wait, distribution_within, tick_within, returns_agents}
use Rattle.acd_laws.proofs.Rules.Numbers.{events_length, connections_length, greatest, distribution_length, tick_length}
use Rattle.acd_terms.specs.declared.command.Turn.{Turn}

-- this holds before a step
pub record Before (s : Rows) (k m : ℕ) : Type 0 where
  pub rules : Rules s
  pub timed : Timed k m s
  pub stamp : 1 ≤ k
  pub sizes : Sizes s
  pub monitors : Monitored s

-- the moves of a service keep this
pub record Behaves (s : Rows) (k m : ℕ) (ms : List Move) : Type 0 where
  pub comes : Bool
  pub steps : Steps k m comes s ms
  pub few : length ms ≤ 5
  pub settled : Settled s ms

-- a silent move of the plan or of a monitor

-- a planned group's record is put in the place of the one before
length-put_group : (s : Rows) (g : GroupRecord) → IsAscending group_order s.groups → is_group s g.device ≡ true
    → length (put_by (at_group g.device) s.groups g) ≡ length s.groups
unfolding group_of
length-put_group s g asc planned =
    let z = some_from (group_of s g.device) planned in
    let c = counted_old by_group s.groups (λ _. true) g z.0 asc z.1 in
    let p = count_all (put_by (at_group g.device) s.groups g) in let q = count_all s.groups in omega (arith, c, p, q)

-- where there is room for one more
room_for : {X : Type 0} (at : X → Ordering) (x : X) (xs : List X) (limit : ℕ) → nat_le limit (length xs) ≡ false → length (put_by at xs x) ≤ limit
room_for at x xs limit room = let a = length-put at x xs in let b = leb-false limit (length xs) room in omega (arith, a, b)

silently : (s : Rows) (k m : ℕ) (c : Change) → Fit k m c → LeavesConnections c → Settled s (silent c ∷ []) → Behaves s k m (silent c ∷ [])
silently s k m c f l h = record { comes = false; steps = neat (neat_silent c f l) done; few = omega arith; settled = h }

-- more is planned
monitored_more : (s t : Rows) → ((d : ℕ) → is_planned s d ≡ true → is_planned t d ≡ true) → t.last_monitor ≡ s.last_monitor → t.last_event ≡ s.last_event
    → t.monitors ≡ s.monitors → Monitored s → Monitored t
monitored_more s t f a b e h = subst (λ ws. Every (MonitorRule t) ws) (sym e) (every_from (MonitorRule t) s.monitors (λ w i.
    let q = every_among (MonitorRule s) s.monitors w h i in let x = q.1 in let y = q.2 in (f w.device q.0, omega (arith, x, a), omega (arith, y, b))))

planned_group : (s : Rows) (g : GroupRecord) (d : ℕ) → is_planned s d ≡ true → is_planned (with_group s g) d ≡ true
unfolding with_group station_of
planned_group s g d e = elim (or_cases (is_group s d) (is_station s d) e) [
  | inl w ↦ or_left _ _ (group_put s g d ∙ or_right (g.device == d) (is_group s d) w)
  | inr w ↦ or_right (is_group (with_group s g) d) _ w
]

planned_station : (s : Rows) (g : StationRecord) (d : ℕ) → is_planned s d ≡ true → is_planned (with_station s g) d ≡ true
unfolding with_station group_of
planned_station s g d e = elim (or_cases (is_group s d) (is_station s d) e) [
  | inl w ↦ or_left _ _ w
  | inr w ↦ or_right (is_group (with_station s g) d) _ (station_put s g d ∙ or_right (g.device == d) (is_station s d) w)
]

put_new : (s : Rows) (g z : GroupRecord) → IsNew s g ⊎ IsRegrouped s g → (z ≡ g) ⊎ Among z s.groups → IsGroupAfter s z
put_new s g z new (inl e) = inr (subst (λ v. IsNew s v ⊎ IsRegrouped s v) (sym e) new)
put_new s g z new (inr a) = inl a

behaves_group : (s : Rows) (k m : ℕ) (g : GroupRecord) → nat_le s.limits.groups (length s.groups) ≡ false → IsNew s g → Behaves s k m (silent (PutGroup g) ∷ [])
unfolding with_group
behaves_group s k m g room new =
    let sizes : Sizes s → Sizes (with_group s g) = λ h. record {
      limits = h.limits;
      groups = room_for (at_group g.device) g s.groups s.limits.groups room;
      stations = h.stations;
      agents = h.agents;
      calls = h.calls;
      monitors = h.monitors;
    } in
    silently s k m (PutGroup g) tt tt (record {
      sizes = sizes;
      monitors = monitored_more s (with_group s g) (planned_group s g) refl refl refl;
      groups = λ z a. put_new s g z (inl new) (among_put (at_group g.device) g s.groups z a);
      limits = refl;
      last_call = omega arith;
      last_monitor = omega arith;
      last_event = refl;
    })

-- a planned group gets another record
behaves_regrouped : (s : Rows) (k m : ℕ) (g : GroupRecord) → IsAscending group_order s.groups → IsRegrouped s g → is_group s g.device ≡ true
    → Behaves s k m (silent (PutGroup g) ∷ [])
unfolding with_group
behaves_regrouped s k m g asc regrouped planned =
    let same : length (put_by (at_group g.device) s.groups g) ≡ length s.groups = length-put_group s g asc planned in
    let sizes : Sizes s → Sizes (with_group s g) = λ h. let n = h.groups in
    record { limits = h.limits; groups = omega (arith, n, same); stations = h.stations; agents = h.agents; calls = h.calls; monitors = h.monitors } in
    silently s k m (PutGroup g) tt tt (record {
      sizes = sizes;
      monitors = monitored_more s (with_group s g) (planned_group s g) refl refl refl;
      groups = λ z a. put_new s g z (inr regrouped) (among_put (at_group g.device) g s.groups z a);
      limits = refl;
      last_call = omega arith;
      last_monitor = omega arith;
      last_event = refl;
    })

behaves_station : (s : Rows) (k m : ℕ) (g : StationRecord) → nat_le s.limits.stations (length s.stations) ≡ false → Behaves s k m (silent (PutStation g) ∷ [])
unfolding with_station
behaves_station s k m g room =
    let sizes : Sizes s → Sizes (with_station s g) = λ h. record {
      limits = h.limits;
      groups = h.groups;
      stations = room_for (at_station g.device) g s.stations s.limits.stations room;
      agents = h.agents;
      calls = h.calls;
      monitors = h.monitors;
    } in
    let monitors = monitored_more s (with_station s g) (planned_station s g) refl refl refl in
    silently s k m (PutStation g) tt tt (record {
      sizes = sizes;
      monitors = monitors;
      groups = λ z a. inl a;
      limits = refl;
      last_call = omega arith;
      last_monitor = omega arith;
      last_event = refl;
    })

behaves_agent : (s : Rows) (k m : ℕ) (g : AgentRecord) → nat_le s.limits.agents (length s.agents) ≡ false → AgentTimed k m g
    → Behaves s k m (silent (PutAgent g) ∷ [])
unfolding with_agent group_of station_of
behaves_agent s k m g room t =
    let sizes : Sizes s → Sizes (with_agent s g) = λ h. record {
      limits = h.limits;
      groups = h.groups;
      stations = h.stations;
      agents = room_for (at_agent g.agent) g s.agents s.limits.agents room;
      calls = h.calls;
      monitors = h.monitors;
    } in
    let monitors = monitored_more s (with_agent s g) (λ d e. e) refl refl refl in
    silently s k m (PutAgent g) t tt (record {
      sizes = sizes;
      monitors = monitors;
      groups = λ z a. inl a;
      limits = refl;
      last_call = omega arith;
      last_monitor = omega arith;
      last_event = refl;
    })

monitored_put : (s : Rows) (w : MonitorRecord) → is_planned s w.device ≡ true → w.after_event ≡ s.last_event → Monitored s → Monitored (with_monitor s w)
unfolding with_monitor group_of station_of
monitored_put s w p e h = every-put (at_monitor w.monitor) (MonitorRule (with_monitor s w)) w (p, omega arith, omega (arith, e)) s.monitors
    (every_from (MonitorRule (with_monitor s w)) s.monitors
    (λ z i. let q = every_among (MonitorRule s) s.monitors z h i in let x = q.1 in (q.0, omega (arith, x), q.2)))

behaves_monitor : (s : Rows) (k m : ℕ) (w : MonitorRecord) → nat_le s.limits.monitors (length s.monitors) ≡ false → is_planned s w.device ≡ true
    → w.after_event ≡ s.last_event → w.monitor ≡ s.last_monitor + 1
    → Behaves s k m (silent (PutMonitor w) ∷ [])
unfolding with_monitor
behaves_monitor s k m w room p e n =
    let sizes : Sizes s → Sizes (with_monitor s w) = λ h. record {
      limits = h.limits;
      groups = h.groups;
      stations = h.stations;
      agents = h.agents;
      calls = h.calls;
      monitors = room_for (at_monitor w.monitor) w s.monitors s.limits.monitors room;
    } in
    silently s k m (PutMonitor w) tt tt (record {
      sizes = sizes;
      monitors = monitored_put s w p e;
      groups = λ z a. inl a;
      limits = refl;
      last_call = omega arith;
      last_monitor = omega (arith, n);
      last_event = refl;
    })

-- calls

ascending_called : (s : Rows) (c : CallRecord) → IsAscending agent_order s.agents → IsAscending agent_order (with_call s c).agents
unfolding with_call
ascending_called s c h = h

-- a new call, and moves that put connections
settled_call : (s : Rows) (c : CallRecord) (ms : List Move) → nat_le s.limits.calls (length s.calls) ≡ false → c.call ≡ s.last_call + 1
    → Steadied (with_call s c) (moved (with_call s c) ms) → Settled s (silent (PutCall c) ∷ ms)
unfolding with_call group_of station_of
settled_call s c ms room n f =
    let t : Rows = moved (with_call s c) ms in
    let a = f.last_call in let b = f.last_monitor in
    let sizes : Sizes s → Sizes (with_call s c) = λ h. record {
      limits = h.limits;
      groups = h.groups;
      stations = h.stations;
      agents = h.agents;
      calls = room_for (at_call c.call) c s.calls s.limits.calls room;
      monitors = h.monitors;
    } in
    record {
      sizes = λ h. sizes_steadied (with_call s c) t f (sizes h);
      monitors = λ h. monitored_steadied (with_call s c) t f (monitored_more s (with_call s c) (λ d e. e) refl refl refl h);
      groups = λ z i. inl (subst (Among z) f.groups i);
      limits = f.limits;
      last_call = omega (arith, n, a);
      last_monitor = omega (arith, b);
      last_event = f.last_event;
    }

-- each effect

clears_other : {k m : ℕ} {t : Rows} (o : Option ConnectionRecord) → Neat k m t (clear_other o)
clears_other None = neat_silent Nothing tt tt
clears_other (Some y) = neat_remove y.call y.device (report.ConnectionCleared y.call y.device) tt (λ g. refl)

steady_clears : (s : Rows) (o : Option ConnectionRecord) → Steady (knows s) (clear_other o).change
steady_clears s None = tt
steady_clears s (Some y) = tt

releases_other : (s : Rows) (turn : Turn) (o : Option ConnectionRecord) → IsAscending agent_order s.agents
    → AgentMove (Recorded s) turn (release_other s turn o)
releases_other s turn None h = stays
releases_other s turn (Some y) h = releases_here s turn y (ending_of y) h

waits_answer : (m c d : ℕ) (q o : Option ℕ) → WaitsUpTo m (Some (report.Established c d (waited_by m q o)))
waits_answer m c d q None = tt
waits_answer m c d q (Some g) = omega arith

-- moves that put no new record but connections
steadily : {s : Rows} {k m : ℕ} {e : Bool} {ms : List Move} → Before s k m → Steps k m e s ms → length ms ≤ 5 → AllSteady s ms → Behaves s k m ms
steadily {s} {k} {m} {e} {ms} b h few a = record { comes = e; steps = h; few = few; settled = settled s ms b.rules.orders.agents a }

-- a connection ends, its call comes to a device, and an agent is released
given : (s : Rows) (k m to : ℕ) (x : ConnectionRecord) (e : Report) (why : Cause) → Before s k m → WaitsUpTo m (Some e) → ((g : ℕ) → entry_by g (Some e) ≡ 0)
    → Behaves s k m (reported (RemoveConnection x.call x.device) e ∷ arrive s (turn_at m k) x.call to why ∷ release s (turn_at m k) x (ending_of x) ∷ [])
given s k m to x e why b w n =
    let h = releases_here s (turn_at m k) x (ending_of x) b.rules.orders.agents in steadily b
    (neat (neat_remove x.call x.device e w n) (comes (comes_to s k m x.call to why b.stamp) (neat (neat_agent s b.stamp b.timed h) done)))
    (omega arith) (tt, (steady_arrive s s (turn_at m k) x.call to why, (steady_agent s h, tt)))

agent_behaves : (s : Rows) (k m : ℕ) (x : Move) → Before s k m → AgentMove (Recorded s) (turn_at m k) x → Behaves s k m (x ∷ [])
agent_behaves s k m x b h = steadily b (neat (neat_agent s b.stamp b.timed h) done) (omega arith) (steady_agent s h, tt)

pub behaves_effect : (s : Rows) (k m : ℕ) (ms : List Move) → Effect s (turn_at m k) ms → Before s k m → Behaves s k m ms
behaves_effect s k m _ nothing b = steadily b done (omega arith) tt
behaves_effect s k m _ (adds_group device name ring wrap free room) b =
    behaves_group s k m (new_group device name ring wrap) room
    (refl, (or_parts (is_group s device) (is_station s device) (or_parts (is_planned s device) (is_calling s device) free).0).0, refl)
behaves_effect s k m _ (adds_station device _ room) b = behaves_station s k m (record { device = device }) room
behaves_effect s k m _ (adds_agent agent name _ room) b =
    behaves_agent s k m (new_agent (turn_at m k) agent name) room (record { above = b.stamp; stamp = omega arith; since = omega arith })
behaves_effect s k m _ (watches device planned room) b =
    behaves_monitor s k m (record { monitor = next_monitor s; device = device; after_event = s.last_event }) room planned refl refl
behaves_effect s k m _ (unwatches monitor) b = steadily b (neat (neat_silent (RemoveMonitor monitor) tt tt) done) (omega arith) (tt, tt)
behaves_effect s k m _ (arrives caller called _ _ room) b =
    let n : ℕ = next_call s in
    let c : CallRecord = new_call s m caller called in
    let u : Rows = with_call s c in
    let rest : List Move = connect_caller n caller ∷ arrive s (turn_at m k) n called NewCall ∷ [] in
    record {
      comes = true;
      steps =
          neat (neat_silent (PutCall c) (omega arith) tt)
          (neat (neat_put (unqueued n caller S.Connected) None (timed_plain k m n caller S.Connected) refl tt (λ g. refl))
          (comes (comes_to s k m n called NewCall b.stamp) done));
      few = omega arith;
      settled =
          settled_call s c rest room refl
          (steadied u rest (ascending_called s c b.rules.orders.agents) (tt, (steady_arrive s u (turn_at m k) n called NewCall, tt)));
    }
behaves_effect s k m _ (makes device called _ _ _ _ _ room) b =
    let n : ℕ = next_call s in
    let c : CallRecord = new_call s m device called in
    let rest : List Move = initiate n device ∷ [] in
    record {
      comes = false;
      steps =
          neat (neat_silent (PutCall c) (omega arith) tt)
          (neat (neat_put (unqueued n device S.Initiated) (Some (report.ServiceInitiated n device)) (timed_plain k m n device S.Initiated) refl tt (λ g. refl))
          done);
      few = omega arith;
      settled = settled_call s c rest room refl (steadied (with_call s c) rest (ascending_called s c b.rules.orders.agents) (tt, tt));
    }
behaves_effect s k m _ (goes_out p _) b = steadily b
    (neat (neat_turned s p.x S.Connected (report.Originated p.x.call p.x.device p.about.called) b.timed b.rules.orders.connections p.found tt (λ g. refl))
    (comes (comes_to s k m p.x.call p.about.called NewCall b.stamp) done))
    (omega arith) (tt, (steady_arrive s s (turn_at m k) p.x.call p.about.called NewCall, tt))
behaves_effect s k m _ (answers p _) b =
    let h = occupies_here s (turn_at m k) p.x b.rules.orders.agents in
    let e : Report = report.Established p.x.call p.x.device (waited_by m p.x.queued p.x.group) in
    let t : ConnectionTimed k m (talking p.x) = record { place = tt; queued = tt; offered = tt; order = tt } in steadily b
    (neat (neat_put (talking p.x) (Some e) t refl (waits_answer m p.x.call p.x.device p.x.queued p.x.group) (λ g. refl))
    (neat (neat_agent s b.stamp b.timed h) done))
    (omega arith) (tt, (steady_agent s h, tt))
behaves_effect s k m _ (holds p _ _) b =
    steadily b (neat (neat_turned s p.x S.Hold (report.Held p.x.call p.x.device) b.timed b.rules.orders.connections p.found tt (λ g. refl)) done) (omega arith)
    (tt, tt)
behaves_effect s k m _ (retrieves p _ _) b =
    steadily b (neat (neat_turned s p.x S.Connected (report.Retrieved p.x.call p.x.device) b.timed b.rules.orders.connections p.found tt (λ g. refl)) done)
    (omega arith) (tt, tt)
behaves_effect s k m _ (clears p) b =
    let x : ConnectionRecord = p.x in
    let o : Option ConnectionRecord = other_of s x in
    let h = releases_here s (turn_at m k) x (ending_of x) b.rules.orders.agents in
    let g = releases_other s (turn_at m k) o b.rules.orders.agents in steadily b
    (neat (neat_remove x.call x.device (report.ConnectionCleared x.call x.device) tt (λ g. refl))
    (neat (clears_other o) (neat (neat_quiet (RemoveCall x.call) (Some (report.CallCleared x.call (cleared_group x o))) tt tt tt (λ g. refl))
    (neat (neat_agent s b.stamp b.timed h) (neat (neat_agent s b.stamp b.timed g) done)))))
    (omega arith) (tt, (steady_clears s o, (tt, (steady_agent s h, (steady_agent s g, tt)))))
behaves_effect s k m _ (deflects p to _ _) b = given s k m to p.x (report.Diverted p.x.call p.x.device to Deflected p.x.group) Deflected b tt (λ g. refl)
behaves_effect s k m _ (transfers p to _ _ _) b = given s k m to p.x (report.Transferred p.x.call p.x.device to) Transferred b tt (λ g. refl)
behaves_effect s k m _ (logs_on a device groups found _ _ _ _) b =
    let c : AgentRecord = record a { state = A.NotReady; pending = None; station = Some device; groups = groups; stamp = k; since = m } in
    steadily b
    (neat
    (neat_quiet (PutAgent c) (Some (report.AgentLoggedOn a.agent device (only_group groups)))
    (record { above = b.stamp; stamp = omega arith; since = omega arith }) tt tt (λ g. refl))
    done)
    (omega arith) (ap is_some found, tt)
behaves_effect s k m _ (rejects p g alerting group) b =
    let f = round_steps s k m _ b.stamp (returns p.x g p.found alerting group) b.rules b.timed in steadily b f.0 (omega arith) f.1
behaves_effect s k m _ (renames a name found) b = agent_behaves s k m _ b (remains a name a.pending found)
behaves_effect s k m _ (waits a wanted found _ _) b = agent_behaves s k m _ b (remains a a.name (Some wanted) found)
behaves_effect s k m _ (goes a wanted found _ _) b = agent_behaves s k m _ b (goes_from (Recorded s) (turn_at m k) a a.station (state_wanted wanted) found)

behaves_regroups : (s : Rows) (k m : ℕ) (c : Command) (ms : List Move) → ChangesGroup s c ms → Before s k m → Behaves s k m ms
behaves_regroups s k m c _ (refuses device it none) b = steadily b done (omega arith) tt
behaves_regroups s k m c _ (puts device g it found) b =
    behaves_regrouped s k m (group_given c g) b.rules.orders.groups
    (record {
      was = g;
      there = group_among s device g found;
      device = given_device c g;
      figures = given_figures c g;
      in_range = given_priority c g;
    }) (given_planned s c device g found)

-- this holds after moves of a step, with their events
pub record After (s : Rows) (k m most : ℕ) (t : Rows) (es : List Event) : Type 0 where
  pub timed : Timed k m t
  pub places : (p : ℕ) → count (at_place p) t.connections ≤ one (k == p) + count (at_place p) s.connections
  pub sizes : Sizes t
  pub monitors : Monitored t
  pub groups : (g : GroupRecord) → Among g t.groups → IsGroupAfter s g
  pub limits : t.limits ≡ s.limits
  pub last_call : t.last_call ≤ s.last_call + 1
  pub last_monitor : t.last_monitor ≤ s.last_monitor + 1
  pub last_event : t.last_event ≡ s.last_event
  pub entries : (g : ℕ) → count (λ (e : Event). is_entry g e.report) es ≤ 1
  pub waits : AllWait m es
  pub few : length es ≤ most

after_service : (s : Rows) (k m : ℕ) (ms : List Move) → Before s k m → Behaves s k m ms → After s k m 13000 (moved s ms) (events_of m ms)
after_service s k m ms b h = record {
  timed = steps_timed h.steps b.timed;
  places = λ p. (let a = steps_place p h.steps in let c = at_most h.comes (one (k == p)) in omega (arith, a, c));
  sizes = h.settled.sizes b.sizes;
  monitors = h.settled.monitors b.monitors;
  groups = h.settled.groups;
  limits = h.settled.limits;
  last_call = h.settled.last_call;
  last_monitor = h.settled.last_monitor;
  last_event = h.settled.last_event;
  entries = λ g. (let a = steps_entered g h.steps in let c = at_most h.comes 1 in omega (arith, a, c));
  waits = steps_wait h.steps;
  few = (let a = events_length m ms in let c = h.few in omega (arith, a, c));
}
  where
    at_most : (b : Bool) (n : ℕ) → cond b n 0 ≤ n
    at_most true n = omega arith
    at_most false n = omega arith

-- rounds after moves
after_rounds : (s : Rows) (k m most more : ℕ) (t u : Rows) (es fs : List Event) → After s k m most t es → Within t k m u fs → length fs ≤ more
    → After s k m (most + more) u (es ++ fs)
after_rounds s k m most more t u es fs a w l = record {
  timed = w.timed;
  places = λ p. (let x = a.places p in let y = w.places p in omega (arith, x, y));
  sizes = sizes_steadied t u w.steady a.sizes;
  monitors = monitored_steadied t u w.steady a.monitors;
  groups = λ g i. a.groups g (subst (Among g) w.steady.groups i);
  limits = w.steady.limits ∙ a.limits;
  last_call = (let x = a.last_call in let y = w.steady.last_call in omega (arith, x, y));
  last_monitor = (let x = a.last_monitor in let y = w.steady.last_monitor in omega (arith, x, y));
  last_event = w.steady.last_event ∙ a.last_event;
  entries = λ g. (let x = a.entries g in let y = w.entries g in let z = count-append (λ (e : Event). is_entry g e.report) es fs in omega (arith, x, y, z));
  waits = every-append _ es fs a.waits w.waits;
  few = (let x = a.few in let z = length-joined es fs in omega (arith, x, z, l));
}
  where
    length-joined : (xs ys : List Event) → length (xs ++ ys) ≡ length xs + length ys
    length-joined [] ys = omega arith
    length-joined (x ∷ xs) ys = (let ih = length-joined xs ys in omega (arith, ih))

after_nothing : (s : Rows) (k m : ℕ) → Before s k m → After s k m 0 s []
after_nothing s k m b = record {
  timed = b.timed;
  places = λ p. omega arith;
  sizes = b.sizes;
  monitors = b.monitors;
  groups = λ g i. inl i;
  limits = refl;
  last_call = omega arith;
  last_monitor = omega arith;
  last_event = refl;
  entries = λ g. omega arith;
  waits = tt;
  few = omega arith;
}

after_tick : (s : Rows) (k m : ℕ) → Before s k m → After s k m 13000 (moved s (tick s (turn_at m k))) (events_of m (tick s (turn_at m k)))
after_tick s k m b =
    let w = tick_within s k m b.stamp b.rules b.timed in
    let a = events_length m (tick s (turn_at m k)) in
    let c = tick_length s (turn_at m k) in
    let d = connections_length s b.rules in
    let e = returns_agents s k m b.stamp b.rules b.timed in
    let f = greatest s b.sizes.limits in
    let x = b.sizes.calls in let y = b.sizes.agents in let fc = f.calls in let fa = f.agents in
    after_rounds s k m 0 13000 s (moved s (tick s (turn_at m k))) [] (events_of m (tick s (turn_at m k))) (after_nothing s k m b) w
    (omega (arith, a, c, d, e, x, y, fc, fa))

after_serve : (s : Rows) (k m : ℕ) (c : Command) → Before s k m
    → After s k m 13000 (moved s (moves_of (serve s (turn_at m k) c))) (events_of m (moves_of (serve s (turn_at m k) c)))
after_serve s k m c b = elim (effect_of_serve s (turn_at m k) c) [
  | inl w ↦ elim w.1 [
    | inl d ↦ after_service s k m _ b (behaves_effect s k m _ d b)
    | inr e ↦ subst (λ ms. After s k m 13000 (moved s ms) (events_of m ms)) (sym e) (after_tick s k m b)
  ]
  | inr d ↦ after_service s k m _ b (behaves_regroups s k m c _ d b)
]

-- the service, then the distribution
pub after_moves : (s : Rows) (k m : ℕ) (c : Command) → Before s k m
    → After s k m 21000 (moved s (step_moves s m (serve s (turn_at m k) c))) (events_of m (step_moves s m (serve s (turn_at m k) c)))
after_moves s k m c b =
    let ms : List Move = moves_of (serve s (turn_at m k) c) in
    let t : Rows = moved s ms in
    let ns : List Move = distribution t m in
    let a = after_serve s k m c b in
    let r : Rules t = rules_serve s (turn_at m k) c b.rules in
    let w = distribution_within t k m b.stamp r a.timed in
    let e = events_length m ns in
    let f = distribution_length t m in
    let d = connections_length t r in
    let g = greatest t a.sizes.limits in
    let x = a.sizes.calls in let gc = g.calls in
    subst (λ u. After s k m 21000 u (events_of m (ms ++ ns))) (sym (moved_append s ms ns))
    (subst (After s k m 21000 (moved t ns)) (sym (events_of_append m ms ns))
    (after_rounds s k m 13000 8000 t (moved t ns) (events_of m ms) (events_of m ns) a w (omega (arith, e, f, d, x, gc))))
