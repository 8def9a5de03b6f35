-- Planning keeps the rules, and so do the agents' moves.
use Rattle.std.proofs.Common.{◌≡◌, ℕ, ◌+◌, inl, inr, Bool, true, false, ◌&&◌, ◌||◌, List, Option, Some, None, refl, sym, ◌∙◌, ap, subst, arith, eq-eqb, ◌≤◌, ◌⊎◌, not}
use Rattle.std.specs.Prelude.{◌==◌, IsTrue, max, is_some, find}
use Rattle.std.specs.List.{list_any}
use Rattle.std.proofs.lemmas.Bool.{eqb-true, false_from_ne_true, and_right, or_cases, or_parts, or_right, or_left, and_parts, and_from}
use Rattle.acd_lemmas.proofs.Words.{Rows, GroupRecord, StationRecord, AgentRecord, CallRecord, ConnectionRecord, MonitorRecord, ConnectionState, AgentState, Pending, put_by, remove_by, count, Among, IsAscending, is_null, is_ready, is_busy, is_working_after_call, is_hold, is_queued, is_live, at_monitor, group_of, station_of, agent_of, call_of, connection_of, is_group, is_station, is_planned, has, agent_at, is_distributed, is_occupied, is_calling, with_group, with_station, with_agent, with_monitor, without_monitor, changed, moved, group_order, station_order, agent_order, monitor_order, is_distributed_at}
use Rattle.acd_terms.specs.declared.state.AgentState.TheVariants as A
use Rattle.acd_terms.specs.declared.state.ConnectionState.TheVariants as S
use Rattle.acd_model.specs.Scans.{is_used}
use Rattle.acd_model.specs.declared.moves.Change.TheVariants.{PutGroup, PutStation, PutAgent, PutMonitor, RemoveMonitor}
use Rattle.acd_lemmas.proofs.RuleFacts.{Rules, IsPlannedStation, ArePlannedGroups, SeatedAs, AgentRule, CallRule, IsCaller, StandsAt, ConnectionRule, seated_at, ready_at, busy_at, pending_at, talking_at, ringing_at}
use Rattle.acd_lemmas.proofs.Lists.{one, any_some, ascending-put, ascending-remove, count-put_new, every_among, every_from, every-put, count_zero, find_passes, find_among, find_none, any_found, counted, some_from}
use Rattle.acd_laws.proofs.DestinationLemmas.{rule_more, with_agents, lone}
use Rattle.acd_lemmas.proofs.KeyedLists.{cmp_equal, eqb_self}
use Rattle.acd_lemmas.proofs.State.{groups_total, stations_total, agents_total, monitors_total, agent_find, group_put, station_put, call_among, agent_among, count_agent, has_is, group_kept}
use Rattle.acd_model.specs.Services.{new_agent}
use Rattle.acd_model.specs.AgentMoves.{in_state, go_to, go_from, log_on_at}
use Rattle.acd_laws.proofs.Rules.RulesOfOffers.{unoccupied}
use Rattle.acd_laws.proofs.ReleaseLemmas.{seat_from, loosen, left_keeps, left_state, alerting_or_answered}
use Rattle.acd_model.specs.Tick.{wrap_up_moves}
use Rattle.acd_lemmas.proofs.States.{null_is}
use Rattle.acd_terms.specs.declared.command.Turn.{Turn}

any_false : {X : Type 0} (p : X → Bool) (xs : List X) → list_any p xs ≡ false → (x : X) → Among x xs → p x ≡ false
any_false p xs e x a = false_from_ne_true (p x) (λ q. cc (any_some p xs x a q, e))

-- no connection is at a device that isn't in use
pub nobody_at : (s : Rows) (d : ℕ) → Rules s → is_used s d ≡ false → (z : ConnectionRecord) → Among z s.connections → (z.device == d) ≡ false
unfolding is_calling
nobody_at s d r free z a =
    let f = or_parts (is_planned s d) _ free in
    let p = or_parts (is_group s d) (is_station s d) f.0 in
    false_from_ne_true (z.device == d) (λ q.
    let e : z.device ≡ d = eqb-true z.device d q in
    cases z.state e p.0 p.1 f.1 (every_among (ConnectionRule s) s.connections z r.connections a).2)
  where
    caller : (o : Option CallRecord) → call_of s z.call ≡ o → z.device ≡ d → list_any (λ (c : CallRecord). c.caller == d) s.calls ≡ false → IsCaller o z.device
        → ⊥
    caller None e q f h = h
    caller (Some c) e q f h = cc (any_false (λ (c : CallRecord). c.caller == d) s.calls f c (call_among s z.call c e), eq-eqb c.caller d (h ∙ q))

    cases : (st : ConnectionState) → z.device ≡ d → is_group s d ≡ false → is_station s d ≡ false → list_any (λ (c : CallRecord). c.caller == d) s.calls ≡ false
        → StandsAt s z st → ⊥
    cases S.Queued e g t f h = cc (subst (λ v. is_group s v ≡ true) e h, g)
    cases S.Initiated e g t f h = cc (subst (λ v. is_station s v ≡ true) e h.0, t)
    cases S.Connected e g t f (inl h) = cc (subst (λ v. is_station s v ≡ true) e h, t)
    cases S.Connected e g t f (inr h) = caller (call_of s z.call) refl e f h.1
    cases _ e g t f h = cc (subst (λ v. is_station s v ≡ true) e h, t)

-- seats with more devices planned
more_station : (s t : Rows) → ((d : ℕ) → IsTrue (is_station s d) → IsTrue (is_station t d)) → (o : Option ℕ) → IsPlannedStation s o → IsPlannedStation t o
more_station s t f None h = h
more_station s t f (Some d) h = f d h

more_groups : (s t : Rows) → ((d : ℕ) → IsTrue (is_group s d) → IsTrue (is_group t d)) → (gs : List ℕ) → ArePlannedGroups s gs → ArePlannedGroups t gs
more_groups s t f gs h = (h.0, every_from (λ (d : ℕ). is_group t d ≡ true) gs (λ d i. f d (every_among (λ (d : ℕ). is_group s d ≡ true) gs d h.1 i)))

more_seat : (s t : Rows) → ((d : ℕ) → IsTrue (is_station s d) → IsTrue (is_station t d)) → ((d : ℕ) → IsTrue (is_group s d) → IsTrue (is_group t d))
    → (a : AgentRecord) (st : AgentState) → SeatedAs s a st → SeatedAs t a st
more_seat s t f g a A.Null h = h
more_seat s t f g a _ h = (more_station s t f a.station h.0, more_groups s t g a.groups h.1)

-- a group is planned
pub kept_group : (s : Rows) (g : GroupRecord) → Rules s → is_used s g.device ≡ false → Rules (changed s (PutGroup g))
unfolding is_calling with_group call_of connection_of agent_of station_of
kept_group s g r free =
    let t : Rows = changed s (PutGroup g) in
    let f = or_parts (is_planned s g.device) _ free in
    let p = or_parts (is_group s g.device) (is_station s g.device) f.0 in
    let more : (d : ℕ) → IsTrue (is_group s d) → IsTrue (is_group t d) = λ d h. group_put s g d ∙ or_right (g.device == d) (is_group s d) h in
    let other : (d : ℕ) → (d == g.device) ≡ false → is_group t d ≡ is_group s d =
    λ d h. group_put s g d
    ∙ ap (λ b. b || is_group s d) (false_from_ne_true (g.device == d) (λ q. cc (h, eq-eqb d g.device (sym (eqb-true g.device d q))))) in
    record {
      orders = record {
        groups = ascending-put group_order groups_total g s.groups r.orders.groups;
        stations = r.orders.stations;
        agents = r.orders.agents;
        monitors = r.orders.monitors;
        calls = r.orders.calls;
        connections = r.orders.connections;
      };
      kinds = λ d h. elim (or_cases (g.device == d) (is_group s d) (sym (group_put s g d) ∙ h)) [
        | inl e ↦ subst (λ v. is_station s v ≡ false) (eqb-true g.device d e) p.1
        | inr w ↦ r.kinds d w
      ];
      agents = every_from (AgentRule t) s.agents (λ a i. more_seat s t (λ d h. h) more a a.state (every_among (AgentRule s) s.agents a r.agents i));
      calls = every_from (CallRule t) s.calls (λ c i. let h = every_among (CallRule s) s.calls c r.calls i in (
        h.0,
        (elim (or_cases (is_group s c.called) (is_station s c.called) h.1) [
          | inl w ↦ or_left _ _ (more c.called w)
          | inr w ↦ or_right (is_group t c.called) _ w
        ]),
        h.2,
        other c.caller (any_false (λ (c : CallRecord). c.caller == g.device) s.calls f.1 c i) ∙ h.3,
      ));
      connections = every_from (ConnectionRule t) s.connections (λ z i.
          rule_more s t (λ d w. w) more z (λ k. k) (λ w. ap (λ b. b || is_station s z.device) (other z.device (nobody_at s g.device r free z i)) ∙ w)
          (every_among (ConnectionRule s) s.connections z r.connections i));
      parties = r.parties;
      one_open = r.one_open;
      one_live = r.one_live;
      no_hold = r.no_hold;
      one_offer = r.one_offer;
      one_agent = r.one_agent;
      ready = r.ready;
      busy = r.busy;
      pending = r.pending;
      free = r.free;
    }

-- a planned group gets another record
pub kept_put_group : (s : Rows) (g : GroupRecord) → Rules s → is_group s g.device ≡ true → Rules (changed s (PutGroup g))
unfolding with_group call_of connection_of agent_of station_of
kept_put_group s g r planned =
    let t : Rows = changed s (PutGroup g) in
    let same : (d : ℕ) → is_group t d ≡ is_group s d = group_kept s g planned in
    record {
      orders = record {
        groups = ascending-put group_order groups_total g s.groups r.orders.groups;
        stations = r.orders.stations;
        agents = r.orders.agents;
        monitors = r.orders.monitors;
        calls = r.orders.calls;
        connections = r.orders.connections;
      };
      kinds = λ d h. r.kinds d (sym (same d) ∙ h);
      agents =
          every_from (AgentRule t) s.agents (λ a i. more_seat s t (λ d h. h) (λ d h. same d ∙ h) a a.state (every_among (AgentRule s) s.agents a r.agents i));
      calls = every_from (CallRule t) s.calls (λ c i. let h = every_among (CallRule s) s.calls c r.calls i in
          (h.0, ap (λ b. b || is_station s c.called) (same c.called) ∙ h.1, h.2, same c.caller ∙ h.3));
      connections = every_from (ConnectionRule t) s.connections (λ z i.
          rule_more s t (λ d w. w) (λ d w. same d ∙ w) z (λ k. k) (λ w. ap (λ b. b || is_station s z.device) (same z.device) ∙ w)
          (every_among (ConnectionRule s) s.connections z r.connections i));
      parties = r.parties;
      one_open = r.one_open;
      one_live = r.one_live;
      no_hold = r.no_hold;
      one_offer = r.one_offer;
      one_agent = r.one_agent;
      ready = r.ready;
      busy = r.busy;
      pending = r.pending;
      free = r.free;
    }

-- a station is planned
pub kept_station : (s : Rows) (g : StationRecord) → Rules s → is_used s g.device ≡ false → Rules (changed s (PutStation g))
unfolding is_calling with_station call_of connection_of agent_of group_of
kept_station s g r free =
    let t : Rows = changed s (PutStation g) in
    let f = or_parts (is_planned s g.device) _ free in
    let p = or_parts (is_group s g.device) (is_station s g.device) f.0 in
    let more : (d : ℕ) → IsTrue (is_station s d) → IsTrue (is_station t d) = λ d h. station_put s g d ∙ or_right (g.device == d) (is_station s d) h in
    let other : (d : ℕ) → (d == g.device) ≡ false → is_station t d ≡ is_station s d =
    λ d h. station_put s g d
    ∙ ap (λ b. b || is_station s d) (false_from_ne_true (g.device == d) (λ q. cc (h, eq-eqb d g.device (sym (eqb-true g.device d q))))) in
    let empty : (q : ConnectionState → Bool) (d : ℕ) → (g.device == d) ≡ true → count (λ x. q x.state && x.device == d) s.connections ≡ 0 = λ q d e.
    count_zero (λ x. q x.state && x.device == d) s.connections
    (λ z i. and_right (q z.state) (z.device == d) (subst (λ v. (z.device == v) ≡ false) (eqb-true g.device d e) (nobody_at s g.device r free z i))) in
    record {
      orders = record {
        stations = ascending-put station_order stations_total g s.stations r.orders.stations;
        groups = r.orders.groups;
        agents = r.orders.agents;
        monitors = r.orders.monitors;
        calls = r.orders.calls;
        connections = r.orders.connections;
      };
      kinds = λ d h. other d (false_from_ne_true (d == g.device) (λ q. cc (subst (λ v. is_group s v ≡ true) (eqb-true d g.device q) h, p.0))) ∙ r.kinds d h;
      agents = every_from (AgentRule t) s.agents (λ a i. more_seat s t more (λ d h. h) a a.state (every_among (AgentRule s) s.agents a r.agents i));
      calls = every_from (CallRule t) s.calls (λ c i. let h = every_among (CallRule s) s.calls c r.calls i in (
        h.0,
        (elim (or_cases (is_group s c.called) (is_station s c.called) h.1) [
          | inl w ↦ or_left _ _ w
          | inr w ↦ or_right (is_group s c.called) _ (more c.called w)
        ]),
        h.2,
        h.3,
      ));
      connections = every_from (ConnectionRule t) s.connections (λ z i.
          rule_more s t more (λ d w. w) z (λ k. k) (λ w. ap (λ b. is_group s z.device || b) (other z.device (nobody_at s g.device r free z i)) ∙ w)
          (every_among (ConnectionRule s) s.connections z r.connections i));
      parties = r.parties;
      one_open = r.one_open;
      one_live = λ d h. elim (or_cases (g.device == d) (is_station s d) (sym (station_put s g d) ∙ h)) [
        | inl e ↦ (let z = empty is_live d e in omega (arith, z))
        | inr w ↦ r.one_live d w
      ];
      no_hold = λ d h l. elim (or_cases (g.device == d) (is_station s d) (sym (station_put s g d) ∙ h)) [ inl e ↦ empty is_hold d e | inr w ↦ r.no_hold d w l ];
      one_offer = r.one_offer;
      one_agent = r.one_agent;
      ready = r.ready;
      busy = r.busy;
      pending = r.pending;
      free = r.free;
    }

-- an agent is planned, in null
pub kept_new_agent : (s : Rows) (turn : Turn) (agent : ℕ) (name : List ℕ) → Rules s → agent_of s agent ≡ None
    → Rules (changed s (PutAgent (new_agent turn agent name)))
unfolding with_agent call_of connection_of group_of station_of
kept_new_agent s turn agent name r none =
    let b : AgentRecord = new_agent turn agent name in
    let counts : (p : AgentRecord → Bool) → count p (put_by (agent_order b) s.agents b) ≡ one (p b) + count p s.agents = λ p.
    count-put_new agent_order (λ (y : AgentRecord). y.agent == agent) p b (λ y q. eq-eqb y.agent agent (sym (cmp_equal agent y.agent q))) s.agents
    (sym (agent_find s agent) ∙ none) in
    with_agents (λ _. false) (λ _. false) s (put_by (agent_order b) s.agents b) r (λ d e. e) (record {
      sorted = ascending-put agent_order agents_total b s.agents r.orders.agents;
      rules = every-put (agent_order b) (AgentRule s) b (refl, refl, refl) s.agents r.agents;
      one_agent = λ d. let c = counts (seated_at d) in let o = r.one_agent d in omega (arith, c, o);
      ready = λ d q. let c = counts (ready_at d) in let o = r.ready d q in omega (arith, c, o);
      busy = λ d q. let c = counts (busy_at d) in let o = r.busy d q in omega (arith, c, o);
      pending = λ d q. let c = counts (pending_at d) in let o = r.pending d q in omega (arith, c, o);
    })

-- the monitors may change
pub with_monitors : (s : Rows) (ws : List MonitorRecord) (n : ℕ) → Rules s → IsAscending monitor_order ws → Rules (record s { monitors = ws; last_monitor = n })
unfolding call_of connection_of agent_of group_of station_of
with_monitors s ws n r h = record {
  orders = record {
    monitors = h;
    agents = r.orders.agents;
    groups = r.orders.groups;
    stations = r.orders.stations;
    calls = r.orders.calls;
    connections = r.orders.connections;
  };
  kinds = r.kinds;
  agents = r.agents;
  calls = r.calls;
  connections = r.connections;
  parties = r.parties;
  one_open = r.one_open;
  one_live = r.one_live;
  no_hold = r.no_hold;
  one_offer = r.one_offer;
  one_agent = r.one_agent;
  ready = r.ready;
  busy = r.busy;
  pending = r.pending;
  free = r.free;
}

pub started : (s : Rows) (w : MonitorRecord) → Rules s → Rules (changed s (PutMonitor w))
unfolding with_monitor
started s w r =
    with_monitors s (put_by (monitor_order w) s.monitors w) (max s.last_monitor w.monitor) r
    (ascending-put monitor_order monitors_total w s.monitors r.orders.monitors)

pub stopped : (s : Rows) (n : ℕ) → Rules s → Rules (changed s (RemoveMonitor n))
unfolding without_monitor
stopped s n r =
    with_monitors s (remove_by (at_monitor n) s.monitors) s.last_monitor r (ascending-remove monitor_order (at_monitor n) s.monitors r.orders.monitors)

-- an agent's record is put that counts at each station as the one before
same_agent : (s : Rows) (a b : AgentRecord) → Rules s → agent_of s a.agent ≡ Some a → b.agent ≡ a.agent → AgentRule s b
    → ((d : ℕ) → count (seated_at d) s.agents + one (seated_at d b) ≤ one (seated_at d a) + 1)
    → ((d : ℕ) → count (ringing_at d) s.connections + one (ready_at d a) ≤ count (ready_at d) s.agents + one (ready_at d b))
    → ((d : ℕ) → one (busy_at d a) ≡ one (busy_at d b))
    → ((d : ℕ) → count (pending_at d) s.agents + one (pending_at d b) ≤ count (is_distributed_at d) s.connections + one (pending_at d a))
    → Rules (changed s (PutAgent b))
unfolding with_agent call_of connection_of group_of station_of
same_agent s a b r there number rule seats ready busy pending =
    let counts : (p : AgentRecord → Bool) → count p (put_by (agent_order b) s.agents b) + one (p a) ≡ one (p b) + count p s.agents =
    λ p. count_agent p s b a r.orders.agents (rw number there) in
    with_agents (λ _. false) (λ _. false) s (put_by (agent_order b) s.agents b) r (λ d e. e) (record {
      sorted = ascending-put agent_order agents_total b s.agents r.orders.agents;
      rules = every-put (agent_order b) (AgentRule s) b rule s.agents r.agents;
      one_agent = λ d. let c = counts (seated_at d) in let o = seats d in omega (arith, c, o);
      ready = λ d _. let c = counts (ready_at d) in let o = ready d in omega (arith, c, o);
      busy = λ d _. let c = counts (busy_at d) in let o = busy d in let b = r.busy d refl in omega (arith, c, o, b);
      pending = λ d _. let c = counts (pending_at d) in let o = pending d in omega (arith, c, o);
    })

-- at an occupied agent's station there is a distributed connection
occupying : (s : Rows) (a : AgentRecord) → is_occupied s a ≡ true
    → (x : ConnectionRecord) × Among x s.connections × (has a.station x.device ≡ true) × (is_distributed x ≡ true)
unfolding is_occupied
occupying s a e =
    let p : ConnectionRecord → Bool = λ x. has a.station x.device && is_distributed x in
    let f = some_from (find p s.connections) (any_found p s.connections e) in
    let h = and_parts (has a.station f.0.device) (is_distributed f.0) (find_passes p s.connections f.0 f.1) in
    (f.0, find_among p s.connections f.0 f.1, h.0, h.1)

occupied_counts : (s : Rows) (a : AgentRecord) (d : ℕ) → is_occupied s a ≡ true → has a.station d ≡ true → 1 ≤ count (is_distributed_at d) s.connections
occupied_counts s a d e at_d =
    let x = occupying s a e in
    counted (is_distributed_at d) s.connections x.0 x.1
    (and_from _ _ x.3 (eq-eqb x.0.device d (number_is x.0.device d (sym (has_is a.station x.0.device x.2) ∙ has_is a.station d at_d))))
  where
    number_is : (m n : ℕ) → Some m ≡ Some n → m ≡ n
    number_is m n e = cc

-- an occupied agent may wait
may_wait : (s : Rows) (a : AgentRecord) (d : ℕ) → Rules s → agent_of s a.agent ≡ Some a → is_occupied s a ≡ true
    → count (pending_at d) s.agents + one (has a.station d) ≤ count (is_distributed_at d) s.connections + one (pending_at d a)
may_wait s a d r there occupied =
    let p = r.pending d refl in
    (elim (has a.station d) as (λ b. has a.station d ≡ b
    → count (pending_at d) s.agents + one b ≤ count (is_distributed_at d) s.connections + one (is_some a.pending && b)) [
      | true ↦ λ q. let c = occupied_counts s a d occupied q in
          let o =
          lone (pending_at d) (seated_at d) s.agents a (λ z v. (and_parts (is_some z.pending) (has z.station d) v).1) (agent_among s a.agent a there) q
          (r.one_agent d) in
          let w : one (pending_at d a) ≡ one (is_some a.pending && true) = ap (λ b. one (is_some a.pending && b)) q in omega (arith, o, c, w)
      | false ↦ λ q. omega (arith, p)
    ]) refl

-- an agent remains in its state: its name changes, or what is pending, where it isn't in null and may wait
kept_remains : (s : Rows) (a : AgentRecord) (name : List ℕ) (pending : Option Pending) → Rules s → agent_of s a.agent ≡ Some a
    → (is_null a.state ≡ true → pending ≡ a.pending)
    → ((d : ℕ) → count (pending_at d) s.agents + one (is_some pending && has a.station d) ≤ count (is_distributed_at d) s.connections + one (pending_at d a))
    → Rules (changed s (PutAgent (record a { name = name; pending = pending })))
kept_remains s a name pending r there null may =
    same_agent s a (record a { name = name; pending = pending }) r there refl
    (rule a.state null (every_among (AgentRule s) s.agents a r.agents (agent_among s a.agent a there)))
    (λ d. let o = r.one_agent d in omega (arith, o)) (λ d. let o = r.ready d refl in omega (arith, o)) (λ d. refl) may
  where
    rule : (st : AgentState) → (is_null st ≡ true → pending ≡ a.pending) → SeatedAs s a st → SeatedAs s (record a { name = name; pending = pending }) st
    rule A.Null e h = (h.0, h.1, e refl ∙ h.2)
    rule _ e h = h

-- an occupied agent is asked
pub kept_wait : (s : Rows) (a : AgentRecord) (w : Pending) → Rules s → agent_of s a.agent ≡ Some a → is_null a.state ≡ false → is_occupied s a ≡ true
    → Rules (changed s (PutAgent (record a { pending = Some w })))
kept_wait s a w r there seated occupied = kept_remains s a a.name (Some w) r there (λ e. absurd (cc (e, seated))) (λ d. may_wait s a d r there occupied)

pub kept_rename : (s : Rows) (a : AgentRecord) (name : List ℕ) → Rules s → agent_of s a.agent ≡ Some a → Rules (changed s (PutAgent (record a { name = name })))
kept_rename s a name r there = kept_remains s a name a.pending r there (λ _. refl) (λ d. let p = r.pending d refl in omega (arith, p))

-- an unoccupied agent changes to a state other than busy
kept_go_to : (s : Rows) (a : AgentRecord) (st : AgentState) (turn : Turn) (d : ℕ) → Rules s → agent_of s a.agent ≡ Some a → a.station ≡ Some d
    → is_occupied s a ≡ false → is_busy st ≡ false → Rules (changed s (go_to turn a d st).change)
kept_go_to s a st turn d r there station free not_busy =
    let seat = seat_from s a d a.state (every_among (AgentRule s) s.agents a r.agents (agent_among s a.agent a there)) station in
    loosen (λ e. false && not (d == e)) (λ _. false) _ (λ e q. absurd (cc (q))) (λ e q. refl)
    (left_keeps (λ _. false) s a (in_state st turn a) d r there station (unoccupied s a d station free) (left_state s a st turn not_busy seat))

pub kept_go_from : (s : Rows) (turn : Turn) (a : AgentRecord) (st : AgentState) → Rules s → agent_of s a.agent ≡ Some a → is_occupied s a ≡ false
    → is_busy st ≡ false → Rules (changed s (go_from turn a a.station st).change)
kept_go_from s turn a st r there free not_busy =
    (elim a.station as (λ o. a.station ≡ o → Rules (changed s (go_from turn a o st).change)) [
      | None ↦ λ _. r
      | Some d ↦ λ e. kept_go_to s a st turn d r there e free not_busy
    ]) refl

none_seated : (s : Rows) (d : ℕ) → agent_at s d ≡ None → count (seated_at d) s.agents ≡ 0
unfolding agent_at
none_seated s d e = count_zero (seated_at d) s.agents (λ a i. find_none (seated_at d) s.agents e a i)

-- an agent in null logs on at a free station
pub kept_log_on : (s : Rows) (a : AgentRecord) (d : ℕ) (gs : List ℕ) (turn : Turn) → Rules s → agent_of s a.agent ≡ Some a → is_null a.state ≡ true
    → IsTrue (is_station s d) → ArePlannedGroups s gs → agent_at s d ≡ None → Rules (changed s (log_on_at turn a d gs).change)
kept_log_on s a d gs turn r there null station planned free =
    let st : a.state ≡ A.Null = null_is a.state null in
    same_agent s a (record a {
      state = A.NotReady;
      pending = None;
      station = Some d;
      groups = gs;
      stamp = turn.stamp;
      since = turn.moment;
    }) r there refl (station, planned)
    (λ e. let o = r.one_agent e in
    (elim (d == e) as (λ b. (d == e) ≡ b → count (seated_at e) s.agents + one b ≤ one (seated_at e a) + 1) [
      | true ↦ λ q. let z : count (seated_at e) s.agents ≡ 0 = subst (λ w. count (seated_at w) s.agents ≡ 0) (eqb-true d e q) (none_seated s d free) in
          omega (arith, z)
      | false ↦ λ q. omega (arith, o)
    ]) refl)
    (λ e. let o = r.ready e refl in let f : one (ready_at e a) ≡ 0 = rw st refl in omega (arith, o, f))
    (λ e. rw st refl)
    (λ e. let o = r.pending e refl in omega (arith, o))

-- an occupied agent is ready or busy
occupied_state : (s : Rows) (a : AgentRecord) → Rules s → agent_of s a.agent ≡ Some a → is_occupied s a ≡ true
    → (is_ready a.state ≡ true) ⊎ (is_busy a.state ≡ true)
occupied_state s a r there e =
    let x = occupying s a e in
    let d : ℕ = x.0.device in
    let grouped = (and_parts (is_some x.0.group) (not (is_queued x.0.state)) x.3).0 in
    let i = agent_among s a.agent a there in
    elim (alerting_or_answered s x.0 (every_among (ConnectionRule s) s.connections x.0 r.connections x.1) x.3) [
      | inl w ↦ (let c = counted (ringing_at d) s.connections x.0 x.1 (and_from _ _ (and_from _ _ w grouped) (eqb_self d)) in let o = r.ready d refl in
          let l = lone (ready_at d) (seated_at d) s.agents a (λ z v. (and_parts (is_ready z.state) (has z.station d) v).1) i x.2 (r.one_agent d) in
          inl (and_parts (is_ready a.state) (has a.station d) (one_true (ready_at d a) (omega (arith, c, o, l)))).0)
      | inr w ↦ (let c = counted (talking_at d) s.connections x.0 x.1 (and_from _ _ (and_from _ _ w grouped) (eqb_self d)) in let o = r.busy d refl in
          let l = lone (busy_at d) (seated_at d) s.agents a (λ z v. (and_parts (is_busy z.state) (has z.station d) v).1) i x.2 (r.one_agent d) in
          inr (and_parts (is_busy a.state) (has a.station d) (one_true (busy_at d a) (omega (arith, c, o, l)))).0)
    ]
  where
    one_true : (b : Bool) → 1 ≤ one b → b ≡ true
    one_true true l = refl
    one_true false l = absurd (omega (arith, l))

not_working : (st : AgentState) → is_working_after_call st ≡ true → (is_ready st ≡ false) × (is_busy st ≡ false)
not_working A.WorkingAfterCall e = (refl, refl)
not_working _ e = absurd (cc (e))

-- after-call work ends
pub kept_rest_moves : (s : Rows) (turn : Turn) (a : AgentRecord) → Rules s → agent_of s a.agent ≡ Some a → is_working_after_call a.state ≡ true
    → Rules (moved s (wrap_up_moves turn a))
kept_rest_moves s turn a r there working =
    let n = not_working a.state working in
    kept_go_from s turn a A.Ready r there (false_from_ne_true (is_occupied s a) (λ e. elim (occupied_state s a r there e) [
      | inl w ↦ cc (w, n.0)
      | inr w ↦ cc (w, n.1)
    ])) refl
