-- The rules are kept by new calls and by talking: arriveCall, makeCall, phoneOffHook, answerCall, holdCall and retrieveCall.
use Rattle.std.proofs.Common.{◌≡◌, ℕ, ◌+◌, ◌≤◌, inl, Bool, true, false, not, ◌&&◌, cond, List, [], ◌∷◌, Option, Some, None, refl, ap, subst, arith, inr, sym, ◌∙◌, eq-eqb}
use Rattle.std.specs.Prelude.{◌==◌, IsTrue, is_some, IsFalse}
use Rattle.std.proofs.lemmas.Bool.{and_parts, and_from, false_from_ne_true, eqb-true, or_parts, or_right, and_left}
use Rattle.acd_lemmas.proofs.Words.{Rows, AgentRecord, CallRecord, ConnectionRecord, ConnectionState, put_by, count, Among, Every, IsAscending, is_initiated, is_alerting, is_connected, is_hold, is_queued, is_answered, is_live, group_of, station_of, agent_of, call_of, connection_of, is_group, is_station, is_planned, has, agent_at, is_distributed, is_live_at, with_agent, with_call, with_connection, no_move, changed, moved, agent_order, call_order, connection_order, is_open, parties_of, initiated_of, open_of, live_at, alerting_at, hold_at, is_distributed_at}
use Rattle.acd_terms.specs.declared.state.AgentState.TheVariants as A
use Rattle.acd_terms.specs.declared.state.ConnectionState.TheVariants as S
use Rattle.acd_model.specs.declared.moves.Change.TheVariants.{PutConnection, PutCall}
use Rattle.acd_model.specs.CallMoves.{talking, hold, retrieve, unqueued}
use Rattle.acd_model.specs.AgentMoves.{become_busy}
use Rattle.acd_lemmas.proofs.RuleFacts.{Rules, AgentRule, Bare, HasColumns, StandsAt, ConnectionRule, ringing_at, talking_at, seated_at, ready_at, busy_at, pending_at, CallRule, IsCaller, two_if}
use Rattle.acd_lemmas.proofs.Lists.{one, ascending-put, every-put, none_counted, fewer, every_among, every_from, counted, two_counted, none_from}
use Rattle.acd_lemmas.proofs.State.{agents_total, connections_total, connection_among, calls_total, call_put, put_other, found_key, call_among, count_old, count_agent, connection_rule, count_new, none_above, no_call_above, none_of_call}
use Rattle.acd_lemmas.proofs.KeyedLists.{eqb_self}
use Rattle.acd_laws.proofs.DestinationLemmas.{alerting_is_live, Arrived, rule_same, lone, with_connections, most_one, arrived_live, arrived_hold, arrived_open}
use Rattle.acd_laws.proofs.Rules.RulesOfOffers.{ringing_is}
use Rattle.acd_lemmas.proofs.States.{alerting_is, ready_is, initiated_is, connected_is, hold_is}
use Rattle.acd_laws.proofs.ReleaseLemmas.{Attends, attending}
use Rattle.acd_model.specs.Services.{occupy, busy_agent}
use Rattle.acd_laws.proofs.Rules.RulesOfEnds.{two_le}
use Rattle.acd_terms.specs.declared.command.Turn.{Turn}

-- the agents where the alerting connection x is answered
record Answered (s : Rows) (x : ConnectionRecord) (agents : List AgentRecord) : Type 0 where
  sorted : IsAscending agent_order agents
  rules : Every (AgentRule s) agents
  one_agent : (d : ℕ) → count (seated_at d) agents ≤ 1
  ready : (d : ℕ) → count (ringing_at d) s.connections ≤ count (ready_at d) agents + one (ringing_at d x)
  busy : (d : ℕ) → count (talking_at d) s.connections + one (ringing_at d x) ≡ count (busy_at d) agents
  pending : (d : ℕ) → count (pending_at d) agents ≤ count (is_distributed_at d) s.connections

-- an answer: the connection is connected
after_answer : (s : Rows) (x : ConnectionRecord) (agents : List AgentRecord) → Rules s → connection_of s x.call x.device ≡ Some x → is_alerting x.state ≡ true
    → Answered s x agents → Rules (record s { connections = put_by (connection_order (talking x)) s.connections (talking x); agents = agents })
unfolding call_of connection_of agent_of group_of station_of
after_answer s x agents r ex alerting after =
    let y : ConnectionRecord = talking x in
    let xs : x.state ≡ S.Alerting = alerting_is x.state alerting in
    let rule : ConnectionRule s x = connection_rule s r x.call x.device x ex in
    let at_x : IsTrue (is_station s x.device) = subst (StandsAt s x) xs rule.2 in
    let counts : (p : ConnectionRecord → Bool) → count p (put_by (connection_order y) s.connections y) + one (p x) ≡ one (p y) + count p s.connections =
    λ p. count_old p s y x r.orders.connections ex in
    record {
      orders = record {
        groups = r.orders.groups;
        stations = r.orders.stations;
        agents = after.sorted;
        monitors = r.orders.monitors;
        calls = r.orders.calls;
        connections = ascending-put connection_order connections_total y s.connections r.orders.connections;
      };
      kinds = r.kinds;
      agents = after.rules;
      calls = r.calls;
      connections =
          every-put (connection_order y) (ConnectionRule s) y (record { place = refl; queued = refl; offered = refl }, rule.1, inl at_x) s.connections
          r.connections;
      parties = λ n. let e1 = counts (parties_of n) in let e2 = counts (initiated_of n) in let p = r.parties n in
          let i : one (initiated_of n x) ≡ 0 = rw xs refl in omega (arith, e1, e2, p, i);
      one_open = λ n. let e = counts (open_of n) in let o = r.one_open n in omega (arith, e, o);
      one_live = λ e h. let c = counts (live_at e) in let o = r.one_live e h in let f : one (live_at e x) ≡ one (x.device == e) = rw xs refl in
          omega (arith, c, o, f);
      no_hold = λ e h l. let c = counts (alerting_at e) in let ch = counts (hold_at e) in let o = r.no_hold e h (omega (arith, c, l)) in omega (arith, ch, o);
      one_offer = λ e. let c = counts (is_distributed_at e) in let o = r.one_offer e in
          let f : one (is_distributed_at e x) ≡ one (is_distributed_at e y) = rw xs refl in omega (arith, c, o, f);
      one_agent = after.one_agent;
      ready = λ e _. let c = counts (ringing_at e) in let o = after.ready e in omega (arith, c, o);
      busy = λ e _. let c = counts (talking_at e) in let o = after.busy e in let f : one (talking_at e x) ≡ 0 = rw xs refl in
          let g : one (ringing_at e x) ≡ one (talking_at e y) = rw xs refl in omega (arith, c, o, f, g);
      pending = λ e _. let c = counts (is_distributed_at e) in let o = after.pending e in
          let f : one (is_distributed_at e x) ≡ one (is_distributed_at e y) = rw xs refl in omega (arith, c, o, f);
      free = λ e h. absurd (cc (h));
    }

-- the agent of a distributed connection becomes busy
answer_busy : (s : Rows) (turn : Turn) (x : ConnectionRecord) → Rules s → connection_of s x.call x.device ≡ Some x → is_alerting x.state ≡ true
    → is_distributed x ≡ true → (a : AgentRecord) → Attends s x a
    → Rules (changed (changed s (PutConnection (talking x))) (become_busy turn a x.device).change)
unfolding with_connection with_agent call_of connection_of agent_of group_of station_of
answer_busy s turn x r ex alerting dist a h =
    let b : AgentRecord = record a { state = A.Busy; stamp = turn.stamp; since = turn.moment } in
    let xs : x.state ≡ S.Alerting = alerting_is x.state alerting in
    let is : a.state ≡ A.Ready = ready_is a.state (h.ready alerting) in
    let counts : (p : AgentRecord → Bool) → count p (put_by (agent_order b) s.agents b) + one (p a) ≡ one (p b) + count p s.agents =
    λ p. count_agent p s b a r.orders.agents h.there in
    let ringing : (e : ℕ) → one (ringing_at e x) ≡ one (has a.station e) = λ e.
    rw (xs, (and_parts (is_some x.group) (not (is_queued x.state)) dist).0, h.station) refl in
    after_answer s x (put_by (agent_order b) s.agents b) r ex alerting (record {
      sorted = ascending-put agent_order agents_total b s.agents r.orders.agents;
      rules = every-put (agent_order b) (AgentRule s) b h.seat s.agents r.agents;
      one_agent = λ d. let c = counts (seated_at d) in let o = r.one_agent d in omega (arith, c, o);
      ready = λ d. let c = counts (ready_at d) in let o = r.ready d refl in let f : one (ready_at d a) ≡ one (has a.station d) = rw is refl in
          let g = ringing d in omega (arith, c, o, f, g);
      busy = λ d. let c = counts (busy_at d) in let o = r.busy d refl in let f : one (busy_at d a) ≡ 0 = rw is refl in let g = ringing d in
          omega (arith, c, o, f, g);
      pending = λ d. let c = counts (pending_at d) in let o = r.pending d refl in omega (arith, c, o);
    })

answer_plain : (s : Rows) (x : ConnectionRecord) → Rules s → connection_of s x.call x.device ≡ Some x → is_alerting x.state ≡ true → is_distributed x ≡ false
    → Rules (changed s (PutConnection (talking x)))
unfolding with_connection call_of connection_of agent_of group_of station_of
answer_plain s x r ex alerting dist =
    let xs : x.state ≡ S.Alerting = alerting_is x.state alerting in
    let none : (e : ℕ) → one (ringing_at e x) ≡ 0 =
    λ e. ap one (false_from_ne_true (ringing_at e x) (λ q. cc ((and_parts (is_distributed x) (x.device == e) (ringing_is e x q)).0, dist))) in
    after_answer s x s.agents r ex alerting (record {
      sorted = r.orders.agents;
      rules = r.agents;
      one_agent = r.one_agent;
      ready = λ d. let o = r.ready d refl in omega (arith, o);
      busy = λ d. let o = r.busy d refl in let f = none d in omega (arith, o, f);
      pending = λ d. r.pending d refl;
    })

busy_by : (s : Rows) (turn : Turn) (x : ConnectionRecord) (o : Option AgentRecord) (a : AgentRecord) → o ≡ Some a
    → Rules (changed (changed s (PutConnection (talking x))) (become_busy turn a x.device).change)
    → Rules (changed (changed s (PutConnection (talking x))) (busy_agent turn o x.device).change)
busy_by s turn x None a e r = absurd (cc (e))
busy_by s turn x (Some z) a e r = let same : z ≡ a = cc in rw same r

pub kept_answer : (s : Rows) (turn : Turn) (x : ConnectionRecord) → Rules s → connection_of s x.call x.device ≡ Some x → is_alerting x.state ≡ true
    → Rules (changed (changed s (PutConnection (talking x))) (occupy s turn x).change)
unfolding occupy
kept_answer s turn x r ex alerting =
    (elim (is_distributed x) as (λ b. is_distributed x ≡ b
    → Rules (changed (changed s (PutConnection (talking x))) (cond b (busy_agent turn (agent_at s x.device) x.device) no_move).change)) [
      | true ↦ λ e. let h = attending s x r (connection_among s x.call x.device x ex) e in
          busy_by s turn x (agent_at s x.device) h.0 h.1.at_station (answer_busy s turn x r ex alerting e h.0 h.1)
      | false ↦ λ e. answer_plain s x r ex alerting e
    ]) refl

-- a connected call and a held one change places: x before, y after
record Turns (s : Rows) (x y : ConnectionRecord) : Type 0 where
  call : y.call ≡ x.call
  device : y.device ≡ x.device
  group : y.group ≡ x.group
  rule : ConnectionRule s y
  before : is_answered x.state ≡ true
  after : is_answered y.state ≡ true

turned : (s : Rows) (x y : ConnectionRecord) → Rules s → connection_of s x.call x.device ≡ Some x → Turns s x y
    → ((d : ℕ) → IsTrue (is_station s d) → count (live_at d) (put_by (connection_order y) s.connections y) ≤ 1)
    → ((d : ℕ) → IsTrue (is_station s d) → 1 ≤ count (alerting_at d) s.connections → count (hold_at d) (put_by (connection_order y) s.connections y) ≡ 0)
    → Rules (changed s (PutConnection y))
unfolding with_connection call_of connection_of agent_of group_of station_of
turned s x y r ex t one_live no_hold =
    let same : connection_of s y.call y.device ≡ Some x = rw (t.call, t.device) ex in
    let counts : (p : ConnectionRecord → Bool) → count p (put_by (connection_order y) s.connections y) + one (p x) ≡ one (p y) + count p s.connections =
    λ p. count_old p s y x r.orders.connections same in
    let none : (st : ConnectionState) → is_answered st ≡ true
    → (is_initiated st ≡ false) × (is_open st ≡ false) × (is_alerting st ≡ false) × (is_queued st ≡ false) =
    answered_only in
    let nx = none x.state t.before in let ny = none y.state t.after in
    with_connections (λ _. false) s (put_by (connection_order y) s.connections y) r (record {
      sorted = ascending-put connection_order connections_total y s.connections r.orders.connections;
      rules = every-put (connection_order y) (ConnectionRule s) y t.rule s.connections r.connections;
      parties = λ n. let e1 = counts (parties_of n) in let e2 = counts (initiated_of n) in let p = r.parties n in
          let i : one (initiated_of n x) ≡ 0 = rw nx.0 refl in let j : one (initiated_of n y) ≡ 0 = rw ny.0 refl in
          let c : one (parties_of n y) ≡ one (parties_of n x) = rw t.call refl in omega (arith, e1, e2, p, i, j, c);
      one_open = λ n. let e = counts (open_of n) in let o = r.one_open n in let i : one (open_of n y) ≡ 0 = rw ny.1 refl in omega (arith, e, o, i);
      one_live = one_live;
      no_hold = λ d h l. let c = counts (alerting_at d) in let i : one (alerting_at d y) ≡ 0 = rw ny.2 refl in no_hold d h (omega (arith, c, i, l));
      one_offer = λ d. let c = counts (is_distributed_at d) in let o = r.one_offer d in
          let i : one (is_distributed_at d y) ≡ one (is_distributed_at d x) = rw (t.device, t.group, ny.3, nx.3) refl in omega (arith, c, o, i);
      ready = λ d _. let c = counts (ringing_at d) in let o = r.ready d refl in let i : one (ringing_at d y) ≡ 0 = rw ny.2 refl in omega (arith, c, o, i);
      busy = λ d _. let c = counts (talking_at d) in let o = r.busy d refl in
          let i : one (talking_at d y) ≡ one (talking_at d x) = rw (t.device, t.group, t.before, t.after) refl in omega (arith, c, o, i);
      pending = λ d _. let c = counts (is_distributed_at d) in let o = r.pending d refl in
          let i : one (is_distributed_at d y) ≡ one (is_distributed_at d x) = rw (t.device, t.group, ny.3, nx.3) refl in omega (arith, c, o, i);
      free = λ d h. absurd (cc (h));
    })
  where
    answered_only : (st : ConnectionState) → is_answered st ≡ true
        → (is_initiated st ≡ false) × (is_open st ≡ false) × (is_alerting st ≡ false) × (is_queued st ≡ false)
    answered_only S.Connected e = (refl, refl, refl, refl)
    answered_only S.Hold e = (refl, refl, refl, refl)
    answered_only _ e = absurd (cc (e))

pub kept_hold : (s : Rows) (x : ConnectionRecord) → Rules s → connection_of s x.call x.device ≡ Some x → IsTrue (is_station s x.device)
    → is_connected x.state ≡ true → Rules (moved s (hold x ∷ []))
kept_hold s x r ex station connected =
    let y : ConnectionRecord = record x { state = S.Hold } in
    let xs : x.state ≡ S.Connected = connected_is x.state connected in
    let among = connection_among s x.call x.device x ex in
    let rule = connection_rule s r x.call x.device x ex in
    let b : Bare x = subst (HasColumns x) xs rule.0 in
    let counts : (p : ConnectionRecord → Bool) → count p (put_by (connection_order y) s.connections y) + one (p x) ≡ one (p y) + count p s.connections =
    λ p. count_old p s y x r.orders.connections ex in
    turned s x y r ex (record {
      call = refl;
      device = refl;
      group = refl;
      rule = (record { place = b.place; queued = b.queued; offered = b.offered }, rule.1, station);
      before = rw xs refl;
      after = refl;
    })
    (λ d h. let c = counts (live_at d) in let o = r.one_live d h in omega (arith, c, o))
    (λ d h l. let c = counts (hold_at d) in let f : one (hold_at d x) ≡ 0 = rw xs refl in
    (elim (x.device == d) as (λ v. (x.device == d) ≡ v → count (hold_at d) (put_by (connection_order y) s.connections y) ≡ 0) [
      | true ↦ λ e. let w = lone (alerting_at d) (live_at d) s.connections x (alerting_is_live d) among (rw (xs, e) refl) (r.one_live d h) in
          let z : one (alerting_at d x) ≡ 0 = rw xs refl in absurd (omega (arith, w, z, l))
      | false ↦ λ e. let o = r.no_hold d h l in let g : one (hold_at d y) ≡ 0 = ap one e in omega (arith, c, f, g, o)
    ]) refl)

pub no_live : (s : Rows) (d : ℕ) → is_live_at s d ≡ false → count (live_at d) s.connections ≡ 0
unfolding is_live_at
no_live s d e =
    let z = none_counted (λ x. x.device == d && is_live x.state) s.connections e in
    let l =
    fewer (live_at d) (λ x. x.device == d && is_live x.state) (λ x h. let k = and_parts (is_live x.state) (x.device == d) h in and_from _ _ k.1 k.0)
    s.connections in
    omega (arith, z, l)

pub kept_retrieve : (s : Rows) (x : ConnectionRecord) → Rules s → connection_of s x.call x.device ≡ Some x → is_hold x.state ≡ true
    → is_live_at s x.device ≡ false → Rules (moved s (retrieve x ∷ []))
kept_retrieve s x r ex holds free =
    let y : ConnectionRecord = record x { state = S.Connected } in
    let xs : x.state ≡ S.Hold = hold_is x.state holds in
    let rule = connection_rule s r x.call x.device x ex in
    let b : Bare x = subst (HasColumns x) xs rule.0 in
    let station : IsTrue (is_station s x.device) = subst (StandsAt s x) xs rule.2 in
    let counts : (p : ConnectionRecord → Bool) → count p (put_by (connection_order y) s.connections y) + one (p x) ≡ one (p y) + count p s.connections =
    λ p. count_old p s y x r.orders.connections ex in
    turned s x y r ex (record {
      call = refl;
      device = refl;
      group = refl;
      rule = (record { place = b.place; queued = b.queued; offered = b.offered }, rule.1, inl station);
      before = rw xs refl;
      after = refl;
    })
    (λ d h. let c = counts (live_at d) in let o = most_one live_at s.connections x.device d (no_live s x.device free) (r.one_live d h) in omega (arith, c, o))
    (λ d h l. let c = counts (hold_at d) in let o = r.no_hold d h l in omega (arith, c, o))

-- who was caller of a live call is so when one more call is put
pub caller_stays : (s : Rows) (c : CallRecord) (n d : ℕ) → call_of s c.call ≡ None → IsCaller (call_of s n) d
    → IsCaller (cond (c.call == n) (Some c) (call_of s n)) d
caller_stays s c n d none h =
    (elim (c.call == n) as (λ b. (c.call == n) ≡ b → IsCaller (cond b (Some c) (call_of s n)) d) [
      | true ↦ λ q. absurd (subst (λ o. IsCaller o d) none (subst (λ v. IsCaller (call_of s v) d) (sym (eqb-true c.call n q)) h))
      | false ↦ λ q. h
    ]) refl

-- a device outside the plan is no station
not_station : (s : Rows) (d e : ℕ) → is_planned s d ≡ false → IsTrue (is_station s e) → (d == e) ≡ false
not_station s d e outside h = false_from_ne_true (d == e) (λ q.
    let same : is_planned s d ≡ is_planned s e = ap (is_planned s) (eqb-true d e q) in cc (or_right (is_group s e) (is_station s e) h, same, outside))

-- a call arrives: the state with the call, its caller's connection and one at its destination
pub begun : (s : Rows) (c : CallRecord) (y : ConnectionRecord) → Rules s → c.call ≡ s.last_call + 1 → is_planned s c.caller ≡ false
    → is_planned s c.called ≡ true → Arrived s c.call c.called y
    → Rules (changed (changed (changed s (PutCall c)) (PutConnection (unqueued c.call c.caller S.Connected))) (PutConnection y))
unfolding with_connection with_call call_of connection_of group_of station_of
begun s c y r number outside inside a =
    let u : Rows = changed s (PutCall c) in
    let x : ConnectionRecord = unqueued c.call c.caller S.Connected in
    let v : Rows = changed u (PutConnection x) in
    let t : Rows = changed v (PutConnection y) in
    let apart : c.caller ≡ c.called → ⊥ = λ e. cc (outside, inside, ap (is_planned s) e) in
    let none : (d : ℕ) → connection_of s c.call d ≡ None = λ d. none_above s r c.call d (omega (arith, number)) in
    let no_call : call_of s c.call ≡ None = no_call_above s r c.call (omega (arith, number)) in
    let zero : count (parties_of c.call) s.connections ≡ 0 = none_of_call s r c.call no_call in
    let there : connection_of v y.call y.device ≡ None = rw (a.call, a.device) (put_other u x c.call c.called (λ _ e. apart e) ∙ none c.called) in
    let counts : (p : ConnectionRecord → Bool) → count p t.connections ≡ one (p y) + (one (p x) + count p s.connections) =
    λ p. count_new p v y there ∙ ap (λ n. one (p y) + n) (count_new p u x (none c.caller)) in
    let calls : (n : ℕ) → call_of t n ≡ cond (c.call == n) (Some c) (call_of s n) = λ n. call_put s c n in
    record {
      orders = record {
        groups = r.orders.groups;
        stations = r.orders.stations;
        agents = r.orders.agents;
        monitors = r.orders.monitors;
        calls = ascending-put call_order calls_total c s.calls r.orders.calls;
        connections =
            ascending-put connection_order connections_total y v.connections
            (ascending-put connection_order connections_total x s.connections r.orders.connections);
      };
      kinds = r.kinds;
      agents = r.agents;
      calls = every-put (call_order c) (CallRule t) c (omega arith, inside, (λ e. apart (sym e)), (or_parts _ _ outside).0) s.calls
          (every_from (CallRule t) s.calls
          (λ k b. let h = every_among (CallRule s) s.calls k r.calls b in let l : k.call ≤ s.last_call = h.0 in (omega (arith, l), h.1, h.2, h.3)));
      connections =
          every-put (connection_order y) (ConnectionRule t) y
          (rule_same s t (λ _. refl) (λ _. refl) y (λ k. rw (calls y.call) (caller_stays s c y.call y.device no_call k)) a.rule) v.connections
          (every-put (connection_order x) (ConnectionRule t) x
          (record { place = refl; queued = refl; offered = refl }, tt, inr (outside, rw (calls c.call, eqb_self c.call) refl)) s.connections
          (every_from (ConnectionRule t) s.connections
          (λ z b. rule_same s t (λ _. refl) (λ _. refl) z (λ k. rw (calls z.call) (caller_stays s c z.call z.device no_call k))
          (every_among (ConnectionRule s) s.connections z r.connections b))));
      parties = λ n.
          let e1 = counts (parties_of n) in let e2 = counts (initiated_of n) in let p = r.parties n in
          let i : one (initiated_of n y) ≡ 0 = rw a.not_initiated refl in
          (elim (c.call == n) as (λ b. (c.call == n) ≡ b
          → count (parties_of n) t.connections + count (initiated_of n) t.connections ≡ two_if (is_some (cond b (Some c) (call_of s n)))) [
            | true ↦ λ q.
                let f : one (y.call == n) ≡ 1 = rw (a.call, q) refl in let g : one (c.call == n) ≡ 1 = rw q refl in
                let z : two_if (is_some (call_of s n)) ≡ 0 = rw (← eqb-true c.call n q, no_call) refl in omega (arith, e1, e2, p, i, f, g, z)
            | false ↦ λ q.
                let f : one (y.call == n) ≡ 0 = rw (a.call, q) refl in let g : one (c.call == n) ≡ 0 = rw q refl in omega (arith, e1, e2, p, i, f, g)
          ]) refl
          ∙ ap (λ o. two_if (is_some o)) (sym (calls n));
      one_open = λ n. let e = counts (open_of n) in
          let l = fewer (open_of c.call) (parties_of c.call) (λ w h. (and_parts (is_open w.state) (w.call == c.call) h).1) s.connections in
          let o = arrived_open s c.call c.called n y false a (r.one_open n) (omega (arith, zero, l)) in omega (arith, e, o);
      one_live = λ d h. let e = counts (live_at d) in let g : one (c.caller == d) ≡ 0 = ap one (not_station s c.caller d outside h) in
          let o = arrived_live s c.call c.called d y a (r.one_live d h) in omega (arith, e, g, o);
      no_hold = λ d h l. let e = counts (alerting_at d) in let e2 = counts (hold_at d) in let i : one (hold_at d y) ≡ 0 = rw a.not_hold refl in
          let z = arrived_hold s c.call c.called d y a (r.no_hold d h) (omega (arith, e, l)) in omega (arith, e2, i, z);
      one_offer = λ d. let e = counts (is_distributed_at d) in let b = r.one_offer d in let f : one (is_distributed_at d y) ≡ 0 = rw a.not_distributed refl in
          omega (arith, e, b, f);
      one_agent = r.one_agent;
      ready = λ d _. let e = counts (ringing_at d) in let b = r.ready d refl in let f : one (ringing_at d y) ≡ 0 = rw a.not_ringing refl in
          omega (arith, e, b, f);
      busy = λ d _. let e = counts (talking_at d) in let b = r.busy d refl in let f : one (talking_at d y) ≡ 0 = rw a.not_answered refl in
          omega (arith, e, b, f);
      pending = λ d _. let e = counts (is_distributed_at d) in let o = r.pending d refl in omega (arith, e, o);
      free = λ d q. absurd (cc (q));
    }

station_no_group : (s : Rows) (d : ℕ) → ((e : ℕ) → IsTrue (is_group s e) → IsFalse (is_station s e)) → IsTrue (is_station s d) → is_group s d ≡ false
station_no_group s d kinds h = false_from_ne_true (is_group s d) (λ e. cc (kinds d e, h))

-- a call is made: the state with the call and its initiated connection
pub made : (s : Rows) (m device called : ℕ) → Rules s → IsTrue (is_station s device) → is_planned s called ≡ true → (called == device) ≡ false
    → is_live_at s device ≡ false
    → Rules (changed (changed s (PutCall (record { call = s.last_call + 1; caller = device; called = called; since = m })))
    (PutConnection (unqueued (s.last_call + 1) device S.Initiated)))
unfolding with_connection with_call call_of connection_of agent_of group_of station_of
made s m device called r station planned differ free =
    let c : CallRecord = record { call = s.last_call + 1; caller = device; called = called; since = m } in
    let y : ConnectionRecord = unqueued c.call device S.Initiated in
    let u : Rows = changed s (PutCall c) in
    let t : Rows = changed u (PutConnection y) in
    let no_call : call_of s c.call ≡ None = no_call_above s r c.call (omega arith) in
    let zero : count (parties_of c.call) s.connections ≡ 0 = none_of_call s r c.call no_call in
    let counts : (p : ConnectionRecord → Bool) → count p t.connections ≡ one (p y) + count p s.connections =
    λ p. count_new p u y (none_above s r c.call device (omega arith)) in
    let calls : (n : ℕ) → call_of t n ≡ cond (c.call == n) (Some c) (call_of s n) = λ n. call_put s c n in
    record {
      orders = record {
        groups = r.orders.groups;
        stations = r.orders.stations;
        agents = r.orders.agents;
        monitors = r.orders.monitors;
        calls = ascending-put call_order calls_total c s.calls r.orders.calls;
        connections = ascending-put connection_order connections_total y s.connections r.orders.connections;
      };
      kinds = r.kinds;
      agents = r.agents;
      calls =
          every-put (call_order c) (CallRule t) c (omega arith, planned, (λ e. cc (differ, eq-eqb called device e)), station_no_group s device r.kinds station)
          s.calls
          (every_from (CallRule t) s.calls
          (λ k b. let w = every_among (CallRule s) s.calls k r.calls b in let l : k.call ≤ s.last_call = w.0 in (omega (arith, l), w.1, w.2, w.3)));
      connections =
          every-put (connection_order y) (ConnectionRule t) y
          ((record { place = refl; queued = refl; offered = refl }, refl), tt, (station, rw (calls c.call, eqb_self c.call) refl)) s.connections
          (every_from (ConnectionRule t) s.connections
          (λ z b. rule_same s t (λ _. refl) (λ _. refl) z (λ k. rw (calls z.call) (caller_stays s c z.call z.device no_call k))
          (every_among (ConnectionRule s) s.connections z r.connections b)));
      parties = λ n. let e1 = counts (parties_of n) in let e2 = counts (initiated_of n) in let p = r.parties n in
          (elim (c.call == n) as (λ b. (c.call == n) ≡ b
          → count (parties_of n) t.connections + count (initiated_of n) t.connections ≡ two_if (is_some (cond b (Some c) (call_of s n)))) [
            | true ↦ λ q. let f : one (parties_of n y) ≡ 1 = ap one q in let g : one (initiated_of n y) ≡ 1 = ap one q in
                let z : two_if (is_some (call_of s n)) ≡ 0 = rw (← eqb-true c.call n q, no_call) refl in omega (arith, e1, e2, p, f, g, z)
            | false ↦ λ q. let f : one (parties_of n y) ≡ 0 = ap one q in let g : one (initiated_of n y) ≡ 0 = ap one q in omega (arith, e1, e2, p, f, g)
          ]) refl
          ∙ ap (λ o. two_if (is_some o)) (sym (calls n));
      one_open = λ n. let e = counts (open_of n) in let o = r.one_open n in omega (arith, e, o);
      one_live = λ d w. let e = counts (live_at d) in let o = most_one live_at s.connections device d (no_live s device free) (r.one_live d w) in
          omega (arith, e, o);
      no_hold = λ d w l. let c1 = counts (alerting_at d) in let c2 = counts (hold_at d) in let o = r.no_hold d w (omega (arith, c1, l)) in omega (arith, c2, o);
      one_offer = λ d. let e = counts (is_distributed_at d) in let o = r.one_offer d in omega (arith, e, o);
      one_agent = r.one_agent;
      ready = λ d _. let e = counts (ringing_at d) in let o = r.ready d refl in omega (arith, e, o);
      busy = λ d _. let e = counts (talking_at d) in let o = r.busy d refl in omega (arith, e, o);
      pending = λ d _. let e = counts (is_distributed_at d) in let o = r.pending d refl in omega (arith, e, o);
      free = λ d q. absurd (cc (q));
    }

is_caller_of : (o : Option CallRecord) (c : CallRecord) (d : ℕ) → o ≡ Some c → IsCaller o d → c.caller ≡ d
is_caller_of o c d e h = subst (λ v. IsCaller v d) e h

group_none : (x : ConnectionRecord) → x.state ≡ S.Initiated → HasColumns x x.state → is_some x.group ≡ false
group_none x e c = none_is x.group (subst (HasColumns x) e c).1
  where
    none_is : (o : Option ℕ) → o ≡ None → is_some o ≡ false
    none_is o q = rw q refl

pub initiated_alone : (s : Rows) (x : ConnectionRecord) → Rules s → Among x s.connections → is_initiated x.state ≡ true
    → count (parties_of x.call) s.connections ≡ 1
initiated_alone s x r among initiated =
    let p = r.parties x.call in let w = counted (initiated_of x.call) s.connections x among (and_from _ _ initiated (eqb_self x.call)) in
    let f = fewer (initiated_of x.call) (parties_of x.call) (λ z h. (and_parts (is_initiated z.state) (z.call == x.call) h).1) s.connections in
    let t = two_le (is_some (call_of s x.call)) in omega (arith, p, w, f, t)

-- an initiated call is sent on: x is connected, and y is at the destination
pub gone_out : (s : Rows) (x y : ConnectionRecord) (c : CallRecord) (d : ℕ) → Rules s → connection_of s x.call x.device ≡ Some x → is_initiated x.state ≡ true
    → call_of s x.call ≡ Some c → (x.device ≡ d → ⊥) → Arrived s x.call d y → connection_of s x.call d ≡ None
    → Rules (changed (changed s (PutConnection (record x { state = S.Connected }))) (PutConnection y))
unfolding with_connection call_of connection_of agent_of group_of station_of
gone_out s x y c d r ex initiated ec apart a none =
    let x2 : ConnectionRecord = record x { state = S.Connected } in
    let u : Rows = changed s (PutConnection x2) in
    let t : Rows = changed u (PutConnection y) in
    let xs : x.state ≡ S.Initiated = initiated_is x.state initiated in
    let rule = connection_rule s r x.call x.device x ex in
    let st : IsTrue (is_station s x.device) × IsCaller (call_of s x.call) x.device = subst (StandsAt s x) xs rule.2 in
    let bare_of = subst (HasColumns x) xs rule.0 in
    let no_group : is_some x.group ≡ false = group_none x xs rule.0 in
    let among = connection_among s x.call x.device x ex in
    let counts : (p : ConnectionRecord → Bool) → count p t.connections + one (p x) ≡ one (p y) + (one (p x2) + count p s.connections) = λ p.
    let e1 = count_new p u y (rw (a.call, a.device) (put_other s x2 x.call d (λ _ q. apart q) ∙ none)) in let e2 = count_old p s x2 x r.orders.connections ex in
    omega (arith, e1, e2) in
    let shut : count (open_of x.call) s.connections ≤ 0 =
    let al = initiated_alone s x r among initiated in
    let w =
    lone (open_of x.call) (parties_of x.call) s.connections x (λ z h. (and_parts (is_open z.state) (z.call == x.call) h).1) among (eqb_self x.call)
    (omega (arith, al)) in
    let z : one (open_of x.call x) ≡ 0 = rw xs refl in omega (arith, w, z) in
    with_connections (λ _. false) s t.connections r (record {
      sorted =
          ascending-put connection_order connections_total y u.connections
          (ascending-put connection_order connections_total x2 s.connections r.orders.connections);
      rules = every-put (connection_order y) (ConnectionRule s) y a.rule u.connections
          (every-put (connection_order x2) (ConnectionRule s) x2
          (record { place = bare_of.0.place; queued = bare_of.0.queued; offered = bare_of.0.offered }, rule.1, inl st.0) s.connections r.connections);
      parties = λ n. let e1 = counts (parties_of n) in let e2 = counts (initiated_of n) in let p = r.parties n in
          let f : one (parties_of n y) ≡ one (parties_of n x) = rw a.call refl in let i : one (initiated_of n x) ≡ one (parties_of n x) = rw xs refl in
          let j : one (initiated_of n y) ≡ 0 = rw a.not_initiated refl in omega (arith, e1, e2, p, f, i, j);
      one_open = λ n. let e = counts (open_of n) in let o = arrived_open s x.call d n y false a (r.one_open n) shut in omega (arith, e, o);
      one_live = λ e h. let c = counts (live_at e) in let f : one (live_at e x) ≡ one (x.device == e) = rw xs refl in
          let o = arrived_live s x.call d e y a (r.one_live e h) in omega (arith, c, f, o);
      no_hold = λ e h l. let c = counts (alerting_at e) in let ch = counts (hold_at e) in let i : one (hold_at e y) ≡ 0 = rw a.not_hold refl in
          let z = arrived_hold s x.call d e y a (r.no_hold e h) (omega (arith, c, l)) in omega (arith, ch, i, z);
      one_offer = λ e. let c = counts (is_distributed_at e) in let o = r.one_offer e in let g : one (is_distributed_at e y) ≡ 0 = rw a.not_distributed refl in
          let h : one (is_distributed_at e x2) ≡ 0 = rw no_group refl in omega (arith, c, o, g, h);
      ready = λ e _. let c = counts (ringing_at e) in let o = r.ready e refl in let g : one (ringing_at e y) ≡ 0 = rw a.not_ringing refl in
          omega (arith, c, o, g);
      busy = λ e _. let c = counts (talking_at e) in let o = r.busy e refl in let g : one (talking_at e y) ≡ 0 = rw a.not_answered refl in
          let f : one (talking_at e x) ≡ 0 = rw xs refl in let h : one (talking_at e x2) ≡ 0 = rw no_group refl in omega (arith, c, o, f, g, h);
      pending = λ e _. let c = counts (is_distributed_at e) in let o = r.pending e refl in
          let g : one (is_distributed_at e y) ≡ 0 = rw a.not_distributed refl in
          let f : one (is_distributed_at e x) ≡ 0 =
          ap one (and_left (is_distributed x) (x.device == e) (ap (λ b. b && not (is_queued x.state)) (group_none x xs rule.0))) in
          omega (arith, c, o, f, g);
      free = λ e h. absurd (cc (h));
    })

-- the destination of an initiated call
pub record Outgoing (s : Rows) (x : ConnectionRecord) (d : ℕ) : Type 0 where
  pub planned : is_planned s d ≡ true
  pub apart : x.device ≡ d → ⊥
  pub new : connection_of s x.call d ≡ None

pub outgoing : (s : Rows) (x : ConnectionRecord) (c : CallRecord) → Rules s → connection_of s x.call x.device ≡ Some x → is_initiated x.state ≡ true
    → call_of s x.call ≡ Some c → Outgoing s x c.called
outgoing s x c r ex initiated ec =
    let xs : x.state ≡ S.Initiated = initiated_is x.state initiated in
    let st : IsTrue (is_station s x.device) × IsCaller (call_of s x.call) x.device = subst (StandsAt s x) xs (connection_rule s r x.call x.device x ex).2 in
    let rule = every_among (CallRule s) s.calls c r.calls (call_among s x.call c ec) in
    let apart : x.device ≡ c.called → ⊥ = λ e. rule.2 (sym e ∙ sym (is_caller_of (call_of s x.call) c x.device ec st.1)) in
    record {
      planned = rule.1;
      apart = apart;
      new = none_from (connection_of s x.call c.called) (λ z e.
          let k = found_key s x.call c.called z e in
          let two =
          two_counted (parties_of x.call) s.connections x z (connection_among s x.call x.device x ex) (connection_among s x.call c.called z e)
          (eqb_self x.call) (eq-eqb z.call x.call k.0) (λ q. apart (ap (λ (z : ConnectionRecord). z.device) q ∙ k.1)) in
          let al = initiated_alone s x r (connection_among s x.call x.device x ex) initiated in omega (arith, two, al));
    }
