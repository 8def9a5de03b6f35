-- The connection at a destination, the rules' conditions on a connection, and the rules where only the connections change, or only the
-- agents.
use Rattle.std.proofs.Common.{◌≡◌, ℕ, inl, inr, Bool, true, false, ◌&&◌, ◌||◌, Option, Some, None, refl, ◌∙◌, arith, ◌+◌, ◌≤◌, not, List, sym, ap, subst}
use Rattle.std.specs.Prelude.{◌==◌, is_some}
use Rattle.std.proofs.lemmas.Bool.{and_parts, and_from, not-true, or_right, or_left, and_right, eqb-true}
use Rattle.acd_lemmas.proofs.Words.{Rows, AgentRecord, ConnectionRecord, ConnectionState, count, Among, Every, IsAscending, is_initiated, is_alerting, is_hold, is_answered, is_live, group_of, station_of, call_of, is_group, is_station, is_planned, is_distributed, is_idle, agent_order, connection_order, is_open, parties_of, initiated_of, open_of, live_at, alerting_at, hold_at, is_distributed_at}
use Rattle.acd_terms.specs.declared.state.ConnectionState.TheVariants as S
use Rattle.acd_model.specs.CallMoves.{unqueued, met_at, destination_of, arriving}
use Rattle.acd_lemmas.proofs.RuleFacts.{Bare, GroupColumn, IsCaller, StandsAt, ConnectionRule, RulesBut, Rules, AgentRule, ringing_at, talking_at, seated_at, ready_at, busy_at, pending_at, two_if}
use Rattle.acd_lemmas.proofs.Lists.{none_counted, fewer, one, counted, both_fewer}
use Rattle.acd_terms.specs.declared.command.Turn.{Turn}

-- the connection at a destination
pub record Arrived (s : Rows) (c d : ℕ) (y : ConnectionRecord) : Type 0 where
  pub call : y.call ≡ c
  pub device : y.device ≡ d
  pub rule : ConnectionRule s y
  pub not_initiated : is_initiated y.state ≡ false
  pub not_hold : is_hold y.state ≡ false
  pub not_answered : is_answered y.state ≡ false
  pub not_distributed : is_distributed y ≡ false
  pub not_ringing : (is_alerting y.state && is_some y.group) ≡ false
  pub idle : is_live y.state ≡ true → is_idle s d ≡ true
  pub alerting_idle : is_alerting y.state ≡ true → is_idle s d ≡ true

bare : (c d : ℕ) (state : ConnectionState) → Bare (unqueued c d state)
bare c d state = record { place = refl; queued = refl; offered = refl }

arrived_as : (q i : Bool) (s : Rows) (turn : Turn) (c d : ℕ) → is_group s d ≡ q → is_idle s d ≡ i → is_planned s d ≡ true
    → Arrived s c d (arriving (met_at q i) turn c d)
arrived_as true i s turn c d e f p =
    record {
      call = refl;
      device = refl;
      rule = (record { group = refl; place = refl; queued = refl; offered = refl }, e, e);
      not_initiated = refl;
      not_hold = refl;
      not_answered = refl;
      not_distributed = refl;
      not_ringing = refl;
      idle = λ q. absurd (cc (q));
      alerting_idle = λ q. absurd (cc (q));
    }
arrived_as false true s turn c d e f p =
    record {
      call = refl;
      device = refl;
      rule = (bare c d S.Alerting, tt, rw e at p);
      not_initiated = refl;
      not_hold = refl;
      not_answered = refl;
      not_distributed = refl;
      not_ringing = refl;
      idle = λ q. f;
      alerting_idle = λ q. f;
    }
arrived_as false false s turn c d e f p =
    record {
      call = refl;
      device = refl;
      rule = ((bare c d S.Fail, refl), tt, rw e at p);
      not_initiated = refl;
      not_hold = refl;
      not_answered = refl;
      not_distributed = refl;
      not_ringing = refl;
      idle = λ q. absurd (cc (q));
      alerting_idle = λ q. absurd (cc (q));
    }

pub arrived : (s : Rows) (turn : Turn) (c d : ℕ) → is_planned s d ≡ true → Arrived s c d (arriving (destination_of s d) turn c d)
arrived s turn c d p = arrived_as (is_group s d) (is_idle s d) s turn c d refl refl p

-- at an idle station none is live, alerting or on hold
is_at : ℕ → ConnectionRecord → Bool
is_at d x = x.device == d && (is_live x.state || is_hold x.state)

none_at : (s : Rows) (d : ℕ) → is_idle s d ≡ true → count (is_at d) s.connections ≡ 0
unfolding is_at is_idle
none_at s d e = none_counted (λ x. x.device == d && (is_live x.state || is_hold x.state)) s.connections (not-true _ e)

live_is_at : (d : ℕ) (x : ConnectionRecord) → live_at d x ≡ true → is_at d x ≡ true
unfolding is_at
live_is_at d x e = let h = and_parts (is_live x.state) (x.device == d) e in and_from _ _ h.1 (or_left (is_live x.state) (is_hold x.state) h.0)

held_is_at : (d : ℕ) (x : ConnectionRecord) → hold_at d x ≡ true → is_at d x ≡ true
unfolding is_at
held_is_at d x e = let h = and_parts (is_hold x.state) (x.device == d) e in and_from _ _ h.1 (or_right (is_live x.state) (is_hold x.state) h.0)

alerting_live : (st : ConnectionState) → is_alerting st ≡ true → is_live st ≡ true
alerting_live S.Hold e = absurd (cc (e))
alerting_live S.Queued e = absurd (cc (e))
alerting_live S.Fail e = absurd (cc (e))
alerting_live _ e = refl

pub alerting_is_live : (d : ℕ) (x : ConnectionRecord) → alerting_at d x ≡ true → live_at d x ≡ true
alerting_is_live d x e = let h = and_parts (is_alerting x.state) (x.device == d) e in and_from _ _ (alerting_live x.state h.0) h.1

pub idle_counts : (s : Rows) (d : ℕ) → is_idle s d ≡ true
    → (count (live_at d) s.connections ≡ 0) × (count (alerting_at d) s.connections ≡ 0) × (count (hold_at d) s.connections ≡ 0)
idle_counts s d e =
    let z = none_at s d e in
    let a = fewer (live_at d) (is_at d) (live_is_at d) s.connections in
    let b = fewer (hold_at d) (is_at d) (held_is_at d) s.connections in
    let c = fewer (alerting_at d) (live_at d) (alerting_is_live d) s.connections in
    (omega (arith, z, a), omega (arith, z, a, c), omega (arith, z, b))

-- the rule of a connection speaks of groups, stations and its call alone

-- with more devices planned
pub rule_more : (s t : Rows) → ((d : ℕ) → is_station s d ≡ true → is_station t d ≡ true) → ((d : ℕ) → is_group s d ≡ true → is_group t d ≡ true)
    → (x : ConnectionRecord)
    → (IsCaller (call_of s x.call) x.device → IsCaller (call_of t x.call) x.device) → (is_planned s x.device ≡ false → is_planned t x.device ≡ false)
    → ConnectionRule s x → ConnectionRule t x
rule_more s t f g x c p r = (r.0, column x.group r.1, stands x.state r.2)
  where
    column : (o : Option ℕ) → GroupColumn s o → GroupColumn t o
    column None h = tt
    column (Some d) h = g d h

    stands : (st : ConnectionState) → StandsAt s x st → StandsAt t x st
    stands S.Queued h = g x.device h
    stands S.Initiated h = (f x.device h.0, c h.1)
    stands S.Connected (inl h) = inl (f x.device h)
    stands S.Connected (inr h) = inr (p h.0, c h.1)
    stands _ h = f x.device h

pub rule_same : (s t : Rows) → ((d : ℕ) → is_group t d ≡ is_group s d) → ((d : ℕ) → is_station t d ≡ is_station s d) → (x : ConnectionRecord)
    → (IsCaller (call_of s x.call) x.device → IsCaller (call_of t x.call) x.device) → ConnectionRule s x → ConnectionRule t x
rule_same s t g h x f r = rule_more s t (λ d e. h d ∙ e) (λ d e. g d ∙ e) x f (λ e. rw (g x.device, h x.device) e) r

-- the conditions that new connections keep
pub record ConnectionsKeep (loose : ℕ → Bool) (s : Rows) (xs : List ConnectionRecord) : Type 0 where
  pub sorted : IsAscending connection_order xs
  pub rules : Every (ConnectionRule s) xs
  pub parties : (c : ℕ) → count (parties_of c) xs + count (initiated_of c) xs ≡ two_if (is_some (call_of s c))
  pub one_open : (c : ℕ) → count (open_of c) xs ≤ 1
  pub one_live : (d : ℕ) → is_station s d ≡ true → count (live_at d) xs ≤ 1
  pub no_hold : (d : ℕ) → is_station s d ≡ true → 1 ≤ count (alerting_at d) xs → count (hold_at d) xs ≡ 0
  pub one_offer : (d : ℕ) → count (is_distributed_at d) xs ≤ 1
  pub ready : (d : ℕ) → loose d ≡ false → count (ringing_at d) xs ≤ count (ready_at d) s.agents
  pub busy : (d : ℕ) → loose d ≡ false → count (talking_at d) xs ≡ count (busy_at d) s.agents
  pub pending : (d : ℕ) → loose d ≡ false → count (pending_at d) s.agents ≤ count (is_distributed_at d) xs
  pub free : (d : ℕ) → loose d ≡ true → count (is_distributed_at d) xs ≡ 0

pub with_connections : (loose : ℕ → Bool) (s : Rows) (xs : List ConnectionRecord) → Rules s → ConnectionsKeep loose s xs
    → RulesBut loose (record s { connections = xs })
unfolding call_of group_of station_of
with_connections loose s xs r h = record {
  orders = record {
    groups = r.orders.groups;
    stations = r.orders.stations;
    agents = r.orders.agents;
    calls = r.orders.calls;
    connections = h.sorted;
    monitors = r.orders.monitors;
  };
  kinds = r.kinds;
  agents = r.agents;
  calls = r.calls;
  connections = h.rules;
  parties = h.parties;
  one_open = h.one_open;
  one_live = h.one_live;
  no_hold = h.no_hold;
  one_offer = h.one_offer;
  one_agent = r.one_agent;
  ready = h.ready;
  busy = h.busy;
  pending = h.pending;
  free = h.free;
}

-- the conditions that new agents keep
pub record AgentsKeep (loose : ℕ → Bool) (s : Rows) (agents : List AgentRecord) : Type 0 where
  pub sorted : IsAscending agent_order agents
  pub rules : Every (AgentRule s) agents
  pub one_agent : (d : ℕ) → count (seated_at d) agents ≤ 1
  pub ready : (d : ℕ) → loose d ≡ false → count (ringing_at d) s.connections ≤ count (ready_at d) agents
  pub busy : (d : ℕ) → loose d ≡ false → count (talking_at d) s.connections ≡ count (busy_at d) agents
  pub pending : (d : ℕ) → loose d ≡ false → count (pending_at d) agents ≤ count (is_distributed_at d) s.connections

pub with_agents : (p q : ℕ → Bool) (s : Rows) (agents : List AgentRecord) → RulesBut p s → ((d : ℕ) → q d ≡ true → p d ≡ true) → AgentsKeep q s agents
    → RulesBut q (record s { agents = agents })
unfolding call_of group_of station_of
with_agents p q s agents r f h = record {
  orders = record {
    groups = r.orders.groups;
    stations = r.orders.stations;
    agents = h.sorted;
    calls = r.orders.calls;
    connections = r.orders.connections;
    monitors = r.orders.monitors;
  };
  kinds = r.kinds;
  agents = h.rules;
  calls = r.calls;
  connections = r.connections;
  parties = r.parties;
  one_open = r.one_open;
  one_live = r.one_live;
  no_hold = r.no_hold;
  one_offer = r.one_offer;
  one_agent = h.one_agent;
  ready = h.ready;
  busy = h.busy;
  pending = h.pending;
  free = λ d e. r.free d (f d e);
}

-- where only a counts for q, a alone counts for whatever implies q
pub lone : {X : Type 0} (p q : X → Bool) (xs : List X) (a : X) → ((x : X) → p x ≡ true → q x ≡ true) → Among a xs → q a ≡ true → count q xs ≤ 1
    → count p xs ≡ one (p a)
lone p q xs a f among here l =
    let m = fewer p q f xs in
    (elim (p a) as (λ b. p a ≡ b → count p xs ≡ one b) [
      | true ↦ λ e. let c = counted p xs a among e in omega (arith, c, m, l)
      | false ↦ λ e. let c = counted (λ x. q x && not (p x)) xs a among (and_from (q a) (not (p a)) here (ap not e)) in
          let b = both_fewer p (λ x. q x && not (p x)) q (λ x. split (p x) (q x) (f x)) xs in omega (arith, c, b, l)
    ]) refl
  where
    split : (b c : Bool) → (b ≡ true → c ≡ true) → one b + one (c && not b) ≤ one c
    split true c h = rw (h refl) (omega arith)
    split false true h = omega arith
    split false false h = omega arith

pub one_le : (b : Bool) → one b ≤ 1
one_le true = omega arith
one_le false = omega arith

-- where none is at d, one more there leaves one at most at each device
pub most_one : (p : ℕ → ConnectionRecord → Bool) (xs : List ConnectionRecord) (d e : ℕ) → count (p d) xs ≡ 0 → count (p e) xs ≤ 1
    → one (d == e) + count (p e) xs ≤ 1
most_one p xs d e none l =
    (elim (d == e) as (λ b. (d == e) ≡ b → one b + count (p e) xs ≤ 1) [
      | true ↦ λ q. let z : count (p e) xs ≡ 0 = subst (λ v. count (p v) xs ≡ 0) (eqb-true d e q) none in omega (arith, z)
      | false ↦ λ q. omega (arith, l)
    ]) refl

-- the destination of a call

pub arrived_live : (s : Rows) (c d e : ℕ) (y : ConnectionRecord) → Arrived s c d y → count (live_at e) s.connections ≤ 1
    → one (live_at e y) + count (live_at e) s.connections ≤ 1
arrived_live s c d e y a l =
    (elim (is_live y.state) as (λ b. is_live y.state ≡ b → one (b && y.device == e) + count (live_at e) s.connections ≤ 1) [
      | true ↦ λ q. rw a.device (most_one live_at s.connections d e (idle_counts s d (a.idle q)).0 l)
      | false ↦ λ q. omega (arith, l)
    ]) refl

pub arrived_hold : (s : Rows) (c d e : ℕ) (y : ConnectionRecord) → Arrived s c d y
    → (1 ≤ count (alerting_at e) s.connections → count (hold_at e) s.connections ≡ 0)
    → 1 ≤ one (alerting_at e y) + count (alerting_at e) s.connections → count (hold_at e) s.connections ≡ 0
arrived_hold s c d e y a h l =
    (elim (alerting_at e y) as (λ b. alerting_at e y ≡ b → count (hold_at e) s.connections ≡ 0) [
      | true ↦ λ q. let k = and_parts (is_alerting y.state) (y.device == e) q in
          (idle_counts s e (subst (λ v. is_idle s v ≡ true) (sym a.device ∙ eqb-true y.device e k.1) (a.alerting_idle k.0))).2
      | false ↦ λ q. h (let f : one (alerting_at e y) ≡ 0 = ap one q in omega (arith, f, l))
    ]) refl

-- at most one is open after it, where none of the call is, or the one that ends
pub arrived_open : (s : Rows) (c d n : ℕ) (y : ConnectionRecord) (o : Bool) → Arrived s c d y → count (open_of n) s.connections ≤ 1
    → count (open_of c) s.connections ≤ one o
    → one (open_of n y) + count (open_of n) s.connections ≤ 1 + one (o && c == n)
arrived_open s c d n y o a l most =
    (elim (c == n) as (λ b. (c == n) ≡ b → one (open_of n y) + count (open_of n) s.connections ≤ 1 + one (o && b)) [
      | true ↦ λ q. let z : count (open_of n) s.connections ≤ one o = subst (λ v. count (open_of v) s.connections ≤ one o) (eqb-true c n q) most in
          let g = one_le (open_of n y) in let w : one (o && true) ≡ one o = ap one (and_yes o) in omega (arith, z, g, w)
      | false ↦ λ q. let g : one (open_of n y) ≡ 0 = ap one (and_right (is_open y.state) (y.call == n) (rw a.call q)) in omega (arith, g, l)
    ]) refl
  where
    and_yes : (b : Bool) → (b && true) ≡ b
    and_yes true = refl
    and_yes false = refl
