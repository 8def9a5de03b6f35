-- The rules of connections, of their calls, stations and agents, decided; and so all thirteen, in their order.
use Rattle.std.proofs.Common.{◌≡◌, ℕ, ◌+◌, ◌≤◌, ◌⊎◌, inl, inr, Bool, true, false, not, ◌&&◌, ◌||◌, Option, Some, None, refl, sym, ◌∙◌, ap, subst, arith, eq-eqb}
use Rattle.std.specs.Prelude.{◌==◌, if◌then◌else◌, is_some, is_none}
use Rattle.std.specs.Bool.{Decides}
use Rattle.std.proofs.lemmas.Bool.{and_parts, and_from, eqb-true, false_from_ne_true, or_left, or_right}
use Rattle.std.proofs.lemmas.Bool.Decides.{Decides-eqb as equals}
use Rattle.acd_terms.specs.Limits.{greatest_priority}
use Rattle.acd_lemmas.proofs.Words.{Rows, Rule, GroupRecord, StationRecord, AgentRecord, CallRecord, ConnectionRecord, ConnectionState, AgentState, Pending, count, Among, Every, is_ready, is_busy, is_initiated, is_alerting, is_queued, is_answered, call_of, is_group, is_station, is_planned, has, agent_at, is_distributed, is_occupied, keeps_limits, keeps_order, keeps_device, keeps_agent, keeps_monitor, keeps_call, is_bare, is_placed, has_members, is_group_or_none, may_stand, keeps_connection, is_open, parties_of, initiated_of, initiated_at, open_of, keeps_parties, live_at, alerting_at, hold_at, keeps_live, is_distributed_at, IsTalking}
use Rattle.acd_terms.specs.declared.state.AgentState.TheVariants as A
use Rattle.acd_terms.specs.declared.state.ConnectionState.TheVariants as S
use Rattle.acd_model.specs.Watcher.{is_caller}
use Rattle.acd_model.specs.Rules.Occupied.{keeps_occupied, attends, is_talking, keeps_offer, keeps_balance}
use Rattle.acd_lemmas.proofs.RuleFacts.{Rules, IsPlannedStation, SeatedAs, AgentRule, CallRule, Bare, AlertingColumns, HasColumns, GroupColumn, IsCaller, StandsAt, ConnectionRule, ringing_at, talking_at, seated_at, ready_at, busy_at, pending_at, two_if, KeepsRules}
use Rattle.acd_lemmas.specs.Orders.{Orders}
use Rattle.acd_lemmas.proofs.Lists.{every_among, every_from, counted, fewer, two_counted, count_zero, some_from, some_is, any_some}
use Rattle.acd_lemmas.proofs.KeyedLists.{eqb_self}
use Rattle.acd_lemmas.proofs.State.{call_among, call_key, call_found, is_station_any, agent_seat, none_of_call}
use Rattle.acd_laws.proofs.Rules.RulesOfOffers.{ringing_is, talking_is}
use Rattle.acd_lemmas.proofs.States.{initiated_is, busy_is}
use Rattle.acd_laws.proofs.ReleaseLemmas.{attending, alerting_or_answered}
use Rattle.acd_laws.proofs.Offers.OneOffer.{rules_give_one_offer}
use Rattle.acd_lemmas.proofs.RuleTests.{◌and◌, ◌or◌, like, holds, fails, absent, within, when, each, any, is_number, zero_or, one_that, at_most, station_there, AgentsKept, limits_decided, orders_decided, kinds_decided, agents_decided, calls_decided, counters_decided, offers_decided, monitors_decided, balance_decided}
use Rattle.acd_model.specs.Rules.Counters.{keeps_counters}
use Rattle.acd_model.specs.Rules.First.{or_broken, first_broken, BreaksNoRule}
use Rattle.acd_laws.specs.OfferLaws.{KeepsWithin}

-- the columns of a connection

bare_decided : (x : ConnectionRecord) → Decides (is_bare x) (Bare x)
bare_decided x =
    like (absent x.place and absent x.queued and absent x.offered) (λ p. record { place = p.0.0; queued = p.0.1; offered = p.1 })
    (λ h. ((h.place, h.queued), h.offered))

placed_decided : (x : ConnectionRecord) → Decides (is_placed x) ((is_some x.place ≡ true) × (is_some x.queued ≡ true))
placed_decided x = holds (is_some x.place) and holds (is_some x.queued)

alerting_decided : (x : ConnectionRecord) (o : Option ℕ) → Decides (if is_some o then is_placed x && is_some x.offered else is_bare x) (AlertingColumns x o)
alerting_decided x None = bare_decided x
alerting_decided x (Some g) =
    like (placed_decided x and holds (is_some x.offered)) (λ p. record { place = p.0.0; queued = p.0.1; offered = p.1 }) (λ h. ((h.place, h.queued), h.offered))

without_group_decided : (x : ConnectionRecord) → Decides (is_none x.group && is_bare x) (Bare x × (x.group ≡ None))
without_group_decided x = like (absent x.group and bare_decided x) (λ p. (p.1, p.0)) (λ h. (h.1, h.0))

columns_decided : (x : ConnectionRecord) (st : ConnectionState) → Decides (has_members st x) (HasColumns x st)
columns_decided x S.Queued = like (is_number x.group x.device and placed_decided x and absent x.offered)
    (λ p. record { group = p.0.0; place = p.0.1.0; queued = p.0.1.1; offered = p.1 }) (λ h. ((h.group, (h.place, h.queued)), h.offered))
columns_decided x S.Alerting = alerting_decided x x.group
columns_decided x S.Initiated = without_group_decided x
columns_decided x S.Fail = without_group_decided x
columns_decided x _ = bare_decided x

-- connections

group_decided : (s : Rows) (o : Option ℕ) → Decides (is_group_or_none s o) (GroupColumn s o)
group_decided s None = (λ _. tt, λ _. refl)
group_decided s (Some g) = holds (is_group s g)

caller_decided : (o : Option CallRecord) (d : ℕ) → Decides (is_caller o d) (IsCaller o d)
caller_decided None d = (λ e. absurd (cc (e)), λ h. absurd h)
caller_decided (Some c) d = equals c.caller d

record ConnectionKept (s : Rows) (x : ConnectionRecord) : Type 0 where
  live : is_some (call_of s x.call) ≡ true
  party : IsCaller (call_of s x.call) x.device ⊎ (is_planned s x.device ≡ true)
  columns : HasColumns x x.state
  group : GroupColumn s x.group
  stands : may_stand s x.state x ≡ true

abbrev ConnectionsKept : Rows → Type 0
ConnectionsKept s = (x : ConnectionRecord) → Among x s.connections → ConnectionKept s x

connections_decided : (s : Rows) → Decides (keeps_connection s) (ConnectionsKept s)
unfolding keeps_connection
connections_decided s = each (λ (x : ConnectionRecord). like
    (holds (is_some (call_of s x.call)) and (caller_decided (call_of s x.call) x.device or holds (is_planned s x.device)) and columns_decided x x.state
    and group_decided s x.group and holds (may_stand s x.state x))
    (λ p. record { live = p.0.0.0.0; party = p.0.0.0.1; columns = p.0.0.1; group = p.0.1; stands = p.1 })
    (λ h. ((((h.live, h.party), h.columns), h.group), h.stands)))
    s.connections

-- parties: one, initiated at the caller, or two

abbrev BeingMade : Rows → CallRecord → Type 0
BeingMade s c = (count (parties_of c.call) s.connections ≡ 1) × (count (initiated_at c.call c.caller) s.connections ≡ 1)

abbrev TwoParties : Rows → CallRecord → Type 0
TwoParties s c = ((count (parties_of c.call) s.connections ≡ 2) × (count (initiated_of c.call) s.connections ≡ 0)) × (count (open_of c.call) s.connections ≤ 1)

abbrev PartiesKept : Rows → Type 0
PartiesKept s = (c : CallRecord) → Among c s.calls → BeingMade s c ⊎ TwoParties s c

parties_decided : (s : Rows) → Decides (keeps_parties s) (PartiesKept s)
unfolding keeps_parties
parties_decided s =
    each (λ (c : CallRecord). (equals (count (parties_of c.call) s.connections) 1 and equals (count (initiated_at c.call c.caller) s.connections) 1)
    or (equals (count (parties_of c.call) s.connections) 2 and equals (count (initiated_of c.call) s.connections) 0
    and within (count (open_of c.call) s.connections) 1))
    s.calls

-- live

abbrev OneLive : Rows → ℕ → Type 0
OneLive s d = (count (live_at d) s.connections ≤ 1) × ((count (alerting_at d) s.connections ≡ 0) ⊎ (count (hold_at d) s.connections ≡ 0))

live_decided : (s : Rows) → Decides (keeps_live s) ((d : ℕ) → is_station s d ≡ true → OneLive s d)
unfolding keeps_live
live_decided s = like
    (each
    (λ (t : StationRecord). within (count (live_at t.device) s.connections) 1
    and (equals (count (alerting_at t.device) s.connections) 0 or equals (count (hold_at t.device) s.connections) 0))
    s.stations)
    (λ f d h. let t = station_there s d h in subst (OneLive s) (eqb-true t.0.device d t.1.1) (f t.0 t.1.0))
    (λ h t i. h t.device (is_station_any s t.device ∙ any_some (λ (x : StationRecord). x.device == t.device) s.stations t i (eqb_self t.device)))

-- occupied

abbrev Attended : Rows → ConnectionRecord → AgentRecord → Type 0
Attended s x a = ((is_alerting x.state ≡ true) × (is_ready a.state ≡ true)) ⊎ ((is_answered x.state ≡ true) × (is_busy a.state ≡ true))

attends_decided : (s : Rows) (x : ConnectionRecord) (o : Option AgentRecord) → Decides (attends x o) ((a : AgentRecord) × ((o ≡ Some a) × Attended s x a))
attends_decided s x None = (λ e. absurd (cc (e)), λ h. absurd (let e = h.1.0 in cc (e)))
attends_decided s x (Some a) = like (holds (is_alerting x.state) and holds (is_ready a.state) or holds (is_answered x.state) and holds (is_busy a.state))
    (λ h. (a, (refl, h))) (λ h. subst (Attended s x) (sym (some_is a h.0 h.1.0)) h.1.1)

pending_when : (o : Option Pending) {c : Bool} {P : Type 0} → Decides c P → Decides (is_none o || c) (is_some o ≡ true → P)
pending_when None d = (λ _ e. absurd (cc (e)), λ _. refl)
pending_when (Some w) d = (λ e _. d.0 e, λ h. d.1 (h refl))

talking_decided : (s : Rows) (a : AgentRecord) → Decides (is_talking s a) (IsTalking s a)
talking_decided s a = like (any (λ (x : ConnectionRecord). has a.station x.device && is_distributed x && is_answered x.state) s.connections)
    (λ f. let h = (parts f.0).0 f.1.1 in record { connection = f.0; there = f.1.0; station = h.0.0; distributed = h.0.1; answered = h.1 })
    (λ h. (h.connection, (h.there, (parts h.connection).1 ((h.station, h.distributed), h.answered))))
  where
    parts : (x : ConnectionRecord)
        → Decides (has a.station x.device && is_distributed x && is_answered x.state)
        (((a.station ≡ Some x.device) × (is_distributed x ≡ true)) × (is_answered x.state ≡ true))
    parts x = is_number a.station x.device and holds (is_distributed x) and holds (is_answered x.state)

abbrev Occupied : Rows → AgentRecord → Type 0
Occupied s a = (x : ConnectionRecord) × (Among x s.connections × ((a.station ≡ Some x.device) × (is_distributed x ≡ true)))

occupied_decided : (s : Rows) (a : AgentRecord) → Decides (is_occupied s a) (Occupied s a)
unfolding is_occupied
occupied_decided s a = like (any (λ (x : ConnectionRecord). has a.station x.device && is_distributed x) s.connections)
    (λ f. (f.0, (f.1.0, (is_number a.station f.0.device and holds (is_distributed f.0)).0 f.1.1)))
    (λ h. (h.0, (h.1.0, (is_number a.station h.0.device and holds (is_distributed h.0)).1 h.1.1)))

record OccupiedKept (s : Rows) : Type 0 where
  attended : (x : ConnectionRecord) → Among x s.connections → is_distributed x ≡ true
      → (count (is_distributed_at x.device) s.connections ≤ 1) × ((a : AgentRecord) × ((agent_at s x.device ≡ Some a) × Attended s x a))
  talking : (a : AgentRecord) → Among a s.agents → is_busy a.state ≡ true → IsTalking s a
  pending : (a : AgentRecord) → Among a s.agents → is_some a.pending ≡ true → Occupied s a

keeps_occupied_decided : (s : Rows) → Decides (keeps_occupied s) (OccupiedKept s)
unfolding keeps_occupied
keeps_occupied_decided s = like
    (each
    (λ (x : ConnectionRecord). when (is_distributed x)
    (within (count (is_distributed_at x.device) s.connections) 1 and attends_decided s x (agent_at s x.device)))
    s.connections
    and each (λ (a : AgentRecord). when (is_busy a.state) (talking_decided s a) and pending_when a.pending (occupied_decided s a)) s.agents)
    (λ p. record { attended = p.0; talking = λ a i. (p.1 a i).0; pending = λ a i. (p.1 a i).1 }) (λ h. (h.attended, λ a i. (h.talking a i, h.pending a i)))

-- from the tests to the facts

-- an initiated connection is at the caller of its call
initiated_caller : (s : Rows) → ConnectionsKept s → PartiesKept s → (x : ConnectionRecord) → Among x s.connections → x.state ≡ S.Initiated
    → IsCaller (call_of s x.call) x.device
initiated_caller s connections parties x i st =
    let c = some_from (call_of s x.call) (connections x i).live in
    let mine : (x.call == c.0.call) ≡ true = eq-eqb x.call c.0.call (sym (call_key s x.call c.0 c.1)) in
    subst (λ o. IsCaller o x.device) (sym c.1)
    (elim (parties c.0 (call_among s x.call c.0 c.1)) [
      | inl h ↦ (let f = one_that (initiated_at c.0.call c.0.caller) s.connections (let e = h.1 in omega (arith, e)) in
          let q = (holds (is_initiated f.0.state) and holds (f.0.call == c.0.call) and equals f.0.device c.0.caller).0 f.1.1 in
          (elim (x.device == c.0.caller) as (λ b. (x.device == c.0.caller) ≡ b → c.0.caller ≡ x.device) [
            | true ↦ λ w. sym (eqb-true x.device c.0.caller w)
            | false ↦ λ w.
                let two =
                two_counted (parties_of c.0.call) s.connections x f.0 i f.1.0 mine q.0.1
                (λ s. cc (w, eq-eqb x.device c.0.caller (ap (λ (z : ConnectionRecord). z.device) s ∙ q.1))) in
                let one = h.0 in absurd (omega (arith, two, one))
          ]) refl)
      | inr h ↦ (let k = counted (initiated_of c.0.call) s.connections x i (and_from _ _ (ap is_initiated st) mine) in let z = h.0.1 in
          absurd (omega (arith, k, z)))
    ])

stands_read : (s : Rows) (x : ConnectionRecord) (st : ConnectionState) → (st ≡ S.Initiated → IsCaller (call_of s x.call) x.device)
    → IsCaller (call_of s x.call) x.device ⊎ (is_planned s x.device ≡ true) → may_stand s st x ≡ true → StandsAt s x st
stands_read s x S.Initiated i party e = (e, i refl)
stands_read s x S.Connected i party e = elim ((holds (is_station s x.device) or fails (is_planned s x.device) and absent x.group).0 e) [
  | inl at ↦ inl at
  | inr out ↦ inr (out.0, elim party [ inl k ↦ k | inr p ↦ absurd (let o = out.0 in cc (p, o)) ])
]
stands_read s x _ i party e = e

initiated_one : (n d : ℕ) (x : ConnectionRecord) → initiated_at n d x ≡ true → initiated_of n x ≡ true
initiated_one n d x e = (and_parts (initiated_of n x) (x.device == d) e).0

abbrev Parties : Rows → ℕ → ℕ → Type 0
Parties s n parties = (count (parties_of n) s.connections + count (initiated_of n) s.connections ≡ parties) × (count (open_of n) s.connections ≤ 1)

-- initiated and open connections are of the call
few : (s : Rows) (n : ℕ)
    → (count (initiated_of n) s.connections ≤ count (parties_of n) s.connections) × (count (open_of n) s.connections ≤ count (parties_of n) s.connections)
few s n = (
  fewer (initiated_of n) (parties_of n) (λ z h. (and_parts (is_initiated z.state) (z.call == n) h).1) s.connections,
  fewer (open_of n) (parties_of n) (λ z h. (and_parts (is_open z.state) (z.call == n) h).1) s.connections,
)

call_parties : (s : Rows) (c : CallRecord) → BeingMade s c ⊎ TwoParties s c → Parties s c.call 2
call_parties s c (inl h) =
    let f = few s c.call in let i = f.0 in let o = f.1 in let a = h.0 in let b = h.1 in
    let g = fewer (initiated_at c.call c.caller) (initiated_of c.call) (initiated_one c.call c.caller) s.connections in
    (omega (arith, i, g, a, b), omega (arith, o, a))
call_parties s c (inr h) = let a = h.0.0 in let b = h.0.1 in (omega (arith, a, b), h.1)

parties_read : (s : Rows) → ConnectionsKept s → PartiesKept s → (n : ℕ) → Parties s n (two_if (is_some (call_of s n)))
parties_read s connections parties n = (elim (call_of s n) as (λ o. call_of s n ≡ o → Parties s n (two_if (is_some o))) [
  | None ↦ λ e.
      let none = count_zero (parties_of n) s.connections (λ x i. false_from_ne_true (x.call == n) (λ q.
      let here = subst (λ v. is_some (call_of s v) ≡ true) (eqb-true x.call n q) (connections x i).live in cc (rw e at here))) in
      let f = few s n in let i = f.0 in let o = f.1 in (omega (arith, none, i), omega (arith, none, o))
  | Some c ↦ λ e. subst (λ v. Parties s v 2) (call_key s n c e) (call_parties s c (parties c (call_among s n c e)))
]) refl

not_both : (st : ConnectionState) → is_alerting st ≡ true → is_answered st ≡ true → ⊥
not_both S.Alerting a b = cc (b)
not_both _ a b = cc (a)

-- a ringing or talking connection at the device, with its agent
attended_read : (s : Rows) → OccupiedKept s → (d : ℕ) (x : ConnectionRecord) → Among x s.connections → is_distributed_at d x ≡ true
    → (is_alerting x.state ≡ true → 1 ≤ count (ready_at d) s.agents) × (is_answered x.state ≡ true → 1 ≤ count (busy_at d) s.agents)
attended_read s t d x i h =
    let w = and_parts (is_distributed x) (x.device == d) h in
    let a = (t.attended x i w.0).1 in
    let q = agent_seat s x.device a.0 a.1.0 in
    let at : has a.0.station d ≡ true = rw (q.1, w.1) refl in (
      λ al. elim a.1.1 [ inl v ↦ counted (ready_at d) s.agents a.0 q.0 (and_from _ _ v.1 at) | inr v ↦ absurd (not_both x.state al v.0) ],
      λ an. elim a.1.1 [ inl v ↦ absurd (not_both x.state v.0 an) | inr v ↦ counted (busy_at d) s.agents a.0 q.0 (and_from _ _ v.1 at) ],
    )

one_offer_read : (s : Rows) → OccupiedKept s → (d : ℕ) → count (is_distributed_at d) s.connections ≤ 1
one_offer_read s t = at_most is_distributed_at s.connections (λ d x i e.
    let h = and_parts (is_distributed x) (x.device == d) e in
    subst (λ v. count (is_distributed_at v) s.connections ≤ 1) (eqb-true x.device d h.1) (t.attended x i h.0).0)

ready_read : (s : Rows) → OccupiedKept s → (d : ℕ) → count (ringing_at d) s.connections ≤ count (ready_at d) s.agents
ready_read s t d = elim (zero_or (count (ringing_at d) s.connections)) [
  | inl z ↦ omega (arith, z)
  | inr l ↦ (let f = one_that (ringing_at d) s.connections l in
      let h = (holds (is_alerting f.0.state) and holds (is_some f.0.group) and holds (f.0.device == d)).0 f.1.1 in
      let r = (attended_read s t d f.0 f.1.0 (ringing_is d f.0 f.1.1)).0 h.0.0 in
      let m = fewer (ringing_at d) (is_distributed_at d) (ringing_is d) s.connections in
      let o = one_offer_read s t d in omega (arith, r, m, o))
]

-- the connection that an agent at the device has
at_device : (a : AgentRecord) (x : ConnectionRecord) (d : ℕ) → has a.station d ≡ true → a.station ≡ Some x.device → (x.device == d) ≡ true
at_device a x d at e = eq-eqb x.device d (some_is x.device d (sym e ∙ (is_number a.station d).0 at))

busy_read : (s : Rows) → OccupiedKept s → AgentsKept s → (d : ℕ) → count (talking_at d) s.connections ≡ count (busy_at d) s.agents
busy_read s t agents d =
    let m = fewer (talking_at d) (is_distributed_at d) (talking_is d) s.connections in
    let o = one_offer_read s t d in
    let b = fewer (busy_at d) (seated_at d) (λ z w. (and_parts (is_busy z.state) (has z.station d) w).1) s.agents in
    let u = agents.one d in
    let back : 1 ≤ count (busy_at d) s.agents → 1 ≤ count (talking_at d) s.connections = λ l.
    let f = one_that (busy_at d) s.agents l in
    let h = and_parts (is_busy f.0.state) (has f.0.station d) f.1.1 in
    let k = t.talking f.0 f.1.0 h.0 in
    counted (talking_at d) s.connections k.connection k.there
    (and_from _ _ (and_from _ _ k.answered (and_parts (is_some k.connection.group) (not (is_queued k.connection.state)) k.distributed).0)
    (at_device f.0 k.connection d h.1 k.station)) in
    elim (zero_or (count (talking_at d) s.connections)) [
      | inl z ↦ elim (zero_or (count (busy_at d) s.agents)) [ inl y ↦ z ∙ sym y | inr l ↦ (let w = back l in absurd (omega (arith, w, z))) ]
      | inr l ↦ (let f = one_that (talking_at d) s.connections l in
          let h = (holds (is_answered f.0.state) and holds (is_some f.0.group) and holds (f.0.device == d)).0 f.1.1 in
          let w = (attended_read s t d f.0 f.1.0 (talking_is d f.0 f.1.1)).1 h.0.0 in omega (arith, l, w, m, o, b, u))
    ]

pending_read : (s : Rows) → OccupiedKept s → AgentsKept s → (d : ℕ) → count (pending_at d) s.agents ≤ count (is_distributed_at d) s.connections
pending_read s t agents d = elim (zero_or (count (pending_at d) s.agents)) [
  | inl z ↦ omega (arith, z)
  | inr l ↦ (let f = one_that (pending_at d) s.agents l in
      let h = and_parts (is_some f.0.pending) (has f.0.station d) f.1.1 in
      let x = t.pending f.0 f.1.0 h.0 in
      let o = counted (is_distributed_at d) s.connections x.0 x.1.0 (and_from _ _ x.1.1.1 (at_device f.0 x.0 d h.1 x.1.1.0)) in
      let b = fewer (pending_at d) (seated_at d) (λ z w. (and_parts (is_some z.pending) (has z.station d) w).1) s.agents in
      let u = agents.one d in omega (arith, o, b, u))
]

pub rules_read : (s : Rows) → Orders s → ((d : ℕ) → is_group s d ≡ true → is_station s d ≡ false) → AgentsKept s → Every (CallRule s) s.calls
    → keeps_connection s ≡ true → keeps_parties s ≡ true → keeps_live s ≡ true → keeps_occupied s ≡ true → Rules s
rules_read s orders kinds agents calls connection parties live occupied =
    let connections = (connections_decided s).0 connection in
    let made = (parties_decided s).0 parties in
    let lives = (live_decided s).0 live in
    let t = (keeps_occupied_decided s).0 occupied in
    record {
      orders = orders;
      kinds = kinds;
      agents = agents.rule;
      calls = calls;
      connections =
          every_from (ConnectionRule s) s.connections
          (λ x i. let h = connections x i in (h.columns, h.group, stands_read s x x.state (initiated_caller s connections made x i) h.party h.stands));
      parties = λ n. (parties_read s connections made n).0;
      one_open = λ n. (parties_read s connections made n).1;
      one_live = λ d h. (lives d h).0;
      no_hold = λ d h l. elim ((lives d h).1) [ inl z ↦ absurd (omega (arith, l, z)) | inr z ↦ z ];
      one_offer = one_offer_read s t;
      one_agent = agents.one;
      ready = λ d _. ready_read s t d;
      busy = λ d _. busy_read s t agents d;
      pending = λ d _. pending_read s t agents d;
      free = λ d q. absurd (cc (q));
    }

-- from the facts to the tests

-- a connection at a device that isn't planned was never distributed
never_distributed : (s : Rows) (x : ConnectionRecord) → Rules s → Among x s.connections → is_planned s x.device ≡ false → x.state ≡ S.Connected
    → is_none x.group ≡ true
never_distributed s x r i outside st = (elim x.group as (λ o. x.group ≡ o → is_none o ≡ true) [
  | None ↦ λ _. refl
  | Some g ↦ λ e.
      let b = attending s x r i (rw (e, st) refl) in
      let seat : IsPlannedStation s (Some x.device) = subst (IsPlannedStation s) b.1.station b.1.seat.0 in
      absurd (cc (or_right (is_group s x.device) (is_station s x.device) seat, outside))
]) refl

stands_written : (s : Rows) (x : ConnectionRecord) (st : ConnectionState) → (is_planned s x.device ≡ false → st ≡ S.Connected → is_none x.group ≡ true)
    → StandsAt s x st
    → (IsCaller (call_of s x.call) x.device ⊎ (is_planned s x.device ≡ true)) × (may_stand s st x ≡ true)
stands_written s x S.Queued n h = (inr (or_left (is_group s x.device) (is_station s x.device) h), h)
stands_written s x S.Initiated n h = (inr (or_right (is_group s x.device) (is_station s x.device) h.0), h.0)
stands_written s x S.Connected n (inl h) = (inr (or_right (is_group s x.device) (is_station s x.device) h), or_left (is_station s x.device) _ h)
stands_written s x S.Connected n (inr h) = (inl h.1, or_right (is_station s x.device) _ (and_from _ _ (ap not h.0) (n h.0 refl)))
stands_written s x _ n h = (inr (or_right (is_group s x.device) (is_station s x.device) h), h)

live_call : (s : Rows) (x : ConnectionRecord) → Rules s → Among x s.connections → is_some (call_of s x.call) ≡ true
live_call s x r i = (elim (call_of s x.call) as (λ o. call_of s x.call ≡ o → is_some o ≡ true) [
  | None ↦ λ e. let z = none_of_call s r x.call e in let c = counted (parties_of x.call) s.connections x i (eqb_self x.call) in absurd (omega (arith, z, c))
  | Some c ↦ λ _. refl
]) refl

pub connections_written : (s : Rows) → Rules s → keeps_connection s ≡ true
connections_written s r = (connections_decided s).1 (λ x i.
    let h = every_among (ConnectionRule s) s.connections x r.connections i in
    let p = stands_written s x x.state (never_distributed s x r i) h.2 in
    record { live = live_call s x r i; party = p.0; columns = h.0; group = h.1; stands = p.1 })

pub parties_written : (s : Rows) → Rules s → keeps_parties s ≡ true
parties_written s r = (parties_decided s).1 (λ c i.
    let there : call_of s c.call ≡ Some c = call_found s r.orders.calls c i in
    let p = r.parties c.call in
    let live : two_if (is_some (call_of s c.call)) ≡ 2 = rw there refl in
    let f = (few s c.call).0 in
    elim (zero_or (count (initiated_of c.call) s.connections)) [
      | inl z ↦ inr ((omega (arith, p, live, z), z), r.one_open c.call)
      | inr l ↦ inl
          (let y = one_that (initiated_of c.call) s.connections l in
          let q = (holds (is_initiated y.0.state) and equals y.0.call c.call).0 y.1.1 in
          let at : IsCaller (Some c) y.0.device = caller_at y.0 c y.1.0 q.1 (initiated_is y.0.state q.0) there in
          let k = counted (initiated_at c.call c.caller) s.connections y.0 y.1.0 (and_from _ _ y.1.1 (eq-eqb y.0.device c.caller (sym at))) in
          let m = fewer (initiated_at c.call c.caller) (initiated_of c.call) (initiated_one c.call c.caller) s.connections in
          (omega (arith, p, live, l, f), omega (arith, p, live, f, k, m)))
    ])
  where
    caller_at : (y : ConnectionRecord) (c : CallRecord) → Among y s.connections → y.call ≡ c.call → y.state ≡ S.Initiated → call_of s c.call ≡ Some c
        → IsCaller (Some c) y.device
    caller_at y c i e st there =
        let h = subst (StandsAt s y) st (every_among (ConnectionRule s) s.connections y r.connections i).2 in
        subst (λ o. IsCaller o y.device) (ap (call_of s) e ∙ there) h.1

pub live_written : (s : Rows) → Rules s → keeps_live s ≡ true
live_written s r =
    (live_decided s).1 (λ d at. (r.one_live d at, elim (zero_or (count (alerting_at d) s.connections)) [ inl z ↦ inl z | inr k ↦ inr (r.no_hold d at k) ]))

-- an agent that waits for a state isn't in null, so that it has a station
seated : (s : Rows) (a : AgentRecord) (st : AgentState) → SeatedAs s a st → is_some a.pending ≡ true → (d : ℕ) × (a.station ≡ Some d)
seated s a st h e = there a.station (planned st h)
  where
    planned : (st : AgentState) → SeatedAs s a st → IsPlannedStation s a.station
    planned A.Null h = absurd (let n = h.2 in cc (ap is_some n, e))
    planned _ h = h.0

    there : (o : Option ℕ) → IsPlannedStation s o → (d : ℕ) × (o ≡ Some d)
    there None h = absurd h
    there (Some d) h = (d, refl)

pub occupied_written : (s : Rows) → Rules s → keeps_occupied s ≡ true
occupied_written s r =
    let o = rules_give_one_offer s r in
    (keeps_occupied_decided s).1 record {
      attended = λ x i e. let a = o.attended x i e in (
        r.one_offer x.device,
        (
          a.agent,
          (
            a.there,
            elim (alerting_or_answered s x (every_among (ConnectionRule s) s.connections x r.connections i) e) [
              | inl w ↦ inl (w, ap is_ready (a.ready w))
              | inr w ↦ inr (w, ap is_busy (a.busy w))
            ],
          ),
        ),
      );
      talking = λ a i e. o.no_other a i (busy_is a.state e);
      pending = λ a i e.
          let d = seated s a a.state (every_among (AgentRule s) s.agents a r.agents i) e in
          let c = counted (pending_at d.0) s.agents a i (and_from _ _ e ((is_number a.station d.0).1 d.1)) in
          let b = r.pending d.0 refl in
          let x = one_that (is_distributed_at d.0) s.connections (omega (arith, b, c)) in
          let h = (holds (is_distributed x.0) and equals x.0.device d.0).0 x.1.1 in
          (x.0, (x.1.0, (d.1 ∙ ap Some (sym h.1), h.0)));
    }

-- the thirteen tests

pub record Tests (s : Rows) : Type 0 where
  pub within : KeepsWithin s
  pub limits : keeps_limits s ≡ true
  pub counters : keeps_counters s ≡ true
  pub offer : keeps_offer s ≡ true
  pub monitor : keeps_monitor s ≡ true
  pub balance : keeps_balance s ≡ true

pub kept_first : (b : Bool) (r : Rule) (rest : Option Rule) → or_broken b r rest ≡ None → (b ≡ true) × (rest ≡ None)
kept_first true r rest e = (refl, e)
kept_first false r rest e = absurd (cc (e))

pub tests : (s : Rows) → BreaksNoRule s → Tests s
unfolding first_broken
tests s e =
    let a = kept_first (keeps_limits s) _ _ e in
    let b = kept_first (keeps_order s) _ _ a.1 in
    let c = kept_first (keeps_device s) _ _ b.1 in
    let d = kept_first (keeps_agent s) _ _ c.1 in
    let f = kept_first (keeps_call s) _ _ d.1 in
    let g = kept_first (keeps_connection s) _ _ f.1 in
    let h = kept_first (keeps_parties s) _ _ g.1 in
    let i = kept_first (keeps_live s) _ _ h.1 in
    let j = kept_first (keeps_occupied s) _ _ i.1 in
    let k = kept_first (keeps_counters s) _ _ j.1 in
    let l = kept_first (keeps_offer s) _ _ k.1 in
    let m = kept_first (keeps_monitor s) _ _ l.1 in
    let n = kept_first (keeps_balance s) _ _ m.1 in
    record {
      within = record { order = b.0; device = c.0; agent = d.0; call = f.0; connection = g.0; parties = h.0; live = i.0; occupied = j.0 };
      limits = a.0;
      counters = k.0;
      offer = l.0;
      monitor = m.0;
      balance = n.0;
    }

pub broken_none : (s : Rows) → Tests s → BreaksNoRule s
unfolding first_broken
broken_none s t =
    let w = t.within in
    rw (t.limits, w.order, w.device, w.agent, w.call, w.connection, w.parties, w.live, w.occupied, t.counters, t.offer, t.monitor, t.balance) refl

-- the rules that hold within a step too, and all

pub within_read : (s : Rows) → KeepsWithin s → Rules s
within_read s w =
    rules_read s ((orders_decided s).0 w.order) ((kinds_decided s).0 w.device) ((agents_decided s).0 w.agent) ((calls_decided s).0 w.call) w.connection
    w.parties w.live w.occupied

pub within_written : (s : Rows) → Rules s → KeepsWithin s
within_written s r = record {
  order = (orders_decided s).1 r.orders;
  device = (kinds_decided s).1 r.kinds;
  agent = (agents_decided s).1 (record { rule = r.agents; one = r.one_agent });
  call = (calls_decided s).1 r.calls;
  connection = connections_written s r;
  parties = parties_written s r;
  live = live_written s r;
  occupied = occupied_written s r;
}

pub keeps_read : (s : Rows) → BreaksNoRule s → KeepsRules s
keeps_read s e =
    let t = tests s e in
    let l = (limits_decided s).0 t.limits in
    let b = (balance_decided s).0 t.balance in
    let c = (counters_decided s b).0 t.counters in
    record {
      rules = within_read s t.within;
      sizes = l.sizes;
      last_call = l.last_call;
      last_monitor = l.last_monitor;
      timed = c.timed;
      places = c.places;
      figures = c.figures;
      last_event = c.last_event;
      offers = (offers_decided s).0 t.offer;
      monitors = (monitors_decided s).0 t.monitor;
      balance = b;
      priorities = every_from (λ (g : GroupRecord). g.priority ≤ greatest_priority) s.groups l.priorities;
    }

pub rules_are_kept : (s : Rows) → BreaksNoRule s → Rules s
rules_are_kept s e = within_read s (tests s e).within

pub requests_read : (s : Rows) → BreaksNoRule s → s.last_stamp ≤ s.limits.requests
requests_read s e = ((limits_decided s).0 (tests s e).limits).last_stamp

pub keeps_written : (s : Rows) → KeepsRules s → s.last_stamp ≤ s.limits.requests → BreaksNoRule s
keeps_written s h l = broken_none s (record {
  within = within_written s h.rules;
  limits = (limits_decided s).1 (record {
    sizes = h.sizes;
    last_stamp = l;
    last_call = h.last_call;
    last_monitor = h.last_monitor;
    priorities = λ g i. every_among (λ (x : GroupRecord). x.priority ≤ greatest_priority) s.groups g h.priorities i;
  });
  counters = (counters_decided s h.balance).1 (record { timed = h.timed; places = h.places; figures = h.figures; last_event = h.last_event });
  offer = (offers_decided s).1 h.offers;
  monitor = (monitors_decided s).1 h.monitors;
  balance = (balance_decided s).1 h.balance;
})
