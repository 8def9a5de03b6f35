-- The rules are kept by an offer.
use Rattle.std.proofs.Common.{◌≡◌, ℕ, ◌+◌, ◌≤◌, Bool, true, false, not, ◌&&◌, ◌||◌, Some, None, refl, sym, ◌∙◌, ap, subst, arith, eq-eqb}
use Rattle.std.specs.Prelude.{◌==◌, IsTrue, is_some}
use Rattle.std.proofs.lemmas.Bool.{and_parts, and_from, eqb-true, and_left, and_right, not-true}
use Rattle.acd_lemmas.proofs.Words.{Rows, AgentRecord, ConnectionRecord, count, Among, is_ready, is_alerting, is_hold, is_queued, is_answered, is_live, group_of, station_of, call_of, connection_of, is_group, is_station, has, is_distributed, is_idle, is_occupied, with_connection, without_connection, changed, moved, connection_order, is_open, parties_of, initiated_of, open_of, live_at, alerting_at, hold_at, is_distributed_at}
use Rattle.acd_terms.specs.declared.state.ConnectionState.TheVariants as S
use Rattle.acd_model.specs.declared.moves.Change.TheVariants.{PutConnection, RemoveConnection}
use Rattle.acd_model.specs.CallMoves.{ringing}
use Rattle.acd_lemmas.proofs.RuleFacts.{Rules, IsPlannedStation, ArePlannedGroups, SeatedAs, AgentRule, InQueue, AlertingColumns, HasColumns, StandsAt, ConnectionRule, ringing_at, talking_at, ready_at}
use Rattle.acd_lemmas.proofs.Lists.{one, any_some, ascending-put, ascending-remove, every_among, every-put, every-remove, counted, none_counted, fewer, two_counted, none_from}
use Rattle.acd_lemmas.proofs.KeyedLists.{eqb_self}
use Rattle.acd_lemmas.proofs.State.{connections_total, found_key, connection_among, still_none, count_new, count_less, connection_rule}
use Rattle.acd_laws.proofs.DestinationLemmas.{idle_counts, with_connections, one_le, most_one}
use Rattle.acd_model.specs.Distribution.{offer_at}
use Rattle.acd_lemmas.proofs.States.{queued_is, ready_is}

-- a distributed connection rings or is talked on, or neither
pub ringing_is : (d : ℕ) (x : ConnectionRecord) → ringing_at d x ≡ true → is_distributed_at d x ≡ true
ringing_is d x e =
    (elim x.state as (λ st. ((is_alerting st && is_some x.group) && (x.device == d)) ≡ true
    → ((is_some x.group && not (is_queued st)) && (x.device == d)) ≡ true) [
      | S.Alerting ↦ λ q. let h = and_parts (is_some x.group) (x.device == d) q in and_from _ _ (and_from _ _ h.0 refl) h.1
      | _ ↦ λ q. absurd (cc (q))
    ]) e

pub talking_is : (d : ℕ) (x : ConnectionRecord) → talking_at d x ≡ true → is_distributed_at d x ≡ true
talking_is d x e =
    (elim x.state as (λ st. ((is_answered st && is_some x.group) && (x.device == d)) ≡ true
    → ((is_some x.group && not (is_queued st)) && (x.device == d)) ≡ true) [
      | S.Connected ↦ λ q. let h = and_parts (is_some x.group) (x.device == d) q in and_from _ _ (and_from _ _ h.0 refl) h.1
      | S.Hold ↦ λ q. let h = and_parts (is_some x.group) (x.device == d) q in and_from _ _ (and_from _ _ h.0 refl) h.1
      | _ ↦ λ q. absurd (cc (q))
    ]) e

-- a connection at an idle station is open
open_when_idle : (s : Rows) (z : ConnectionRecord) → Among z s.connections → is_idle s z.device ≡ true → is_open z.state ≡ true
unfolding is_idle
open_when_idle s z a e =
    (elim z.state as (λ st. z.state ≡ st → is_open st ≡ true) [
      | S.Initiated ↦ λ q. absurd (busy (rw q (and_from _ _ (eqb_self z.device) refl)))
      | S.Connected ↦ λ q. absurd (busy (rw q (and_from _ _ (eqb_self z.device) refl)))
      | S.Hold ↦ λ q. absurd (busy (rw q (and_from _ _ (eqb_self z.device) refl)))
      | _ ↦ λ _. refl
    ]) refl
  where
    busy : ((z.device == z.device) && (is_live z.state || is_hold z.state)) ≡ true → ⊥
    busy h = cc (any_some (λ x. x.device == z.device && (is_live x.state || is_hold x.state)) s.connections z a h, not-true _ e)

offered_rule : (s : Rows) (x : ConnectionRecord) (d m : ℕ) → ConnectionRule s x → is_queued x.state ≡ true → IsTrue (is_station s d)
    → ConnectionRule s (ringing m x d)
offered_rule s x d m h q t =
    let c : InQueue x = subst (HasColumns x) (queued_is x.state q) h.0 in
    (subst (AlertingColumns (ringing m x d)) (sym c.group) (record { place = c.place; queued = c.queued; offered = refl }), h.1, t)

-- an unoccupied agent's station has no distributed connection
pub unoccupied : (s : Rows) (a : AgentRecord) (d : ℕ) → a.station ≡ Some d → is_occupied s a ≡ false → count (is_distributed_at d) s.connections ≡ 0
unfolding is_occupied
unoccupied s a d e free =
    let z = none_counted (λ w. has a.station w.device && is_distributed w) s.connections free in
    let l = fewer (is_distributed_at d) (λ w. has a.station w.device && is_distributed w)
    (λ w h. let k = and_parts (is_distributed w) (w.device == d) h in and_from _ _ (rw e (eq-eqb d w.device (sym (eqb-true w.device d k.1)))) k.0)
    s.connections in
    omega (arith, z, l)

pub offer_station : (s : Rows) (a : AgentRecord) (d : ℕ) → Rules s → Among a s.agents → is_ready a.state ≡ true → a.station ≡ Some d → IsTrue (is_station s d)
offer_station s a d r among ready station =
    let seat : IsPlannedStation s a.station × ArePlannedGroups s a.groups =
    subst (SeatedAs s a) (ready_is a.state ready) (every_among (AgentRule s) s.agents a r.agents among) in
    subst (IsPlannedStation s) station seat.0

-- the call has no connection yet at the station to which it is offered
pub offer_new : (s : Rows) (x : ConnectionRecord) (d : ℕ) → Rules s → connection_of s x.call x.device ≡ Some x → is_queued x.state ≡ true
    → IsTrue (is_station s d) → is_idle s d ≡ true → connection_of s x.call d ≡ None
offer_new s x d r ex q at_d idle =
    let xs : x.state ≡ S.Queued = queued_is x.state q in
    let at_x : IsTrue (is_group s x.device) = subst (StandsAt s x) xs (connection_rule s r x.call x.device x ex).2 in
    let apart : x.device ≡ d → ⊥ = λ e. cc (r.kinds x.device at_x, ap (is_station s) e, at_d) in
    none_from (connection_of s x.call d) (λ z e.
    let k = found_key s x.call d z e in
    let o : is_open z.state ≡ true = open_when_idle s z (connection_among s x.call d z e) (subst (λ v. is_idle s v ≡ true) (sym k.1) idle) in
    let two = two_counted (open_of x.call) s.connections x z (connection_among s x.call x.device x ex) (connection_among s x.call d z e)
    (and_from (is_open x.state) (x.call == x.call) (rw xs refl) (eqb_self x.call)) (and_from (is_open z.state) (z.call == x.call) o (eq-eqb z.call x.call k.0))
    (λ v. apart (ap (λ (w : ConnectionRecord). w.device) v ∙ k.1)) in
    let l = r.one_open x.call in omega (arith, two, l))

-- a queued call is offered to a ready and unoccupied agent at an idle station
pub kept_offer : (s : Rows) (x : ConnectionRecord) (a : AgentRecord) (d m : ℕ) → Rules s → connection_of s x.call x.device ≡ Some x → is_queued x.state ≡ true
    → Among a s.agents → is_ready a.state ≡ true → a.station ≡ Some d → is_occupied s a ≡ false → is_idle s d ≡ true
    → Rules (moved s (offer_at m (Some x) (Some d)))
unfolding with_connection without_connection call_of connection_of group_of station_of
kept_offer s x a d m r ex q among ready station free idle =
    let y : ConnectionRecord = ringing m x d in
    let u : Rows = changed s (RemoveConnection x.call x.device) in
    let t : Rows = changed u (PutConnection y) in
    let xs : x.state ≡ S.Queued = queued_is x.state q in
    let rule : ConnectionRule s x = connection_rule s r x.call x.device x ex in
    let at_d : IsTrue (is_station s d) = offer_station s a d r among ready station in
    let none : connection_of s x.call d ≡ None = offer_new s x d r ex q at_d idle in
    let counts : (p : ConnectionRecord → Bool) → count p t.connections + one (p x) ≡ one (p y) + count p s.connections = λ p.
    let e1 = count_new p u y (still_none s x.call x.device x.call d r.orders.connections none) in
    let e2 = count_less p s x.call x.device x ex in omega (arith, e1, e2) in
    let zero = unoccupied s a d station free in
    let nobody = idle_counts s d idle in
    with_connections (λ _. false) s t.connections r (record {
      sorted = ascending-put connection_order connections_total y u.connections (ascending-remove connection_order _ s.connections r.orders.connections);
      rules =
          every-put (connection_order y) (ConnectionRule s) y (offered_rule s x d m rule q at_d) u.connections
          (every-remove _ (ConnectionRule s) s.connections r.connections);
      parties = λ n. let e1 = counts (parties_of n) in let e2 = counts (initiated_of n) in let p = r.parties n in
          let i : one (initiated_of n x) ≡ 0 = rw xs refl in omega (arith, e1, e2, p, i);
      one_open = λ n. let e = counts (open_of n) in let o = r.one_open n in let f : one (open_of n x) ≡ one (x.call == n) = rw xs refl in
          omega (arith, e, o, f);
      one_live = λ e h. let c = counts (live_at e) in let f : one (live_at e x) ≡ 0 = rw xs refl in
          let o = most_one live_at s.connections d e nobody.0 (r.one_live e h) in omega (arith, c, f, o);
      no_hold = λ e h l. let c = counts (alerting_at e) in let ch = counts (hold_at e) in let f : one (alerting_at e x) ≡ 0 = rw xs refl in
          let fh : one (hold_at e x) ≡ 0 = rw xs refl in
          (elim (d == e) as (λ b. (d == e) ≡ b → count (hold_at e) t.connections ≡ 0) [
            | true ↦ λ v. let z : count (hold_at e) s.connections ≡ 0 = subst (λ w. count (hold_at w) s.connections ≡ 0) (eqb-true d e v) nobody.2 in
                omega (arith, ch, fh, z)
            | false ↦ λ v. let g : one (alerting_at e y) ≡ 0 = ap one v in let o = r.no_hold e h (omega (arith, c, f, g, l)) in omega (arith, ch, fh, o)
          ]) refl;
      one_offer = λ e. let c = counts (is_distributed_at e) in
          let f : one (is_distributed_at e x) ≡ 0 = ap one (and_left (is_distributed x) (x.device == e) (rw xs (and_right (is_some x.group) false refl))) in
          let g : one (is_distributed_at e y) ≤ one (d == e) = one_and (is_distributed y) (d == e) in
          let o = most_one is_distributed_at s.connections d e zero (r.one_offer e) in omega (arith, c, f, g, o);
      ready = λ e _. let c = counts (ringing_at e) in let o = r.ready e refl in let f : one (ringing_at e x) ≡ 0 = rw xs refl in
          (elim (d == e) as (λ b. (d == e) ≡ b → count (ringing_at e) t.connections ≤ count (ready_at e) s.agents) [
            | true ↦ λ v. let z : count (is_distributed_at e) s.connections
                ≡ 0 = subst (λ w. count (is_distributed_at w) s.connections ≡ 0) (eqb-true d e v) zero in
                let l = fewer (ringing_at e) (is_distributed_at e) (ringing_is e) s.connections in
                let g = one_le (ringing_at e y) in
                let w = counted (ready_at e) s.agents a among (and_from _ _ ready (rw station v)) in omega (arith, c, f, g, z, l, w)
            | false ↦ λ v. let g : one (ringing_at e y) ≡ 0 = ap one (and_right (is_some x.group) (d == e) v) in omega (arith, c, f, g, o)
          ]) refl;
      busy = λ e _. let c = counts (talking_at e) in let b = r.busy e refl in let f : one (talking_at e x) ≡ 0 = rw xs refl in omega (arith, c, b, f);
      pending = λ e _. let c = counts (is_distributed_at e) in let o = r.pending e refl in
          let f : one (is_distributed_at e x) ≡ 0 = ap one (and_left (is_distributed x) (x.device == e) (rw xs (and_right (is_some x.group) false refl))) in
          omega (arith, c, o, f);
      free = λ e v. absurd (cc (v));
    })
  where
    one_and : (b c : Bool) → one (b && c) ≤ one c
    one_and true c = omega arith
    one_and false c = omega arith
