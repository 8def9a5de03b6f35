-- The rules are kept where a connection ends: by clearConnection, deflectCall, singleStepTransfer and the return of a call to its group.
use Rattle.std.proofs.Common.{◌≡◌, ℕ, ◌+◌, inl, inr, Bool, true, false, not, ◌&&◌, Some, None, refl, sym, ◌∙◌, ap, subst, arith, eq-eqb, ◌≤◌, ◌||◌, cond, List, [], ◌∷◌, Option}
use Rattle.std.specs.Prelude.{◌==◌, IsTrue, IsFalse, is_some}
use Rattle.std.proofs.lemmas.Bool.{and_parts, and_from, eqb-true, or_left, false_from_ne_true, and_right, or_cases, or_parts, or_right}
use Rattle.acd_lemmas.proofs.Words.{Rows, ConnectionRecord, ConnectionState, Ending, remove_by, count, Among, IsAscending, is_initiated, is_alerting, is_connected, is_queued, is_answered, at_call, at_connection, group_of, station_of, agent_of, call_of, connection_of, is_group, is_station, other_of, is_distributed, with_connection, without_call, without_connection, changed, moved, call_order, connection_order, is_open, parties_of, initiated_of, open_of, live_at, alerting_at, hold_at, is_distributed_at}
use Rattle.acd_terms.specs.declared.state.ConnectionState.TheVariants as S
use Rattle.acd_model.specs.declared.moves.Change.TheVariants.{PutConnection, RemoveConnection}
use Rattle.acd_model.specs.declared.moves.Ending.TheVariants.{NoAnswer}
use Rattle.acd_model.specs.CallMoves.{queueing, clear, end_call}
use Rattle.acd_lemmas.proofs.RuleFacts.{RulesBut, Rules, Offered, AlertingColumns, HasColumns, GroupColumn, StandsAt, ConnectionRule, ringing_at, talking_at, CallRule, two_if}
use Rattle.acd_lemmas.proofs.Lists.{one, ascending-put, ascending-remove, every-put, every-remove, two_counted, none_from, find_none, every_among, every_from, among-remove, counted, fewer, count_zero, both_fewer}
use Rattle.acd_lemmas.proofs.KeyedLists.{eqb_self}
use Rattle.acd_lemmas.proofs.State.{connections_total, found_key, connection_among, still_none, is_of, call_remove, removed_other, count_new, count_less, connection_rule, connection_there, other_among, other_device, other_agents, left_among}
use Rattle.acd_lemmas.proofs.States.{alerting_is}
use Rattle.acd_laws.proofs.Rules.RulesOfOffers.{talking_is}
use Rattle.acd_laws.proofs.DestinationLemmas.{with_connections, arrived_live, arrived_hold, arrived_open, rule_same, Arrived}
use Rattle.acd_laws.proofs.ReleaseLemmas.{Ends, after_release, loosen, ends_by, release_other_kept}
use Rattle.acd_model.specs.Tick.{return_to}
use Rattle.acd_model.specs.Release.{ending_of, release}
use Rattle.acd_model.specs.Services.{clearing, cleared_group, waiting_group, is_answered_by}
use Rattle.acd_terms.specs.declared.command.Turn.{Turn}

-- a connection at a group is queued
at_group_queued : (s : Rows) (z : ConnectionRecord) (st : ConnectionState) → ((d : ℕ) → IsTrue (is_group s d) → IsFalse (is_station s d)) → StandsAt s z st
    → IsTrue (is_group s z.device) → st ≡ S.Queued
at_group_queued s z S.Queued kinds h g = refl
at_group_queued s z S.Initiated kinds h g = absurd (cc (h.0, kinds z.device g))
at_group_queued s z S.Connected kinds (inl h) g = absurd (cc (h, kinds z.device g))
at_group_queued s z S.Connected kinds (inr h) g = absurd (cc (h.0, or_left (is_group s z.device) (is_station s z.device) g))
at_group_queued s z _ kinds h g = absurd (cc (h, kinds z.device g))

pub and_not : (a : Bool) → (a && not a) ≡ false
and_not true = refl
and_not false = refl

-- the call has no connection yet at the group to which it returns
pub return_new : (s : Rows) (g : ℕ) (x : ConnectionRecord) → Rules s → connection_of s x.call x.device ≡ Some x → is_alerting x.state ≡ true → x.group ≡ Some g
    → connection_of s x.call g ≡ None
return_new s g x r ex alerting group =
    let xs : x.state ≡ S.Alerting = alerting_is x.state alerting in
    let rule : ConnectionRule s x = connection_rule s r x.call x.device x ex in
    let at_g : IsTrue (is_group s g) = subst (GroupColumn s) group rule.1 in
    let at_x : IsTrue (is_station s x.device) = subst (StandsAt s x) xs rule.2 in
    let apart : x.device ≡ g → ⊥ = λ e. cc (r.kinds g at_g, ap (is_station s) e, at_x) in
    none_from (connection_of s x.call g) (λ z e.
    let key = found_key s x.call g z e in
    let zs = at_group_queued s z z.state r.kinds (connection_rule s r x.call g z e).2 (subst (λ d. IsTrue (is_group s d)) (sym key.1) at_g) in
    let two = two_counted (open_of x.call) s.connections x z (connection_among s x.call x.device x ex) (connection_among s x.call g z e)
    (and_from (is_open x.state) (x.call == x.call) (rw xs refl) (eqb_self x.call))
    (and_from (is_open z.state) (z.call == x.call) (rw zs refl) (eq-eqb z.call x.call key.0))
    (λ w. apart (ap (λ (z : ConnectionRecord). z.device) w ∙ key.1)) in
    let l = r.one_open x.call in omega (arith, two, l))

-- the connection x ends and its call comes to y: where x is open, or none of the call is
pub moved_on : (s : Rows) (turn : Turn) (x y : ConnectionRecord) (d : ℕ) (how : Ending) → Rules s → connection_of s x.call x.device ≡ Some x
    → Arrived s x.call d y → connection_of s x.call d ≡ None → is_initiated x.state ≡ false
    → count (open_of x.call) s.connections ≤ one (is_open x.state) → Ends x how
    → Rules (changed (changed (changed s (RemoveConnection x.call x.device)) (PutConnection y)) (release s turn x how).change)
unfolding with_connection without_connection call_of connection_of agent_of group_of station_of
moved_on s turn x y d how r ex a none_d not_initiated opens ends =
    let u : Rows = changed s (RemoveConnection x.call x.device) in
    let v : Rows = changed u (PutConnection y) in
    let among : Among x s.connections = connection_among s x.call x.device x ex in
    let new : connection_of u y.call y.device ≡ None = rw (a.call, a.device) (still_none s x.call x.device x.call d r.orders.connections none_d) in
    let counts : (p : ConnectionRecord → Bool) → count p v.connections + one (p x) ≡ one (p y) + count p s.connections = λ p.
    let e1 = count_new p u y new in let e2 = count_less p s x.call x.device x ex in omega (arith, e1, e2) in
    let loose : ℕ → Bool = λ e. is_distributed x && (x.device == e) in
    let free : (e : ℕ) → loose e ≡ true → count (is_distributed_at e) v.connections ≡ 0 = λ e q. let c = counts (is_distributed_at e) in
    let b = r.one_offer e in
    let f : one (is_distributed_at e x) ≡ 1 = ap one q in let g : one (is_distributed_at e y) ≡ 0 = rw a.not_distributed refl in omega (arith, c, b, f, g) in
    let rv : RulesBut loose v = with_connections loose s v.connections r (record {
      sorted = ascending-put connection_order connections_total y u.connections (ascending-remove connection_order _ s.connections r.orders.connections);
      rules = every-put (connection_order y) (ConnectionRule s) y a.rule u.connections (every-remove _ (ConnectionRule s) s.connections r.connections);
      parties = λ n. let e1 = counts (parties_of n) in let e2 = counts (initiated_of n) in let p = r.parties n in
          let f : one (parties_of n y) ≡ one (parties_of n x) = rw a.call refl in let i : one (initiated_of n x) ≡ 0 = rw not_initiated refl in
          let j : one (initiated_of n y) ≡ 0 = rw a.not_initiated refl in omega (arith, e1, e2, p, f, i, j);
      one_open = λ n. let c = counts (open_of n) in let o = arrived_open s x.call d n y (is_open x.state) a (r.one_open n) opens in omega (arith, c, o);
      one_live = λ e h. let c = counts (live_at e) in let o = arrived_live s x.call d e y a (r.one_live e h) in omega (arith, c, o);
      no_hold = λ e h l. let c = counts (alerting_at e) in let ch = counts (hold_at e) in let i : one (hold_at e y) ≡ 0 = rw a.not_hold refl in
          let z = arrived_hold s x.call d e y a (r.no_hold e h) (omega (arith, c, l)) in omega (arith, ch, i, z);
      one_offer = λ e. let c = counts (is_distributed_at e) in let o = r.one_offer e in let g : one (is_distributed_at e y) ≡ 0 = rw a.not_distributed refl in
          omega (arith, c, o, g);
      ready = λ e _. let c = counts (ringing_at e) in let o = r.ready e refl in let g : one (ringing_at e y) ≡ 0 = rw a.not_ringing refl in
          omega (arith, c, o, g);
      busy = λ e q. let c = counts (talking_at e) in let o = r.busy e refl in let g : one (talking_at e y) ≡ 0 = rw a.not_answered refl in
          let f : one (talking_at e x) ≡ 0 = ap one (false_from_ne_true (talking_at e x) (λ w. cc (talking_is e x w, q))) in omega (arith, c, o, f, g);
      pending = λ e q. let c = counts (is_distributed_at e) in let o = r.pending e refl in
          let g : one (is_distributed_at e y) ≡ 0 = rw a.not_distributed refl in let f : one (is_distributed_at e x) ≡ 0 = ap one q in
          omega (arith, c, o, f, g);
      free = free;
    }) in
    loosen (λ e. loose e && not (loose e)) (λ _. false) _ (λ e q. absurd (cc (q))) (λ e q. and_not (loose e))
    (after_release loose s v x how turn rv (λ a h. h.there) r among (λ d. free x.device (and_from _ _ d (eqb_self x.device))) ends)

-- an offer returns to its group
pub kept_return_to : (s : Rows) (turn : Turn) (g : ℕ) (x : ConnectionRecord) → Rules s → connection_of s x.call x.device ≡ Some x → is_alerting x.state ≡ true
    → x.group ≡ Some g → Rules (moved s (return_to s turn x (Some g)))
kept_return_to s turn g x r ex alerting group =
    let y : ConnectionRecord = queueing x.call g x.place x.queued in
    let xs : x.state ≡ S.Alerting = alerting_is x.state alerting in
    let rule : ConnectionRule s x = connection_rule s r x.call x.device x ex in
    let columns : Offered x = subst (AlertingColumns x) group (subst (HasColumns x) xs rule.0) in
    let at_g : IsTrue (is_group s g) = subst (GroupColumn s) group rule.1 in
    let back : Arrived s x.call g y = record {
      call = refl;
      device = refl;
      rule = (record { group = refl; place = columns.place; queued = columns.queued; offered = refl }, at_g, at_g);
      not_initiated = refl;
      not_hold = refl;
      not_answered = refl;
      not_distributed = refl;
      not_ringing = refl;
      idle = λ q. absurd (cc (q));
      alerting_idle = λ q. absurd (cc (q));
    } in
    let o = r.one_open x.call in let f : one (is_open x.state) ≡ 1 = rw xs refl in
    moved_on s turn x y g NoAnswer r ex back (return_new s g x r ex alerting group) (rw xs refl) (omega (arith, o, f)) (record { stays = λ _ w q. alerting })

-- l is what is left of the connections where a call ends, with no distributed one at the loose devices
record Remains (s : Rows) (call : ℕ) (loose : ℕ → Bool) (l : List ConnectionRecord) : Type 0 where
  sorted : IsAscending connection_order l
  within : (z : ConnectionRecord) → Among z l → Among z s.connections
  less : (p : ConnectionRecord → Bool) → count p l ≤ count p s.connections
  gone : count (parties_of call) l ≡ 0
  others : (n : ℕ) → (call == n) ≡ false
      → (count (parties_of n) l ≡ count (parties_of n) s.connections) × (count (initiated_of n) l ≡ count (initiated_of n) s.connections)
  talk : (e : ℕ) → loose e ≡ false → count (talking_at e) l ≡ count (talking_at e) s.connections
  dist : (e : ℕ) → loose e ≡ false → count (is_distributed_at e) l ≡ count (is_distributed_at e) s.connections
  free : (e : ℕ) → loose e ≡ true → count (is_distributed_at e) l ≡ 0

ended : (s : Rows) (call : ℕ) (loose : ℕ → Bool) (l : List ConnectionRecord) → Rules s → Remains s call loose l
    → RulesBut loose (record s { connections = l; calls = remove_by (at_call call) s.calls })
unfolding without_call call_of connection_of group_of station_of
ended s call loose l r left =
    let v : Rows = record s { connections = l; calls = remove_by (at_call call) s.calls } in
    let calls : (n : ℕ) → call_of v n ≡ cond (call == n) None (call_of s n) = λ n. call_remove s call n r.orders.calls in
    record {
      orders = record {
        groups = r.orders.groups;
        stations = r.orders.stations;
        agents = r.orders.agents;
        monitors = r.orders.monitors;
        calls = ascending-remove call_order (at_call call) s.calls r.orders.calls;
        connections = left.sorted;
      };
      kinds = r.kinds;
      agents = r.agents;
      calls = every-remove _ (CallRule s) s.calls r.calls;
      connections = every_from (ConnectionRule v) l (λ z a.
          let other : (call == z.call) ≡ false = false_from_ne_true (call == z.call) (λ q.
          let c = counted (parties_of call) l z a (eq-eqb z.call call (sym (eqb-true call z.call q))) in omega (arith, c, left.gone)) in
          rule_same s v (λ _. refl) (λ _. refl) z (λ h. rw (calls z.call, other) h)
          (every_among (ConnectionRule s) s.connections z r.connections (left.within z a)));
      parties = λ n.
          (elim (call == n) as (λ b. (call == n) ≡ b → count (parties_of n) l + count (initiated_of n) l ≡ two_if (is_some (cond b None (call_of s n)))) [
            | true ↦ λ q.
                let z : count (parties_of n) l ≡ 0 = subst (λ w. count (parties_of w) l ≡ 0) (eqb-true call n q) left.gone in
                let f = fewer (initiated_of n) (parties_of n) (λ w h. (and_parts (is_initiated w.state) (w.call == n) h).1) l in omega (arith, z, f)
            | false ↦ λ q. let o = left.others n q in let p = r.parties n in omega (arith, o.0, o.1, p)
          ]) refl
          ∙ ap (λ o. two_if (is_some o)) (sym (calls n));
      one_open = λ n. let a = left.less (open_of n) in let b = r.one_open n in omega (arith, a, b);
      one_live = λ e h. let a = left.less (live_at e) in let b = r.one_live e h in omega (arith, a, b);
      no_hold = λ e h q. let a = left.less (alerting_at e) in let b = left.less (hold_at e) in let c = r.no_hold e h (omega (arith, a, q)) in omega (arith, b, c);
      one_offer = λ e. let a = left.less (is_distributed_at e) in let b = r.one_offer e in omega (arith, a, b);
      one_agent = r.one_agent;
      ready = λ e h. let a = left.less (ringing_at e) in let b = r.ready e refl in omega (arith, a, b);
      busy = λ e h. left.talk e h ∙ r.busy e refl;
      pending = λ e h. let d = left.dist e h in let o = r.pending e refl in omega (arith, d, o);
      free = left.free;
    }

pub two_le : (b : Bool) → two_if b ≤ 2
two_le true = omega arith
two_le false = omega arith

either_and_not : (a b : Bool) → (((a || b) && not a) && not b) ≡ false
either_and_not true true = refl
either_and_not true false = refl
either_and_not false true = refl
either_and_not false false = refl

pub kept_clear : (s : Rows) (turn : Turn) (x : ConnectionRecord) (o : Option ConnectionRecord) → other_of s x ≡ o → Rules s
    → connection_of s x.call x.device ≡ Some x
    → Rules (moved s (clearing s turn x o))
unfolding with_connection without_connection without_call call_of connection_of agent_of group_of station_of other_of
kept_clear s turn x None eo r ex =
    let call : ℕ = x.call in
    let among : Among x s.connections = connection_among s x.call x.device x ex in
    let l : List ConnectionRecord = remove_by (at_connection x.call x.device) s.connections in
    let counts : (p : ConnectionRecord → Bool) → count p l + one (p x) ≡ count p s.connections = λ p. count_less p s x.call x.device x ex in
    let gone : count (parties_of call) l ≡ 0 = count_zero (parties_of call) l (λ z a.
    let h = left_among s x.call x.device r.orders.connections z a in
    false_from_ne_true (z.call == call) (λ q.
    let same : (z.call == x.call) ≡ true = q in
    let other = find_none (λ (w : ConnectionRecord). w.call == x.call && not (w.device == x.device)) s.connections eo z h.0 in
    let elsewhere : (z.device == x.device) ≡ false =
    false_from_ne_true _ (λ w. let same_key : is_of x.call x.device z ≡ true = and_from _ _ same w in cc (rw same_key at h.1)) in
    cc (other, and_from _ _ same (ap not elsewhere)))) in
    let v : Rows = moved s (clear x ∷ end_call x.call (waiting_group x) ∷ []) in
    let loose : ℕ → Bool = λ e. is_distributed x && (x.device == e) in
    let free : (e : ℕ) → loose e ≡ true → count (is_distributed_at e) l ≡ 0 = λ e q. let c = counts (is_distributed_at e) in let b = r.one_offer e in
    let f : one (is_distributed_at e x) ≡ 1 = ap one q in omega (arith, c, b, f) in
    let rv : RulesBut loose v = ended s call loose l r (record {
      sorted = ascending-remove connection_order (at_connection x.call x.device) s.connections r.orders.connections;
      within = λ z a. (left_among s x.call x.device r.orders.connections z a).0;
      less = λ p. let c = counts p in omega (arith, c);
      gone = gone;
      others = λ n q. let a = counts (parties_of n) in let b = counts (initiated_of n) in
          let f : one (parties_of n x) ≡ 0 = rw q refl in
          let g : one (initiated_of n x) ≡ 0 = ap one (and_right (is_initiated x.state) (x.call == n) (rw q refl)) in
          (omega (arith, a, f), omega (arith, b, g));
      talk = λ e q. let a = counts (talking_at e) in
          let f : one (talking_at e x) ≡ 0 = ap one (false_from_ne_true (talking_at e x) (λ w. cc (talking_is e x w, q))) in omega (arith, a, f);
      dist = λ e q. let a = counts (is_distributed_at e) in let f : one (is_distributed_at e x) ≡ 0 = ap one q in omega (arith, a, f);
      free = free;
    }) in
    let r1 =
    after_release loose s v x (ending_of x) turn rv (λ a h. h.there) r among (λ d. free x.device (and_from _ _ d (eqb_self x.device)))
    (ends_by s x (connection_rule s r x.call x.device x ex)) in
    loosen (λ e. loose e && not (loose e)) (λ _. false) _ (λ e q. absurd (cc (q))) (λ e q. and_not (loose e)) r1
kept_clear s turn x (Some y) eo r ex =
    let call : ℕ = x.call in
    let among : Among x s.connections = connection_among s x.call x.device x ex in
    let among_y : Among y s.connections = other_among s x y eo in
    let ey : connection_of s y.call y.device ≡ Some y = connection_there s r y among_y in
    let od = other_device s x y eo in
    let yc : y.call ≡ call = od.0 in
    let u : Rows = changed s (RemoveConnection x.call x.device) in
    let l : List ConnectionRecord = remove_by (at_connection y.call y.device) u.connections in
    let su = ascending-remove connection_order (at_connection x.call x.device) s.connections r.orders.connections in
    let counts : (p : ConnectionRecord → Bool) → (count p l + one (p y)) + one (p x) ≡ count p s.connections = λ p.
    let a = count_less p s x.call x.device x ex in
    let b = count_less p u y.call y.device y (removed_other s x.call x.device y.call y.device r.orders.connections (λ _ q. od.1 q) ∙ ey) in
    omega (arith, a, b) in
    let gone : count (parties_of call) l ≡ 0 =
    let c = counts (parties_of call) in let p = r.parties call in let t = two_le (is_some (call_of s call)) in
    let f : one (parties_of call x) ≡ 1 = ap one (eqb_self x.call) in let g : one (parties_of call y) ≡ 1 = ap one (eq-eqb y.call call yc) in
    omega (arith, c, p, t, f, g) in
    let v : Rows = moved s (clear x ∷ clear y ∷ end_call x.call (cleared_group x (Some y)) ∷ []) in
    let loose : ℕ → Bool = λ e. (is_distributed x && (x.device == e)) || (is_distributed y && (y.device == e)) in
    let free : (e : ℕ) → loose e ≡ true → count (is_distributed_at e) l ≡ 0 = λ e q. let c = counts (is_distributed_at e) in let b = r.one_offer e in
    elim (or_cases (is_distributed x && (x.device == e)) (is_distributed y && (y.device == e)) q) [
      | inl w ↦ (let f : one (is_distributed_at e x) ≡ 1 = ap one w in omega (arith, c, b, f))
      | inr w ↦ (let f : one (is_distributed_at e y) ≡ 1 = ap one w in omega (arith, c, b, f))
    ] in
    let rv : RulesBut loose v = ended s call loose l r (record {
      sorted = ascending-remove connection_order (at_connection y.call y.device) u.connections su;
      within = λ z a. among-remove (at_connection x.call x.device) s.connections z (among-remove (at_connection y.call y.device) u.connections z a);
      less = λ p. let c = counts p in omega (arith, c);
      gone = gone;
      others = λ n q. let a = counts (parties_of n) in let b = counts (initiated_of n) in
          let f : one (parties_of n x) ≡ 0 = rw q refl in
          let g : one (initiated_of n x) ≡ 0 = ap one (and_right (is_initiated x.state) (x.call == n) (rw q refl)) in
          let h : one (parties_of n y) ≡ 0 = rw (yc, q) refl in
          let i : one (initiated_of n y) ≡ 0 = ap one (and_right (is_initiated y.state) (y.call == n) (rw (yc, q) refl)) in
          (omega (arith, a, f, h), omega (arith, b, g, i));
      talk = λ e q. let a = counts (talking_at e) in let w = or_parts (is_distributed x && (x.device == e)) (is_distributed y && (y.device == e)) q in
          let f : one (talking_at e x) ≡ 0 = ap one (false_from_ne_true (talking_at e x) (λ t. cc (talking_is e x t, w.0))) in
          let g : one (talking_at e y) ≡ 0 = ap one (false_from_ne_true (talking_at e y) (λ t. cc (talking_is e y t, w.1))) in omega (arith, a, f, g);
      dist = λ e q. let a = counts (is_distributed_at e) in
          let w = or_parts (is_distributed x && (x.device == e)) (is_distributed y && (y.device == e)) q in
          let f : one (is_distributed_at e x) ≡ 0 = ap one w.0 in let g : one (is_distributed_at e y) ≡ 0 = ap one w.1 in omega (arith, a, f, g);
      free = free;
    }) in
    let r1 =
    after_release loose s v x (ending_of x) turn rv (λ a h. h.there) r among (λ d. free x.device (or_left _ _ (and_from _ _ d (eqb_self x.device))))
    (ends_by s x (connection_rule s r x.call x.device x ex)) in
    let apart : (x.device == y.device) ≡ false = false_from_ne_true _ (λ q. od.1 (eqb-true x.device y.device q)) in
    let r2 =
    after_release (λ e. loose e && not (is_distributed x && (x.device == e))) s (changed v (release s turn x (ending_of x)).change) y (ending_of y) turn r1
    (λ b h. release_other_kept s v x (ending_of x) turn b.agent (λ a e. other_agents s r.orders.agents x.device y.device a b e h.at_station od.1) ∙ h.there) r
    among_y
    (λ d. r1.free y.device (and_from _ _ (or_right (is_distributed x && (x.device == y.device)) _ (and_from _ _ d (eqb_self y.device)))
    (ap not (and_right (is_distributed x) (x.device == y.device) apart))))
    (ends_by s y (connection_rule s r y.call y.device y ey)) in
    loosen _ (λ _. false) _ (λ e q. absurd (cc (q))) (λ e q. either_and_not (is_distributed x && (x.device == e)) (is_distributed y && (y.device == e))) r2

pub open_cases : (st : ConnectionState) → (is_alerting st || is_queued st) ≡ true → (is_initiated st ≡ false) × (is_open st ≡ true)
open_cases S.Alerting e = (refl, refl)
open_cases S.Queued e = (refl, refl)
open_cases _ e = absurd (cc (e))

closed_of : ℕ → ConnectionRecord → Bool
closed_of c x = not (is_open x.state) && x.call == c

closed_is : (c : ℕ) (x : ConnectionRecord) → is_open x.state ≡ false → x.call ≡ c → closed_of c x ≡ true
unfolding closed_of
closed_is c x e q = and_from _ _ (ap not e) (eq-eqb x.call c q)

open_or_closed : (c : ℕ) (x : ConnectionRecord) → one (open_of c x) + one (closed_of c x) ≤ one (parties_of c x)
unfolding closed_of
open_or_closed c x =
    elim (is_open x.state) as (λ b. one (b && x.call == c) + one (not b && x.call == c) ≤ one (x.call == c)) [ true ↦ omega arith | false ↦ omega arith ]

closed_when : (st : ConnectionState) → is_answered st ≡ true → is_open st ≡ false
closed_when S.Connected e = refl
closed_when S.Hold e = refl
closed_when _ e = absurd (cc (e))

answered_other : (o : Option ConnectionRecord) → is_answered_by o ≡ true → (y : ConnectionRecord) × (o ≡ Some y) × (is_answered y.state ≡ true)
answered_other None e = absurd (cc (e))
answered_other (Some y) e = (y, refl, e)

-- a call of which two connections are answered has none open
pub closed_call : (s : Rows) (x : ConnectionRecord) → Rules s → Among x s.connections → is_connected x.state ≡ true → is_answered_by (other_of s x) ≡ true
    → count (open_of x.call) s.connections ≤ one (is_open x.state)
closed_call s x r among connected answered_by =
    let y = answered_other (other_of s x) answered_by in
    let od = other_device s x y.0 y.1 in
    let two =
    two_counted (closed_of x.call) s.connections x y.0 among (other_among s x y.0 y.1)
    (closed_is x.call x (closed_when x.state (or_left _ _ connected)) refl) (closed_is x.call y.0 (closed_when y.0.state y.2) od.0)
    (λ e. od.1 (ap (λ (z : ConnectionRecord). z.device) e)) in
    let w = both_fewer (open_of x.call) (closed_of x.call) (parties_of x.call) (open_or_closed x.call) s.connections in
    let p = r.parties x.call in let t = two_le (is_some (call_of s x.call)) in omega (arith, two, w, p, t)
