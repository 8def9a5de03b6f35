-- Moves: their reports, balance and order, all three together.
use Rattle.std.proofs.Common.{◌≡◌, ℕ, ◌≤◌, List, [], ◌∷◌, ◌++◌, Option, Some, None, refl, sym, ◌∙◌, ap, subst, arith, ◌+◌, ◌<◌, Bool, true, false, not, ◌&&◌, ◌||◌, cond, eq-eqb}
use Rattle.acd_lemmas.proofs.Words.{Rows, AgentRecord, ConnectionRecord, ConnectionState, AgentState, Cause, Change, Move, Report, put_by, remove_by, count, Among, IsAscending, is_alerting, is_queued, at_connection, agent_of, connection_of, is_group, is_station, is_planned, has, with_connection, without_connection, silent, reported, changed, moved, connection_order, is_open, open_of}
use Rattle.acd_terms.specs.Columns.{columns_of}
use Rattle.acd_terms.specs.declared.state.AgentState.TheVariants as A
use Rattle.acd_model.specs.AgentMoves.{while_logged_on, state_report}
use Rattle.acd_model.specs.EventReports.{Seat, seat_by}
use Rattle.acd_model.specs.Watcher.{seat_of, waits_or_rings}
use Rattle.acd_model.specs.declared.moves.Change.TheVariants.{Nothing, PutAgent, PutConnection, RemoveConnection}
use Rattle.acd_laws.proofs.MoveKinds.{LeavesConnections, left_connections, LeavesAgents, AgentMove, stays as nothing, remains, reports, Recorded, Arrival, queues, alerts, fails}
use Rattle.acd_laws.proofs.Watched.ReportedState.{Truthful, AllTruthful, truthful-append, truthful_unseen, truthful_agent, truthful_silent_agent, truthful_put}
use Rattle.acd_laws.proofs.Watched.Order.{Balances, balances-append, holding, entry_by, gone_by, held, holding_new, holding_old, holding_less, OrderKept, stays, order-append, order_later, placed_within, placed_put, comes, NoneOpen}
use Rattle.std.specs.Prelude.{◌==◌}
use Rattle.std.proofs.lemmas.Bool.{and_right, or_left, or_right}
use Rattle.acd_terms.specs.declared.event.Report.TheVariants as report
use Rattle.acd_terms.specs.declared.state.ConnectionState.TheVariants as S
use Rattle.acd_model.specs.CallMoves.{unqueued, queueing, arrive}
use Rattle.acd_model.specs.Figures.{is_entry, is_no_answer}
use Rattle.acd_model.specs.Services.{waiting_group}
use Rattle.acd_lemmas.proofs.RuleFacts.{HasColumns}
use Rattle.acd_lemmas.proofs.Lists.{one, among-remove, counted, ascending-remove}
use Rattle.acd_lemmas.proofs.State.{count_less}
use Rattle.acd_lemmas.proofs.Bools.{and_yes, or_no}
use Rattle.acd_terms.specs.declared.command.Turn.{Turn}

pub record Sound (m b c : ℕ) (s : Rows) (ms : List Move) : Type 0 where
  pub truthful : AllTruthful s ms
  pub balances : Balances s ms
  pub order : OrderKept m b c s ms

pub sound-append : (m a b c : ℕ) (s : Rows) (ms ns : List Move) → Sound m a b s ms → Sound m b c (moved s ms) ns → Sound m a c s (ms ++ ns)
sound-append m a b c s ms ns f g = record {
  truthful = truthful-append s ms ns f.truthful g.truthful;
  balances = balances-append s ms ns f.balances g.balances;
  order = order-append m a b c s ms ns f.order g.order;
}

pub sound_later : (m b c : ℕ) (s : Rows) (ms : List Move) → b ≤ c → Sound m b b s ms → Sound m b c s ms
sound_later m b c s ms l f = record { truthful = f.truthful; balances = f.balances; order = order_later m b c s ms l f.order }

pub sound_nothing : (m b : ℕ) (s : Rows) → Sound m b b s []
sound_nothing m b s = record { truthful = tt; balances = λ g. refl; order = stays m b s [] (λ g. refl) (λ g c p h. h) }

-- a move that changes no connection and reports neither an entry nor what leaves

pub record Unheard (m : Move) : Type 0 where
  pub leaves : LeavesConnections m.change
  pub entry : (g : ℕ) → entry_by g m.report ≡ 0
  pub gone : (g : ℕ) → gone_by g m.report ≡ 0

pub sound_unheard : (m b : ℕ) (s : Rows) (x : Move) → Truthful s x → Unheard x → Sound m b b s (x ∷ [])
sound_unheard m b s x t u =
    let same : (changed s x.change).connections ≡ s.connections = left_connections s x.change u.leaves in
    record {
      truthful = (t, tt);
      balances = λ g. let e = u.entry g in let f = u.gone g in let h : holding (changed s x.change) g ≡ holding s g = held_same (changed s x.change) s g same in
          omega (arith, e, f, h);
      order =
          stays m b s (x ∷ []) (λ g. let e = u.entry g in omega (arith, e))
          (λ g c p h. placed_within s (changed s x.change) g c p (λ z a. subst (Among z) same a) h);
    }
  where
    held_same : (t v : Rows) (g : ℕ) → t.connections ≡ v.connections → holding t g ≡ holding v g
    held_same t v g e = rw e refl

-- nothing is seen of the change
pub silently : {m b : ℕ} {s : Rows} (c : Change) → Truthful s (silent c) → LeavesConnections c → Sound m b b s (silent c ∷ [])
silently {m} {b} {s} c t h = sound_unheard m b s (silent c) t (record { leaves = h; entry = λ g. refl; gone = λ g. refl })

-- what an agent's move reports

record StateReport (st : AgentState) (n d : ℕ) (r : Report) : Type 0 where
  agent : (columns_of r).agent ≡ Some n
  call : (columns_of r).call ≡ None
  seat : (old : Seat) → record { state = st; station = while_logged_on st old.station } ≡ seat_by (columns_of r).kind (columns_of r).device old
  entry : (g : ℕ) → entry_by g (Some r) ≡ 0
  gone : (g : ℕ) → gone_by g (Some r) ≡ 0

state_reported : (st : AgentState) (n d : ℕ) → StateReport st n d (state_report st n d)
state_reported A.Null n d = record { agent = refl; call = refl; seat = λ old. refl; entry = λ g. refl; gone = λ g. refl }
state_reported st n d = record { agent = refl; call = refl; seat = λ old. refl; entry = λ g. refl; gone = λ g. refl }

pub sound_agent : {turn : Turn} {b : ℕ} {t : Rows} {x : Move} → AgentMove (Recorded t) turn x → Sound turn.moment b b t (x ∷ [])
sound_agent {turn} {b} {t} nothing = silently Nothing (truthful_unseen t Nothing tt tt tt) tt
sound_agent {turn} {b} {t} (remains a name pending e) =
    let c : AgentRecord = record a { name = name; pending = pending } in silently (PutAgent c) (truthful_silent_agent t c (ap seat_of (sym e))) tt
sound_agent {turn} {b} {t} (reports a c d e h) =
    let r : Report = state_report c.state c.agent d in
    let w = state_reported c.state c.agent d in
    let was : agent_of t c.agent ≡ Some a = ap (agent_of t) h.agent ∙ e in
    let seated : seat_of (Some c) ≡ seat_by (columns_of r).kind (columns_of r).device (seat_of (agent_of t c.agent)) =
    ap (λ (o : Option ℕ). let v : Seat = record { state = c.state; station = o } in v) h.station ∙ w.seat (seat_of (Some a))
    ∙ ap (λ o. seat_by (columns_of r).kind (columns_of r).device (seat_of o)) (sym was) in
    sound_unheard turn.moment b t (reported (PutAgent c) r) (truthful_agent t c r w.agent w.call seated)
    (record { leaves = tt; entry = w.entry; gone = w.gone })

-- the change of a connection, with a report or none
abbrev pub put : ConnectionRecord → Option Report → Move
put y o = record { change = PutConnection y; report = o }

abbrev pub remove : ConnectionRecord → Option Report → Move
remove x o = record { change = RemoveConnection x.call x.device; report = o }

pub connections_put : (s : Rows) (y : ConnectionRecord) → (with_connection s y).connections ≡ put_by (connection_order y) s.connections y
unfolding with_connection
connections_put s y = refl

pub connections_less : (s : Rows) (c d : ℕ) → (without_connection s c d).connections ≡ remove_by (at_connection c d) s.connections
unfolding without_connection
connections_less s c d = refl

pub removed_within : (s : Rows) (c d : ℕ) (z : ConnectionRecord) → Among z (without_connection s c d).connections → Among z s.connections
removed_within s c d z a = among-remove (at_connection c d) s.connections z (subst (Among z) (connections_less s c d) a)

pub ascending_less : (s : Rows) (c d : ℕ) → IsAscending connection_order s.connections → IsAscending connection_order (without_connection s c d).connections
unfolding without_connection
ascending_less s c d h = ascending-remove connection_order (at_connection c d) s.connections h

-- the part of a connection in what a group holds

-- one that isn't open is in no queue and rings from none
pub held_shut : (g : ℕ) (x : ConnectionRecord) → is_open x.state ≡ false → held g x ≡ 0
held_shut g x e =
    (elim x.state as (λ st. is_open st ≡ false → held g (record x { state = st }) ≡ 0) [
      | S.Alerting ↦ λ q. absurd (cc (q))
      | S.Queued ↦ λ q. absurd (cc (q))
      | S.Fail ↦ λ q. absurd (cc (q))
      | _ ↦ λ _. none
    ]) e
  where
    none : one ((x.device == g) && false) + one (has x.group g && false) ≡ 0
    none = rw (and_right (x.device == g) false refl, and_right (has x.group g) false refl) refl

pub waits_nowhere : (g : ℕ) (x : ConnectionRecord) → is_open x.state ≡ false → waits_or_rings g x ≡ false
waits_nowhere g x e =
    (elim x.state as (λ st. is_open st ≡ false → waits_or_rings g (record x { state = st }) ≡ false) [
      | S.Alerting ↦ λ q. absurd (cc (q))
      | S.Queued ↦ λ q. absurd (cc (q))
      | S.Fail ↦ λ q. absurd (cc (q))
      | _ ↦ λ _. refl
    ]) e

-- one that waits or rings is held by its group, any other by none
pub held_is : (g : ℕ) (x : ConnectionRecord) → HasColumns x x.state → held g x ≡ one (has (waiting_group x) g)
held_is g x h = go x.state h
  where
    shut : one ((x.device == g) && false) + one (has x.group g && false) ≡ 0
    shut = rw (and_right (x.device == g) false refl, and_right (has x.group g) false refl) refl

    go : (st : ConnectionState) → HasColumns x st
        → one ((x.device == g) && is_queued st) + one (has x.group g && is_alerting st) ≡ one (has (cond (is_queued st || is_alerting st) x.group None) g)
    go S.Queued c =
        rw (and_yes (x.device == g), and_right (has x.group g) false refl)
        (let e : one (x.device == g) ≡ one (has x.group g) = ap (λ o. one (has o g)) (sym c.group) in omega (arith, e))
    go S.Alerting c = rw (and_yes (has x.group g), and_right (x.device == g) false refl) (omega arith)
    go _ c = shut

pub waits_or_rings_is : (g : ℕ) (x : ConnectionRecord) → HasColumns x x.state → waits_or_rings g x ≡ has (waiting_group x) g
waits_or_rings_is g x h = go x.state h
  where
    go : (st : ConnectionState) → HasColumns x st
        → ((is_queued st && (x.device == g)) || (is_alerting st && has x.group g)) ≡ has (cond (is_queued st || is_alerting st) x.group None) g
    go S.Queued c = or_no (x.device == g) ∙ ap (λ o. has o g) (sym c.group)
    go S.Alerting c = refl
    go _ c = refl

pub waiting_alerting : (x : ConnectionRecord) → is_alerting x.state ≡ true → waiting_group x ≡ x.group
waiting_alerting x e = go x.state e
  where
    go : (st : ConnectionState) → is_alerting st ≡ true → cond (is_queued st || is_alerting st) x.group None ≡ x.group
    go S.Alerting e = refl
    go S.Queued e = refl
    go _ e = absurd (cc (e))

pub waiting_open : (x : ConnectionRecord) → (is_alerting x.state || is_queued x.state) ≡ true → waiting_group x ≡ x.group
waiting_open x e = go x.state e
  where
    go : (st : ConnectionState) → (is_alerting st || is_queued st) ≡ true → cond (is_queued st || is_alerting st) x.group None ≡ x.group
    go S.Alerting e = refl
    go S.Queued e = refl
    go _ e = absurd (cc (e))

-- one that no group holds
pub record Unheld (y : ConnectionRecord) : Type 0 where
  pub held : (g : ℕ) → held g y ≡ 0
  pub waits_nowhere : (g : ℕ) → waits_or_rings g y ≡ false

pub shut : (y : ConnectionRecord) → is_open y.state ≡ false → Unheld y
shut y e = record { held = λ g. held_shut g y e; waits_nowhere = λ g. waits_nowhere g y e }

pub ungrouped : (call device : ℕ) (st : ConnectionState) → is_queued st ≡ false → Unheld (unqueued call device st)
ungrouped call device st e = record {
  held = λ g. ap (λ b. one b + 0) (and_right (device == g) (is_queued st) e);
  waits_nowhere = λ g. ap (λ b. (b && device == g) || (is_alerting st && false)) e ∙ and_right (is_alerting st) false refl;
}

-- puts and removals

-- a connection is put where none was, which no group holds
pub sound_put_new : (m b : ℕ) (s : Rows) (y : ConnectionRecord) (o : Option Report) → Truthful s (put y o) → connection_of s y.call y.device ≡ None → Unheld y
    → ((g : ℕ) → entry_by g o ≡ 0) → ((g : ℕ) → gone_by g o ≡ 0) → Sound m b b s (put y o ∷ [])
sound_put_new m b s y o t none free entry gone = record {
  truthful = (t, tt);
  balances = λ g. let h = holding_new s y g none in let e = free.held g in let f = entry g in let k = gone g in omega (arith, h, e, f, k);
  order =
      stays m b s (put y o ∷ []) (λ g. let f = entry g in omega (arith, f))
      (λ g c p h. placed_put s (with_connection s y) s.connections y g c p (λ z a. a) (λ q. absurd (cc (q, free.waits_nowhere g))) (connections_put s y) h);
}

-- or in place of another, which its group lets go by the report
pub sound_put_old : (m b : ℕ) (s : Rows) (x y : ConnectionRecord) (o : Option Report) → Truthful s (put y o) → IsAscending connection_order s.connections
    → connection_of s y.call y.device ≡ Some x
    → is_open y.state ≡ false → ((g : ℕ) → entry_by g o ≡ 0) → ((g : ℕ) → gone_by g o ≡ held g x) → Sound m b b s (put y o ∷ [])
sound_put_old m b s x y o t asc there shut entry gone = record {
  truthful = (t, tt);
  balances = λ g. let h = holding_old s y x g asc there in let e = held_shut g y shut in let f = entry g in let k = gone g in omega (arith, h, e, f, k);
  order =
      stays m b s (put y o ∷ []) (λ g. let f = entry g in omega (arith, f))
      (λ g c p h. placed_put s (with_connection s y) s.connections y g c p (λ z a. a) (λ q. absurd (cc (q, waits_nowhere g y shut))) (connections_put s y)
      h);
}

-- a connection ends, which its group lets go by the report
pub sound_remove : (m b : ℕ) (s : Rows) (x : ConnectionRecord) (o : Option Report) → Truthful s (remove x o) → connection_of s x.call x.device ≡ Some x
    → ((g : ℕ) → entry_by g o ≡ 0) → ((g : ℕ) → gone_by g o ≡ held g x) → Sound m b b s (remove x o ∷ [])
sound_remove m b s x o t there entry gone = record {
  truthful = (t, tt);
  balances = λ g. let h = holding_less s x.call x.device x g there in let f = entry g in let k = gone g in omega (arith, h, f, k);
  order =
      stays m b s (remove x o ∷ []) (λ g. let f = entry g in omega (arith, f))
      (λ g c p h. placed_within s (without_connection s x.call x.device) g c p (removed_within s x.call x.device) h);
}

-- where the one open connection of a call is removed, none is left
pub open_gone : (s : Rows) (call : ℕ) (x : ConnectionRecord) → connection_of s x.call x.device ≡ Some x → x.call ≡ call
    → count (open_of call) s.connections ≤ one (is_open x.state)
    → NoneOpen (without_connection s x.call x.device) call
open_gone s call x there xc most z a e q =
    let c = count_less (open_of call) s x.call x.device x there in
    let k =
    counted (open_of call) (remove_by (at_connection x.call x.device) s.connections) z (subst (Among z) (connections_less s x.call x.device) a)
    (both (is_open z.state) (z.call == call) e (eq-eqb z.call call q)) in
    let f : one (open_of call x) ≡ one (is_open x.state) = ap one (first (is_open x.state) (x.call == call) (eq-eqb x.call call xc)) in
    omega (arith, c, k, most, f)
  where
    both : (a b : Bool) → a ≡ true → b ≡ true → (a && b) ≡ true
    both a b e f = rw (e, f) refl

    first : (a b : Bool) → b ≡ true → (a && b) ≡ a
    first true b e = e
    first false b e = refl

pub planned_station : (s : Rows) (d : ℕ) → is_station s d ≡ true → is_planned s d ≡ true
planned_station s d h = or_right (is_group s d) (is_station s d) h

pub planned_group : (s : Rows) (d : ℕ) → is_group s d ≡ true → is_planned s d ≡ true
planned_group s d h = or_left (is_group s d) (is_station s d) h

-- a call comes to a device

-- where none of the call is open, it comes to the device with the stamp as its place
pub sound_arrival : (turn : Turn) (b : ℕ) (s t : Rows) (call to : ℕ) (why : Cause) (x : Move) → Arrival s turn call to why x → b < turn.stamp
    → is_planned t to ≡ true → is_no_answer why ≡ false → connection_of t call to ≡ None
    → NoneOpen t call → Sound turn.moment b turn.stamp t (x ∷ [])
sound_arrival turn b s t call to why x (queues _) l p usual none new =
    let y : ConnectionRecord = queueing call to (Some turn.stamp) (Some turn.moment) in
    let entry : (g : ℕ) → is_entry g (report.Queued call to why) ≡ (to == g) = λ g. ap (λ v. (to == g) && not v) usual ∙ and_yes (to == g) in
    record {
      truthful = (truthful_put t y (report.Queued call to why) refl refl refl refl p, tt);
      balances = λ g. let h = holding_new t y g none in let c : one (is_entry g (report.Queued call to why)) ≡ one (to == g) = ap one (entry g) in
          let a : held g y ≡ one (to == g) = rw (and_yes (to == g), and_right (to == g) false refl) (omega arith) in omega (arith, h, a, c);
      order = comes turn.moment b turn.stamp t y (report.Queued call to why) call l (record {
        new = new;
        call_is = refl;
        reported = refl;
        queue = λ g h. (refl, entry g ∙ sym (or_no (to == g)) ∙ h);
      });
    }
sound_arrival turn b s t call to why x alerts l p usual none new =
    let y : ConnectionRecord = unqueued call to S.Alerting in let r : Report = report.Delivered call to why None in
    sound_later turn.moment b turn.stamp t (put y (Some r) ∷ []) (omega (arith, l))
    (sound_put_new turn.moment b t y (Some r) (truthful_put t y r refl refl refl refl p) none (ungrouped call to S.Alerting refl) (λ g. refl) (λ g. refl))
sound_arrival turn b s t call to why x fails l p usual none new =
    let y : ConnectionRecord = unqueued call to S.Fail in let r : Report = report.Failed call to in
    sound_later turn.moment b turn.stamp t (put y (Some r) ∷ []) (omega (arith, l))
    (sound_put_new turn.moment b t y (Some r) (truthful_put t y r refl refl refl refl p) none (ungrouped call to S.Fail refl) (λ g. refl) (λ g. refl))

pub arrive_leaves : (s : Rows) (turn : Turn) (call to : ℕ) (why : Cause) → LeavesAgents (arrive s turn call to why).change
unfolding arrive
arrive_leaves s turn call to why = tt
