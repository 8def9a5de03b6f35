-- Records, events and tables that compare equal are equal.
use Rattle.std.proofs.Common.{◌≡◌, ℕ, Bool, true, List, Option, true≢false, sym, refl, ap, ap₂, ◌∙◌, ◌&&◌, ◌==◌, eqb-true}
use Rattle.std.specs.Bool.{Decides}
use Rattle.std.specs.Cmp.Lexicographic.{pointwise, lists_equiv}
use Rattle.acd_terms.specs.declared.state.AgentState.{AgentState}
use Rattle.acd_terms.specs.declared.state.AgentState.TheVariants as agent
use Rattle.acd_terms.specs.declared.state.Pending.{Pending}
use Rattle.acd_terms.specs.declared.state.Pending.TheVariants as pending
use Rattle.acd_terms.specs.declared.state.ConnectionState.{ConnectionState}
use Rattle.acd_terms.specs.declared.state.ConnectionState.TheVariants as connection
use Rattle.acd_terms.specs.declared.record.GroupRecord.{GroupRecord}
use Rattle.acd_terms.specs.declared.record.StationRecord.{StationRecord}
use Rattle.acd_terms.specs.declared.record.AgentRecord.{AgentRecord}
use Rattle.acd_terms.specs.declared.record.CallRecord.{CallRecord}
use Rattle.acd_terms.specs.declared.record.ConnectionRecord.{ConnectionRecord}
use Rattle.acd_terms.specs.declared.record.MonitorRecord.{MonitorRecord}
use Rattle.acd_terms.specs.contracts.state.AgentStatePartialEq.TheImpl as agent_state_eq
use Rattle.acd_terms.specs.contracts.state.PendingPartialEq.TheImpl as pending_eq
use Rattle.acd_terms.specs.contracts.state.ConnectionStatePartialEq.TheImpl as connection_state_eq
use Rattle.acd_terms.specs.contracts.record.GroupRecordPartialEq.TheImpl as group_eq
use Rattle.acd_terms.specs.contracts.record.StationRecordPartialEq.TheImpl as station_eq
use Rattle.acd_terms.specs.contracts.record.AgentRecordPartialEq.TheImpl as agent_eq
use Rattle.acd_terms.specs.contracts.record.CallRecordPartialEq.TheImpl as call_eq
use Rattle.acd_terms.specs.contracts.record.ConnectionRecordPartialEq.TheImpl as connection_eq
use Rattle.acd_terms.specs.contracts.record.MonitorRecordPartialEq.TheImpl as monitor_eq
use Rattle.acd_terms.specs.declared.event.Cause.{Cause}
use Rattle.acd_terms.specs.declared.event.Cause.TheVariants as causes
use Rattle.acd_terms.specs.declared.event.Waited.{Waited}
use Rattle.acd_terms.specs.declared.event.Report.{Report}
use Rattle.acd_terms.specs.declared.event.Report.TheVariants as reports
use Rattle.acd_terms.specs.declared.event.Event.{Event}
use Rattle.acd_terms.specs.declared.rows.Limits.{Limits}
use Rattle.acd_terms.specs.declared.rows.Rows.{Rows}
use Rattle.acd_terms.specs.contracts.event.CausePartialEq.TheImpl as cause_eq
use Rattle.acd_terms.specs.contracts.event.WaitedPartialEq.TheImpl as waited_eq
use Rattle.acd_terms.specs.contracts.event.ReportPartialEq.TheImpl as report_eq
use Rattle.acd_terms.specs.contracts.event.EventPartialEq.TheImpl as event_eq
use Rattle.acd_terms.specs.contracts.event.EventEq.TheImpl.Laws as event_laws
use Rattle.acd_terms.specs.contracts.rows.LimitsPartialEq.TheImpl as limits_eq
use Rattle.acd_terms.specs.contracts.rows.RowsPartialEq.TheImpl as rows_eq
use Rattle.acd_terms.specs.contracts.rows.RowsEq.TheImpl.Laws as rows_laws
use Rattle.acd_lemmas.proofs.EqualParts.{two, numbers, same_list, option_same, number_same}

pub same_state : (x y : AgentState) → (agent_state_eq.eq-value).it x y ≡ true → x ≡ y
same_state agent.Null agent.Null h = refl
same_state agent.NotReady agent.NotReady h = refl
same_state agent.Ready agent.Ready h = refl
same_state agent.Busy agent.Busy h = refl
same_state agent.WorkingAfterCall agent.WorkingAfterCall h = refl
same_state _ _ h = absurd (true≢false (sym h))

pub same_pending : (x y : Pending) → (pending_eq.eq-value).it x y ≡ true → x ≡ y
same_pending pending.LoggedOff pending.LoggedOff h = refl
same_pending pending.NotReady pending.NotReady h = refl
same_pending pending.Ready pending.Ready h = refl
same_pending pending.WorkingAfterCall pending.WorkingAfterCall h = refl
same_pending _ _ h = absurd (true≢false (sym h))

pub same_connection_state : (x y : ConnectionState) → (connection_state_eq.eq-value).it x y ≡ true → x ≡ y
same_connection_state connection.Initiated connection.Initiated h = refl
same_connection_state connection.Alerting connection.Alerting h = refl
same_connection_state connection.Connected connection.Connected h = refl
same_connection_state connection.Hold connection.Hold h = refl
same_connection_state connection.Queued connection.Queued h = refl
same_connection_state connection.Fail connection.Fail h = refl
same_connection_state _ _ h = absurd (true≢false (sym h))

pub same_station : (x y : StationRecord) → (station_eq.eq-value).it x y ≡ true → x ≡ y
same_station x y h = ap (λ n. record { device = n }) (eqb-true x.device y.device h)

pub same_call : (x y : CallRecord) → (call_eq.eq-value).it x y ≡ true → x ≡ y
same_call x y h =
    let a = two h in
    let b = two a.1 in
    let c = two b.1 in
    λ i. record {
      call = eqb-true x.call y.call a.0 i;
      caller = eqb-true x.caller y.caller b.0 i;
      called = eqb-true x.called y.called c.0 i;
      since = eqb-true x.since y.since c.1 i;
    }

pub same_monitor : (x y : MonitorRecord) → (monitor_eq.eq-value).it x y ≡ true → x ≡ y
same_monitor x y h =
    let a = two h in
    let b = two a.1 in
    λ i. record {
      monitor = eqb-true x.monitor y.monitor a.0 i;
      device = eqb-true x.device y.device b.0 i;
      after_event = eqb-true x.after_event y.after_event b.1 i;
    }

pub same_group : (x y : GroupRecord) → (group_eq.eq-value).it x y ≡ true → x ≡ y
same_group x y h =
    let device = two h in
    let name = two device.1 in
    let ring = two name.1 in
    let wrap = two ring.1 in
    let priority = two wrap.1 in
    let entered = two priority.1 in
    let answered = two entered.1 in
    let abandoned = two answered.1 in
    let moved = two abandoned.1 in
    λ i. record {
      device = eqb-true x.device y.device device.0 i;
      name = numbers x.name y.name name.0 i;
      ring = eqb-true x.ring y.ring ring.0 i;
      wrap = eqb-true x.wrap y.wrap wrap.0 i;
      priority = eqb-true x.priority y.priority priority.0 i;
      figures = record {
        entered = eqb-true x.figures.entered y.figures.entered entered.0 i;
        answered = eqb-true x.figures.answered y.figures.answered answered.0 i;
        abandoned = eqb-true x.figures.abandoned y.figures.abandoned abandoned.0 i;
        moved = eqb-true x.figures.moved y.figures.moved moved.0 i;
        waited = eqb-true x.figures.waited y.figures.waited moved.1 i;
      };
    }

pub same_agent : (x y : AgentRecord) → (agent_eq.eq-value).it x y ≡ true → x ≡ y
same_agent x y h =
    let number = two h in
    let name = two number.1 in
    let station = two name.1 in
    let groups = two station.1 in
    let stamp = two groups.1 in
    let since = two stamp.1 in
    let state = two since.1 in
    λ i. record {
      agent = eqb-true x.agent y.agent number.0 i;
      name = numbers x.name y.name name.0 i;
      station = number_same x.station y.station station.0 i;
      groups = numbers x.groups y.groups groups.0 i;
      stamp = eqb-true x.stamp y.stamp stamp.0 i;
      since = eqb-true x.since y.since since.0 i;
      state = same_state x.state y.state state.0 i;
      pending = option_same (pending_eq.eq-value).it same_pending x.pending y.pending state.1 i;
    }

pub same_connection : (x y : ConnectionRecord) → (connection_eq.eq-value).it x y ≡ true → x ≡ y
same_connection x y h =
    let call = two h in
    let device = two call.1 in
    let state = two device.1 in
    let group = two state.1 in
    let place = two group.1 in
    let queued = two place.1 in
    λ i. record {
      call = eqb-true x.call y.call call.0 i;
      device = eqb-true x.device y.device device.0 i;
      state = same_connection_state x.state y.state state.0 i;
      group = number_same x.group y.group group.0 i;
      place = number_same x.place y.place place.0 i;
      queued = number_same x.queued y.queued queued.0 i;
      offered = number_same x.offered y.offered queued.1 i;
    }

pair : (K : ℕ → ℕ → Report) (c d e f : ℕ) → ((c == e) && (d == f)) ≡ true → K c d ≡ K e f
pair K c d e f h = let both = two h in ap₂ K (eqb-true c e both.0) (eqb-true d f both.1)

triple : (K : ℕ → ℕ → ℕ → Report) (c d t e f u : ℕ) → ((c == e) && ((d == f) && (t == u))) ≡ true → K c d t ≡ K e f u
triple K c d t e f u h =
    let first = two h in
    let rest = two first.1 in
    ap (λ (x : ℕ). K x d t) (eqb-true c e first.0) ∙ ap₂ (λ (x y : ℕ). K e x y) (eqb-true d f rest.0) (eqb-true t u rest.1)

same_cause : (a b : Cause) → (cause_eq.eq-value).it a b ≡ true → a ≡ b
same_cause causes.NewCall causes.NewCall h = refl
same_cause causes.Distributed causes.Distributed h = refl
same_cause causes.Deflected causes.Deflected h = refl
same_cause causes.Transferred causes.Transferred h = refl
same_cause causes.NoAnswer causes.NoAnswer h = refl
same_cause causes.Busy causes.Busy h = refl
same_cause _ _ h = absurd (true≢false (sym h))

same_waited : (a b : Waited) → (waited_eq.eq-value).it a b ≡ true → a ≡ b
same_waited a b h = let group = two h in λ i. record { group = eqb-true a.group b.group group.0 i; seconds = eqb-true a.seconds b.seconds group.1 i }

same_report : (a b : Report) → (report_eq.eq-value).it a b ≡ true → a ≡ b
same_report (reports.ServiceInitiated x1 x2) (reports.ServiceInitiated y1 y2) h = pair reports.ServiceInitiated x1 x2 y1 y2 h
same_report (reports.Originated x1 x2 x3) (reports.Originated y1 y2 y3) h = triple reports.Originated x1 x2 x3 y1 y2 y3 h
same_report (reports.Queued x1 x2 x3) (reports.Queued y1 y2 y3) h =
    let h1 = two h in
    let h2 = two h1.1 in
    ap (λ (x : ℕ). reports.Queued x x2 x3) (eqb-true x1 y1 h1.0) ∙ ap (λ (x : ℕ). reports.Queued y1 x x3) (eqb-true x2 y2 h2.0)
    ∙ ap (λ (x : Cause). reports.Queued y1 y2 x) (same_cause x3 y3 h2.1)
same_report (reports.Delivered x1 x2 x3 x4) (reports.Delivered y1 y2 y3 y4) h =
    let h1 = two h in
    let h2 = two h1.1 in
    let h3 = two h2.1 in
    ap (λ (x : ℕ). reports.Delivered x x2 x3 x4) (eqb-true x1 y1 h1.0) ∙ ap (λ (x : ℕ). reports.Delivered y1 x x3 x4) (eqb-true x2 y2 h2.0)
    ∙ ap (λ (x : Cause). reports.Delivered y1 y2 x x4) (same_cause x3 y3 h3.0) ∙ ap (λ (x : Option ℕ). reports.Delivered y1 y2 y3 x) (number_same x4 y4 h3.1)
same_report (reports.Diverted x1 x2 x3 x4 x5) (reports.Diverted y1 y2 y3 y4 y5) h =
    let h1 = two h in
    let h2 = two h1.1 in
    let h3 = two h2.1 in
    let h4 = two h3.1 in
    ap (λ (x : ℕ). reports.Diverted x x2 x3 x4 x5) (eqb-true x1 y1 h1.0) ∙ ap (λ (x : ℕ). reports.Diverted y1 x x3 x4 x5) (eqb-true x2 y2 h2.0)
    ∙ ap (λ (x : ℕ). reports.Diverted y1 y2 x x4 x5) (eqb-true x3 y3 h3.0) ∙ ap (λ (x : Cause). reports.Diverted y1 y2 y3 x x5) (same_cause x4 y4 h4.0)
    ∙ ap (λ (x : Option ℕ). reports.Diverted y1 y2 y3 y4 x) (number_same x5 y5 h4.1)
same_report (reports.Established x1 x2 x3) (reports.Established y1 y2 y3) h =
    let h1 = two h in
    let h2 = two h1.1 in
    ap (λ (x : ℕ). reports.Established x x2 x3) (eqb-true x1 y1 h1.0) ∙ ap (λ (x : ℕ). reports.Established y1 x x3) (eqb-true x2 y2 h2.0)
    ∙ ap (λ (x : Option Waited). reports.Established y1 y2 x) (option_same ((waited_eq.eq-value).it) same_waited x3 y3 h2.1)
same_report (reports.Held x1 x2) (reports.Held y1 y2) h = pair reports.Held x1 x2 y1 y2 h
same_report (reports.Retrieved x1 x2) (reports.Retrieved y1 y2) h = pair reports.Retrieved x1 x2 y1 y2 h
same_report (reports.Transferred x1 x2 x3) (reports.Transferred y1 y2 y3) h = triple reports.Transferred x1 x2 x3 y1 y2 y3 h
same_report (reports.Failed x1 x2) (reports.Failed y1 y2) h = pair reports.Failed x1 x2 y1 y2 h
same_report (reports.ConnectionCleared x1 x2) (reports.ConnectionCleared y1 y2) h = pair reports.ConnectionCleared x1 x2 y1 y2 h
same_report (reports.CallCleared x1 x2) (reports.CallCleared y1 y2) h =
    let h1 = two h in
    ap (λ (x : ℕ). reports.CallCleared x x2) (eqb-true x1 y1 h1.0) ∙ ap (λ (x : Option ℕ). reports.CallCleared y1 x) (number_same x2 y2 h1.1)
same_report (reports.AgentLoggedOn x1 x2 x3) (reports.AgentLoggedOn y1 y2 y3) h =
    let h1 = two h in
    let h2 = two h1.1 in
    ap (λ (x : ℕ). reports.AgentLoggedOn x x2 x3) (eqb-true x1 y1 h1.0) ∙ ap (λ (x : ℕ). reports.AgentLoggedOn y1 x x3) (eqb-true x2 y2 h2.0)
    ∙ ap (λ (x : Option ℕ). reports.AgentLoggedOn y1 y2 x) (number_same x3 y3 h2.1)
same_report (reports.AgentLoggedOff x1 x2) (reports.AgentLoggedOff y1 y2) h = pair reports.AgentLoggedOff x1 x2 y1 y2 h
same_report (reports.AgentNotReady x1 x2) (reports.AgentNotReady y1 y2) h = pair reports.AgentNotReady x1 x2 y1 y2 h
same_report (reports.AgentReady x1 x2) (reports.AgentReady y1 y2) h = pair reports.AgentReady x1 x2 y1 y2 h
same_report (reports.AgentBusy x1 x2) (reports.AgentBusy y1 y2) h = pair reports.AgentBusy x1 x2 y1 y2 h
same_report (reports.AgentWorkingAfterCall x1 x2) (reports.AgentWorkingAfterCall y1 y2) h = pair reports.AgentWorkingAfterCall x1 x2 y1 y2 h
same_report _ _ h = absurd (true≢false (sym h))

pub same_event : (a b : Event) → (event_eq.eq-value).it a b ≡ true → a ≡ b
same_event a b h =
    let number = two h in
    let moment = two number.1 in
    λ i. record {
      number = eqb-true a.number b.number number.0 i;
      moment = eqb-true a.moment b.moment moment.0 i;
      report = same_report a.report b.report moment.1 i;
    }

pub same_limits : (a b : Limits) → (limits_eq.eq-value).it a b ≡ true → a ≡ b
same_limits a b h =
    let requests = two h in
    let calls = two requests.1 in
    let groups = two calls.1 in
    let stations = two groups.1 in
    let agents = two stations.1 in
    λ i. record {
      requests = eqb-true a.requests b.requests requests.0 i;
      calls = eqb-true a.calls b.calls calls.0 i;
      groups = eqb-true a.groups b.groups groups.0 i;
      stations = eqb-true a.stations b.stations stations.0 i;
      agents = eqb-true a.agents b.agents agents.0 i;
      monitors = eqb-true a.monitors b.monitors agents.1 i;
    }

pub same_rows : (a b : Rows) → (rows_eq.eq-value).it a b ≡ true → a ≡ b
same_rows a b h =
    let limits = two h in
    let groups = two limits.1 in
    let stations = two groups.1 in
    let agents = two stations.1 in
    let calls = two agents.1 in
    let connections = two calls.1 in
    let monitors = two connections.1 in
    let last_stamp = two monitors.1 in
    let last_moment = two last_stamp.1 in
    let last_call = two last_moment.1 in
    let last_monitor = two last_call.1 in
    λ i. record {
      limits = same_limits a.limits b.limits limits.0 i;
      groups = same_list (group_eq.eq-value).it same_group a.groups b.groups groups.0 i;
      stations = same_list (station_eq.eq-value).it same_station a.stations b.stations stations.0 i;
      agents = same_list (agent_eq.eq-value).it same_agent a.agents b.agents agents.0 i;
      calls = same_list (call_eq.eq-value).it same_call a.calls b.calls calls.0 i;
      connections = same_list (connection_eq.eq-value).it same_connection a.connections b.connections connections.0 i;
      monitors = same_list (monitor_eq.eq-value).it same_monitor a.monitors b.monitors monitors.0 i;
      last_stamp = eqb-true a.last_stamp b.last_stamp last_stamp.0 i;
      last_moment = eqb-true a.last_moment b.last_moment last_moment.0 i;
      last_call = eqb-true a.last_call b.last_call last_call.0 i;
      last_monitor = eqb-true a.last_monitor b.last_monitor last_monitor.0 i;
      last_event = eqb-true a.last_event b.last_event last_monitor.1 i;
    }

pub events_decided : (a b : List Event) (r : Bool) → r ≡ pointwise ((event_eq.eq-value).it) a b → Decides r (a ≡ b)
events_decided a b r h = (
  λ found. same_list ((event_eq.eq-value).it) same_event a b (sym h ∙ found),
  λ same. h ∙ ap (λ (x : List Event). pointwise ((event_eq.eq-value).it) x b) same ∙ (lists_equiv event_laws.laws-law).refl b,
)

pub rows_decided : (a b : Rows) (r : Bool) → r ≡ (rows_eq.eq-value).it a b → Decides r (a ≡ b)
rows_decided a b r h = (λ found. same_rows a b (sym h ∙ found), λ same. h ∙ ap (λ (x : Rows). (rows_eq.eq-value).it x b) same ∙ (rows_laws.laws-law).refl b)
