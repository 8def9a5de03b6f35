-- Worked examples: the pending state of a busy agent, holding, and giving a call away.
use Rattle.std.specs.Prelude.{◌≡◌, [], ◌∷◌, Some, None}
use Rattle.acd_terms.specs.declared.event.Cause.TheVariants as cause
use Rattle.acd_terms.specs.declared.event.Report.TheVariants.{ServiceInitiated, Queued, Delivered, Diverted, Held, Retrieved, Transferred, ConnectionCleared, CallCleared, AgentLoggedOff, AgentNotReady, AgentWorkingAfterCall}
use Rattle.acd_terms.specs.declared.command.Command.TheVariants.{MakeCall, HoldCall, RetrieveCall, ClearConnection, DeflectCall, SingleStepTransfer}
use Rattle.acd_terms.specs.declared.state.Pending.TheVariants as pending
use Rattle.acd_terms.specs.declared.state.AgentState.TheVariants.{NotReady, Ready, Busy, WorkingAfterCall}
use Rattle.acd_terms.specs.declared.state.ConnectionState.TheVariants.{Alerting, Connected}
use Rattle.acd_terms.specs.declared.answer.Outcome.TheVariants.{Done, Refused}
use Rattle.acd_terms.specs.declared.answer.Refusal.TheVariants.{WrongConnectionState, StationBusy}
use Rattle.acd_terms.specs.declared.answer.Answer.TheVariants as answer
use Rattle.acd_model.specs.Scans.{waiting_in, connections_of, call_of, agent_of}
use Rattle.acd_model.specs.CallMoves.{unqueued, queueing}
use Rattle.acd_model.specs.Services.AddGroup.{no_figures}
use Rattle.acd_model.specs.Examples.Words.{billing, first_station, second_station, ana, caller, at, asks_for, run_after, event, figures_in, logged_off, first_call, offered_ana, answered_connection, offered, answered}

-- a busy agent who asks to log off is logged off when the call ends
abbrev pub PendingLogOff : Type 0
PendingLogOff =
    let r = run_after answered (asks_for 30 ana pending.LoggedOff ∷ at 40 (ClearConnection 1 caller) ∷ []) in
    (r.outcomes ≡ Done (answer.Pending Busy pending.LoggedOff) ∷ Done answer.Nothing ∷ [])
    × (r.events ≡ event 8 40 (ConnectionCleared 1 caller) ∷ event 9 40 (ConnectionCleared 1 first_station)
    ∷ event 10 40 (CallCleared 1 None) ∷ event 11 40 (AgentLoggedOff ana first_station) ∷ [])
    × (agent_of r.rows ana ≡ Some (record (logged_off offered_ana) { stamp = 11; since = 40 }))
    × (figures_in r.rows billing ≡ Some (record no_figures { entered = 1; answered = 1; waited = 15 }))

-- an occupied agent waits for the present state too, and nothing else changes
abbrev pub PresentStatePending : Type 0
PresentStatePending =
    let r = run_after offered (asks_for 30 ana pending.Ready ∷ []) in
    (r.outcomes ≡ Done (answer.Pending Ready pending.Ready) ∷ [])
    × (r.events ≡ [])
    × (agent_of r.rows ana ≡ Some (record offered_ana { pending = Some pending.Ready }))

-- a later pending state takes the place of an earlier one; what is held can't be held
abbrev pub HoldAndPending : Type 0
HoldAndPending =
    let r = run_after answered (at 30 (HoldCall 1 first_station) ∷ asks_for 31 ana pending.Ready ∷ asks_for 32 ana pending.NotReady
    ∷ at 33 (HoldCall 1 first_station) ∷ at 34 (RetrieveCall 1 first_station) ∷ at 40 (ClearConnection 1 first_station) ∷ []) in
    (r.outcomes ≡ Done answer.Nothing ∷ Done (answer.Pending Busy pending.Ready) ∷ Done (answer.Pending Busy pending.NotReady)
    ∷ Refused WrongConnectionState ∷ Done answer.Nothing ∷ Done answer.Nothing ∷ [])
    × (r.events ≡ event 8 30 (Held 1 first_station) ∷ event 9 34 (Retrieved 1 first_station)
    ∷ event 10 40 (ConnectionCleared 1 first_station) ∷ event 11 40 (ConnectionCleared 1 caller)
    ∷ event 12 40 (CallCleared 1 None) ∷ event 13 40 (AgentNotReady ana first_station) ∷ [])
    × (agent_of r.rows ana ≡ Some (record offered_ana { state = NotReady; stamp = 15; since = 40 }))
    × (figures_in r.rows billing ≡ Some (record no_figures { entered = 1; answered = 1; waited = 15 }))

-- a transfer to a station: the transferring agent has after-call work
abbrev pub TransferToStation : Type 0
TransferToStation =
    let r = run_after answered (at 33 (SingleStepTransfer 1 first_station second_station) ∷ []) in
    (r.outcomes ≡ Done answer.Nothing ∷ [])
    × (r.events ≡ event 8 33 (Transferred 1 first_station second_station)
    ∷ event 9 33 (Delivered 1 second_station cause.Transferred None) ∷ event 10 33 (AgentWorkingAfterCall ana first_station) ∷ [])
    × (connections_of r.rows 1 ≡ unqueued 1 second_station Alerting ∷ unqueued 1 caller Connected ∷ [])
    × (call_of r.rows 1 ≡ Some first_call)
    × (agent_of r.rows ana ≡ Some (record offered_ana { state = WorkingAfterCall; stamp = 10; since = 33 }))
    × (figures_in r.rows billing ≡ Some (record no_figures { entered = 1; answered = 1; waited = 15 }))

-- a transfer to a group: the call enters the queue anew
abbrev pub TransferToGroup : Type 0
TransferToGroup =
    let r = run_after answered (at 33 (SingleStepTransfer 1 first_station billing) ∷ []) in
    (r.outcomes ≡ Done answer.Nothing ∷ [])
    × (r.events ≡ event 8 33 (Transferred 1 first_station billing)
    ∷ event 9 33 (Queued 1 billing cause.Transferred) ∷ event 10 33 (AgentWorkingAfterCall ana first_station) ∷ [])
    × (waiting_in r.rows billing ≡ queueing 1 billing (Some 10) (Some 33) ∷ [])
    × (agent_of r.rows ana ≡ Some (record offered_ana { state = WorkingAfterCall; stamp = 10; since = 33 }))
    × (figures_in r.rows billing ≡ Some (record no_figures { entered = 2; answered = 1; waited = 15 }))

-- a ringing call that is deflected leaves the agent ready, and without an event
abbrev pub DeflectedToStation : Type 0
DeflectedToStation =
    let r = run_after offered (at 20 (DeflectCall 1 first_station second_station) ∷ []) in
    (r.outcomes ≡ Done answer.Nothing ∷ [])
    × (r.events ≡ event 6 20 (Diverted 1 first_station second_station cause.Deflected (Some billing))
    ∷ event 7 20 (Delivered 1 second_station cause.Deflected None) ∷ [])
    × (connections_of r.rows 1 ≡ unqueued 1 second_station Alerting ∷ unqueued 1 caller Connected ∷ [])
    × (agent_of r.rows ana ≡ Some offered_ana)
    × (figures_in r.rows billing ≡ Some (record no_figures { entered = 1; moved = 1 }))

-- with a second call begun, the held one can't be retrieved
abbrev pub SecondCallWhileHolding : Type 0
SecondCallWhileHolding =
    let r = run_after answered (at 30 (HoldCall 1 first_station) ∷ at 31 (MakeCall first_station second_station) ∷ at 32 (RetrieveCall 1 first_station)
    ∷ at 33 (ClearConnection 2 first_station) ∷ at 34 (RetrieveCall 1 first_station) ∷ []) in
    (r.outcomes ≡ Done answer.Nothing ∷ Done (answer.Call 2) ∷ Refused StationBusy ∷ Done answer.Nothing ∷ Done answer.Nothing ∷ [])
    × (r.events ≡ event 8 30 (Held 1 first_station) ∷ event 9 31 (ServiceInitiated 2 first_station)
    ∷ event 10 33 (ConnectionCleared 2 first_station) ∷ event 11 33 (CallCleared 2 None) ∷ event 12 34 (Retrieved 1 first_station) ∷ [])
    × (connections_of r.rows 1 ≡ answered_connection ∷ unqueued 1 caller Connected ∷ [])
    × (connections_of r.rows 2 ≡ [])
    × (agent_of r.rows ana ≡ Some (record offered_ana { state = Busy; stamp = 9; since = 25 }))
