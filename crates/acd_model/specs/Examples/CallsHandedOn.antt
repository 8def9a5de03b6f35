-- Worked examples: calls that are handed on, from a queue, from an agent and between stations.
use Rattle.std.specs.Prelude.{◌≡◌, List, [], ◌∷◌, ◌++◌, codes, Some, None}
use Rattle.acd_terms.specs.declared.event.Cause.TheVariants as cause
use Rattle.acd_terms.specs.declared.event.Report.TheVariants.{ServiceInitiated, Originated, Queued, Delivered, Diverted, Established, Held, Transferred, ConnectionCleared, CallCleared, AgentLoggedOn, AgentNotReady, AgentReady, AgentBusy, AgentWorkingAfterCall}
use Rattle.acd_terms.specs.declared.command.Command.TheVariants.{AddGroup, AddStation, ArriveCall, MakeCall, PhoneOffHook, AnswerCall, HoldCall, ClearConnection, DeflectCall, SingleStepTransfer}
use Rattle.acd_terms.specs.declared.state.Pending.TheVariants as pending
use Rattle.acd_terms.specs.declared.state.AgentState.TheVariants.{NotReady, Ready, Busy, WorkingAfterCall}
use Rattle.acd_terms.specs.declared.state.ConnectionState.TheVariants.{Alerting, Connected, Hold}
use Rattle.acd_terms.specs.declared.answer.Outcome.TheVariants.{Done, Refused}
use Rattle.acd_terms.specs.declared.answer.Refusal.TheVariants.{NotStation}
use Rattle.acd_terms.specs.declared.answer.Answer.TheVariants as answer
use Rattle.acd_model.specs.Scans.{connections_of, call_of, connection_of, agent_of}
use Rattle.acd_model.specs.CallMoves.{unqueued, queueing}
use Rattle.acd_model.specs.Run.{TimedCommand}
use Rattle.acd_model.specs.Services.AddGroup.{no_figures}
use Rattle.acd_model.specs.Examples.Words.{billing, claims, first_station, second_station, third_station, ana, ben, caller, at, logs_on, asks_for, plan, run_after, event, figures_in, early_ana, early_ben, first_call, offered_connection, answered_connection}

abbrev pub to_another_queue : List TimedCommand
to_another_queue =
    at 3 (AddGroup claims (codes "Claims") 20 30) ∷ at 10 (ArriveCall caller billing) ∷ at 20 (DeflectCall 1 billing claims) ∷ []

-- a call that waits is deflected to another group: it enters the queue there anew
abbrev pub DeflectedToAnotherQueue : Type 0
DeflectedToAnotherQueue =
    let r = run_after plan to_another_queue in
    (r.outcomes ≡ Done answer.Nothing ∷ Done (answer.Call 1) ∷ Done answer.Nothing ∷ [])
    × (r.events ≡ event 1 10 (Queued 1 billing cause.NewCall)
    ∷ event 2 20 (Diverted 1 billing claims cause.Deflected (Some billing)) ∷ event 3 20 (Queued 1 claims cause.Deflected) ∷ [])
    × (connections_of r.rows 1 ≡ queueing 1 claims (Some 8) (Some 20) ∷ unqueued 1 caller Connected ∷ [])
    × (figures_in r.rows billing ≡ Some (record no_figures { entered = 1; moved = 1 }))
    × (figures_in r.rows claims ≡ Some (record no_figures { entered = 1 }))

-- the call is sent on to a station and back to its first group, where there is nothing to hold or transfer
abbrev pub DeflectedFromQueueToStationAndBack : Type 0
DeflectedFromQueueToStationAndBack =
    let r = run_after (plan ++ to_another_queue) (at 21 (DeflectCall 1 claims second_station) ∷ at 22 (DeflectCall 1 second_station billing)
    ∷ at 23 (HoldCall 1 billing) ∷ at 24 (SingleStepTransfer 1 billing second_station) ∷ []) in
    (r.outcomes ≡ Done answer.Nothing ∷ Done answer.Nothing ∷ Refused NotStation ∷ Refused NotStation ∷ [])
    × (r.events ≡ event 4 21 (Diverted 1 claims second_station cause.Deflected (Some claims))
    ∷ event 5 21 (Delivered 1 second_station cause.Deflected None)
    ∷ event 6 22 (Diverted 1 second_station billing cause.Deflected None) ∷ event 7 22 (Queued 1 billing cause.Deflected) ∷ [])
    × (connections_of r.rows 1 ≡ queueing 1 billing (Some 10) (Some 22) ∷ unqueued 1 caller Connected ∷ [])
    × (call_of r.rows 1 ≡ Some first_call)
    × (figures_in r.rows billing ≡ Some (record no_figures { entered = 2; moved = 1 }))
    × (figures_in r.rows claims ≡ Some (record no_figures { entered = 1; moved = 1 }))

abbrev pub to_its_own_group : List TimedCommand
to_its_own_group =
    logs_on 5 ana first_station billing ∷ asks_for 6 ana pending.Ready ∷ at 10 (ArriveCall caller billing)
    ∷ at 11 (DeflectCall 1 first_station billing) ∷ []

-- an offer that is deflected to the group it came from comes back to the same agent, who has been ready all the time
abbrev pub DeflectedToItsOwnGroup : Type 0
DeflectedToItsOwnGroup =
    let r = run_after plan to_its_own_group in
    (r.outcomes ≡ Done (answer.State NotReady) ∷ Done (answer.State Ready) ∷ Done (answer.Call 1) ∷ Done answer.Nothing ∷ [])
    × (r.events ≡ event 1 5 (AgentLoggedOn ana first_station (Some billing)) ∷ event 2 6 (AgentReady ana first_station)
    ∷ event 3 10 (Queued 1 billing cause.NewCall)
    ∷ event 4 10 (Diverted 1 billing first_station cause.Distributed (Some billing))
    ∷ event 5 10 (Delivered 1 first_station cause.Distributed (Some billing))
    ∷ event 6 11 (Diverted 1 first_station billing cause.Deflected (Some billing)) ∷ event 7 11 (Queued 1 billing cause.Deflected)
    ∷ event 8 11 (Diverted 1 billing first_station cause.Distributed (Some billing))
    ∷ event 9 11 (Delivered 1 first_station cause.Distributed (Some billing)) ∷ [])
    × (connection_of r.rows 1 first_station ≡ Some (record offered_connection { place = Some 9; queued = Some 11; offered = Some 11 }))
    × (agent_of r.rows ana ≡ Some (record early_ana { state = Ready; stamp = 7; since = 6 }))
    × (figures_in r.rows billing ≡ Some (record no_figures { entered = 2; moved = 1 }))

-- then it is deflected to a station, with a state pending: the release is the last event
abbrev pub DeflectedWithAStatePending : Type 0
DeflectedWithAStatePending =
    let r = run_after (plan ++ to_its_own_group) (asks_for 12 ana pending.NotReady ∷ at 13 (DeflectCall 1 first_station second_station) ∷ []) in
    (r.outcomes ≡ Done (answer.Pending Ready pending.NotReady) ∷ Done answer.Nothing ∷ [])
    × (r.events ≡ event 10 13 (Diverted 1 first_station second_station cause.Deflected (Some billing))
    ∷ event 11 13 (Delivered 1 second_station cause.Deflected None) ∷ event 12 13 (AgentNotReady ana first_station) ∷ [])
    × (connections_of r.rows 1 ≡ unqueued 1 second_station Alerting ∷ unqueued 1 caller Connected ∷ [])
    × (agent_of r.rows ana ≡ Some (record early_ana { stamp = 11; since = 13 }))
    × (figures_in r.rows billing ≡ Some (record no_figures { entered = 2; moved = 2 }))

abbrev pub between_two_agents : List TimedCommand
between_two_agents =
    at 4 (AddStation third_station) ∷ logs_on 5 ana first_station billing ∷ logs_on 5 ben second_station billing
    ∷ asks_for 6 ana pending.Ready ∷ asks_for 7 ben pending.Ready
    ∷ at 10 (MakeCall third_station billing) ∷ at 14 (PhoneOffHook 1 third_station) ∷ at 20 (AnswerCall 1 first_station)
    ∷ at 21 (HoldCall 1 first_station) ∷ at 22 (SingleStepTransfer 1 third_station billing) ∷ []

-- a station calls the group and transfers the held call to it again: the call enters the queue with the phoneOffHook, and anew with the transfer
abbrev pub TransferredWhileHeld : Type 0
TransferredWhileHeld =
    let r = run_after plan between_two_agents in
    (r.outcomes ≡ Done answer.Nothing ∷ Done (answer.State NotReady) ∷ Done (answer.State NotReady) ∷ Done (answer.State Ready) ∷ Done (answer.State Ready)
    ∷ Done (answer.Call 1) ∷ Done answer.Nothing ∷ Done answer.Nothing ∷ Done answer.Nothing ∷ Done answer.Nothing ∷ [])
    × (r.events ≡ event 1 5 (AgentLoggedOn ana first_station (Some billing)) ∷ event 2 5 (AgentLoggedOn ben second_station (Some billing))
    ∷ event 3 6 (AgentReady ana first_station) ∷ event 4 7 (AgentReady ben second_station)
    ∷ event 5 10 (ServiceInitiated 1 third_station) ∷ event 6 14 (Originated 1 third_station billing) ∷ event 7 14 (Queued 1 billing cause.NewCall)
    ∷ event 8 14 (Diverted 1 billing first_station cause.Distributed (Some billing))
    ∷ event 9 14 (Delivered 1 first_station cause.Distributed (Some billing))
    ∷ event 10 20 (Established 1 first_station (Some (record { group = billing; seconds = 6 }))) ∷ event 11 20 (AgentBusy ana first_station)
    ∷ event 12 21 (Held 1 first_station)
    ∷ event 13 22 (Transferred 1 third_station billing) ∷ event 14 22 (Queued 1 billing cause.Transferred)
    ∷ event 15 22 (Diverted 1 billing second_station cause.Distributed (Some billing))
    ∷ event 16 22 (Delivered 1 second_station cause.Distributed (Some billing)) ∷ [])
    × (connections_of r.rows 1 ≡ record answered_connection { state = Hold } ∷ record offered_connection { device = second_station; place = Some 15; queued = Some 22; offered = Some 22 } ∷ [])
    × (agent_of r.rows ana ≡ Some (record early_ana { state = Busy; stamp = 13; since = 20 }))
    × (agent_of r.rows ben ≡ Some (record early_ben { state = Ready; stamp = 10; since = 7 }))

-- a call between two agents ends: the one at the named station is released first
abbrev pub TwoAgentsReleased : Type 0
TwoAgentsReleased =
    let r = run_after (plan ++ between_two_agents) (at 25 (AnswerCall 1 second_station) ∷ at 30 (ClearConnection 1 second_station) ∷ []) in
    (r.outcomes ≡ Done answer.Nothing ∷ Done answer.Nothing ∷ [])
    × (r.events ≡ event 17 25 (Established 1 second_station (Some (record { group = billing; seconds = 3 }))) ∷ event 18 25 (AgentBusy ben second_station)
    ∷ event 19 30 (ConnectionCleared 1 second_station) ∷ event 20 30 (ConnectionCleared 1 first_station) ∷ event 21 30 (CallCleared 1 None)
    ∷ event 22 30 (AgentWorkingAfterCall ben second_station) ∷ event 23 30 (AgentWorkingAfterCall ana first_station) ∷ [])
    × (agent_of r.rows ana ≡ Some (record early_ana { state = WorkingAfterCall; stamp = 17; since = 30 }))
    × (agent_of r.rows ben ≡ Some (record early_ben { state = WorkingAfterCall; stamp = 17; since = 30 }))
    × (figures_in r.rows billing ≡ Some (record no_figures { entered = 2; answered = 2; waited = 9 }))
    × (r.rows.calls ≡ []) × (r.rows.connections ≡ [])

-- a call is transferred, and transferred back to the station that made it
abbrev pub TransferredBack : Type 0
TransferredBack =
    let r = run_after plan (at 3 (AddStation third_station)
    ∷ at 4 (MakeCall first_station second_station) ∷ at 5 (PhoneOffHook 1 first_station) ∷ at 6 (AnswerCall 1 second_station)
    ∷ at 7 (SingleStepTransfer 1 first_station third_station) ∷ at 8 (AnswerCall 1 third_station) ∷ at 9 (SingleStepTransfer 1 third_station first_station) ∷ []) in
    (r.outcomes ≡ Done answer.Nothing ∷ Done (answer.Call 1) ∷ Done answer.Nothing ∷ Done answer.Nothing
    ∷ Done answer.Nothing ∷ Done answer.Nothing ∷ Done answer.Nothing ∷ [])
    × (r.events ≡ event 1 4 (ServiceInitiated 1 first_station)
    ∷ event 2 5 (Originated 1 first_station second_station) ∷ event 3 5 (Delivered 1 second_station cause.NewCall None)
    ∷ event 4 6 (Established 1 second_station None)
    ∷ event 5 7 (Transferred 1 first_station third_station) ∷ event 6 7 (Delivered 1 third_station cause.Transferred None)
    ∷ event 7 8 (Established 1 third_station None)
    ∷ event 8 9 (Transferred 1 third_station first_station) ∷ event 9 9 (Delivered 1 first_station cause.Transferred None) ∷ [])
    × (connections_of r.rows 1 ≡ unqueued 1 first_station Alerting ∷ unqueued 1 second_station Connected ∷ [])
    × (call_of r.rows 1 ≡ Some (record first_call { caller = first_station; called = second_station; since = 4 }))
