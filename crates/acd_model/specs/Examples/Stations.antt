-- Worked examples: busy stations and private calls.
use Rattle.std.specs.Prelude.{◌≡◌, List, [], ◌∷◌, ◌++◌, Some, None}
use Rattle.acd_terms.specs.declared.event.Cause.TheVariants as cause
use Rattle.acd_terms.specs.declared.event.Report.TheVariants.{ServiceInitiated, Originated, Queued, Delivered, Diverted, Established, Held, Transferred, Failed, ConnectionCleared, CallCleared, AgentLoggedOn, AgentLoggedOff, AgentReady, AgentBusy}
use Rattle.acd_terms.specs.declared.command.Command.TheVariants.{AddStation, ArriveCall, MakeCall, PhoneOffHook, AnswerCall, HoldCall, ClearConnection, SingleStepTransfer}
use Rattle.acd_terms.specs.declared.state.Pending.TheVariants as pending
use Rattle.acd_terms.specs.declared.state.AgentState.TheVariants.{Null, NotReady, Ready, Busy}
use Rattle.acd_terms.specs.declared.state.ConnectionState.TheVariants.{Initiated, Connected, Hold, Fail}
use Rattle.acd_terms.specs.declared.answer.Outcome.TheVariants.{Done}
use Rattle.acd_terms.specs.declared.answer.Answer.TheVariants as answer
use Rattle.acd_model.specs.Scans.{connections_of, call_of, connection_of, agent_of}
use Rattle.acd_model.specs.CallMoves.{unqueued}
use Rattle.acd_model.specs.Run.{TimedCommand}
use Rattle.acd_model.specs.Services.AddGroup.{no_figures}
use Rattle.acd_model.specs.Examples.Words.{billing, first_station, second_station, third_station, ana, caller, late_caller, at, logs_on, asks_for, plan, run_after, event, figures_in, logged_off, early_ana, first_call, offered_ana, offered_connection, answered_connection, answered}

-- a call to a busy station fails, and when it is cleared the agent there is still busy
abbrev pub BusyStationFails : Type 0
BusyStationFails =
    let r = run_after answered (at 26 (ArriveCall late_caller first_station) ∷ at 27 (ClearConnection 2 late_caller) ∷ []) in
    (r.outcomes ≡ Done (answer.Call 2) ∷ Done answer.Nothing ∷ [])
    × (r.events ≡ event 8 26 (Failed 2 first_station)
    ∷ event 9 27 (ConnectionCleared 2 late_caller) ∷ event 10 27 (ConnectionCleared 2 first_station) ∷ event 11 27 (CallCleared 2 None) ∷ [])
    × (agent_of r.rows ana ≡ Some (record offered_ana { state = Busy; stamp = 9; since = 25 }))
    × (connections_of r.rows 1 ≡ answered_connection ∷ unqueued 1 caller Connected ∷ [])

-- while an agent's station has a private call no call is offered there
abbrev pub PrivateCallThenDistribution : Type 0
PrivateCallThenDistribution =
    let r = run_after plan (logs_on 5 ana first_station billing ∷ asks_for 6 ana pending.Ready
    ∷ at 7 (MakeCall first_station second_station) ∷ at 8 (PhoneOffHook 1 first_station) ∷ at 9 (ArriveCall caller billing) ∷ at 20 (ClearConnection 1 first_station) ∷ []) in
    (r.outcomes ≡ Done (answer.State NotReady) ∷ Done (answer.State Ready) ∷ Done (answer.Call 1) ∷ Done answer.Nothing ∷ Done (answer.Call 2) ∷ Done answer.Nothing ∷ [])
    × (r.events ≡ event 1 5 (AgentLoggedOn ana first_station (Some billing)) ∷ event 2 6 (AgentReady ana first_station)
    ∷ event 3 7 (ServiceInitiated 1 first_station) ∷ event 4 8 (Originated 1 first_station second_station) ∷ event 5 8 (Delivered 1 second_station cause.NewCall None)
    ∷ event 6 9 (Queued 2 billing cause.NewCall)
    ∷ event 7 20 (ConnectionCleared 1 first_station) ∷ event 8 20 (ConnectionCleared 1 second_station) ∷ event 9 20 (CallCleared 1 None)
    ∷ event 10 20 (Diverted 2 billing first_station cause.Distributed (Some billing)) ∷ event 11 20 (Delivered 2 first_station cause.Distributed (Some billing)) ∷ [])
    × (connection_of r.rows 2 first_station ≡ Some (record offered_connection { call = 2; place = Some 10; queued = Some 9; offered = Some 20 }))
    × (agent_of r.rows ana ≡ Some (record early_ana { state = Ready; stamp = 7; since = 6 }))

-- an agent who isn't occupied logs off at once, a private call or not, and gets no call any more
abbrev pub LoggedOffWithAPrivateCall : Type 0
LoggedOffWithAPrivateCall =
    let r = run_after plan (logs_on 5 ana first_station billing ∷ asks_for 6 ana pending.Ready
    ∷ at 7 (MakeCall first_station second_station) ∷ asks_for 8 ana pending.LoggedOff
    ∷ at 9 (ClearConnection 1 first_station) ∷ at 10 (ArriveCall caller billing) ∷ []) in
    (r.outcomes ≡ Done (answer.State NotReady) ∷ Done (answer.State Ready) ∷ Done (answer.Call 1) ∷ Done (answer.State Null)
    ∷ Done answer.Nothing ∷ Done (answer.Call 2) ∷ [])
    × (r.events ≡ event 1 5 (AgentLoggedOn ana first_station (Some billing)) ∷ event 2 6 (AgentReady ana first_station)
    ∷ event 3 7 (ServiceInitiated 1 first_station) ∷ event 4 8 (AgentLoggedOff ana first_station)
    ∷ event 5 9 (ConnectionCleared 1 first_station) ∷ event 6 9 (CallCleared 1 None) ∷ event 7 10 (Queued 2 billing cause.NewCall) ∷ [])
    × (agent_of r.rows ana ≡ Some (record (logged_off early_ana) { stamp = 9; since = 8 }))

-- a call on hold keeps its station from being idle: another call to it fails, and none is offered there
abbrev pub HeldPrivateCall : Type 0
HeldPrivateCall =
    let r = run_after plan (logs_on 5 ana first_station billing ∷ asks_for 6 ana pending.Ready
    ∷ at 7 (MakeCall second_station first_station) ∷ at 8 (PhoneOffHook 1 second_station) ∷ at 9 (AnswerCall 1 first_station) ∷ at 10 (HoldCall 1 first_station)
    ∷ at 11 (ArriveCall caller billing) ∷ at 12 (ArriveCall late_caller first_station) ∷ at 13 (ClearConnection 1 second_station) ∷ []) in
    (r.outcomes ≡ Done (answer.State NotReady) ∷ Done (answer.State Ready) ∷ Done (answer.Call 1) ∷ Done answer.Nothing ∷ Done answer.Nothing
    ∷ Done answer.Nothing ∷ Done (answer.Call 2) ∷ Done (answer.Call 3) ∷ Done answer.Nothing ∷ [])
    × (r.events ≡ event 1 5 (AgentLoggedOn ana first_station (Some billing)) ∷ event 2 6 (AgentReady ana first_station)
    ∷ event 3 7 (ServiceInitiated 1 second_station) ∷ event 4 8 (Originated 1 second_station first_station) ∷ event 5 8 (Delivered 1 first_station cause.NewCall None)
    ∷ event 6 9 (Established 1 first_station None) ∷ event 7 10 (Held 1 first_station)
    ∷ event 8 11 (Queued 2 billing cause.NewCall) ∷ event 9 12 (Failed 3 first_station)
    ∷ event 10 13 (ConnectionCleared 1 second_station) ∷ event 11 13 (ConnectionCleared 1 first_station) ∷ event 12 13 (CallCleared 1 None)
    ∷ event 13 13 (Diverted 2 billing first_station cause.Distributed (Some billing)) ∷ event 14 13 (Delivered 2 first_station cause.Distributed (Some billing)) ∷ [])
    × (connection_of r.rows 2 first_station ≡ Some (record offered_connection { call = 2; place = Some 12; queued = Some 11; offered = Some 13 }))
    × (agent_of r.rows ana ≡ Some (record early_ana { state = Ready; stamp = 7; since = 6 }))

abbrev pub two_private_calls : List TimedCommand
two_private_calls =
    at 3 (AddStation third_station) ∷ at 4 (MakeCall first_station second_station)
    ∷ logs_on 5 ana first_station billing ∷ asks_for 6 ana pending.Ready
    ∷ at 7 (MakeCall third_station first_station) ∷ at 8 (PhoneOffHook 2 third_station) ∷ []

-- an agent may log on at a station that has a call; a second call to it fails
abbrev pub CallToABusyAgentStation : Type 0
CallToABusyAgentStation =
    let r = run_after plan two_private_calls in
    (r.outcomes ≡ Done answer.Nothing ∷ Done (answer.Call 1) ∷ Done (answer.State NotReady) ∷ Done (answer.State Ready)
    ∷ Done (answer.Call 2) ∷ Done answer.Nothing ∷ [])
    × (r.events ≡ event 1 4 (ServiceInitiated 1 first_station)
    ∷ event 2 5 (AgentLoggedOn ana first_station (Some billing)) ∷ event 3 6 (AgentReady ana first_station)
    ∷ event 4 7 (ServiceInitiated 2 third_station) ∷ event 5 8 (Originated 2 third_station first_station) ∷ event 6 8 (Failed 2 first_station) ∷ [])
    × (connections_of r.rows 1 ≡ unqueued 1 first_station Initiated ∷ [])
    × (connections_of r.rows 2 ≡ unqueued 2 first_station Fail ∷ unqueued 2 third_station Connected ∷ [])
    × (agent_of r.rows ana ≡ Some (record early_ana { state = Ready; stamp = 9; since = 6 }))

-- private calls change no agent: the one whose private call is transferred stays ready and gets it from the group, and stays busy where the other one ends
abbrev pub PrivateCalls : Type 0
PrivateCalls =
    let r = run_after (plan ++ two_private_calls) (at 9 (PhoneOffHook 1 first_station) ∷ at 10 (AnswerCall 1 second_station) ∷ at 11 (HoldCall 1 second_station)
    ∷ at 12 (SingleStepTransfer 1 first_station billing) ∷ at 13 (AnswerCall 1 first_station) ∷ at 14 (ClearConnection 2 first_station) ∷ []) in
    (r.outcomes ≡ Done answer.Nothing ∷ Done answer.Nothing ∷ Done answer.Nothing ∷ Done answer.Nothing ∷ Done answer.Nothing ∷ Done answer.Nothing ∷ [])
    × (r.events ≡ event 7 9 (Originated 1 first_station second_station) ∷ event 8 9 (Delivered 1 second_station cause.NewCall None)
    ∷ event 9 10 (Established 1 second_station None) ∷ event 10 11 (Held 1 second_station)
    ∷ event 11 12 (Transferred 1 first_station billing) ∷ event 12 12 (Queued 1 billing cause.Transferred)
    ∷ event 13 12 (Diverted 1 billing first_station cause.Distributed (Some billing)) ∷ event 14 12 (Delivered 1 first_station cause.Distributed (Some billing))
    ∷ event 15 13 (Established 1 first_station (Some (record { group = billing; seconds = 1 }))) ∷ event 16 13 (AgentBusy ana first_station)
    ∷ event 17 14 (ConnectionCleared 2 first_station) ∷ event 18 14 (ConnectionCleared 2 third_station) ∷ event 19 14 (CallCleared 2 None) ∷ [])
    × (agent_of r.rows ana ≡ Some (record early_ana { state = Busy; stamp = 16; since = 13 }))
    × (connections_of r.rows 1 ≡ answered_connection ∷ unqueued 1 second_station Hold ∷ [])
    × (call_of r.rows 1 ≡ Some (record first_call { caller = first_station; called = second_station; since = 4 }))
    × (figures_in r.rows billing ≡ Some (record no_figures { entered = 1; answered = 1; waited = 1 }))
