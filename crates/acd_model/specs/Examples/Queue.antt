-- Worked examples: calls that wait, are offered, answered, abandoned and given back.
use Rattle.std.specs.Prelude.{◌≡◌, List, [], ◌∷◌, ◌++◌, Some, None}
use Rattle.acd_terms.specs.declared.event.Cause.TheVariants as cause
use Rattle.acd_terms.specs.declared.event.Report.TheVariants.{Queued, Delivered, Diverted, Established, ConnectionCleared, CallCleared, AgentLoggedOn, AgentNotReady, AgentReady, AgentBusy, AgentWorkingAfterCall}
use Rattle.acd_terms.specs.declared.command.Command.TheVariants.{AddStation, ArriveCall, AnswerCall, ClearConnection, DeflectCall, Tick}
use Rattle.acd_terms.specs.declared.state.Pending.TheVariants as pending
use Rattle.acd_terms.specs.declared.state.AgentState.TheVariants.{NotReady, Ready, Busy, WorkingAfterCall}
use Rattle.acd_terms.specs.declared.state.ConnectionState.TheVariants.{Connected}
use Rattle.acd_terms.specs.declared.answer.Outcome.TheVariants.{Done, Refused}
use Rattle.acd_terms.specs.declared.answer.Refusal.TheVariants.{DeviceExists, UnknownCall}
use Rattle.acd_terms.specs.declared.answer.Answer.TheVariants as answer
use Rattle.acd_model.specs.Scans.{waiting_in, connections_of, connection_of, call_of, agent_of}
use Rattle.acd_model.specs.CallMoves.{unqueued, queueing}
use Rattle.acd_model.specs.Run.{TimedCommand}
use Rattle.acd_model.specs.Services.AddGroup.{no_figures}
use Rattle.acd_model.specs.Examples.Words.{billing, first_station, second_station, ana, ben, caller, second_caller, third_caller, at, logs_on, asks_for, plan, run_after, event, figures_in, planned_ana, logged_on, early_ana, early_ben, first_call, offered_ana, offered_connection, answered_connection, call_arrives, ana_becomes_ready, offered}

-- a call that arrives with no agent ready waits in the queue
abbrev pub CallWaits : Type 0
CallWaits =
    let r = run_after plan call_arrives in
    (r.outcomes ≡ Done (answer.Call 1) ∷ [])
    × (r.events ≡ event 1 10 (Queued 1 billing cause.NewCall) ∷ [])
    × (connections_of r.rows 1 ≡ queueing 1 billing (Some 6) (Some 10) ∷ unqueued 1 caller Connected ∷ [])
    × (call_of r.rows 1 ≡ Some first_call)

-- it is offered to the agent who becomes ready
abbrev pub OfferedToTheReadyAgent : Type 0
OfferedToTheReadyAgent =
    let r = run_after (plan ++ call_arrives) ana_becomes_ready in
    (r.outcomes ≡ Done (answer.State NotReady) ∷ Done (answer.State Ready) ∷ [])
    × (r.events ≡ event 2 15 (AgentLoggedOn ana first_station (Some billing)) ∷ event 3 18 (AgentReady ana first_station)
    ∷ event 4 18 (Diverted 1 billing first_station cause.Distributed (Some billing))
    ∷ event 5 18 (Delivered 1 first_station cause.Distributed (Some billing)) ∷ [])
    × (connections_of r.rows 1 ≡ offered_connection ∷ unqueued 1 caller Connected ∷ [])
    × (agent_of r.rows ana ≡ Some offered_ana)
    × (figures_in r.rows billing ≡ Some (record no_figures { entered = 1 }))

-- and answered
abbrev pub AnsweredCall : Type 0
AnsweredCall =
    let r = run_after offered (at 25 (AnswerCall 1 first_station) ∷ []) in
    (r.outcomes ≡ Done answer.Nothing ∷ [])
    × (r.events ≡ event 6 25 (Established 1 first_station (Some (record { group = billing; seconds = 15 }))) ∷ event 7 25 (AgentBusy ana first_station) ∷ [])
    × (connections_of r.rows 1 ≡ answered_connection ∷ unqueued 1 caller Connected ∷ [])
    × (agent_of r.rows ana ≡ Some (record offered_ana { state = Busy; stamp = 9; since = 25 }))
    × (figures_in r.rows billing ≡ Some (record no_figures { entered = 1; answered = 1; waited = 15 }))

abbrev pub two_ready : List TimedCommand
two_ready =
    logs_on 5 ana first_station billing ∷ logs_on 5 ben second_station billing
    ∷ asks_for 6 ben pending.Ready ∷ asks_for 7 ana pending.Ready ∷ at 10 (ArriveCall caller billing) ∷ []

-- of two ready agents the one who is ready longest gets the call
abbrev pub LongestReadyFirst : Type 0
LongestReadyFirst =
    let r = run_after plan two_ready in
    (r.outcomes ≡ Done (answer.State NotReady) ∷ Done (answer.State NotReady) ∷ Done (answer.State Ready) ∷ Done (answer.State Ready) ∷ Done (answer.Call 1) ∷ [])
    × (r.events ≡ event 1 5 (AgentLoggedOn ana first_station (Some billing)) ∷ event 2 5 (AgentLoggedOn ben second_station (Some billing))
    ∷ event 3 6 (AgentReady ben second_station) ∷ event 4 7 (AgentReady ana first_station)
    ∷ event 5 10 (Queued 1 billing cause.NewCall)
    ∷ event 6 10 (Diverted 1 billing second_station cause.Distributed (Some billing))
    ∷ event 7 10 (Delivered 1 second_station cause.Distributed (Some billing)) ∷ [])
    × (connection_of r.rows 1 second_station ≡ Some (record offered_connection { device = second_station; place = Some 10; offered = Some 10 }))
    × (agent_of r.rows ana ≡ Some (record early_ana { state = Ready; stamp = 9; since = 7 }))
    × (agent_of r.rows ben ≡ Some (record early_ben { state = Ready; stamp = 8; since = 6 }))

abbrev pub two_calls : List TimedCommand
two_calls =
    at 11 (ArriveCall second_caller billing) ∷ at 12 (AnswerCall 1 second_station) ∷ at 13 (AnswerCall 2 first_station)
    ∷ at 50 (ClearConnection 1 caller) ∷ at 52 (ClearConnection 2 second_caller) ∷ []

-- after-call work ends by a tick, with one stamp for both agents, and of agents ready at once the least number is first
abbrev pub WrapUpAndTick : Type 0
WrapUpAndTick =
    let r = run_after (plan ++ two_ready ++ two_calls) (at 82 Tick ∷ at 83 (ArriveCall third_caller billing) ∷ []) in
    (r.outcomes ≡ Done answer.Nothing ∷ Done (answer.Call 3) ∷ [])
    × (r.events ≡ event 23 82 (AgentReady ana first_station) ∷ event 24 82 (AgentReady ben second_station)
    ∷ event 25 83 (Queued 3 billing cause.NewCall)
    ∷ event 26 83 (Diverted 3 billing first_station cause.Distributed (Some billing))
    ∷ event 27 83 (Delivered 3 first_station cause.Distributed (Some billing)) ∷ [])
    × (connection_of r.rows 3 first_station ≡ Some (record offered_connection { call = 3; place = Some 17; queued = Some 83; offered = Some 83 }))
    × (agent_of r.rows ana ≡ Some (record early_ana { state = Ready; stamp = 16; since = 82 }))
    × (agent_of r.rows ben ≡ Some (record early_ben { state = Ready; stamp = 16; since = 82 }))
    × (figures_in r.rows billing ≡ Some (record no_figures { entered = 3; answered = 2; waited = 4 }))

-- the two calls before it
abbrev pub TwoCallsAnswered : Type 0
TwoCallsAnswered =
    let r = run_after (plan ++ two_ready) two_calls in
    (r.outcomes ≡ Done (answer.Call 2) ∷ Done answer.Nothing ∷ Done answer.Nothing ∷ Done answer.Nothing ∷ Done answer.Nothing ∷ [])
    × (r.events ≡ event 8 11 (Queued 2 billing cause.NewCall)
    ∷ event 9 11 (Diverted 2 billing first_station cause.Distributed (Some billing))
    ∷ event 10 11 (Delivered 2 first_station cause.Distributed (Some billing))
    ∷ event 11 12 (Established 1 second_station (Some (record { group = billing; seconds = 2 }))) ∷ event 12 12 (AgentBusy ben second_station)
    ∷ event 13 13 (Established 2 first_station (Some (record { group = billing; seconds = 2 }))) ∷ event 14 13 (AgentBusy ana first_station)
    ∷ event 15 50 (ConnectionCleared 1 caller) ∷ event 16 50 (ConnectionCleared 1 second_station) ∷ event 17 50 (CallCleared 1 None)
    ∷ event 18 50 (AgentWorkingAfterCall ben second_station)
    ∷ event 19 52 (ConnectionCleared 2 second_caller) ∷ event 20 52 (ConnectionCleared 2 first_station) ∷ event 21 52 (CallCleared 2 None)
    ∷ event 22 52 (AgentWorkingAfterCall ana first_station) ∷ [])
    × (agent_of r.rows ana ≡ Some (record early_ana { state = WorkingAfterCall; stamp = 15; since = 52 }))
    × (agent_of r.rows ben ≡ Some (record early_ben { state = WorkingAfterCall; stamp = 14; since = 50 }))
    × (figures_in r.rows billing ≡ Some (record no_figures { entered = 2; answered = 2; waited = 4 }))
    × (r.rows.calls ≡ []) × (r.rows.connections ≡ [])

-- an offer that rings too long returns to its old place, and its agent is not ready
abbrev pub NoAnswerReturnsToItsPlace : Type 0
NoAnswerReturnsToItsPlace =
    let before = plan ++ logs_on 90 ana first_station billing ∷ asks_for 91 ana pending.Ready ∷ at 100 (ArriveCall caller billing) ∷ [] in
    let r = run_after before (at 119 Tick ∷ at 120 Tick ∷ []) in
    (r.outcomes ≡ Done answer.Nothing ∷ Done answer.Nothing ∷ [])
    × (r.events ≡ event 6 120 (Diverted 1 first_station billing cause.NoAnswer (Some billing))
    ∷ event 7 120 (Queued 1 billing cause.NoAnswer) ∷ event 8 120 (AgentNotReady ana first_station) ∷ [])
    × (waiting_in r.rows billing ≡ queueing 1 billing (Some 8) (Some 100) ∷ [])
    × (agent_of r.rows ana ≡ Some (record (logged_on 90 first_station planned_ana) { stamp = 10; since = 120 }))
    × (figures_in r.rows billing ≡ Some (record no_figures { entered = 1 }))

-- a moment before the last one counts as the last one
abbrev pub MomentNeverGoesBack : Type 0
MomentNeverGoesBack =
    let r = run_after plan (at 100 (ArriveCall caller billing) ∷ at 50 (ArriveCall second_caller billing) ∷ []) in
    (r.outcomes ≡ Done (answer.Call 1) ∷ Done (answer.Call 2) ∷ [])
    × (r.events ≡ event 1 100 (Queued 1 billing cause.NewCall) ∷ event 2 100 (Queued 2 billing cause.NewCall) ∷ [])
    × (waiting_in r.rows billing ≡ queueing 1 billing (Some 6) (Some 100) ∷ queueing 2 billing (Some 7) (Some 100) ∷ [])
    × (call_of r.rows 2 ≡ Some (record first_call { call = 2; caller = second_caller; since = 100 }))
    × (r.rows.last_moment ≡ 100)

-- a refused request takes a stamp and a moment, and changes nothing else
abbrev pub RefusalTakesAStamp : Type 0
RefusalTakesAStamp =
    let r = run_after plan (at 10 (ClearConnection 1 caller) ∷ []) in
    let later = run_after (plan ++ at 10 (ClearConnection 1 caller) ∷ []) (at 11 (ArriveCall caller billing) ∷ []) in
    (r.outcomes ≡ Refused UnknownCall ∷ []) × (r.events ≡ [])
    × (r.rows ≡ record (run_after [] plan).rows { last_stamp = 6; last_moment = 10 })
    × (later.outcomes ≡ Done (answer.Call 1) ∷ [])
    × (waiting_in later.rows billing ≡ queueing 1 billing (Some 7) (Some 11) ∷ [])

-- the number of an external caller of a live call is in use
abbrev pub CallerNumberTaken : Type 0
CallerNumberTaken =
    let r = run_after (plan ++ call_arrives) (at 11 (AddStation caller) ∷ []) in
    (r.outcomes ≡ Refused DeviceExists ∷ []) × (r.events ≡ [])
    × (r.rows.stations ≡ record { device = first_station } ∷ record { device = second_station } ∷ [])
    × (connections_of r.rows 1 ≡ queueing 1 billing (Some 6) (Some 10) ∷ unqueued 1 caller Connected ∷ [])
    × (r.rows.last_stamp ≡ 7) × (r.rows.last_moment ≡ 11)

-- two live calls may come from one number, which is in use until both are cleared
abbrev pub CallerNumberShared : Type 0
CallerNumberShared =
    let r = run_after plan (at 10 (ArriveCall caller billing) ∷ at 11 (ArriveCall caller billing) ∷ at 12 (ClearConnection 1 caller)
    ∷ at 13 (AddStation caller) ∷ at 14 (ClearConnection 2 caller) ∷ at 15 (AddStation caller) ∷ []) in
    (r.outcomes ≡ Done (answer.Call 1) ∷ Done (answer.Call 2) ∷ Done answer.Nothing ∷ Refused DeviceExists ∷ Done answer.Nothing ∷ Done answer.Nothing ∷ [])
    × (r.events ≡ event 1 10 (Queued 1 billing cause.NewCall) ∷ event 2 11 (Queued 2 billing cause.NewCall)
    ∷ event 3 12 (ConnectionCleared 1 caller) ∷ event 4 12 (ConnectionCleared 1 billing) ∷ event 5 12 (CallCleared 1 (Some billing))
    ∷ event 6 14 (ConnectionCleared 2 caller) ∷ event 7 14 (ConnectionCleared 2 billing) ∷ event 8 14 (CallCleared 2 (Some billing)) ∷ [])
    × (r.rows.stations ≡ record { device = first_station } ∷ record { device = second_station } ∷ record { device = caller } ∷ [])
    × (figures_in r.rows billing ≡ Some (record no_figures { entered = 2; abandoned = 2 }))

-- a call that comes back to its group by a deflection waits after one that came in the meantime
abbrev pub LeastPlaceFirst : Type 0
LeastPlaceFirst =
    let r = run_after plan (at 10 (ArriveCall caller billing) ∷ at 11 (ArriveCall second_caller billing)
    ∷ at 12 (DeflectCall 1 billing first_station) ∷ at 13 (DeflectCall 1 first_station billing)
    ∷ logs_on 14 ana first_station billing ∷ asks_for 15 ana pending.Ready ∷ []) in
    (r.outcomes ≡ Done (answer.Call 1) ∷ Done (answer.Call 2) ∷ Done answer.Nothing ∷ Done answer.Nothing
    ∷ Done (answer.State NotReady) ∷ Done (answer.State Ready) ∷ [])
    × (r.events ≡ event 1 10 (Queued 1 billing cause.NewCall) ∷ event 2 11 (Queued 2 billing cause.NewCall)
    ∷ event 3 12 (Diverted 1 billing first_station cause.Deflected (Some billing)) ∷ event 4 12 (Delivered 1 first_station cause.Deflected None)
    ∷ event 5 13 (Diverted 1 first_station billing cause.Deflected None) ∷ event 6 13 (Queued 1 billing cause.Deflected)
    ∷ event 7 14 (AgentLoggedOn ana first_station (Some billing)) ∷ event 8 15 (AgentReady ana first_station)
    ∷ event 9 15 (Diverted 2 billing first_station cause.Distributed (Some billing)) ∷ event 10 15 (Delivered 2 first_station cause.Distributed (Some billing)) ∷ [])
    × (connection_of r.rows 2 first_station ≡ Some (record offered_connection { call = 2; place = Some 7; queued = Some 11; offered = Some 15 }))
    × (waiting_in r.rows billing ≡ queueing 1 billing (Some 9) (Some 13) ∷ [])
    × (figures_in r.rows billing ≡ Some (record no_figures { entered = 3; moved = 1 }))

-- a call that is cleared in the queue is abandoned
abbrev pub AbandonedInQueue : Type 0
AbandonedInQueue =
    let r = run_after (plan ++ call_arrives) (at 12 (ClearConnection 1 caller) ∷ []) in
    (r.outcomes ≡ Done answer.Nothing ∷ [])
    × (r.events ≡ event 2 12 (ConnectionCleared 1 caller) ∷ event 3 12 (ConnectionCleared 1 billing) ∷ event 4 12 (CallCleared 1 (Some billing)) ∷ [])
    × (figures_in r.rows billing ≡ Some (record no_figures { entered = 1; abandoned = 1 }))
    × (r.rows.calls ≡ []) × (r.rows.connections ≡ [])
