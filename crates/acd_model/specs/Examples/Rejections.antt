-- Worked examples: calls that ring at an agent and are rejected.
use Rattle.std.specs.Prelude.{◌≡◌, List, [], ◌∷◌, ◌++◌, codes, Some}
use Rattle.acd_terms.specs.Numbers.{Device, Agent}
use Rattle.acd_terms.specs.declared.event.Cause.TheVariants as cause
use Rattle.acd_terms.specs.declared.event.Report.TheVariants.{Queued, Delivered, Diverted, Established, ConnectionCleared, CallCleared, AgentLoggedOn, AgentLoggedOff, AgentNotReady, AgentReady, AgentBusy, AgentWorkingAfterCall}
use Rattle.acd_terms.specs.declared.command.Command.TheVariants.{AddGroup, AddStation, AddAgent, ArriveCall, MakeCall, PhoneOffHook, AnswerCall, HoldCall, ClearConnection, DeflectCall, SingleStepTransfer, SetGroupPriority, RejectCall, Tick}
use Rattle.acd_terms.specs.declared.state.Pending.TheVariants as pending
use Rattle.acd_terms.specs.declared.state.AgentState.TheVariants.{NotReady, Ready, WorkingAfterCall}
use Rattle.acd_terms.specs.declared.state.ConnectionState.TheVariants.{Connected}
use Rattle.acd_terms.specs.declared.answer.Outcome.TheVariants.{Done, Refused}
use Rattle.acd_terms.specs.declared.answer.Refusal.TheVariants.{UnknownCall, UnknownConnection, WrongConnectionState}
use Rattle.acd_terms.specs.declared.answer.Answer.TheVariants as answer
use Rattle.acd_model.specs.Scans.{waiting_in, connections_of, connection_of, agent_of}
use Rattle.acd_model.specs.CallMoves.{unqueued, queueing}
use Rattle.acd_model.specs.Run.{TimedCommand, AfterRun}
use Rattle.acd_model.specs.Services.AddGroup.{no_figures}
use Rattle.acd_model.specs.Examples.Words.{billing, claims, first_station, second_station, third_station, ana, ben, caller, second_caller, third_caller, late_caller, at, logs_on, asks_for, plan, run_after, event, figures_in, planned_ana, planned_ben, logged_on, logged_off, early_ana, early_ben, offered_ana, offered_connection, call_arrives, offered, answered}
use Rattle.acd_model.specs.Examples.Queue.{two_ready}
use Rattle.acd_model.specs.Examples.Releases.{Released, and_asks}
use Rattle.acd_model.specs.Examples.Refusals.{RefusesEach, rows_after, nowhere}
use Rattle.acd_model.specs.Examples.Priorities.{two_groups, ana_ready_in_both, ana_of_both}

-- it returns to its place and, in the same request, is offered to the agent who is ready; its place, its queued moment and the figures stay, and
-- the answer counts from when it arrived
abbrev pub RejectedToTheSecondAgent : Type 0
RejectedToTheSecondAgent =
    let before = plan ++ two_ready in
    let r = run_after before (at 15 (RejectCall 1 second_station) ∷ []) in
    let later = run_after (before ++ at 15 (RejectCall 1 second_station) ∷ []) (at 20 (AnswerCall 1 first_station) ∷ []) in
    (r.outcomes ≡ Done answer.Nothing ∷ [])
    × (r.events ≡ event 8 15 (Diverted 1 second_station billing cause.NoAnswer (Some billing))
    ∷ event 9 15 (Queued 1 billing cause.NoAnswer) ∷ event 10 15 (AgentNotReady ben second_station)
    ∷ event 11 15 (Diverted 1 billing first_station cause.Distributed (Some billing))
    ∷ event 12 15 (Delivered 1 first_station cause.Distributed (Some billing)) ∷ [])
    × (connections_of r.rows 1 ≡ record offered_connection { place = Some 10; offered = Some 15 } ∷ unqueued 1 caller Connected ∷ [])
    × (agent_of r.rows ana ≡ Some (record early_ana { state = Ready; stamp = 9; since = 7 }))
    × (agent_of r.rows ben ≡ Some (record early_ben { stamp = 11; since = 15 }))
    × (figures_in r.rows billing ≡ Some (record no_figures { entered = 1 }))
    × (later.events ≡ event 13 20 (Established 1 first_station (Some (record { group = billing; seconds = 10 }))) ∷ event 14 20 (AgentBusy ana first_station) ∷ [])
    × (figures_in later.rows billing ≡ Some (record no_figures { entered = 1; answered = 1; waited = 10 }))

abbrev pub fourth_station : Device
fourth_station = 1204

abbrev pub cid : Agent
cid = 19

abbrev pub dan : Agent
dan = 110

-- four agents are ready, in the order Ana, Dan, Cid, Ben, and the call rings at Ana's station
abbrev pub four_ready : List TimedCommand
four_ready =
    plan ++ at 1 (AddStation third_station) ∷ at 1 (AddStation fourth_station) ∷ at 1 (AddAgent cid (codes "Cid")) ∷ at 1 (AddAgent dan (codes "Dan"))
    ∷ logs_on 2 ana first_station billing ∷ logs_on 2 ben second_station billing ∷ logs_on 2 cid third_station billing ∷ logs_on 2 dan fourth_station billing
    ∷ asks_for 3 ana pending.Ready ∷ asks_for 4 dan pending.Ready ∷ asks_for 5 cid pending.Ready ∷ asks_for 6 ben pending.Ready
    ∷ at 10 (ArriveCall caller billing) ∷ []

-- the longest ready of three gets it, who rejects it too: then the next, and nobody a second time
abbrev pub RejectedByOneAfterTheOther : Type 0
RejectedByOneAfterTheOther =
    let r = run_after four_ready (at 15 (RejectCall 1 first_station) ∷ at 16 (RejectCall 1 fourth_station)
    ∷ at 17 (RejectCall 1 third_station) ∷ at 18 (RejectCall 1 second_station) ∷ []) in
    (r.outcomes ≡ Done answer.Nothing ∷ Done answer.Nothing ∷ Done answer.Nothing ∷ Done answer.Nothing ∷ [])
    × (r.events ≡ event 12 15 (Diverted 1 first_station billing cause.NoAnswer (Some billing)) ∷ event 13 15 (Queued 1 billing cause.NoAnswer)
    ∷ event 14 15 (AgentNotReady ana first_station)
    ∷ event 15 15 (Diverted 1 billing fourth_station cause.Distributed (Some billing)) ∷ event 16 15 (Delivered 1 fourth_station cause.Distributed (Some billing))
    ∷ event 17 16 (Diverted 1 fourth_station billing cause.NoAnswer (Some billing)) ∷ event 18 16 (Queued 1 billing cause.NoAnswer)
    ∷ event 19 16 (AgentNotReady dan fourth_station)
    ∷ event 20 16 (Diverted 1 billing third_station cause.Distributed (Some billing)) ∷ event 21 16 (Delivered 1 third_station cause.Distributed (Some billing))
    ∷ event 22 17 (Diverted 1 third_station billing cause.NoAnswer (Some billing)) ∷ event 23 17 (Queued 1 billing cause.NoAnswer)
    ∷ event 24 17 (AgentNotReady cid third_station)
    ∷ event 25 17 (Diverted 1 billing second_station cause.Distributed (Some billing)) ∷ event 26 17 (Delivered 1 second_station cause.Distributed (Some billing))
    ∷ event 27 18 (Diverted 1 second_station billing cause.NoAnswer (Some billing)) ∷ event 28 18 (Queued 1 billing cause.NoAnswer)
    ∷ event 29 18 (AgentNotReady ben second_station) ∷ [])
    × (waiting_in r.rows billing ≡ queueing 1 billing (Some 18) (Some 10) ∷ [])
    × (agent_of r.rows ana ≡ Some (record (logged_on 2 first_station planned_ana) { stamp = 19; since = 15 }))
    × (agent_of r.rows ben ≡ Some (record (logged_on 2 second_station planned_ben) { stamp = 22; since = 18 }))
    × (figures_in r.rows billing ≡ Some (record no_figures { entered = 1 }))

-- with nobody else ready it waits at its old place, and comes back to the same agent, who is ready again
abbrev pub RejectedWithNobodyReady : Type 0
RejectedWithNobodyReady =
    let r = run_after offered (at 20 (RejectCall 1 first_station) ∷ []) in
    let later = run_after (offered ++ at 20 (RejectCall 1 first_station) ∷ []) (asks_for 22 ana pending.Ready ∷ []) in
    (r.outcomes ≡ Done answer.Nothing ∷ [])
    × (r.events ≡ event 6 20 (Diverted 1 first_station billing cause.NoAnswer (Some billing))
    ∷ event 7 20 (Queued 1 billing cause.NoAnswer) ∷ event 8 20 (AgentNotReady ana first_station) ∷ [])
    × (connections_of r.rows 1 ≡ queueing 1 billing (Some 6) (Some 10) ∷ unqueued 1 caller Connected ∷ [])
    × (agent_of r.rows ana ≡ Some (record offered_ana { state = NotReady; stamp = 9; since = 20 }))
    × (figures_in r.rows billing ≡ Some (record no_figures { entered = 1 }))
    × (later.outcomes ≡ Done (answer.State Ready) ∷ [])
    × (later.events ≡ event 9 22 (AgentReady ana first_station)
    ∷ event 10 22 (Diverted 1 billing first_station cause.Distributed (Some billing)) ∷ event 11 22 (Delivered 1 first_station cause.Distributed (Some billing)) ∷ [])
    × (connection_of later.rows 1 first_station ≡ Some (record offered_connection { offered = Some 22 }))

-- three calls came, one after the other; the first rings at Ana's station and the second at Ben's
abbrev pub two_of_three_ring : List TimedCommand
two_of_three_ring =
    plan ++ logs_on 5 ana first_station billing ∷ logs_on 5 ben second_station billing
    ∷ at 10 (ArriveCall caller billing) ∷ at 11 (ArriveCall second_caller billing) ∷ at 12 (ArriveCall third_caller billing)
    ∷ asks_for 20 ana pending.Ready ∷ asks_for 21 ben pending.Ready ∷ []

-- both are rejected, and wait one after another and before the third
abbrev pub RejectedAfterAnOlderCall : Type 0
RejectedAfterAnOlderCall =
    let r = run_after two_of_three_ring (at 22 (RejectCall 1 first_station) ∷ at 23 (RejectCall 2 second_station)
    ∷ asks_for 24 ben pending.Ready ∷ asks_for 25 ana pending.Ready ∷ []) in
    (r.outcomes ≡ Done answer.Nothing ∷ Done answer.Nothing ∷ Done (answer.State Ready) ∷ Done (answer.State Ready) ∷ [])
    × (r.events ≡ event 12 22 (Diverted 1 first_station billing cause.NoAnswer (Some billing)) ∷ event 13 22 (Queued 1 billing cause.NoAnswer)
    ∷ event 14 22 (AgentNotReady ana first_station)
    ∷ event 15 23 (Diverted 2 second_station billing cause.NoAnswer (Some billing)) ∷ event 16 23 (Queued 2 billing cause.NoAnswer)
    ∷ event 17 23 (AgentNotReady ben second_station)
    ∷ event 18 24 (AgentReady ben second_station)
    ∷ event 19 24 (Diverted 1 billing second_station cause.Distributed (Some billing)) ∷ event 20 24 (Delivered 1 second_station cause.Distributed (Some billing))
    ∷ event 21 25 (AgentReady ana first_station)
    ∷ event 22 25 (Diverted 2 billing first_station cause.Distributed (Some billing)) ∷ event 23 25 (Delivered 2 first_station cause.Distributed (Some billing)) ∷ [])
    × (connection_of r.rows 1 second_station ≡ Some (record offered_connection { device = second_station; place = Some 8; offered = Some 24 }))
    × (connection_of r.rows 2 first_station ≡ Some (record offered_connection { call = 2; place = Some 9; queued = Some 11; offered = Some 25 }))
    × (waiting_in r.rows billing ≡ queueing 3 billing (Some 10) (Some 12) ∷ [])
    × (figures_in r.rows billing ≡ Some (record no_figures { entered = 3 }))

abbrev pub rejected_after : List TimedCommand → AfterRun
rejected_after before = run_after before (at 35 (RejectCall 1 first_station) ∷ [])

-- the agent changes to the pending state; with nothing or ready pending it is not ready
abbrev pub ReleasedByARejection : Type 0
ReleasedByARejection =
    Released 2 (rejected_after offered) (event 8 35 (AgentNotReady ana first_station) ∷ []) (record offered_ana { state = NotReady; stamp = 9; since = 35 })
    × Released 2 (rejected_after (and_asks offered pending.Ready)) (event 8 35 (AgentNotReady ana first_station) ∷ [])
    (record offered_ana { state = NotReady; stamp = 10; since = 35 })
    × Released 2 (rejected_after (and_asks offered pending.NotReady)) (event 8 35 (AgentNotReady ana first_station) ∷ [])
    (record offered_ana { state = NotReady; stamp = 10; since = 35 })
    × Released 2 (rejected_after (and_asks offered pending.WorkingAfterCall)) (event 8 35 (AgentWorkingAfterCall ana first_station) ∷ [])
    (record offered_ana { state = WorkingAfterCall; stamp = 10; since = 35 })
    × Released 2 (rejected_after (and_asks offered pending.LoggedOff)) (event 8 35 (AgentLoggedOff ana first_station) ∷ [])
    (record (logged_off offered_ana) { stamp = 10; since = 35 })

-- a call of the group of higher priority returns there, and comes again before one of the other group that came sooner
abbrev pub RejectedInAFurtherGroup : Type 0
RejectedInAFurtherGroup =
    let before = two_groups ++ at 0 (SetGroupPriority claims 5) ∷ ana_ready_in_both in
    let r = run_after before (at 20 (RejectCall 2 first_station) ∷ asks_for 22 ana pending.Ready ∷ []) in
    (r.outcomes ≡ Done answer.Nothing ∷ Done (answer.State Ready) ∷ [])
    × (r.events ≡ event 7 20 (Diverted 2 first_station claims cause.NoAnswer (Some claims)) ∷ event 8 20 (Queued 2 claims cause.NoAnswer)
    ∷ event 9 20 (AgentNotReady ana first_station) ∷ event 10 22 (AgentReady ana first_station)
    ∷ event 11 22 (Diverted 2 claims first_station cause.Distributed (Some claims)) ∷ event 12 22 (Delivered 2 first_station cause.Distributed (Some claims)) ∷ [])
    × (connection_of r.rows 2 first_station ≡ Some (record offered_connection { call = 2; group = Some claims; place = Some 9; queued = Some 11; offered = Some 22 }))
    × (waiting_in r.rows billing ≡ queueing 1 billing (Some 8) (Some 10) ∷ [])
    × (agent_of r.rows ana ≡ Some (record ana_of_both { stamp = 13; since = 22 }))
    × (figures_in r.rows billing ≡ Some (record no_figures { entered = 1 }))
    × (figures_in r.rows claims ≡ Some (record no_figures { entered = 1 }))

-- neither how long the call rings nor the group's ring time matters: here none, and it is rejected at once
abbrev pub RejectedWithoutARingTime : Type 0
RejectedWithoutARingTime =
    let r = run_after plan (at 1 (AddGroup claims (codes "Claims") 0 0) ∷ logs_on 2 ana first_station claims ∷ asks_for 3 ana pending.Ready
    ∷ at 10 (ArriveCall caller claims) ∷ at 10 (RejectCall 1 first_station) ∷ []) in
    (r.outcomes ≡ Done answer.Nothing ∷ Done (answer.State NotReady) ∷ Done (answer.State Ready) ∷ Done (answer.Call 1) ∷ Done answer.Nothing ∷ [])
    × (r.events ≡ event 1 2 (AgentLoggedOn ana first_station (Some claims)) ∷ event 2 3 (AgentReady ana first_station)
    ∷ event 3 10 (Queued 1 claims cause.NewCall)
    ∷ event 4 10 (Diverted 1 claims first_station cause.Distributed (Some claims)) ∷ event 5 10 (Delivered 1 first_station cause.Distributed (Some claims))
    ∷ event 6 10 (Diverted 1 first_station claims cause.NoAnswer (Some claims)) ∷ event 7 10 (Queued 1 claims cause.NoAnswer)
    ∷ event 8 10 (AgentNotReady ana first_station) ∷ [])
    × (waiting_in r.rows claims ≡ queueing 1 claims (Some 9) (Some 10) ∷ [])
    × (agent_of r.rows ana ≡ Some (record (logged_on 2 first_station planned_ana) { groups = claims ∷ []; stamp = 10; since = 10 }))

-- a rejection abandons nothing: the call is abandoned once its caller clears it
abbrev pub RejectedAndGivenUp : Type 0
RejectedAndGivenUp =
    let r = run_after offered (at 20 (RejectCall 1 first_station) ∷ at 21 (ClearConnection 1 caller) ∷ at 22 (RejectCall 1 first_station) ∷ []) in
    (r.outcomes ≡ Done answer.Nothing ∷ Done answer.Nothing ∷ Refused UnknownCall ∷ [])
    × (r.events ≡ event 6 20 (Diverted 1 first_station billing cause.NoAnswer (Some billing)) ∷ event 7 20 (Queued 1 billing cause.NoAnswer)
    ∷ event 8 20 (AgentNotReady ana first_station)
    ∷ event 9 21 (ConnectionCleared 1 caller) ∷ event 10 21 (ConnectionCleared 1 billing) ∷ event 11 21 (CallCleared 1 (Some billing)) ∷ [])
    × (agent_of r.rows ana ≡ Some (record offered_ana { state = NotReady; stamp = 9; since = 20 }))
    × (figures_in r.rows billing ≡ Some (record no_figures { entered = 1; abandoned = 1 }))
    × (r.rows.calls ≡ []) × (r.rows.connections ≡ [])

-- in the second in which the ring is over, a rejection and a tick come to the same: the first one takes the call back, the other finds nothing, and an
-- offer of that second stays
abbrev pub RejectionAndTick : Type 0
RejectionAndTick =
    let r = run_after offered (at 38 (RejectCall 1 first_station) ∷ at 38 Tick ∷ []) in
    let turned = run_after offered (at 38 Tick ∷ at 38 (RejectCall 1 first_station) ∷ []) in
    let offered_again = run_after (plan ++ two_ready) (at 30 (RejectCall 1 second_station) ∷ at 30 Tick ∷ []) in
    let back = event 6 38 (Diverted 1 first_station billing cause.NoAnswer (Some billing)) ∷ event 7 38 (Queued 1 billing cause.NoAnswer)
    ∷ event 8 38 (AgentNotReady ana first_station) ∷ [] in
    (r.outcomes ≡ Done answer.Nothing ∷ Done answer.Nothing ∷ []) × (r.events ≡ back)
    × (turned.outcomes ≡ Done answer.Nothing ∷ Refused UnknownConnection ∷ []) × (turned.events ≡ back)
    × (agent_of r.rows ana ≡ Some (record offered_ana { state = NotReady; stamp = 9; since = 38 }))
    × (agent_of turned.rows ana ≡ Some (record offered_ana { state = NotReady; stamp = 9; since = 38 }))
    × (waiting_in r.rows billing ≡ queueing 1 billing (Some 6) (Some 10) ∷ [])
    × (waiting_in turned.rows billing ≡ queueing 1 billing (Some 6) (Some 10) ∷ [])
    × (offered_again.outcomes ≡ Done answer.Nothing ∷ Done answer.Nothing ∷ [])
    × (offered_again.events ≡ event 8 30 (Diverted 1 second_station billing cause.NoAnswer (Some billing)) ∷ event 9 30 (Queued 1 billing cause.NoAnswer)
    ∷ event 10 30 (AgentNotReady ben second_station)
    ∷ event 11 30 (Diverted 1 billing first_station cause.Distributed (Some billing)) ∷ event 12 30 (Delivered 1 first_station cause.Distributed (Some billing)) ∷ [])
    × (connection_of offered_again.rows 1 first_station ≡ Some (record offered_connection { place = Some 10; offered = Some 30 }))

-- the refusals, in their order: of an offered call, an answered and a held one, one that waits and one that failed, one that was rejected; of calls that
-- ring because they were deflected, transferred, called privately or from outside; and of a private call to the group, which rings
abbrev pub RefusalsOfRejections : Type 0
RefusalsOfRejections =
    RefusesEach (rows_after offered) (
    (RejectCall 9 nowhere, UnknownCall) ∷ (RejectCall 2 first_station, UnknownCall)
    ∷ (RejectCall 1 nowhere, UnknownConnection) ∷ (RejectCall 1 second_caller, UnknownConnection) ∷ (RejectCall 1 billing, UnknownConnection)
    ∷ (RejectCall 1 second_station, UnknownConnection) ∷ (RejectCall 1 caller, WrongConnectionState) ∷ [])
    × RefusesEach (rows_after answered) (
    (RejectCall 9 first_station, UnknownCall) ∷ (RejectCall 1 second_station, UnknownConnection)
    ∷ (RejectCall 1 first_station, WrongConnectionState) ∷ (RejectCall 1 caller, WrongConnectionState) ∷ [])
    × RefusesEach (rows_after (answered ++ at 30 (HoldCall 1 first_station) ∷ [])) ((RejectCall 1 first_station, WrongConnectionState) ∷ [])
    × RefusesEach (rows_after (plan ++ call_arrives)) ((RejectCall 1 first_station, UnknownConnection) ∷ (RejectCall 1 billing, WrongConnectionState) ∷ [])
    × RefusesEach (rows_after (answered ++ at 30 (ArriveCall late_caller first_station) ∷ [])) ((RejectCall 2 first_station, WrongConnectionState) ∷ [])
    × RefusesEach (rows_after (offered ++ at 20 (RejectCall 1 first_station) ∷ [])) (
    (RejectCall 1 first_station, UnknownConnection) ∷ (RejectCall 1 billing, WrongConnectionState) ∷ [])
    × RefusesEach (rows_after (offered ++ at 20 (DeflectCall 1 first_station second_station) ∷ [])) (
    (RejectCall 1 first_station, UnknownConnection) ∷ (RejectCall 1 second_station, WrongConnectionState) ∷ [])
    × RefusesEach (rows_after (answered ++ at 30 (SingleStepTransfer 1 first_station second_station) ∷ [])) ((RejectCall 1 second_station, WrongConnectionState) ∷ [])
    × RefusesEach (rows_after (plan ++ at 10 (MakeCall first_station second_station) ∷ [])) ((RejectCall 1 first_station, WrongConnectionState) ∷ [])
    × RefusesEach (rows_after (plan ++ at 10 (MakeCall first_station second_station) ∷ at 11 (PhoneOffHook 1 first_station) ∷ [])) (
    (RejectCall 1 first_station, WrongConnectionState) ∷ (RejectCall 1 second_station, WrongConnectionState) ∷ [])
    × RefusesEach (rows_after (plan ++ logs_on 5 ana first_station billing ∷ asks_for 6 ana pending.Ready ∷ at 10 (ArriveCall caller first_station) ∷ [])) (
    (RejectCall 1 first_station, WrongConnectionState) ∷ [])
    × RefusesEach (rows_after (plan ++ logs_on 5 ana first_station billing ∷ asks_for 6 ana pending.Ready
    ∷ at 10 (MakeCall second_station billing) ∷ at 11 (PhoneOffHook 1 second_station) ∷ [])) ((RejectCall 1 second_station, WrongConnectionState) ∷ [])
