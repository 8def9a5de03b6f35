-- Worked examples: waiting for time (offers that ring, after-call work), and who is ready longest.
use Rattle.std.specs.Prelude.{◌≡◌, List, [], ◌∷◌, ◌++◌, codes, Some, None}
use Rattle.acd_terms.specs.declared.event.Cause.TheVariants as cause
use Rattle.acd_terms.specs.declared.event.Report.TheVariants.{Queued, Delivered, Diverted, Established, ConnectionCleared, CallCleared, AgentLoggedOn, AgentNotReady, AgentReady, AgentBusy, AgentWorkingAfterCall}
use Rattle.acd_terms.specs.declared.command.Command.TheVariants.{AddGroup, ArriveCall, AnswerCall, ClearConnection, Tick}
use Rattle.acd_terms.specs.declared.state.Pending.TheVariants as pending
use Rattle.acd_terms.specs.declared.state.AgentState.TheVariants.{NotReady, Ready, WorkingAfterCall}
use Rattle.acd_terms.specs.declared.answer.Outcome.TheVariants.{Done}
use Rattle.acd_terms.specs.declared.answer.Answer.TheVariants as answer
use Rattle.acd_model.specs.Scans.{waiting_in, connection_of, agent_of}
use Rattle.acd_model.specs.CallMoves.{queueing}
use Rattle.acd_model.specs.Run.{TimedCommand}
use Rattle.acd_model.specs.Services.AddGroup.{no_figures}
use Rattle.acd_model.specs.Examples.Words.{billing, claims, first_station, second_station, ana, ben, caller, second_caller, at, logs_on, asks_for, plan, run_after, event, figures_in, planned_ana, planned_ben, logged_on, early_ana, early_ben, offered_connection}

abbrev pub two_offers_in_vain : List TimedCommand
two_offers_in_vain =
    logs_on 5 ana first_station billing ∷ logs_on 5 ben second_station billing
    ∷ at 10 (ArriveCall caller billing) ∷ at 11 (ArriveCall second_caller billing)
    ∷ asks_for 40 ana pending.Ready ∷ at 41 Tick ∷ asks_for 41 ben pending.Ready ∷ at 61 Tick ∷ []

-- two offers ring too long, and go back at one tick, one after the other
abbrev pub OffersGoBack : Type 0
OffersGoBack =
    let r = run_after plan two_offers_in_vain in
    (r.outcomes ≡ Done (answer.State NotReady) ∷ Done (answer.State NotReady) ∷ Done (answer.Call 1) ∷ Done (answer.Call 2)
    ∷ Done (answer.State Ready) ∷ Done answer.Nothing ∷ Done (answer.State Ready) ∷ Done answer.Nothing ∷ [])
    × (r.events ≡ event 1 5 (AgentLoggedOn ana first_station (Some billing)) ∷ event 2 5 (AgentLoggedOn ben second_station (Some billing))
    ∷ event 3 10 (Queued 1 billing cause.NewCall) ∷ event 4 11 (Queued 2 billing cause.NewCall)
    ∷ event 5 40 (AgentReady ana first_station)
    ∷ event 6 40 (Diverted 1 billing first_station cause.Distributed (Some billing)) ∷ event 7 40 (Delivered 1 first_station cause.Distributed (Some billing))
    ∷ event 8 41 (AgentReady ben second_station)
    ∷ event 9 41 (Diverted 2 billing second_station cause.Distributed (Some billing)) ∷ event 10 41 (Delivered 2 second_station cause.Distributed (Some billing))
    ∷ event 11 61 (Diverted 1 first_station billing cause.NoAnswer (Some billing)) ∷ event 12 61 (Queued 1 billing cause.NoAnswer)
    ∷ event 13 61 (AgentNotReady ana first_station)
    ∷ event 14 61 (Diverted 2 second_station billing cause.NoAnswer (Some billing)) ∷ event 15 61 (Queued 2 billing cause.NoAnswer)
    ∷ event 16 61 (AgentNotReady ben second_station) ∷ [])
    × (waiting_in r.rows billing ≡ queueing 1 billing (Some 8) (Some 10) ∷ queueing 2 billing (Some 9) (Some 11) ∷ [])
    × (agent_of r.rows ana ≡ Some (record early_ana { stamp = 13; since = 61 }))
    × (agent_of r.rows ben ≡ Some (record early_ben { stamp = 13; since = 61 }))
    × (figures_in r.rows billing ≡ Some (record no_figures { entered = 2 }))

-- offers and after-call work end when their time is over and not before; at one tick the offers return first, and a call that returned is offered again
abbrev pub Ticks : Type 0
Ticks =
    let r = run_after (plan ++ two_offers_in_vain) (asks_for 70 ana pending.Ready ∷ at 75 (AnswerCall 1 first_station) ∷ at 80 (ClearConnection 1 caller)
    ∷ asks_for 85 ben pending.Ready ∷ at 104 Tick ∷ at 105 Tick ∷ asks_for 106 ben pending.Ready ∷ at 126 Tick ∷ []) in
    (r.outcomes ≡ Done (answer.State Ready) ∷ Done answer.Nothing ∷ Done answer.Nothing
    ∷ Done (answer.State Ready) ∷ Done answer.Nothing ∷ Done answer.Nothing ∷ Done (answer.State Ready) ∷ Done answer.Nothing ∷ [])
    × (r.events ≡ event 17 70 (AgentReady ana first_station)
    ∷ event 18 70 (Diverted 1 billing first_station cause.Distributed (Some billing)) ∷ event 19 70 (Delivered 1 first_station cause.Distributed (Some billing))
    ∷ event 20 75 (Established 1 first_station (Some (record { group = billing; seconds = 65 }))) ∷ event 21 75 (AgentBusy ana first_station)
    ∷ event 22 80 (ConnectionCleared 1 caller) ∷ event 23 80 (ConnectionCleared 1 first_station) ∷ event 24 80 (CallCleared 1 None)
    ∷ event 25 80 (AgentWorkingAfterCall ana first_station)
    ∷ event 26 85 (AgentReady ben second_station)
    ∷ event 27 85 (Diverted 2 billing second_station cause.Distributed (Some billing)) ∷ event 28 85 (Delivered 2 second_station cause.Distributed (Some billing))
    ∷ event 29 105 (Diverted 2 second_station billing cause.NoAnswer (Some billing)) ∷ event 30 105 (Queued 2 billing cause.NoAnswer)
    ∷ event 31 105 (AgentNotReady ben second_station)
    ∷ event 32 106 (AgentReady ben second_station)
    ∷ event 33 106 (Diverted 2 billing second_station cause.Distributed (Some billing)) ∷ event 34 106 (Delivered 2 second_station cause.Distributed (Some billing))
    ∷ event 35 126 (Diverted 2 second_station billing cause.NoAnswer (Some billing)) ∷ event 36 126 (Queued 2 billing cause.NoAnswer)
    ∷ event 37 126 (AgentNotReady ben second_station) ∷ event 38 126 (AgentReady ana first_station)
    ∷ event 39 126 (Diverted 2 billing first_station cause.Distributed (Some billing)) ∷ event 40 126 (Delivered 2 first_station cause.Distributed (Some billing)) ∷ [])
    × (connection_of r.rows 2 first_station ≡ Some (record offered_connection { call = 2; place = Some 9; queued = Some 11; offered = Some 126 }))
    × (agent_of r.rows ana ≡ Some (record early_ana { state = Ready; stamp = 21; since = 126 }))
    × (agent_of r.rows ben ≡ Some (record early_ben { stamp = 21; since = 126 }))
    × (figures_in r.rows billing ≡ Some (record no_figures { entered = 2; answered = 1; waited = 65 }))

-- with no ring time and no wrap time nothing ends by itself
abbrev pub Never : Type 0
Never =
    let r = run_after plan (at 1 (AddGroup claims (codes "Claims") 0 0) ∷ logs_on 2 ana first_station claims ∷ asks_for 3 ana pending.Ready
    ∷ at 10 (ArriveCall caller claims) ∷ at 9000 Tick ∷ at 9001 (AnswerCall 1 first_station) ∷ at 9002 (ClearConnection 1 first_station) ∷ at 19000 Tick ∷ []) in
    (r.outcomes ≡ Done answer.Nothing ∷ Done (answer.State NotReady) ∷ Done (answer.State Ready)
    ∷ Done (answer.Call 1) ∷ Done answer.Nothing ∷ Done answer.Nothing ∷ Done answer.Nothing ∷ Done answer.Nothing ∷ [])
    × (r.events ≡ event 1 2 (AgentLoggedOn ana first_station (Some claims)) ∷ event 2 3 (AgentReady ana first_station)
    ∷ event 3 10 (Queued 1 claims cause.NewCall)
    ∷ event 4 10 (Diverted 1 claims first_station cause.Distributed (Some claims)) ∷ event 5 10 (Delivered 1 first_station cause.Distributed (Some claims))
    ∷ event 6 9001 (Established 1 first_station (Some (record { group = claims; seconds = 8991 }))) ∷ event 7 9001 (AgentBusy ana first_station)
    ∷ event 8 9002 (ConnectionCleared 1 first_station) ∷ event 9 9002 (ConnectionCleared 1 caller) ∷ event 10 9002 (CallCleared 1 None)
    ∷ event 11 9002 (AgentWorkingAfterCall ana first_station) ∷ [])
    × (agent_of r.rows ana ≡ Some (record (logged_on 2 first_station planned_ana) { state = WorkingAfterCall; groups = claims ∷ []; stamp = 12; since = 9002 }))
    × (figures_in r.rows claims ≡ Some (record no_figures { entered = 1; answered = 1; waited = 8991 }))
    × (figures_in r.rows billing ≡ Some no_figures)

-- neither asking for the present state nor an offer that ends unanswered takes an agent's turn; what is pending waits until the call ends
abbrev pub WhoIsReadyLongest : Type 0
WhoIsReadyLongest =
    let r = run_after plan (logs_on 5 ana first_station billing ∷ logs_on 5 ben second_station billing
    ∷ asks_for 6 ana pending.Ready ∷ asks_for 7 ben pending.Ready ∷ asks_for 8 ana pending.Ready
    ∷ at 10 (ArriveCall caller billing) ∷ at 11 (ClearConnection 1 caller) ∷ at 12 (ArriveCall second_caller billing)
    ∷ asks_for 13 ana pending.NotReady ∷ at 14 (AnswerCall 2 first_station) ∷ at 15 (ClearConnection 2 first_station) ∷ []) in
    (r.outcomes ≡ Done (answer.State NotReady) ∷ Done (answer.State NotReady) ∷ Done (answer.State Ready) ∷ Done (answer.State Ready) ∷ Done (answer.State Ready)
    ∷ Done (answer.Call 1) ∷ Done answer.Nothing ∷ Done (answer.Call 2)
    ∷ Done (answer.Pending Ready pending.NotReady) ∷ Done answer.Nothing ∷ Done answer.Nothing ∷ [])
    × (r.events ≡ event 1 5 (AgentLoggedOn ana first_station (Some billing)) ∷ event 2 5 (AgentLoggedOn ben second_station (Some billing))
    ∷ event 3 6 (AgentReady ana first_station) ∷ event 4 7 (AgentReady ben second_station)
    ∷ event 5 10 (Queued 1 billing cause.NewCall)
    ∷ event 6 10 (Diverted 1 billing first_station cause.Distributed (Some billing)) ∷ event 7 10 (Delivered 1 first_station cause.Distributed (Some billing))
    ∷ event 8 11 (ConnectionCleared 1 caller) ∷ event 9 11 (ConnectionCleared 1 first_station) ∷ event 10 11 (CallCleared 1 (Some billing))
    ∷ event 11 12 (Queued 2 billing cause.NewCall)
    ∷ event 12 12 (Diverted 2 billing first_station cause.Distributed (Some billing)) ∷ event 13 12 (Delivered 2 first_station cause.Distributed (Some billing))
    ∷ event 14 14 (Established 2 first_station (Some (record { group = billing; seconds = 2 }))) ∷ event 15 14 (AgentBusy ana first_station)
    ∷ event 16 15 (ConnectionCleared 2 first_station) ∷ event 17 15 (ConnectionCleared 2 second_caller) ∷ event 18 15 (CallCleared 2 None)
    ∷ event 19 15 (AgentNotReady ana first_station) ∷ [])
    × (agent_of r.rows ana ≡ Some (record early_ana { stamp = 16; since = 15 }))
    × (agent_of r.rows ben ≡ Some (record early_ben { state = Ready; stamp = 9; since = 7 }))
    × (figures_in r.rows billing ≡ Some (record no_figures { entered = 2; answered = 1; abandoned = 1; waited = 2 }))

-- after-call work ends in two groups at one tick: all agents become ready, and then the group of least number precedes
abbrev pub TwoGroupsAtOnce : Type 0
TwoGroupsAtOnce =
    let r = run_after plan (at 1 (AddGroup claims (codes "Claims") 20 30) ∷ logs_on 2 ana first_station claims ∷ logs_on 3 ben second_station billing
    ∷ asks_for 6 ana pending.WorkingAfterCall ∷ asks_for 6 ben pending.WorkingAfterCall
    ∷ at 10 (ArriveCall caller claims) ∷ at 11 (ArriveCall second_caller billing) ∷ at 36 Tick ∷ []) in
    (r.outcomes ≡ Done answer.Nothing ∷ Done (answer.State NotReady) ∷ Done (answer.State NotReady)
    ∷ Done (answer.State WorkingAfterCall) ∷ Done (answer.State WorkingAfterCall) ∷ Done (answer.Call 1) ∷ Done (answer.Call 2) ∷ Done answer.Nothing ∷ [])
    × (r.events ≡ event 1 2 (AgentLoggedOn ana first_station (Some claims)) ∷ event 2 3 (AgentLoggedOn ben second_station (Some billing))
    ∷ event 3 6 (AgentWorkingAfterCall ana first_station) ∷ event 4 6 (AgentWorkingAfterCall ben second_station)
    ∷ event 5 10 (Queued 1 claims cause.NewCall) ∷ event 6 11 (Queued 2 billing cause.NewCall)
    ∷ event 7 36 (AgentReady ana first_station) ∷ event 8 36 (AgentReady ben second_station)
    ∷ event 9 36 (Diverted 2 billing second_station cause.Distributed (Some billing)) ∷ event 10 36 (Delivered 2 second_station cause.Distributed (Some billing))
    ∷ event 11 36 (Diverted 1 claims first_station cause.Distributed (Some claims)) ∷ event 12 36 (Delivered 1 first_station cause.Distributed (Some claims)) ∷ [])
    × (connection_of r.rows 1 first_station ≡ Some (record offered_connection { group = Some claims; place = Some 11; offered = Some 36 }))
    × (connection_of r.rows 2 second_station ≡ Some (record offered_connection { call = 2; device = second_station; place = Some 12; queued = Some 11; offered = Some 36 }))
    × (agent_of r.rows ana ≡ Some (record (logged_on 2 first_station planned_ana) { state = Ready; groups = claims ∷ []; stamp = 13; since = 36 }))
    × (agent_of r.rows ben ≡ Some (record (logged_on 3 second_station planned_ben) { state = Ready; stamp = 13; since = 36 }))
