-- Worked examples: agents of several groups, and groups with priority.
use Rattle.std.specs.Prelude.{◌≡◌, List, [], ◌∷◌, ◌++◌, codes, Some, None}
use Rattle.acd_terms.specs.declared.record.AgentRecord.{AgentRecord}
use Rattle.acd_terms.specs.declared.event.Cause.TheVariants as cause
use Rattle.acd_terms.specs.declared.event.Report.TheVariants.{Queued, Delivered, Diverted, Established, ConnectionCleared, CallCleared, AgentLoggedOn, AgentReady, AgentBusy, AgentWorkingAfterCall}
use Rattle.acd_terms.specs.declared.command.Command.TheVariants.{AddGroup, ArriveCall, AnswerCall, ClearConnection, SetAgentState, SetGroupPriority, Tick}
use Rattle.acd_terms.specs.declared.command.Requested.TheVariants.{LoggedOn}
use Rattle.acd_terms.specs.declared.state.Pending.TheVariants as pending
use Rattle.acd_terms.specs.declared.state.AgentState.TheVariants.{NotReady, Ready}
use Rattle.acd_terms.specs.declared.answer.Outcome.TheVariants.{Done}
use Rattle.acd_terms.specs.declared.answer.Answer.TheVariants as answer
use Rattle.acd_model.specs.Scans.{agent_of, connection_of}
use Rattle.acd_model.specs.Run.{TimedCommand}
use Rattle.acd_model.specs.Services.AddGroup.{no_figures}
use Rattle.acd_model.specs.Examples.Words.{billing, claims, first_station, ana, caller, second_caller, at, asks_for, plan, run_after, event, figures_in, offered_ana, offered_connection}

-- a second group, which wraps up for 45 seconds
abbrev pub two_groups : List TimedCommand
two_groups = plan ++ at 0 (AddGroup claims (codes "Claims") 20 45) ∷ []

-- a call waits in each, and Ana, who is in both, becomes ready
abbrev pub ana_ready_in_both : List TimedCommand
ana_ready_in_both =
    at 10 (ArriveCall caller billing) ∷ at 11 (ArriveCall second_caller claims)
    ∷ at 15 (SetAgentState ana (LoggedOn first_station (billing ∷ claims ∷ []))) ∷ asks_for 18 ana pending.Ready ∷ []

abbrev pub ana_of_both : AgentRecord
ana_of_both = record offered_ana { groups = billing ∷ claims ∷ [] }

-- the group of higher priority precedes, though the other's call came sooner, and after-call work lasts as long as the wrap
-- of the group of least number
abbrev pub HigherPriorityFirst : Type 0
HigherPriorityFirst =
    let r = run_after (two_groups ++ at 0 (SetGroupPriority claims 5) ∷ []) (ana_ready_in_both
    ++ at 20 (AnswerCall 2 first_station) ∷ at 50 (ClearConnection 2 second_caller) ∷ at 79 Tick ∷ at 80 Tick ∷ []) in
    (r.outcomes ≡ Done (answer.Call 1) ∷ Done (answer.Call 2) ∷ Done (answer.State NotReady) ∷ Done (answer.State Ready)
    ∷ Done answer.Nothing ∷ Done answer.Nothing ∷ Done answer.Nothing ∷ Done answer.Nothing ∷ [])
    × (r.events ≡ event 1 10 (Queued 1 billing cause.NewCall) ∷ event 2 11 (Queued 2 claims cause.NewCall)
    ∷ event 3 15 (AgentLoggedOn ana first_station None) ∷ event 4 18 (AgentReady ana first_station)
    ∷ event 5 18 (Diverted 2 claims first_station cause.Distributed (Some claims)) ∷ event 6 18 (Delivered 2 first_station cause.Distributed (Some claims))
    ∷ event 7 20 (Established 2 first_station (Some (record { group = claims; seconds = 9 }))) ∷ event 8 20 (AgentBusy ana first_station)
    ∷ event 9 50 (ConnectionCleared 2 second_caller) ∷ event 10 50 (ConnectionCleared 2 first_station) ∷ event 11 50 (CallCleared 2 None)
    ∷ event 12 50 (AgentWorkingAfterCall ana first_station)
    ∷ event 13 80 (AgentReady ana first_station)
    ∷ event 14 80 (Diverted 1 billing first_station cause.Distributed (Some billing)) ∷ event 15 80 (Delivered 1 first_station cause.Distributed (Some billing)) ∷ [])
    × (agent_of r.rows ana ≡ Some (record ana_of_both { stamp = 15; since = 80 }))
    × (connection_of r.rows 1 first_station ≡ Some (record offered_connection { place = Some 8; offered = Some 80 }))
    × (figures_in r.rows billing ≡ Some (record no_figures { entered = 1 }))
    × (figures_in r.rows claims ≡ Some (record no_figures { entered = 1; answered = 1; waited = 9 }))

-- of equal priorities the least number precedes: here each has 5
abbrev pub EqualPriorities : Type 0
EqualPriorities =
    let r = run_after (two_groups ++ at 0 (SetGroupPriority claims 5) ∷ at 0 (SetGroupPriority billing 5) ∷ []) ana_ready_in_both in
    (connection_of r.rows 1 first_station ≡ Some (record offered_connection { place = Some 9 }))
    × (agent_of r.rows ana ≡ Some (record ana_of_both { stamp = 12; since = 18 }))

-- a priority that is changed while calls wait is the one that counts: claims has 5 and then 1, and billing 2
abbrev pub PriorityChanged : Type 0
PriorityChanged =
    let r = run_after (two_groups ++ at 0 (SetGroupPriority claims 5) ∷ at 0 (SetGroupPriority billing 2) ∷ [])
    (at 5 (ArriveCall caller billing) ∷ at 6 (ArriveCall second_caller claims) ∷ at 7 (SetGroupPriority claims 1)
    ∷ at 15 (SetAgentState ana (LoggedOn first_station (billing ∷ claims ∷ []))) ∷ asks_for 18 ana pending.Ready ∷ []) in
    (connection_of r.rows 1 first_station ≡ Some (record offered_connection { place = Some 9; queued = Some 5 }))
