-- Worked examples: groups and agents that are corrected.
use Rattle.std.specs.Prelude.{◌≡◌, ℕ, List, [], ◌∷◌, ◌++◌, codes, Some, Ok, Err}
use Rattle.acd_terms.specs.Forms.{read_text, is_name_byte}
use Rattle.acd_terms.specs.Numbers.{Moment, Stamp, EventNumber}
use Rattle.acd_terms.specs.declared.rows.Rows.{Rows}
use Rattle.acd_terms.specs.declared.record.GroupRecord.{GroupRecord}
use Rattle.acd_terms.specs.declared.record.AgentRecord.{AgentRecord}
use Rattle.acd_terms.specs.declared.record.CallRecord.{CallRecord}
use Rattle.acd_terms.specs.declared.record.ConnectionRecord.{ConnectionRecord}
use Rattle.acd_terms.specs.declared.name.NameFault.TheVariants as name_fault
use Rattle.acd_terms.specs.declared.event.Cause.TheVariants as cause
use Rattle.acd_terms.specs.declared.event.Report.TheVariants.{Queued, Delivered, Diverted, Established, AgentNotReady, AgentReady, AgentBusy}
use Rattle.acd_terms.specs.declared.command.Command.TheVariants.{AddGroup, ArriveCall, AnswerCall, ClearConnection, SetGroupPriority, ChangeGroup, ChangeAgent, Tick}
use Rattle.acd_terms.specs.declared.state.Pending.TheVariants as pending
use Rattle.acd_terms.specs.declared.state.ConnectionState.TheVariants.{Connected}
use Rattle.acd_terms.specs.declared.state.AgentState.TheVariants.{NotReady, Ready, Busy, WorkingAfterCall}
use Rattle.acd_terms.specs.declared.answer.Outcome.TheVariants.{Done}
use Rattle.acd_terms.specs.declared.answer.Refusal.TheVariants.{UnknownDevice, UnknownAgent, NotGroup}
use Rattle.acd_terms.specs.declared.answer.Answer.TheVariants as answer
use Rattle.acd_model.specs.Scans.{waiting_in, connection_of, agent_of}
use Rattle.acd_model.specs.CallMoves.{unqueued, queueing}
use Rattle.acd_model.specs.Services.AddGroup.{no_figures}
use Rattle.acd_model.specs.Run.{TimedCommand}
use Rattle.acd_model.specs.Examples.Words.{billing, claims, first_station, second_station, ana, ben, caller, second_caller, at, logs_on, asks_for, plan, run_after, event, figures_in, planned_billing, planned_ana, planned_ben, early_ana, early_ben, first_call, offered_ana, offered_connection, answered_connection, offered, answered}
use Rattle.acd_model.specs.Examples.Refusals.{RefusesEach, rows_after, nowhere, nobody}
use Rattle.acd_model.specs.Examples.Priorities.{two_groups, ana_ready_in_both, ana_of_both}

-- the next tick takes a call back that has rung for ten seconds where the ring is shortened to five, or once eleven are over; until then it can be
-- answered
abbrev pub RingShortened : Type 0
RingShortened =
    let r = run_after offered (at 28 (ChangeGroup billing (codes "Billing") 5 30) ∷ at 28 Tick ∷ []) in
    let eleven = run_after offered (at 28 (ChangeGroup billing (codes "Billing") 11 30) ∷ at 28 Tick ∷ at 29 Tick ∷ []) in
    let in_time = run_after offered (at 28 (ChangeGroup billing (codes "Billing") 5 30) ∷ at 29 (AnswerCall 1 first_station) ∷ at 29 Tick ∷ []) in
    (r.outcomes ≡ Done answer.Nothing ∷ Done answer.Nothing ∷ [])
    × (r.events ≡ event 6 28 (Diverted 1 first_station billing cause.NoAnswer (Some billing)) ∷ event 7 28 (Queued 1 billing cause.NoAnswer)
    ∷ event 8 28 (AgentNotReady ana first_station) ∷ [])
    × (waiting_in r.rows billing ≡ queueing 1 billing (Some 6) (Some 10) ∷ [])
    × (agent_of r.rows ana ≡ Some (record offered_ana { state = NotReady; stamp = 10; since = 28 }))
    × (eleven.events ≡ event 6 29 (Diverted 1 first_station billing cause.NoAnswer (Some billing)) ∷ event 7 29 (Queued 1 billing cause.NoAnswer)
    ∷ event 8 29 (AgentNotReady ana first_station) ∷ [])
    × (in_time.outcomes ≡ Done answer.Nothing ∷ Done answer.Nothing ∷ Done answer.Nothing ∷ [])
    × (in_time.events ≡ event 6 29 (Established 1 first_station (Some (record { group = billing; seconds = 19 }))) ∷ event 7 29 (AgentBusy ana first_station) ∷ [])
    × (figures_in in_time.rows billing ≡ Some (record no_figures { entered = 1; answered = 1; waited = 19 }))

-- where the ring is prolonged to a minute before the twenty seconds are over, it rings for a minute; where it is 0, until there is one again
abbrev pub RingProlonged : Type 0
RingProlonged =
    let r = run_after offered (at 28 (ChangeGroup billing (codes "Billing") 60 30) ∷ at 77 Tick ∷ at 78 Tick ∷ []) in
    let never = run_after offered (at 28 (ChangeGroup billing (codes "Billing") 0 30) ∷ at 9000 Tick ∷ []) in
    let again = run_after (offered ++ at 28 (ChangeGroup billing (codes "Billing") 0 30) ∷ []) (at 9000 (ChangeGroup billing (codes "Billing") 20 30) ∷ at 9000 Tick ∷ []) in
    (r.events ≡ event 6 78 (Diverted 1 first_station billing cause.NoAnswer (Some billing)) ∷ event 7 78 (Queued 1 billing cause.NoAnswer)
    ∷ event 8 78 (AgentNotReady ana first_station) ∷ [])
    × (never.outcomes ≡ Done answer.Nothing ∷ Done answer.Nothing ∷ []) × (never.events ≡ [])
    × (connection_of never.rows 1 first_station ≡ Some offered_connection)
    × (again.events ≡ event 6 9000 (Diverted 1 first_station billing cause.NoAnswer (Some billing)) ∷ event 7 9000 (Queued 1 billing cause.NoAnswer)
    ∷ event 8 9000 (AgentNotReady ana first_station) ∷ [])

-- Ana wraps up since a moment of 30
abbrev pub wrapping_up : List TimedCommand
wrapping_up = answered ++ at 30 (ClearConnection 1 caller) ∷ []

-- after-call work of ten seconds ends by the next tick where the wrap is shortened to five, or once eleven are over
abbrev pub WrapShortened : Type 0
WrapShortened =
    let r = run_after wrapping_up (at 40 (ChangeGroup billing (codes "Billing") 20 5) ∷ at 40 Tick ∷ []) in
    let eleven = run_after wrapping_up (at 40 (ChangeGroup billing (codes "Billing") 20 11) ∷ at 40 Tick ∷ at 41 Tick ∷ []) in
    (r.outcomes ≡ Done answer.Nothing ∷ Done answer.Nothing ∷ [])
    × (r.events ≡ event 12 40 (AgentReady ana first_station) ∷ [])
    × (agent_of r.rows ana ≡ Some (record offered_ana { stamp = 12; since = 40 }))
    × (eleven.events ≡ event 12 41 (AgentReady ana first_station) ∷ [])
    × (agent_of eleven.rows ana ≡ Some (record offered_ana { stamp = 13; since = 41 }))

-- where the wrap is prolonged to a minute it lasts for a minute; where it is 0, until there is one again
abbrev pub WrapProlonged : Type 0
WrapProlonged =
    let r = run_after wrapping_up (at 40 (ChangeGroup billing (codes "Billing") 20 60) ∷ at 89 Tick ∷ at 90 Tick ∷ []) in
    let never = run_after wrapping_up (at 40 (ChangeGroup billing (codes "Billing") 20 0) ∷ at 9000 Tick ∷ []) in
    let again = run_after (wrapping_up ++ at 40 (ChangeGroup billing (codes "Billing") 20 0) ∷ []) (at 9000 (ChangeGroup billing (codes "Billing") 20 30) ∷ at 9000 Tick ∷ []) in
    (r.events ≡ event 12 90 (AgentReady ana first_station) ∷ [])
    × (never.outcomes ≡ Done answer.Nothing ∷ Done answer.Nothing ∷ []) × (never.events ≡ [])
    × (agent_of never.rows ana ≡ Some (record offered_ana { state = WorkingAfterCall; stamp = 10; since = 30 }))
    × (again.events ≡ event 12 9000 (AgentReady ana first_station) ∷ [])

-- of an agent of two groups the wrap of the least one counts, with its value of then: the other one's is changed in vain
abbrev pub WrapOfTheLeastGroup : Type 0
WrapOfTheLeastGroup =
    let before = two_groups ++ ana_ready_in_both ++ at 20 (AnswerCall 1 first_station) ∷ at 30 (ClearConnection 1 caller) ∷ [] in
    let r = run_after before (at 40 (ChangeGroup claims (codes "Claims") 20 5) ∷ at 40 Tick ∷ at 41 (ChangeGroup billing (codes "Billing") 20 5) ∷ at 41 Tick ∷ []) in
    (r.outcomes ≡ Done answer.Nothing ∷ Done answer.Nothing ∷ Done answer.Nothing ∷ Done answer.Nothing ∷ [])
    × (r.events ≡ event 13 41 (AgentReady ana first_station)
    ∷ event 14 41 (Diverted 2 claims first_station cause.Distributed (Some claims)) ∷ event 15 41 (Delivered 2 first_station cause.Distributed (Some claims)) ∷ [])
    × (agent_of r.rows ana ≡ Some (record ana_of_both { stamp = 16; since = 41 }))
    × (connection_of r.rows 2 first_station ≡ Some (record offered_connection { call = 2; group = Some claims; place = Some 8; queued = Some 11; offered = Some 41 }))

-- the rows of a plan with two stations hold these records and counters
abbrev pub Holds : Rows → List GroupRecord → List AgentRecord → List CallRecord → List ConnectionRecord → Stamp → Moment → EventNumber → Type 0
Holds s groups agents calls connections stamp moment number =
    (s.groups ≡ groups) × (s.agents ≡ agents) × (s.calls ≡ calls) × (s.connections ≡ connections)
    × (s.stations ≡ record { device = first_station } ∷ record { device = second_station } ∷ [])
    × (s.last_stamp ≡ stamp) × (s.last_moment ≡ moment) × (s.last_event ≡ number)

-- one call was answered and another waits; the group, of priority 3, has another name, ring and wrap, and all else is as it was
abbrev pub ChangedGroup : Type 0
ChangedGroup =
    let r = run_after (answered ++ at 26 (ArriveCall second_caller billing) ∷ at 27 (AddGroup claims (codes "Claims") 20 45) ∷ at 28 (SetGroupPriority billing 3) ∷ [])
    (at 30 (ChangeGroup billing (codes "Invoices") 7 8) ∷ []) in
    (r.outcomes ≡ Done answer.Nothing ∷ []) × (r.events ≡ [])
    × Holds r.rows (record planned_billing { name = codes "Invoices"; ring = 7; wrap = 8; priority = 3; figures = record no_figures { entered = 2; answered = 1; waited = 15 } }
    ∷ record planned_billing { device = claims; name = codes "Claims"; wrap = 45 } ∷ [])
    (record offered_ana { state = Busy; stamp = 9; since = 25 } ∷ planned_ben ∷ [])
    (first_call ∷ record first_call { call = 2; caller = second_caller; since = 26 } ∷ [])
    (answered_connection ∷ unqueued 1 caller Connected ∷ queueing 2 billing (Some 10) (Some 26) ∷ unqueued 2 second_caller Connected ∷ [])
    13 30 8

-- a busy agent with a state pending, and one who is logged on nowhere, have another name, and all else is as it was
abbrev pub ChangedAgent : Type 0
ChangedAgent =
    let r = run_after (answered ++ asks_for 26 ana pending.LoggedOff ∷ []) (at 27 (ChangeAgent ana (codes "Anna")) ∷ at 28 (ChangeAgent ben (codes "Benno")) ∷ []) in
    (r.outcomes ≡ Done answer.Nothing ∷ Done answer.Nothing ∷ []) × (r.events ≡ [])
    × Holds r.rows (record planned_billing { figures = record no_figures { entered = 1; answered = 1; waited = 15 } } ∷ [])
    (record offered_ana { name = codes "Anna"; state = Busy; pending = Some pending.LoggedOff; stamp = 9; since = 25 } ∷ record planned_ben { name = codes "Benno" } ∷ [])
    (first_call ∷ []) (answered_connection ∷ unqueued 1 caller Connected ∷ []) 12 28 7

-- who was ready longest still is
abbrev pub ChangedAgentKeepsTheTurn : Type 0
ChangedAgentKeepsTheTurn =
    let r = run_after plan (logs_on 5 ana first_station billing ∷ logs_on 5 ben second_station billing
    ∷ asks_for 6 ben pending.Ready ∷ asks_for 7 ana pending.Ready ∷ at 8 (ChangeAgent ben (codes "Benno")) ∷ at 10 (ArriveCall caller billing) ∷ []) in
    (connection_of r.rows 1 second_station ≡ Some (record offered_connection { device = second_station; place = Some 11; offered = Some 10 }))
    × (agent_of r.rows ben ≡ Some (record early_ben { name = codes "Benno"; state = Ready; stamp = 8; since = 6 }))
    × (agent_of r.rows ana ≡ Some (record early_ana { state = Ready; stamp = 9; since = 7 }))

-- a change to the same values takes a stamp and a moment, and changes nothing else
abbrev pub ChangedToTheSame : Type 0
ChangedToTheSame =
    let r = run_after offered (at 20 (ChangeGroup billing (codes "Billing") 20 30) ∷ at 21 (ChangeAgent ana (codes "Ana")) ∷ []) in
    (r.outcomes ≡ Done answer.Nothing ∷ Done answer.Nothing ∷ []) × (r.events ≡ [])
    × Holds r.rows (record planned_billing { figures = record no_figures { entered = 1 } } ∷ [])
    (offered_ana ∷ planned_ben ∷ [])
    (first_call ∷ []) (offered_connection ∷ unqueued 1 caller Connected ∷ []) 10 21 5

-- names of 40 and 41 characters
abbrev pub longest_name : List ℕ
longest_name = codes "Invoices, reminders and all of a payment"

abbrev pub too_long_name : List ℕ
too_long_name = codes "Invoices, reminders and all about payment"

-- a name has 1 to 40 characters
abbrev pub NamesOfOneAndForty : Type 0
NamesOfOneAndForty =
    let r = run_after plan (at 1 (ChangeGroup billing (codes "B") 20 30) ∷ at 2 (ChangeAgent ana longest_name) ∷ at 3 (ChangeAgent ben (codes "b")) ∷ []) in
    let longer = run_after plan (at 1 (ChangeGroup billing longest_name 20 30) ∷ []) in
    (r.outcomes ≡ Done answer.Nothing ∷ Done answer.Nothing ∷ Done answer.Nothing ∷ [])
    × (r.rows.groups ≡ record planned_billing { name = codes "B" } ∷ [])
    × (r.rows.agents ≡ record planned_ana { name = longest_name } ∷ record planned_ben { name = codes "b" } ∷ [])
    × (longer.rows.groups ≡ record planned_billing { name = longest_name } ∷ [])
    × (read_text is_name_byte 40 (codes "B") ≡ Ok (codes "B")) × (read_text is_name_byte 40 longest_name ≡ Ok longest_name)
    × (read_text is_name_byte 40 [] ≡ Err name_fault.Empty) × (read_text is_name_byte 40 too_long_name ≡ Err name_fault.TooLong)

-- a number that isn't planned, that of an external caller of a live call, and a station are no group
abbrev pub RefusalsOfCorrections : Type 0
RefusalsOfCorrections =
    RefusesEach (rows_after answered) (
    (ChangeGroup nowhere (codes "Again") 0 0, UnknownDevice) ∷ (ChangeGroup caller (codes "Again") 0 0, UnknownDevice)
    ∷ (ChangeGroup claims (codes "Claims") 0 0, UnknownDevice) ∷ (ChangeGroup first_station (codes "Again") 0 0, NotGroup)
    ∷ (ChangeAgent nobody (codes "Cid"), UnknownAgent) ∷ [])
