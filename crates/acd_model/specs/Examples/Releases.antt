-- Worked examples: each cell of the table of release, by how a call ends and what its agent asked for while it rang or was answered.
use Rattle.std.specs.Prelude.{◌≡◌, ℕ, List, [], ◌∷◌, ◌++◌, Some, drop}
use Rattle.acd_terms.specs.declared.event.Event.{Event}
use Rattle.acd_terms.specs.declared.event.Report.TheVariants.{AgentLoggedOff, AgentNotReady, AgentReady, AgentWorkingAfterCall}
use Rattle.acd_terms.specs.declared.command.Command.TheVariants.{ClearConnection, Tick}
use Rattle.acd_terms.specs.declared.record.AgentRecord.{AgentRecord}
use Rattle.acd_terms.specs.declared.state.Pending.{Pending}
use Rattle.acd_terms.specs.declared.state.Pending.TheVariants as pending
use Rattle.acd_terms.specs.declared.state.AgentState.TheVariants.{NotReady, WorkingAfterCall}
use Rattle.acd_model.specs.Scans.{agent_of}
use Rattle.acd_model.specs.Run.{TimedCommand, AfterRun}
use Rattle.acd_model.specs.Examples.Words.{first_station, ana, caller, at, asks_for, run_after, event, logged_off, offered_ana, offered, answered}

-- what is reported of Ana after the events of her call, and what becomes of her
abbrev pub Released : ℕ → AfterRun → List Event → AgentRecord → Type 0
Released reported r more agent = (drop reported r.events ≡ more) × (agent_of r.rows ana ≡ Some agent)

-- Ana asks for a state
abbrev pub and_asks : List TimedCommand → Pending → List TimedCommand
and_asks before wanted = before ++ asks_for 30 ana wanted ∷ []

abbrev pub cleared_after : List TimedCommand → AfterRun
cleared_after before = run_after before (at 40 (ClearConnection 1 caller) ∷ [])

abbrev pub tick_after : List TimedCommand → AfterRun
tick_after before = run_after before (at 40 Tick ∷ [])

-- the call was answered, and is cleared
abbrev pub ReleasedAfterAnAnswer : Type 0
ReleasedAfterAnAnswer =
    Released 3 (cleared_after answered) (event 11 40 (AgentWorkingAfterCall ana first_station) ∷ []) (record offered_ana { state = WorkingAfterCall; stamp = 10; since = 40 })
    × Released 3 (cleared_after (and_asks answered pending.Ready)) (event 11 40 (AgentReady ana first_station) ∷ []) (record offered_ana { stamp = 11; since = 40 })
    × Released 3 (cleared_after (and_asks answered pending.NotReady)) (event 11 40 (AgentNotReady ana first_station) ∷ [])
    (record offered_ana { state = NotReady; stamp = 11; since = 40 })
    × Released 3 (cleared_after (and_asks answered pending.WorkingAfterCall)) (event 11 40 (AgentWorkingAfterCall ana first_station) ∷ [])
    (record offered_ana { state = WorkingAfterCall; stamp = 11; since = 40 })
    × Released 3 (cleared_after (and_asks answered pending.LoggedOff)) (event 11 40 (AgentLoggedOff ana first_station) ∷ [])
    (record (logged_off offered_ana) { stamp = 11; since = 40 })

-- the call rings, and is cleared: with nothing or ready pending the agent stays ready, with the old stamp and moment and without an event
abbrev pub ReleasedUnanswered : Type 0
ReleasedUnanswered =
    Released 3 (cleared_after offered) [] offered_ana
    × Released 3 (cleared_after (and_asks offered pending.Ready)) [] offered_ana
    × Released 3 (cleared_after (and_asks offered pending.NotReady)) (event 9 40 (AgentNotReady ana first_station) ∷ [])
    (record offered_ana { state = NotReady; stamp = 10; since = 40 })
    × Released 3 (cleared_after (and_asks offered pending.WorkingAfterCall)) (event 9 40 (AgentWorkingAfterCall ana first_station) ∷ [])
    (record offered_ana { state = WorkingAfterCall; stamp = 10; since = 40 })
    × Released 3 (cleared_after (and_asks offered pending.LoggedOff)) (event 9 40 (AgentLoggedOff ana first_station) ∷ [])
    (record (logged_off offered_ana) { stamp = 10; since = 40 })

-- the call rang too long, and returns
abbrev pub ReleasedByNoAnswer : Type 0
ReleasedByNoAnswer =
    Released 2 (tick_after offered) (event 8 40 (AgentNotReady ana first_station) ∷ []) (record offered_ana { state = NotReady; stamp = 9; since = 40 })
    × Released 2 (tick_after (and_asks offered pending.Ready)) (event 8 40 (AgentNotReady ana first_station) ∷ []) (record offered_ana { state = NotReady; stamp = 10; since = 40 })
    × Released 2 (tick_after (and_asks offered pending.NotReady)) (event 8 40 (AgentNotReady ana first_station) ∷ [])
    (record offered_ana { state = NotReady; stamp = 10; since = 40 })
    × Released 2 (tick_after (and_asks offered pending.WorkingAfterCall)) (event 8 40 (AgentWorkingAfterCall ana first_station) ∷ [])
    (record offered_ana { state = WorkingAfterCall; stamp = 10; since = 40 })
    × Released 2 (tick_after (and_asks offered pending.LoggedOff)) (event 8 40 (AgentLoggedOff ana first_station) ∷ []) (record (logged_off offered_ana) { stamp = 10; since = 40 })
