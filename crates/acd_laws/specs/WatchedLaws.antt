-- The reports alone give a watcher what the switch holds: as it moves from a state to the next.
use Rattle.std.specs.Prelude.{◌≡◌, ◌≤◌, true, List, None}
use Rattle.acd_terms.specs.Numbers.{Device, CallId, Moment, Stamp}
use Rattle.acd_terms.specs.declared.rows.Rows.{Rows}
use Rattle.acd_terms.specs.declared.command.Command.{Command}
use Rattle.acd_terms.specs.declared.event.Event.{Event}
use Rattle.acd_model.specs.EventReports.{known_after, connection_reported, last_entry}
use Rattle.acd_model.specs.Watcher.{is_external_caller, HasPlace, IsWatched}
use Rattle.acd_model.specs.Rules.First.{BreaksNoRule}
use Rattle.acd_laws.specs.Forms.{AfterStep, EachRunEnds}

-- nothing is reported of an external caller, no entry has a number above the last event's, and none that waits or rings a place above the last
-- stamp
pub record ReportsNoMore (s : Rows) (events : List Event) : Type 0 where
  pub outside : (call : CallId) (device : Device) → is_external_caller s call device ≡ true → known_after (connection_reported call device) None events ≡ None
  pub entries : (group : Device) (call : CallId) → last_entry group call 0 events ≤ s.last_event
  pub places : (group : Device) (call : CallId) (place : Stamp) → HasPlace s group call place → place ≤ s.last_stamp

-- the reports give a watcher the state, and no more
abbrev pub IsReported : Rows → List Event → Type 0
IsReported s events = IsWatched s events × ReportsNoMore s events

-- a watcher's view of rows that break no rule continues to the next state, by the new events
abbrev pub StepKeepsWatched : Type 0
StepKeepsWatched = (s : Rows) (events : List Event) (moment : Moment) (command : Command) → BreaksNoRule s → IsWatched s events → ReportsNoMore s events
    → AfterStep IsReported s events moment command

-- the reports of every run give its state
abbrev pub RunIsWatched : Type 0
RunIsWatched = EachRunEnds IsWatched

-- and no more
abbrev pub RunReportsNoMore : Type 0
RunReportsNoMore = EachRunEnds ReportsNoMore
