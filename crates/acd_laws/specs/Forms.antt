-- The forms of laws: what a step keeps, and what holds after every run.
use Rattle.std.specs.Prelude.{List, ◌++◌}
use Rattle.acd_terms.specs.Rows.{empty_rows}
use Rattle.acd_terms.specs.Numbers.{Moment}
use Rattle.acd_terms.specs.declared.rows.Rows.{Rows}
use Rattle.acd_terms.specs.declared.rows.Limits.{Limits}
use Rattle.acd_terms.specs.declared.command.Command.{Command}
use Rattle.acd_terms.specs.declared.event.Event.{Event}
use Rattle.acd_model.specs.Step.{step}
use Rattle.acd_model.specs.Run.{TimedCommand, run}
use Rattle.acd_model.specs.Rules.First.{BreaksNoRule}

-- it holds of the rows after a step, and of the events up to it with those of the step
abbrev pub AfterStep : (Rows → List Event → Type 0) → Rows → List Event → Moment → Command → Type 0
AfterStep P s events moment command = P (step s moment command).rows (events ++ (step s moment command).events)

-- it holds of the rows after a run from none, and of all its events
abbrev pub HoldsAfterRun : (Rows → List Event → Type 0) → Limits → List TimedCommand → Type 0
HoldsAfterRun P limits commands = P (run (empty_rows limits) commands).rows (run (empty_rows limits) commands).events

-- from rows that break no rule, and for which one fact holds, each step goes to rows for which the other holds
abbrev pub StepLeads : (Rows → List Event → Type 0) → (Rows → List Event → Type 0) → Type 0
StepLeads P Q = (s : Rows) (events : List Event) (moment : Moment) (command : Command) → BreaksNoRule s → P s events → AfterStep Q s events moment command

-- a step of rows that break no rule keeps the fact
abbrev pub StepKeeps : (Rows → List Event → Type 0) → Type 0
StepKeeps P = StepLeads P P

-- the fact holds after every run
abbrev pub EachRunEnds : (Rows → List Event → Type 0) → Type 0
EachRunEnds P = (limits : Limits) (commands : List TimedCommand) → HoldsAfterRun P limits commands
