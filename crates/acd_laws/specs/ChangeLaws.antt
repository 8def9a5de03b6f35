-- The changes of a step, made on the rows before it, give the rows after it.
use Rattle.std.specs.Prelude.{◌≡◌, length}
use Rattle.acd_terms.specs.Numbers.{Moment}
use Rattle.acd_terms.specs.declared.rows.Rows.{Rows}
use Rattle.acd_terms.specs.declared.command.Command.{Command}
use Rattle.acd_model.specs.Step.{step, executed_moment, next_stamp}
use Rattle.acd_model.specs.Changes.{step_changes, rows_made}
use Rattle.acd_model.specs.Rules.First.{BreaksNoRule}

-- the rows with the changes of a step, and the counters of the executed request and its events
abbrev pub changed_by_step : Rows → Moment → Command → Rows
changed_by_step s moment command =
    rows_made s (step_changes s moment command) (next_stamp s) (executed_moment s moment) (length (step s moment command).events)

-- of rows that break no rule these are the rows after the step
abbrev pub StepMakesItsChanges : Type 0
StepMakesItsChanges = (s : Rows) (moment : Moment) (command : Command) → BreaksNoRule s → changed_by_step s moment command ≡ (step s moment command).rows
