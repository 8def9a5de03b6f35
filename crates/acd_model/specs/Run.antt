-- A run: commands at their moments, one step after another.
use Rattle.std.specs.Prelude.{List, [], ◌∷◌, ◌++◌}
use Rattle.acd_terms.specs.Numbers.{Moment}
use Rattle.acd_terms.specs.declared.rows.Rows.{Rows}
use Rattle.acd_terms.specs.declared.command.Command.{Command}
use Rattle.acd_terms.specs.declared.event.Event.{Event}
use Rattle.acd_terms.specs.declared.answer.Outcome.{Outcome}
use Rattle.acd_model.specs.Step.{Stepped, step}

-- a command at its moment
pub record TimedCommand : Type 0 where
  pub moment : Moment
  pub command : Command

-- the state after a run, one outcome for each command, and all events in order
pub record AfterRun : Type 0 where
  pub rows : Rows
  pub outcomes : List Outcome
  pub events : List Event

abbrev pub then_run : Stepped → AfterRun → AfterRun
then_run one rest = record { rows = rest.rows; outcomes = one.outcome ∷ rest.outcomes; events = one.events ++ rest.events }

unfoldable pub run : Rows → List TimedCommand → AfterRun
run s [] = record { rows = s; outcomes = []; events = [] }
run s (a ∷ more) = then_run (step s a.moment a.command) (run (step s a.moment a.command).rows more)
