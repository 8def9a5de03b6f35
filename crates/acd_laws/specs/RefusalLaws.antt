-- A refused request takes a stamp and a moment, and changes nothing else.
use Rattle.std.specs.Prelude.{◌≡◌, []}
use Rattle.acd_terms.specs.Numbers.{Moment}
use Rattle.acd_terms.specs.declared.rows.Rows.{Rows}
use Rattle.acd_terms.specs.declared.command.Command.{Command}
use Rattle.acd_terms.specs.declared.answer.Refusal.{Refusal}
use Rattle.acd_terms.specs.declared.answer.Outcome.TheVariants.{Refused}
use Rattle.acd_model.specs.Writes.{with_last}
use Rattle.acd_model.specs.Step.{step, executed_moment, next_stamp}
use Rattle.acd_model.specs.Rules.First.{BreaksNoRule}

-- no event is reported, and but for the last stamp and moment the rows are as before
pub record ChangesNothing (s : Rows) (moment : Moment) (command : Command) : Type 0 where
  pub events : (step s moment command).events ≡ []
  pub rows : (step s moment command).rows ≡ with_last s (next_stamp s) (executed_moment s moment) s.last_event

abbrev pub RefusalChangesNothing : Type 0
RefusalChangesNothing = (s : Rows) (moment : Moment) (command : Command) (refusal : Refusal) → BreaksNoRule s → (step s moment command).outcome ≡ Refused refusal → ChangesNothing s moment command
