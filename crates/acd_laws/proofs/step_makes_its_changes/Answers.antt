-- The law of what the changes of a step make.
use Rattle.acd_laws.proofs.StepChanges.ChangedRows.{step_makes_its_changes}
use Rattle.acd_laws.proofs.step_makes_its_changes.Goals as goal

pub returns : goal.returns
returns c = step_makes_its_changes
