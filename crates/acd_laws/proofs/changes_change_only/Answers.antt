-- The law of what changeGroup and changeAgent change.
use Rattle.acd_laws.proofs.StepChanges.CorrectedRecords.{changes_change_only}
use Rattle.acd_laws.proofs.changes_change_only.Goals as goal

pub returns : goal.returns
returns c = changes_change_only
