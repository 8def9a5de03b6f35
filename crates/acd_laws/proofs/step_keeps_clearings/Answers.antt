-- The law that each call is cleared as often as it has ended, by a step.
use Rattle.acd_laws.proofs.Rules.AllRuleTests.{rules_are_kept}
use Rattle.acd_laws.proofs.Places.PlacedRuns.{step_keeps_clearings}
use Rattle.acd_laws.proofs.step_keeps_clearings.Goals as goal

pub returns : goal.returns
returns c = λ s events moment command kept. step_keeps_clearings s events moment command (rules_are_kept s kept)
