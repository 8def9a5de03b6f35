-- The law of the place of each call, from before a step to after it.
use Rattle.acd_laws.proofs.Rules.AllRuleTests.{rules_are_kept}
use Rattle.acd_laws.proofs.Places.PlacedRuns.{step_keeps_places}
use Rattle.acd_laws.proofs.step_keeps_places.Goals as goal

pub returns : goal.returns
returns c = λ s events moment command kept. step_keeps_places s events moment command (rules_are_kept s kept)
