-- The law that no event names a call above the last, by a step.
use Rattle.acd_laws.proofs.Rules.AllRuleTests.{rules_are_kept}
use Rattle.acd_laws.proofs.Places.PlacedRuns.{step_names_no_later_call}
use Rattle.acd_laws.proofs.step_names_no_later_call.Goals as goal

pub returns : goal.returns
returns c = λ s events moment command kept. step_names_no_later_call s events moment command (rules_are_kept s kept)
