-- The law of what reports give, by a step.
use Rattle.acd_laws.proofs.Rules.AllRuleTests.{rules_are_kept}
use Rattle.acd_laws.proofs.Watched.WatchedRuns.{step_keeps_watched}
use Rattle.acd_laws.proofs.step_keeps_watched.Goals as goal

pub returns : goal.returns
returns c = λ s events moment command kept. step_keeps_watched s events moment command (rules_are_kept s kept)
