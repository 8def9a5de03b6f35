-- The law that no offer is left, after a step.
use Rattle.acd_laws.proofs.Rules.AllRuleTests.{rules_are_kept}
use Rattle.acd_laws.proofs.Watched.WatchedRuns.{step_leaves_no_offer}
use Rattle.acd_laws.proofs.step_leaves_no_offer.Goals as goal

pub returns : goal.returns
returns c = λ s moment command kept. step_leaves_no_offer s moment command (rules_are_kept s kept)
