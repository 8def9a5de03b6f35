-- The law of balance, by a step.
use Rattle.acd_laws.proofs.Rules.AllRuleTests.{rules_are_kept}
use Rattle.acd_laws.proofs.Watched.WatchedRuns.{step_balances}
use Rattle.acd_laws.proofs.step_balances.Goals as goal

pub returns : goal.returns
returns c = λ s events moment command kept. step_balances s events moment command (rules_are_kept s kept)
