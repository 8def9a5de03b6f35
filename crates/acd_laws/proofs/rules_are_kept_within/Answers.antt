-- The rules where a step distributes.
use Rattle.acd_laws.proofs.Rules.AllRuleTests.{rules_are_kept, within_written}
use Rattle.acd_laws.proofs.Rules.RulesOfSteps.{rules_serve}
use Rattle.acd_laws.proofs.rules_are_kept_within.Goals as goal

pub returns : goal.returns
returns c = λ s moment command kept. within_written _ (rules_serve s _ command (rules_are_kept s kept))
