-- The rules, by a step.
use Rattle.acd_laws.proofs.Rules.RulesAll.{step_keeps_rules}
use Rattle.acd_laws.proofs.step_keeps_rules.Goals as goal

pub returns : goal.returns
returns c = step_keeps_rules
