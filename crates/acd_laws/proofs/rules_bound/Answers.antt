-- The bounds that the rules give.
use Rattle.acd_laws.proofs.Rules.RulesAll.{rules_bound}
use Rattle.acd_laws.proofs.rules_bound.Goals as goal

pub returns : goal.returns
returns c = rules_bound
