-- The rules, by a run.
use Rattle.acd_laws.proofs.Rules.RulesAll.{run_keeps_rules}
use Rattle.acd_laws.proofs.run_keeps_rules.Goals as goal

pub returns : goal.returns
returns c = run_keeps_rules
