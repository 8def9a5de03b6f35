-- All laws, after every run.
use Rattle.acd_laws.proofs.Rules.RulesAll.{run_keeps_laws}
use Rattle.acd_laws.proofs.run_keeps_laws.Goals as goal

pub returns : goal.returns
returns c = run_keeps_laws
