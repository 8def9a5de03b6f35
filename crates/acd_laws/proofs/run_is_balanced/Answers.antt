-- The law of balance, after every run.
use Rattle.acd_laws.proofs.Watched.WatchedRuns.{run_is_balanced}
use Rattle.acd_laws.proofs.run_is_balanced.Goals as goal

pub returns : goal.returns
returns c = run_is_balanced
