-- The law of what reports give, after every run.
use Rattle.acd_laws.proofs.Watched.WatchedRuns.{run_is_watched}
use Rattle.acd_laws.proofs.run_is_watched.Goals as goal

pub returns : goal.returns
returns c = run_is_watched
