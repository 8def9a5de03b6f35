-- The law that no offer is left, after every run.
use Rattle.acd_laws.proofs.Watched.WatchedRuns.{run_leaves_no_offer}
use Rattle.acd_laws.proofs.run_leaves_no_offer.Goals as goal

pub returns : goal.returns
returns c = run_leaves_no_offer
