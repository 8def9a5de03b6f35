-- The law of what reports don't give, after every run.
use Rattle.acd_laws.proofs.Watched.WatchedRuns.{run_reports_no_more}
use Rattle.acd_laws.proofs.run_reports_no_more.Goals as goal

pub returns : goal.returns
returns c = run_reports_no_more
