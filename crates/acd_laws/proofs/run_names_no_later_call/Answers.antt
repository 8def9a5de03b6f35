-- The law that no event names a call above the last, after every run.
use Rattle.acd_laws.proofs.Places.PlacedRuns.{run_names_no_later_call}
use Rattle.acd_laws.proofs.run_names_no_later_call.Goals as goal

pub returns : goal.returns
returns c = run_names_no_later_call
