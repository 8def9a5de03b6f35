-- The law of the place of each call, after every run.
use Rattle.acd_laws.proofs.Places.PlacedRuns.{run_is_placed}
use Rattle.acd_laws.proofs.run_is_placed.Goals as goal

pub returns : goal.returns
returns c = run_is_placed
