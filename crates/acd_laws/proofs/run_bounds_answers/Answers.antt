-- The law that a tick bounds answers, in every run.
use Rattle.acd_laws.proofs.InTime.{run_bounds_answers}
use Rattle.acd_laws.proofs.run_bounds_answers.Goals as goal

pub returns : goal.returns
returns c = run_bounds_answers
