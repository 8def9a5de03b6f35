-- The law that a tick bounds answers.
use Rattle.acd_laws.proofs.InTime.{tick_bounds_answers}
use Rattle.acd_laws.proofs.tick_bounds_answers.Goals as goal

pub returns : goal.returns
returns c = tick_bounds_answers
