-- The law that a tick leaves nothing due.
use Rattle.acd_laws.proofs.InTime.{tick_leaves_none}
use Rattle.acd_laws.proofs.tick_leaves_none.Goals as goal

pub returns : goal.returns
returns c = tick_leaves_none
