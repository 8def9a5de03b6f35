-- The law that a call of low priority may wait for ever.
use Rattle.acd_laws.proofs.Starvation.{starves}
use Rattle.acd_laws.proofs.low_priority_may_starve.Goals as goal

pub returns : goal.returns
returns c = starves
