use Rattle.acd_io.proofs.StopsAtOrder.{order_first}
use Rattle.acd_io.proofs.laws.order_is_first.Goals as goal

pub returns : goal.returns
returns c = order_first
