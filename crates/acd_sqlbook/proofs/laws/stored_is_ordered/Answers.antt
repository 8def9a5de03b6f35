use Rattle.acd_sqlbook.proofs.AscendingContent.{stored_ordered}
use Rattle.acd_sqlbook.proofs.laws.stored_is_ordered.Goals as goal

pub returns : goal.returns
returns c = stored_ordered
