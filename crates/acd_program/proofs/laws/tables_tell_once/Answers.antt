use Rattle.acd_program.proofs.Archives.EachOnce.{tables_tell_once}
use Rattle.acd_program.proofs.laws.tables_tell_once.Goals as goal

pub returns : goal.returns
returns c contents begun whole new added = tables_tell_once contents begun whole new added
