-- Names are inert, from any rows.
use Rattle.acd_laws.proofs.Names.NamesInert.{names_are_inert}
use Rattle.acd_laws.proofs.names_are_inert.Goals as goal

pub returns : goal.returns
returns c = names_are_inert
