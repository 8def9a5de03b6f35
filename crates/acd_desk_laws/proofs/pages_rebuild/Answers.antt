use Rattle.acd_desk_laws.proofs.Rebuilding.{pages_rebuild}
use Rattle.acd_desk_laws.proofs.pages_rebuild.Goals as goal

pub returns : goal.returns
returns c = pages_rebuild
