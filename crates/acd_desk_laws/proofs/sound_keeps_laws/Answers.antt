use Rattle.acd_desk.proofs.Contents.ContentLaws.{sound_keeps_laws}
use Rattle.acd_desk_laws.proofs.sound_keeps_laws.Goals as goal

pub returns : goal.returns
returns c = sound_keeps_laws
