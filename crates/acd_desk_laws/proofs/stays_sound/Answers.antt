use Rattle.acd_desk.proofs.Contents.ContentLaws.{after_sound}
use Rattle.acd_desk_laws.proofs.stays_sound.Goals as goal

pub returns : goal.returns
returns c = after_sound
