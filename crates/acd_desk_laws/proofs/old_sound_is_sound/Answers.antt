use Rattle.acd_desk_laws.proofs.OldRuns.{old_sound_is_sound}
use Rattle.acd_desk_laws.proofs.old_sound_is_sound.Goals as goal

pub returns : goal.returns
returns c = old_sound_is_sound
