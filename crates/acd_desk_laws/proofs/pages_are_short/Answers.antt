use Rattle.acd_desk_laws.proofs.PageSizes.{pages_are_short, sound_is_replied}
use Rattle.acd_desk_laws.proofs.pages_are_short.Goals as goal

pub returns : goal.returns
returns c = record { short = pages_are_short; sound = sound_is_replied }
