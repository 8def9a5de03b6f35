use Rattle.acd_desk.proofs.Archives.CarriedPart.{led_is_sound}
use Rattle.acd_desk_laws.proofs.led_is_sound.Goals as goal

pub returns : goal.returns
returns c = led_is_sound
