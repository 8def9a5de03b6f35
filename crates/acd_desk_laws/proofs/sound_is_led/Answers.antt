use Rattle.acd_desk.proofs.Archives.CarriedPart.{sound_is_led}
use Rattle.acd_desk_laws.proofs.sound_is_led.Goals as goal

pub returns : goal.returns
returns c = sound_is_led
