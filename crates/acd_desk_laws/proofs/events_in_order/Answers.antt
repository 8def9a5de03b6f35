use Rattle.acd_desk.proofs.Contents.AscendingEvents.{sound_rises}
use Rattle.acd_desk_laws.proofs.events_in_order.Goals as goal

pub returns : goal.returns
returns c = sound_rises
