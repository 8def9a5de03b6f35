-- The events of a sound content are in ascending number.
use Rattle.acd_book.specs.Content.{Content}
use Rattle.acd_book.specs.Memory.{number_of_event}
use Rattle.acd_book.proofs.SharedLists.{rises_back}
use Rattle.acd_desk.specs.Contents.SoundContent.{IsSound}
use Rattle.acd_desk.specs.Contents.CarriedContent.{Archive, together}
use Rattle.acd_desk.specs.Reads.ReadAnswers.{Rise}
use Rattle.acd_desk.proofs.Replays.AuditLaws.{sound_ordered}

pub sound_rises : (c : Content) → IsSound c → Rise 0 c.events
sound_rises c sound = (sound_ordered c sound).events

-- so do those of one that is sound with an archive
pub carried_rises : (p : Archive) (c : Content) → IsSound (together p c) → Rise 0 c.events
carried_rises p c sound = rises_back number_of_event 0 p.events c.events (sound_rises (together p c) sound)
