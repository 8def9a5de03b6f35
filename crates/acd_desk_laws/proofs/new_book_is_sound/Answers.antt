use Rattle.acd_desk.proofs.Contents.ContentLaws.{empty_sound}
use Rattle.acd_desk_laws.proofs.new_book_is_sound.Goals as goal

pub returns : goal.returns
returns c = empty_sound
