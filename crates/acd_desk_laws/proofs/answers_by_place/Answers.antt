use Rattle.acd_desk_laws.proofs.ByPlace.{reply_by_place}
use Rattle.acd_desk_laws.proofs.answers_by_place.Goals as goal

pub returns : goal.returns
returns c = reply_by_place
