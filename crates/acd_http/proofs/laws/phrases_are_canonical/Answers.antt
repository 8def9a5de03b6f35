use Rattle.std.proofs.Common.{refl}
use Rattle.acd_http.specs.ReplyBytes.{phrase_of}
use Rattle.acd_http.proofs.laws.phrases_are_canonical.Goals as goal

pub returns : goal.returns
unfolding phrase_of
returns c = refl
