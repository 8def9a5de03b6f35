use Rattle.std.proofs.Common.{false, ap, ◌∙◌}
use Rattle.acd_http.specs.Exchange.{json_reply}
use Rattle.acd_http.proofs.answer.arrival.Goals as goal

pub returns : goal.returns
returns g c = let taken = c.take_text.ensures in (taken.answer, c.in_json.ensures false ∙ ap (json_reply false) taken.says, taken.took, taken.ran)
