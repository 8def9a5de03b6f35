use Rattle.acd_http.proofs.AskLaws.{one_thing}
use Rattle.acd_http.proofs.laws.asks_one_thing.Goals as goal

pub returns : goal.returns
returns c = one_thing
