use Rattle.acd_http.proofs.AskLaws.{by_a_beginning}
use Rattle.acd_http.proofs.laws.asks_by_a_beginning.Goals as goal

pub returns : goal.returns
returns c = by_a_beginning
