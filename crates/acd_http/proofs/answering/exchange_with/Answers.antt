use Rattle.acd_desk.specs.Desks.DeskCalls.{state_of}
use Rattle.acd_http.proofs.Visits.{answered_by}
use Rattle.acd_http.proofs.answering.exchange_with.Goals as goal

pub returns : goal.returns
returns g c = answered_by (state_of g.B.Book) _ _ _ _ c.exchange.result c.exchange.ensures
