use Rattle.std.proofs.Common.{sym, subst}
use Rattle.acd_http.specs.declared.web_request.WebRequest.{WebRequest}
use Rattle.acd_http.specs.Exchange.{RepliesWith}
use Rattle.acd_http.proofs.answer.answered.Goals as goal

pub returns-in-Arrival : goal.returns-in-Arrival
returns-in-Arrival g c =
    subst (λ (a : WebRequest). RepliesWith g.B.Book (c.args.moment, a) c.args.desk.now c.arrival.result c.arrival.new.desk) (sym c.in-Arrival.is) c.arrival.ensures
