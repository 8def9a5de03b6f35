use Rattle.acd_desk.specs.Desks.DeskState.{state_of}
use Rattle.acd_http.proofs.ConnectionRuns.{leads_to_the_run}
use Rattle.acd_http.proofs.laws.connections_lead_to_the_run.Goals as goal

pub returns : goal.returns
returns g c = leads_to_the_run (state_of g.B.Book) (λ (d : _). g.met.B.Book.settled d.book)
