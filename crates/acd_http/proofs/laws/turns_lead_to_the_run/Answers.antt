use Rattle.acd_desk.specs.Desks.DeskState.{state_of}
use Rattle.acd_http.proofs.TurnRuns.{turns_lead}
use Rattle.acd_http.proofs.laws.turns_lead_to_the_run.Goals as goal

pub returns : goal.returns
returns g c = turns_lead (state_of g.B.Book) (λ (d : _). g.met.B.Book.settled d.book)
