use Rattle.acd_desk.specs.Desks.DeskCalls.{state_of}
use Rattle.acd_lines.proofs.RunsInTurn.{run_in_turn}
use Rattle.acd_lines.proofs.laws.requests_run.Goals as goal

pub returns : goal.returns
returns g c = run_in_turn (state_of g.B.Book) (λ d x clean sound opened stop. g.met.B.Book.settled d.book x clean sound opened stop)
