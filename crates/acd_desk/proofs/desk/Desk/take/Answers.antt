use Rattle.acd_desk.specs.Contents.Arrivals.{arrival_at}
use Rattle.acd_desk.specs.Desks.DeskState.{state_of}
use Rattle.acd_desk.proofs.Desks.CallsInTurn.{ran_one}
use Rattle.acd_desk.proofs.desk.Desk.take.Goals as goal

pub returns-clause-ran : goal.returns-clause-ran
returns-clause-ran g c =
    ran_one (state_of g.B.Book c.args.self.now) (state_of g.B.Book c.answer.new.self) (arrival_at c.args.moment c.args.request.now) c.answer.result
    (λ x clean sound opened stop. g.met.B.Book.settled c.args.self.now.book x clean sound opened stop)
    (λ x clean sound opened stop. g.met.B.Book.settled c.answer.new.self.book x clean sound opened stop)
    c.answer.ensures.took
