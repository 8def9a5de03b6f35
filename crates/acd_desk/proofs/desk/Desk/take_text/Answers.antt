use Rattle.acd_desk.specs.Contents.Arrivals.{arrival_at}
use Rattle.acd_desk.specs.Desks.DeskState.{state_of}
use Rattle.acd_desk.proofs.Desks.CallsInTurn.{says_of}
use Rattle.acd_desk.proofs.desk.Desk.take_text.Goals as goal

pub returns : goal.returns
returns g c =
    says_of (state_of g.B.Book c.args.self.now) (state_of g.B.Book c.take-taken.new.self) (arrival_at c.args.moment c.args.request.now) c.take-taken.result _
    (λ x clean sound opened stop. g.met.B.Book.settled c.args.self.now.book x clean sound opened stop)
    (λ x clean sound opened stop. g.met.B.Book.settled c.take-taken.new.self.book x clean sound opened stop)
    c.take-taken.ensures.took c.take-taken.ensures.ran c.text_of.ensures
