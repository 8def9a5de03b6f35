use Rattle.std.proofs.Common.{sym, subst}
use Rattle.acd_desk.specs.Desks.DeskState.{state_of}
use Rattle.acd_desk.specs.Desks.DeskCalls.{IsStoreFault}
use Rattle.acd_desk.specs.Desks.Session.{Session}
use Rattle.acd_desk.proofs.Desks.Sessions.{session_ran}
use Rattle.acd_desk.proofs.desk.Desk.session.Goals as goal

pub returns-in-Ok-run-clause-ran : goal.returns-in-Ok-run-clause-ran
returns-in-Ok-run-clause-ran g c =
    subst (λ (b : _). Session IsStoreFault (g.B.Book.state c.args.book) c.args.arrivals.now c.in-Ok-run.answers.items (g.B.Book.state b)) (sym c.close.ensures)
    (session_ran IsStoreFault (g.B.Book.state c.args.book) (state_of g.B.Book c.in-Ok.desk) (state_of g.B.Book c.run.new.self) c.args.arrivals.now c.in-Ok-run.answers.items
    c.in-Ok.ensures c.in-Ok-run.ensures.ran c.in-Ok-run.ensures.later)
