use Rattle.std.proofs.Common.{sym, subst}
use Rattle.acd_desk.specs.Contents.Arrivals.{arrival_at}
use Rattle.acd_desk.specs.Desks.DeskState.{state_of, holding}
use Rattle.acd_desk.specs.Desks.DeskCalls.{Took}
use Rattle.acd_desk.proofs.Desks.Calls.{also_new, again_new}
use Rattle.acd_desk.proofs.Pages.ReadsDone.{took_nothing}
use Rattle.acd_desk.proofs.desk.Desk.execute.Goals as goal

pub returns-in-Err : goal.returns-in-Err
returns-in-Err g c =
    also_new (state_of g.B.Book c.args.self.now) (state_of g.B.Book c.switch_out.new.self) c.args.request.now (arrival_at c.args.moment c.args.request.now) c.from.result
    (subst (λ t. Took (state_of g.B.Book c.args.self.now) (arrival_at c.args.moment c.args.request.now) t (state_of g.B.Book c.switch_out.new.self)) (sym c.from.ensures)
    (took_nothing (state_of g.B.Book c.args.self.now) (state_of g.B.Book c.switch_out.new.self) (arrival_at c.args.moment c.args.request.now) c.in-Err.fault c.in-Err.ensures.loaded))

pub returns-in-Ok : goal.returns-in-Ok
returns-in-Ok g c =
    again_new (state_of g.B.Book c.args.self.now) (holding (state_of g.B.Book c.switch_out.new.self) c.in-Ok.loaded.switch.value) (state_of g.B.Book c.execute_on.new.self) c.args.request.now
    (arrival_at c.args.moment c.args.request.now) c.execute_on.result c.in-Ok.ensures.loaded c.execute_on.ensures
