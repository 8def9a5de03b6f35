use Rattle.std.proofs.Common.{sym, subst, ◌∙◌}
use Rattle.acd_desk.specs.Contents.Arrivals.{arrival_at}
use Rattle.acd_desk.specs.Desks.DeskState.{state_of}
use Rattle.acd_desk.specs.Desks.Clock.{Ticked}
use Rattle.acd_desk.specs.Desks.DeskCalls.{Took}
use Rattle.acd_desk.proofs.Desks.ClockTicks.{none_due, ticked, not_ticked}
use Rattle.acd_desk.proofs.desk.Desk.tick_if_due.Goals as goal

pub returns-in-Err : goal.returns-in-Err
returns-in-Err g c =
    subst (λ t. Ticked c.args.moment (state_of g.B.Book c.args.self.now) t (state_of g.B.Book c.bring_switch.new.self)) (sym c.from.ensures)
    (not_ticked c.args.moment (state_of g.B.Book c.args.self.now) (state_of g.B.Book c.bring_switch.new.self) c.in-Err.fault c.in-Err.ensures)

pub returns-then-is_due : goal.returns-then-is_due
returns-then-is_due g c =
    ticked c.args.moment (state_of g.B.Book c.args.self.now) (state_of g.B.Book c.bring_switch.new.self) (state_of g.B.Book c.take.new.self) c.take.result c.in_default.ensures (sym c.is_due.ensures ∙ c.if-is_due.true)
    (subst (λ r. Took (state_of g.B.Book c.bring_switch.new.self) (arrival_at c.args.moment r) c.take.result (state_of g.B.Book c.take.new.self)) c.clock_tick.ensures c.take.ensures.took)

pub returns-else-is_due : goal.returns-else-is_due
returns-else-is_due g c =
    none_due c.args.moment (state_of g.B.Book c.args.self.now) (state_of g.B.Book c.bring_switch.new.self) c.in_default.ensures (sym c.is_due.ensures ∙ c.if-is_due.false)
