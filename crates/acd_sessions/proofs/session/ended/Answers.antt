use Rattle.std.proofs.Common.{Bool, ◌&&◌, Ok, sym, ap, ◌∙◌}
use Rattle.acd_desk.specs.Desks.DeskState.{state_of}
use Rattle.acd_sessions.specs.Faults.{command_result}
use Rattle.acd_sessions.proofs.session.ended.Goals as goal

pub returns-then-ends : goal.returns-then-ends
returns-then-ends g c = c.unless_failed.ensures.ended ∙ ap (λ (b : Bool). command_result (Ok tt) (b && (state_of g.B.Book c.args.desk.now).failed)) (sym c.if-ends.true)

pub returns : goal.returns
returns g c = ap (λ (b : Bool). command_result (Ok tt) (b && (state_of g.B.Book c.args.desk.now).failed)) (sym c.if-ends.false)
