use Rattle.std.proofs.Common.{Option, rules}
use Rattle.acd_program.specs.declared.cut.Mark.{Mark}
use Rattle.acd_program.proofs.Archives.ReadsOn.{fault_any, read_any}
use Rattle.acd_program.proofs.cut.next_event.Goals as goal

pub returns : goal.returns
returns g c = read_any {C = Option Mark} (g.B.Book.state c.args.book.now) (g.B.Book.state c.events_after.new.self) c.in_ok-events.events c.first_event.result c.in_ok-events.ensures

pub returns-in_err-events : goal.returns-in_err-events
returns-in_err-events g c = fault_any {C = Option Mark} (g.B.Book.state c.args.book.now) (g.B.Book.state c.events_after.new.self) c.in_err-events.field-0.0 c.from_residual.result c.in_err-events.ensures (search rules)
