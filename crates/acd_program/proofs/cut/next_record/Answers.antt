use Rattle.std.proofs.Common.{Option, rules}
use Rattle.acd_program.specs.declared.cut.Mark.{Mark}
use Rattle.acd_program.proofs.Archives.ReadsOn.{fault_any, read_any}
use Rattle.acd_program.proofs.cut.next_record.Goals as goal

pub returns : goal.returns
returns g c = read_any {C = Option Mark} (g.B.Book.state c.args.book.now) (g.B.Book.state c.requests_after.new.self) c.in_ok-records.records c.first_record.result c.in_ok-records.ensures

pub returns-in_err-records : goal.returns-in_err-records
returns-in_err-records g c = fault_any {C = Option Mark} (g.B.Book.state c.args.book.now) (g.B.Book.state c.requests_after.new.self) c.in_err-records.field-0.0 c.from_residual.result c.in_err-records.ensures (search rules)
