use Rattle.std.proofs.Common.{ℕ, Option, rules}
use Rattle.acd_program.specs.declared.cut.Mark.{Mark}
use Rattle.acd_program.proofs.Archives.ReadsOn.{fault_first, read_with}
use Rattle.acd_program.proofs.cut.number_of.Goals as goal

pub returns-in_err-kept : goal.returns-in_err-kept
returns-in_err-kept g c = fault_first {A = Option Mark} {C = ℕ} (g.B.Book.state c.args.book.now) (g.B.Book.state c.next.new.book) c.in_err-kept.field-0.0 c.from_residual.result c.in_err-kept.ensures (search rules)

pub returns : goal.returns
returns g c = read_with {A = Option Mark} {C = ℕ} (g.B.Book.state c.args.book.now) (g.B.Book.state c.next.new.book) (g.B.Book.state c.last_before.new.book) c.in_ok-kept.kept c.last_before.result c.in_ok-kept.ensures c.last_before.ensures
