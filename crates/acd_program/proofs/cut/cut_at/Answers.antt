use Rattle.std.proofs.Common.{ℕ, rules}
use Rattle.acd_program.specs.declared.outcome.Cut.{Cut}
use Rattle.acd_program.proofs.Archives.ReadsOn.{fault_first, fault_on, read_on}
use Rattle.acd_program.proofs.cut.cut_at.Goals as goal

pub returns-in_err-at_once : goal.returns-in_err-at_once
returns-in_err-at_once g c = fault_first {A = ℕ} {C = Cut} (g.B.Book.state c.args.book.now) (g.B.Book.state c.stamp_at_once.new.book) c.in_err-at_once.field-0.0 c.from_residual.result c.in_err-at_once.ensures (search rules)

pub returns-in_err-number : goal.returns-in_err-number
returns-in_err-number g c =
    fault_on {A = ℕ} {B = ℕ} {C = Cut} (g.B.Book.state c.args.book.now) (g.B.Book.state c.stamp_at_once.new.book) (g.B.Book.state c.number_of.new.book) c.in_ok-at_once.at_once c.in_err-number.field-0.0 c.from_residual-in_err-number.result
    c.in_ok-at_once.ensures c.in_err-number.ensures (search rules)

pub returns : goal.returns
returns g c =
    read_on {A = ℕ} {B = ℕ} {C = Cut} (g.B.Book.state c.args.book.now) (g.B.Book.state c.stamp_at_once.new.book) (g.B.Book.state c.number_of.new.book) c.in_ok-at_once.at_once c.in_ok-number.number _
    c.in_ok-at_once.ensures c.in_ok-number.ensures
