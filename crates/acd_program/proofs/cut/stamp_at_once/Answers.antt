use Rattle.std.proofs.Common.{ℕ, Option, rules}
use Rattle.acd_program.specs.declared.cut.Mark.{Mark}
use Rattle.acd_program.proofs.Archives.ReadsOn.{fault_first, fault_on, read_so, read_with}
use Rattle.acd_program.proofs.cut.stamp_at_once.Goals as goal

pub returns-in_err-first : goal.returns-in_err-first
returns-in_err-first g c = fault_first {A = Option Mark} {C = ℕ} (g.B.Book.state c.args.book.now) (g.B.Book.state c.next.new.book) c.in_err-first.field-0.0 c.from_residual.result c.in_err-first.ensures (search rules)

pub returns-then-stamp-most : goal.returns-then-stamp-most
returns-then-stamp-most g c = read_so {A = Option Mark} {C = ℕ} (g.B.Book.state c.args.book.now) (g.B.Book.state c.next.new.book) c.in_ok-first.first c.args.stamp c.in_ok-first.ensures

pub returns-in_err-last : goal.returns-in_err-last
returns-in_err-last g c =
    fault_on {A = Option Mark} {B = Option Mark} {C = ℕ} (g.B.Book.state c.args.book.now) (g.B.Book.state c.next.new.book) (g.B.Book.state c.next-2.new.book) c.in_ok-first.first c.in_err-last.field-0.0 c.from_residual-in_err-last.result
    c.in_ok-first.ensures c.in_err-last.ensures (search rules)

pub returns : goal.returns
returns g c =
    let a : _ = g.B.Book.state c.args.book.now in
    let b : _ = g.B.Book.state c.next.new.book in
    let d : _ = g.B.Book.state c.next-2.new.book in
    read_with {A = Option Mark} {C = ℕ} a d (g.B.Book.state c.last_before.new.book) c.in_ok-last.last c.last_before.result
    (read_with {A = Option Mark} {C = Option Mark} a b d c.in_ok-first.first _ c.in_ok-first.ensures c.in_ok-last.ensures) c.last_before.ensures
