use Rattle.std.proofs.Common.{ℕ, Option, rules}
use Rattle.acd_program.specs.declared.cut.Mark.{Mark}
use Rattle.acd_program.proofs.Archives.ReadsOn.{fault_on, left_alone, read_on, read_so}
use Rattle.acd_program.proofs.cut.last_before.Goals as goal

pub loop-init : goal.loop-init
loop-init g c = left_alone (g.B.Book.state c.args.book.now)

pub loop-preserved : goal.loop-preserved
loop-preserved g c =
    read_on {A = Unit {0}} {B = Option Mark} {C = Unit {0}} (g.B.Book.state c.args.book.now) (g.B.Book.state c.loop.book) (g.B.Book.state c.next.new.book) tt c.in_ok-mark.mark tt c.loop.invariant c.in_ok-mark.ensures

pub returns-in_err-mark : goal.returns-in_err-mark
returns-in_err-mark g c =
    fault_on {A = Unit {0}} {B = Option Mark} {C = ℕ} (g.B.Book.state c.args.book.now) (g.B.Book.state c.loop.book) (g.B.Book.state c.next.new.book) tt c.in_err-mark.field-0.0 c.from_residual.result c.loop.invariant c.in_err-mark.ensures (search rules)

pub returns : goal.returns
returns g c = read_so {A = Unit {0}} {C = ℕ} (g.B.Book.state c.args.book.now) (g.B.Book.state c.loop.book) tt c.loop.low c.loop.invariant
