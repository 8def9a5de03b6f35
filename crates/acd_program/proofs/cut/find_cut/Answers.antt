use Rattle.std.proofs.Common.{ℕ, Option, rules}
use Rattle.acd_program.specs.declared.outcome.Cut.{Cut}
use Rattle.acd_program.proofs.Archives.ReadsOn.{fault_any, fault_on, read_any, read_on}
use Rattle.acd_terms.specs.declared.rows.Rows.{Rows}
use Rattle.acd_program.proofs.cut.find_cut.Goals as goal

pub returns-in_err-rows : goal.returns-in_err-rows
returns-in_err-rows g c = fault_any {A = Rows} {C = Option Cut} (g.B.Book.state c.args.book.now) (g.B.Book.state c.rows.new.self) c.in_err-rows.field-0.0 c.from_residual.result c.in_err-rows.ensures (search rules)

pub returns-in_err-stamp : goal.returns-in_err-stamp
returns-in_err-stamp g c =
    let a : _ = g.B.Book.state c.args.book.now in
    let b : _ = g.B.Book.state c.rows.new.self in
    fault_on {A = Unit {0}} {B = ℕ} {C = Option Cut} a b (g.B.Book.state c.stamp_before.new.book) tt c.in_err-stamp.field-0.0 c.from_residual-in_err-stamp.result (read_any {A = Rows} {C = Unit {0}} a b c.in_ok-rows.rows tt c.in_ok-rows.ensures)
    c.in_err-stamp.ensures (search rules)

pub returns-then-stamp-eq0 : goal.returns-then-stamp-eq0
returns-then-stamp-eq0 g c =
    let a : _ = g.B.Book.state c.args.book.now in
    let b : _ = g.B.Book.state c.rows.new.self in
    read_on {A = Unit {0}} {B = ℕ} {C = Option Cut} a b (g.B.Book.state c.stamp_before.new.book) tt c.in_ok-stamp.stamp _ (read_any {A = Rows} {C = Unit {0}} a b c.in_ok-rows.rows tt c.in_ok-rows.ensures) c.in_ok-stamp.ensures

pub returns-in_err-cut : goal.returns-in_err-cut
returns-in_err-cut g c =
    let a : _ = g.B.Book.state c.args.book.now in
    let b : _ = g.B.Book.state c.rows.new.self in
    let d : _ = g.B.Book.state c.stamp_before.new.book in
    fault_on {A = Unit {0}} {B = Cut} {C = Option Cut} a d (g.B.Book.state c.cut_at.new.book) tt c.in_err-cut.field-0.0 c.from_residual-in_err-cut.result
    (read_on {A = Unit {0}} {B = ℕ} {C = Unit {0}} a b d tt c.in_ok-stamp.stamp tt (read_any {A = Rows} {C = Unit {0}} a b c.in_ok-rows.rows tt c.in_ok-rows.ensures) c.in_ok-stamp.ensures) c.in_err-cut.ensures (search rules)

pub returns : goal.returns
returns g c =
    let a : _ = g.B.Book.state c.args.book.now in
    let b : _ = g.B.Book.state c.rows.new.self in
    let d : _ = g.B.Book.state c.stamp_before.new.book in
    read_on {A = Unit {0}} {B = Cut} {C = Option Cut} a d (g.B.Book.state c.cut_at.new.book) tt c.in_ok-cut.cut _
    (read_on {A = Unit {0}} {B = ℕ} {C = Unit {0}} a b d tt c.in_ok-stamp.stamp tt (read_any {A = Rows} {C = Unit {0}} a b c.in_ok-rows.rows tt c.in_ok-rows.ensures) c.in_ok-stamp.ensures) c.in_ok-cut.ensures
