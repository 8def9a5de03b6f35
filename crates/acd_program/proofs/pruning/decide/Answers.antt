use Rattle.std.proofs.Common.{sym, ◌∙◌}
use Rattle.acd_sessions.proofs.Asking.{only_left}
use Rattle.acd_files.proofs.Ends.{match_from}
use Rattle.acd_program.proofs.Archives.Prunes.{decided_refused, decided_nothing, decided_cut}
use Rattle.acd_program.proofs.Archives.ReadsOn.{left_by, left_if, only_by, only_if, only_then}
use Rattle.acd_program.proofs.pruning.decide.Goals as goal

pub returns-then-not-goes_on : goal.returns-then-not-goes_on
returns-then-not-goes_on g c = decided_refused c.args.ending c.args.found (g.A.Book.state c.args.archive.now) (g.B.Book.state c.args.book.now) (sym c.goes_on.ensures ∙ c.if-not-goes_on.true)

pub returns-in_err-rows : goal.returns-in_err-rows
returns-in_err-rows g c =
    match_from c.from_residual.result _ _ _ c.from_residual.ensures.1
    (only_by (g.A.Book.state c.args.archive.now) (g.A.Book.state c.rows.new.self) _ c.in_err-rows.ensures, only_left (g.B.Book.state c.args.book.now))

pub returns-in_err-cut : goal.returns-in_err-cut
returns-in_err-cut g c =
    match_from c.from_residual-in_err-cut.result _ _ _ c.from_residual-in_err-cut.ensures.1
    (only_by (g.A.Book.state c.args.archive.now) (g.A.Book.state c.rows.new.self) _ c.in_ok-rows.ensures, only_if (g.B.Book.state c.args.book.now) (g.B.Book.state c.find_cut.new.book) _ c.in_err-cut.ensures)

pub returns-in_default : goal.returns-in_default
returns-in_default g c =
    decided_nothing c.args.ending c.args.found (g.A.Book.state c.args.archive.now) (g.A.Book.state c.rows.new.self) (g.B.Book.state c.args.book.now) (g.B.Book.state c.find_cut.new.book)
    c.in_ok-rows.rows c.in_ok-cut.field-0 (sym c.goes_on.ensures ∙ c.if-not-goes_on.false) c.in_ok-rows.ensures c.in_ok-cut.ensures

pub returns-in_err-holds : goal.returns-in_err-holds
returns-in_err-holds g c =
    let a : _ = g.A.Book.state c.args.archive.now in
    let m : _ = g.A.Book.state c.rows.new.self in
    let n : _ = g.A.Book.state c.is_place.new.archive in
    match_from c.from_residual-in_err-holds.result _ _ _ c.from_residual-in_err-holds.ensures.1
    (only_then a m n (only_by a m _ c.in_ok-rows.ensures) (only_by m n _ c.in_err-holds.ensures), only_if (g.B.Book.state c.args.book.now) (g.B.Book.state c.find_cut.new.book) _ c.in_ok-cut.ensures)

pub returns-then-holds : goal.returns-then-holds
returns-then-holds g c =
    let a : _ = g.A.Book.state c.args.archive.now in
    let m : _ = g.A.Book.state c.rows.new.self in
    let b : _ = g.B.Book.state c.args.book.now in
    let d : _ = g.B.Book.state c.find_cut.new.book in
    decided_cut c.args.ending c.args.found a m (g.A.Book.state c.is_place.new.archive) b d c.in-Some.cut c.in_ok-holds.holds (sym c.goes_on.ensures ∙ c.if-not-goes_on.false)
    (left_by a m c.in_ok-rows.rows c.in_ok-rows.ensures) (left_if b d c.in_ok-cut.field-0 c.in_ok-cut.ensures) c.in_ok-holds.ensures c.if-holds.true

pub returns : goal.returns
returns g c =
    let a : _ = g.A.Book.state c.args.archive.now in
    let m : _ = g.A.Book.state c.rows.new.self in
    let n : _ = g.A.Book.state c.is_place.new.archive in
    (only_then a m n (only_by a m _ c.in_ok-rows.ensures) (only_by m n _ c.in_ok-holds.ensures), only_if (g.B.Book.state c.args.book.now) (g.B.Book.state c.find_cut.new.book) _ c.in_ok-cut.ensures)
