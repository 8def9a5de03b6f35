use Rattle.std.proofs.Common.{false, ap, sym, subst}
use Rattle.sqlite.specs.Held.{state}
use Rattle.sqlite_std_file.specs.File.{IsFresh}
use Rattle.acd_sqlbook.specs.Caches.{followed}
use Rattle.acd_sqlbook.specs.State.{book_state}
use Rattle.acd_sessions.specs.Over.{Unserved}
use Rattle.acd_program.proofs.Archives.AuditsWithArchive.{audited_in}
use Rattle.acd_sessions.proofs.BooksOfConnections.{unserved_asked}
use Rattle.acd_program.proofs.with_archive.over_archive.Goals as goal

pub returns-clause-over : goal.returns-clause-over
returns-clause-over g c =
    let last : _ = c.audit_with_archive-done.result.1 in
    let mid : _ = followed c.in-Ok.book.cache (book_state (state g.C.Store c.in-Ok.book.conn) c.in-Ok.book.failures) in
    audited_in _ IsFresh c.audit_with_archive-done.result.0 c.args.counts c.args.ending (state g.C.Store c.args.conn) (state g.C.Store last.conn)
    (state g.C.Store c.into_connection.result) mid last.cache last.failures c.in-Ok.ensures.taken c.audit_with_archive-done.ensures.over
    (ap (λ (x : _). state g.C.Store x) (sym c.into_connection.ensures.same))

pub returns-in-Err-clause-kept : goal.returns-in-Err-clause-kept
returns-in-Err-clause-kept g c = c.in-Err.ensures.unserved

pub returns-clause-kept : goal.returns-clause-kept
returns-clause-kept g c =
    let last : _ = c.audit_with_archive-done.result.1 in
    let mid : _ = followed c.in-Ok.book.cache (book_state (state g.C.Store c.in-Ok.book.conn) c.in-Ok.book.failures) in
    subst (λ (x : _). Unserved false (state g.C.Store c.args.conn) (state g.C.Store x)) (sym c.into_connection.ensures.same)
    (unserved_asked false (state g.C.Store c.args.conn) (state g.C.Store last.conn) mid last.cache last.failures
    (g.met.C.Store.settled c.args.conn.store) c.in-Ok.ensures.taken c.audit_with_archive-done.ensures.kept)
