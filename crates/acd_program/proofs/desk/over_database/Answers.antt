use Rattle.std.proofs.Common.{inl, refl, sym, subst, MatchResult}
use Rattle.sqlite.specs.Held.{state}
use Rattle.acd_book.specs.State.{BookState}
use Rattle.acd_sqlbook.specs.Caches.{followed}
use Rattle.acd_sqlbook.specs.State.{book_state}
use Rattle.acd_program.specs.Commands.Ended.{WorkStopped}
use Rattle.acd_program.specs.Commands.AuditFindings.{IsFindingOf}
use Rattle.acd_sessions.specs.Over.{OverConnection, Unserved}
use Rattle.acd_program.specs.Commands.Work.{WorkDone}
use Rattle.acd_program.proofs.Commands.Ended.{stopped_in}
use Rattle.acd_files.proofs.Ends.{match_so}
use Rattle.acd_sessions.proofs.BooksOfConnections.{unserved_asked}
use Rattle.acd_program.proofs.Commands.Works.{database_done}
use Rattle.acd_program.proofs.desk.over_database.Goals as goal

pub returns-in-Err-clause-result : goal.returns-in-Err-clause-result
returns-in-Err-clause-result g c = inl (c.in-Err.ensures.unserved, refl)

pub returns-clause-result : goal.returns-clause-result
returns-clause-result g c =
    let a : _ = g.W.Write.contents c.args.writer.now in
    let b : _ = g.W.Write.contents c.over_book-done.new.writer in
    let done : _ = c.over_book-done.result.0 in
    let last : _ = c.over_book-done.result.1 in
    let s : _ = state g.S.Store c.args.conn in
    let mid : BookState = followed c.in-Ok.book.cache (book_state (state g.S.Store c.in-Ok.book.conn) c.in-Ok.book.failures) in
    subst (λ (x : _). MatchResult done (λ (left : _). OverConnection (λ (old new : BookState). WorkDone IsFindingOf c.args.work old a b left new) c.args.makes s (state g.S.Store x))
    (λ (fault : _). WorkStopped c.args.work c.args.makes s (state g.S.Store x) a b)) (sym c.into_connection.ensures.same)
    (match_so done _ _ _ _ (λ left h. database_done c.args.work c.args.makes s (state g.S.Store last.conn) mid last.cache last.failures a b left c.in-Ok.ensures.taken h)
    (λ fault h. stopped_in c.args.work c.args.makes s (state g.S.Store last.conn) mid last.cache last.failures a b (g.met.S.Store.settled c.args.conn.store) c.in-Ok.ensures.taken h)
    c.over_book-done.ensures.result)

pub returns-in-Err-clause-kept : goal.returns-in-Err-clause-kept
returns-in-Err-clause-kept g c = λ reads. c.in-Err.ensures.unserved

pub returns-clause-kept : goal.returns-clause-kept
returns-clause-kept g c = λ reads.
    let last : _ = c.over_book-done.result.1 in
    let mid : BookState = followed c.in-Ok.book.cache (book_state (state g.S.Store c.in-Ok.book.conn) c.in-Ok.book.failures) in
    subst (λ (x : _). Unserved c.args.makes (state g.S.Store c.args.conn) (state g.S.Store x)) (sym c.into_connection.ensures.same)
    (unserved_asked c.args.makes (state g.S.Store c.args.conn) (state g.S.Store last.conn) mid last.cache last.failures (g.met.S.Store.settled c.args.conn.store) c.in-Ok.ensures.taken (c.over_book-done.ensures.kept reads))
