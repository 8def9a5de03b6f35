use Rattle.std.proofs.Common.{false, sym, subst}
use Rattle.sqlite.specs.Held.{state}
use Rattle.acd_desk.specs.Desks.DeskState.{state_of}
use Rattle.acd_sqlbook.specs.Caches.{followed}
use Rattle.acd_sqlbook.specs.State.{book_state}
use Rattle.acd_sessions.specs.Over.{Unserved}
use Rattle.acd_program.specs.Archives.WithArchive.{AskedOver}
use Rattle.acd_sessions.proofs.Asking.{only_asked, only_left}
use Rattle.acd_program.proofs.Archives.AuditsWithArchive.{archive_asked, asked_over, unserved_untouched}
use Rattle.acd_sessions.proofs.BooksOfConnections.{unserved_asked}
use Rattle.acd_program.proofs.with_archive.asked_over.Goals as goal

pub returns-in-Err-clause-spared : goal.returns-in-Err-clause-spared
returns-in-Err-clause-spared g c = unserved_untouched (state g.S.Store c.args.conn) (state g.S.Store c.in-Err.conn) c.in-Err.ensures.refused

pub returns-in-Err-clause-kept : goal.returns-in-Err-clause-kept
returns-in-Err-clause-kept g c = only_left (state_of g.B.Book c.args.desk.now).book

pub returns-in-Ok-audited_with_archive-clause-asked : goal.returns-in-Ok-audited_with_archive-clause-asked
returns-in-Ok-audited_with_archive-clause-asked g c =
    let last : _ = c.audited_with_archive.new.archive in
    let mid : _ = followed c.in-Ok.book.cache (book_state (state g.S.Store c.in-Ok.book.conn) c.in-Ok.book.failures) in
    subst (λ (x : _). AskedOver (state g.S.Store c.args.conn) (state g.S.Store x) (state_of g.B.Book c.args.desk.now) (state_of g.B.Book c.audited_with_archive.new.desk) c.in-Ok-audited_with_archive.found)
    (sym c.into_connection.ensures.same)
    (asked_over c.in-Ok-audited_with_archive.found _ _ (state g.S.Store c.args.conn) (state g.S.Store last.conn) mid last.cache last.failures c.in-Ok.ensures.taken c.in-Ok-audited_with_archive.ensures.found
    c.in-Ok-audited_with_archive.ensures.read c.in-Ok-audited_with_archive.ensures.archive)

pub returns-in-Ok-audited_with_archive-clause-spared : goal.returns-in-Ok-audited_with_archive-clause-spared
returns-in-Ok-audited_with_archive-clause-spared g c =
    let last : _ = c.audited_with_archive.new.archive in
    let mid : _ = followed c.in-Ok.book.cache (book_state (state g.S.Store c.in-Ok.book.conn) c.in-Ok.book.failures) in
    subst (λ (x : _). Unserved false (state g.S.Store c.args.conn) (state g.S.Store x)) (sym c.into_connection.ensures.same)
    (unserved_asked false (state g.S.Store c.args.conn) (state g.S.Store last.conn) mid last.cache last.failures (g.met.S.Store.settled c.args.conn.store) c.in-Ok.ensures.taken
    (archive_asked mid _ _ c.in-Ok-audited_with_archive.ensures.archive))

pub returns-in-Err-audited_with_archive-clause-spared : goal.returns-in-Err-audited_with_archive-clause-spared
returns-in-Err-audited_with_archive-clause-spared g c =
    let last : _ = c.audited_with_archive.new.archive in
    let mid : _ = followed c.in-Ok.book.cache (book_state (state g.S.Store c.in-Ok.book.conn) c.in-Ok.book.failures) in
    subst (λ (x : _). Unserved false (state g.S.Store c.args.conn) (state g.S.Store x)) (sym c.into_connection-in-Err-audited_with_archive.ensures.same)
    (unserved_asked false (state g.S.Store c.args.conn) (state g.S.Store last.conn) mid last.cache last.failures (g.met.S.Store.settled c.args.conn.store) c.in-Ok.ensures.taken
    (archive_asked mid _ _ c.in-Err-audited_with_archive.ensures.archive))

pub returns-in-Ok-audited_with_archive-clause-kept : goal.returns-in-Ok-audited_with_archive-clause-kept
returns-in-Ok-audited_with_archive-clause-kept g c = only_asked (state_of g.B.Book c.args.desk.now) (state_of g.B.Book c.audited_with_archive.new.desk) _ _ c.in-Ok-audited_with_archive.ensures.read

pub returns-in-Err-audited_with_archive-clause-kept : goal.returns-in-Err-audited_with_archive-clause-kept
returns-in-Err-audited_with_archive-clause-kept g c = only_asked (state_of g.B.Book c.args.desk.now) (state_of g.B.Book c.audited_with_archive.new.desk) _ _ c.in-Err-audited_with_archive.ensures.read
