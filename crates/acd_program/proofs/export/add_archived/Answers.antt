use Rattle.std.proofs.Common.{false, sym, subst}
use Rattle.sqlite.specs.Held.{state}
use Rattle.acd_sqlbook.specs.Caches.{followed}
use Rattle.acd_sqlbook.specs.State.{book_state}
use Rattle.acd_program.specs.Archives.ArchiveExport.{IsAdded}
use Rattle.acd_sessions.specs.Over.{OverConnection, Unserved}
use Rattle.acd_program.proofs.Archives.AuditsWithArchive.{unserved_untouched}
use Rattle.acd_program.proofs.Archives.Exports.{added_over, table_read}
use Rattle.acd_sessions.proofs.BooksOfConnections.{unserved_asked}
use Rattle.acd_program.proofs.export.add_archived.Goals as goal

pub returns-in-Err-clause-spared : goal.returns-in-Err-clause-spared
returns-in-Err-clause-spared g c = unserved_untouched (state g.S.Store c.args.conn) (state g.S.Store c.in-Err.conn) c.in-Err.ensures.refused

pub returns-in-Ok-add_events-clause-added : goal.returns-in-Ok-add_events-clause-added
returns-in-Ok-add_events-clause-added g c =
    let last : _ = c.add_events.new.book in
    let mid : _ = followed c.in-Ok.book.cache (book_state (state g.S.Store c.in-Ok.book.conn) c.in-Ok.book.failures) in
    subst (λ (x : _). OverConnection (IsAdded c.args.table.now c.add_events.new.table) false (state g.S.Store c.args.conn) (state g.S.Store x)) (sym c.into_connection.ensures.same)
    (added_over c.args.table.now c.add_events.new.table (state g.S.Store c.args.conn) (state g.S.Store last.conn) mid last.cache last.failures c.in-Ok.ensures.taken c.in-Ok-add_events.ensures)

pub returns-in-Ok-add_events-clause-spared : goal.returns-in-Ok-add_events-clause-spared
returns-in-Ok-add_events-clause-spared g c =
    let last : _ = c.add_events.new.book in
    let mid : _ = followed c.in-Ok.book.cache (book_state (state g.S.Store c.in-Ok.book.conn) c.in-Ok.book.failures) in
    subst (λ (x : _). Unserved false (state g.S.Store c.args.conn) (state g.S.Store x)) (sym c.into_connection.ensures.same)
    (unserved_asked false (state g.S.Store c.args.conn) (state g.S.Store last.conn) mid last.cache last.failures (g.met.S.Store.settled c.args.conn.store) c.in-Ok.ensures.taken
    (table_read mid _ _ c.in-Ok-add_events.ensures))

pub returns-in-Err-add_events-clause-spared : goal.returns-in-Err-add_events-clause-spared
returns-in-Err-add_events-clause-spared g c =
    let last : _ = c.add_events.new.book in
    let mid : _ = followed c.in-Ok.book.cache (book_state (state g.S.Store c.in-Ok.book.conn) c.in-Ok.book.failures) in
    subst (λ (x : _). Unserved false (state g.S.Store c.args.conn) (state g.S.Store x)) (sym c.into_connection-in-Err-add_events.ensures.same)
    (unserved_asked false (state g.S.Store c.args.conn) (state g.S.Store last.conn) mid last.cache last.failures (g.met.S.Store.settled c.args.conn.store) c.in-Ok.ensures.taken
    (table_read mid _ _ c.in-Err-add_events.ensures))
