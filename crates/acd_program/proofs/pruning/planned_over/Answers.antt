use Rattle.std.proofs.Common.{false, sym, subst}
use Rattle.sqlite.specs.Held.{state}
use Rattle.acd_sqlbook.specs.Caches.{followed}
use Rattle.acd_sqlbook.specs.State.{book_state}
use Rattle.acd_sessions.specs.Over.{database, Unserved}
use Rattle.acd_program.specs.Archives.Pruning.{IsPruningInOrder, PlansOver}
use Rattle.acd_desk.specs.Audits.Pairs.{book_call}
use Rattle.acd_sessions.proofs.Asking.{only_left}
use Rattle.acd_program.proofs.Archives.AuditsWithArchive.{unserved_untouched}
use Rattle.acd_program.proofs.Archives.Prunes.{only_ended, plans_over}
use Rattle.acd_sessions.proofs.BooksOfConnections.{unserved_asked}
use Rattle.acd_program.proofs.pruning.planned_over.Goals as goal

pub returns-in-Err-clause-spared : goal.returns-in-Err-clause-spared
returns-in-Err-clause-spared g c = unserved_untouched (state g.S.Store c.args.conn) (state g.S.Store c.in-Err.conn) c.in-Err.ensures.refused

pub returns-in-Err-clause-kept : goal.returns-in-Err-clause-kept
returns-in-Err-clause-kept g c = only_left (g.B.Book.state c.args.book)

pub returns-clause-asked : goal.returns-clause-asked
returns-clause-asked g c =
    let last : _ = c.planned-planned.new.archive in
    let mid : _ = followed c.in-Ok.archive.cache (book_state (state g.S.Store c.in-Ok.archive.conn) c.in-Ok.archive.failures) in
    subst (λ (x : _). PlansOver (database g.S.Store false c.args.conn) c.args.ending g.B.Book c.args.book (c.planned-planned.result, x)) (sym c.into_connection.ensures.same)
    (plans_over c.args.ending (book_call g.B.Book.state c.args.book c.planned-planned.result.1) c.planned-planned.result.0 (state g.S.Store c.args.conn) (state g.S.Store last.conn) mid last.cache last.failures
    c.in-Ok.ensures.taken c.planned-planned.ensures)

pub returns-clause-spared : goal.returns-clause-spared
returns-clause-spared g c =
    let last : _ = c.planned-planned.new.archive in
    let mid : _ = followed c.in-Ok.archive.cache (book_state (state g.S.Store c.in-Ok.archive.conn) c.in-Ok.archive.failures) in
    subst (λ (x : _). Unserved false (state g.S.Store c.args.conn) (state g.S.Store x)) (sym c.into_connection.ensures.same)
    (unserved_asked false (state g.S.Store c.args.conn) (state g.S.Store last.conn) mid last.cache last.failures (g.met.S.Store.settled c.args.conn.store) c.in-Ok.ensures.taken
    (only_ended (IsPruningInOrder c.args.ending) c.planned-planned.result.0 mid _ (g.B.Book.state c.args.book) (g.B.Book.state c.planned-planned.result.1) c.planned-planned.ensures).0)

pub returns-clause-kept : goal.returns-clause-kept
returns-clause-kept g c =
    (only_ended (IsPruningInOrder c.args.ending) c.planned-planned.result.0 _ _ (g.B.Book.state c.args.book) (g.B.Book.state c.planned-planned.result.1) c.planned-planned.ensures).1
