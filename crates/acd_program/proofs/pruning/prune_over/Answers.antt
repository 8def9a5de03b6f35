use Rattle.std.proofs.Common.{Err, false, ap, inl, sym}
use Rattle.sqlite.specs.Held.{state}
use Rattle.sqlite_std_file.specs.File.{IsFresh}
use Rattle.acd_sqlbook.specs.Caches.{followed}
use Rattle.acd_sqlbook.specs.State.{book_state}
use Rattle.acd_files.proofs.Ends.{if_is_err, if_is_ok}
use Rattle.acd_program.proofs.Archives.Prunes.{left_in, pruned_in, unpruned_in}
use Rattle.acd_sessions.proofs.BooksOfConnections.{unserved_asked}
use Rattle.acd_program.proofs.pruning.prune_over.Goals as goal

pub returns-in-Err : goal.returns-in-Err
returns-in-Err g c = inl c.in-Err.ensures.unserved

pub returns-in-Err-planned : goal.returns-in-Err-planned
returns-in-Err-planned g c =
    let last : _ = c.planned_with_archive-book.result.1 in
    let mid : _ = followed c.in-Ok.book.cache (book_state (state g.C.Store c.in-Ok.book.conn) c.in-Ok.book.failures) in
    unpruned_in _ IsFresh (state g.C.Store c.args.conn) (state g.C.Store last.conn) (state g.C.Store c.into_connection.result) (ap (λ (x : _). state g.C.Store x) (sym c.into_connection.ensures.same)) c.in-Err-planned.fault
    (unserved_asked false (state g.C.Store c.args.conn) (state g.C.Store last.conn) mid last.cache last.failures (g.met.C.Store.settled c.args.conn.store) c.in-Ok.ensures.taken c.planned_with_archive-book.ensures.kept)
    (if_is_err c.planned_with_archive-book.result.0 c.in-Err-planned.fault _ c.in-Err-planned.is c.planned_with_archive-book.ensures.left)

pub returns-in-Ok-carry_out : goal.returns-in-Ok-carry_out
returns-in-Ok-carry_out g c =
    let book : _ = c.planned_with_archive-book.result.1 in
    let last : _ = c.carry_out.new.book in
    let mid : _ = followed c.in-Ok.book.cache (book_state (state g.C.Store c.in-Ok.book.conn) c.in-Ok.book.failures) in
    let m : _ = followed book.cache (book_state (state g.C.Store book.conn) book.failures) in
    pruned_in _ IsFresh (state g.C.Store c.args.conn) (state g.C.Store last.conn) (state g.C.Store c.into_connection-in-Ok-carry_out.result)
    (ap (λ (x : _). state g.C.Store x) (sym c.into_connection-in-Ok-carry_out.ensures.same)) c.args.ending c.in-Ok-planned.pruning mid m last.cache last.failures c.in-Ok.ensures.taken
    (if_is_ok c.planned_with_archive-book.result.0 c.in-Ok-planned.pruning _ c.in-Ok-planned.is c.planned_with_archive-book.ensures.asked) c.in-Ok-carry_out.ensures

pub returns-in-Err-carry_out : goal.returns-in-Err-carry_out
returns-in-Err-carry_out g c =
    let book : _ = c.planned_with_archive-book.result.1 in
    let last : _ = c.carry_out.new.book in
    let mid : _ = followed c.in-Ok.book.cache (book_state (state g.C.Store c.in-Ok.book.conn) c.in-Ok.book.failures) in
    let m : _ = followed book.cache (book_state (state g.C.Store book.conn) book.failures) in
    left_in _ IsFresh (state g.C.Store c.args.conn) (state g.C.Store last.conn) (state g.C.Store c.into_connection-in-Err-carry_out.result)
    (ap (λ (x : _). state g.C.Store x) (sym c.into_connection-in-Err-carry_out.ensures.same)) c.args.ending c.in-Ok-planned.pruning (Err c.in-Err-carry_out.fault) mid m last.cache last.failures c.in-Ok.ensures.taken
    (if_is_ok c.planned_with_archive-book.result.0 c.in-Ok-planned.pruning _ c.in-Ok-planned.is c.planned_with_archive-book.ensures.asked) c.in-Err-carry_out.ensures
