use Rattle.std.proofs.Common.{rules, inr, refl}
use Rattle.sqlite.specs.Files.{file_state}
use Rattle.sqlite_std_file.specs.File.{IsFresh}
use Rattle.acd_files.proofs.Ends.{match_err, match_from, match_is_err, match_is_ok}
use Rattle.acd_program.proofs.Archives.Prunes.{left_done, prune_printed, prune_stopped}
use Rattle.acd_program.proofs.running.prune_file.Goals as goal

pub returns-in_err-ending : goal.returns-in_err-ending
returns-in_err-ending g c = match_from c.from_residual.result _ _ _ c.from_residual.ensures.1 (refl, tt)

pub returns-in_err-conn : goal.returns-in_err-conn
returns-in_err-conn g c = match_from c.from_residual-in_err-conn.result _ _ _ c.from_residual-in_err-conn.ensures.1 (refl, c.in_err-conn.ensures.left)

pub returns-in_err-pruning : goal.returns-in_err-pruning
returns-in_err-pruning g c =
    match_err c.from_residual-in_err-pruning.result c.in_err-pruning.field-0.0 _ _ (search (rules, c.from_residual-in_err-pruning.ensures))
    (prune_stopped _ IsFresh c.in_err-pruning.field-0.0 c.args.quiet c.in_ok-conn.conn c.prune_over-conn.result.1 _ _ _ c.in_ok-conn.ensures.opened c.close_connection-closed.ensures.shut
    (match_is_err c.prune_over-conn.result.0 c.in_err-pruning.field-0.0 _ _ c.in_err-pruning.was c.prune_over-conn.ensures) refl)

pub returns-in-Ok : goal.returns-in-Ok
returns-in-Ok g c =
    let done = match_is_ok c.prune_over-conn.result.0 c.in_ok-pruning.pruning _ _ c.in_ok-pruning.was c.prune_over-conn.ensures in
    prune_printed _ IsFresh c.args.quiet c.in_ok-ending.ending c.in_ok-pruning.pruning c.in_ok-conn.conn c.prune_over-conn.result.1
    (g.W.Write.contents c.args.writer.now) (g.W.Write.contents c.print_done.new.writer) c.in_ok-conn.ensures.opened c.in_ok-ending.ensures done c.in-Ok.status c.close_connection-closed.result
    c.close_connection-closed.ensures.laid c.in-Ok.ensures

pub returns : goal.returns
returns g c =
    let done = match_is_ok c.prune_over-conn.result.0 c.in_ok-pruning.pruning _ _ c.in_ok-pruning.was c.prune_over-conn.ensures in
    let last = c.prune_over-conn.result.1 in
    let left = left_done _ IsFresh c.in_ok-ending.ending c.in_ok-pruning.pruning (file_state c.in_ok-conn.conn) (file_state last) done in (
      c.in_ok-conn.conn,
      c.in_ok-conn.ensures.opened,
      (
        record { last = last; shut = c.close_connection-closed.ensures.shut; kept = inr left },
        inr (record { pruning = c.in_ok-pruning.pruning; ending = c.in_ok-ending.ending; read = c.in_ok-ending.ensures; done = done; printed = c.in-Err.ensures }),
      ),
    )
