use Rattle.std.proofs.Common.{inr, refl, length}
use Rattle.sqlite_std_file.specs.File.{IsFresh}
use Rattle.acd_files.proofs.Ends.{if_is_err, if_is_ok, match_from}
use Rattle.acd_program.proofs.Archives.Exports.{table_printed, table_stopped}
use Rattle.acd_program.proofs.running.export_with_archives.Goals as goal

pub returns-in_err-conn : goal.returns-in_err-conn
returns-in_err-conn g c = match_from c.from_residual.result _ _ _ c.from_residual.ensures.1 (refl, c.in_err-conn.ensures.left)

pub returns-in_err-table : goal.returns-in_err-table
returns-in_err-table g c =
    match_from c.from_residual-in_err-table.result c.in_err-table.field-0.0 _ _ c.from_residual-in_err-table.ensures.1
    (table_stopped _ IsFresh c.in_err-table.field-0.0 (length c.args.archives.now) c.in_ok-conn.conn c.table_over-made.result.1 _ _ _ c.in_ok-conn.ensures.opened c.close_connection-closed.ensures.shut
    c.table_over-made.ensures.kept refl (if_is_err c.table_over-made.result.0 c.in_err-table.field-0.0 _ c.in_err-table.was c.table_over-made.ensures.left))

pub returns-in-Ok : goal.returns-in-Ok
returns-in-Ok g c =
    let made = if_is_ok c.table_over-made.result.0 c.in_ok-table.table _ c.in_ok-table.was c.table_over-made.ensures.made in
    table_printed _ IsFresh (length c.args.archives.now) c.in-Ok.status c.in_ok-conn.conn c.table_over-made.result.1 c.in_ok-table.table c.close_connection-closed.result
    (g.W.Write.contents c.args.writer.now) (g.W.Write.contents c.print_done.new.writer) c.in_ok-conn.ensures.opened made c.close_connection-closed.ensures.laid c.in-Ok.ensures

pub returns : goal.returns
returns g c =
    let made = if_is_ok c.table_over-made.result.0 c.in_ok-table.table _ c.in_ok-table.was c.table_over-made.ensures.made in (
      c.in_ok-conn.conn,
      c.in_ok-conn.ensures.opened,
      (record { last = c.table_over-made.result.1; shut = c.close_connection-closed.ensures.shut; kept = c.table_over-made.ensures.kept }, inr (record { whole = c.in_ok-table.table; made = made; printed = c.in-Err.ensures })),
    )
