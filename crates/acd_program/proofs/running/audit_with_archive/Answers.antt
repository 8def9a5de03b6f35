use Rattle.std.proofs.Common.{inr, refl}
use Rattle.sqlite_std_file.specs.File.{IsFresh}
use Rattle.acd_program.proofs.Archives.AuditsWithArchive.{audit_cut, audit_printed, audit_stopped}
use Rattle.acd_files.proofs.Ends.{if_is_err, if_is_ok, match_from}
use Rattle.acd_program.proofs.running.audit_with_archive.Goals as goal

pub returns-in_err-ending : goal.returns-in_err-ending
returns-in_err-ending g c = match_from c.from_residual.result _ _ _ c.from_residual.ensures.1 (refl, tt)

pub returns-in_err-conn : goal.returns-in_err-conn
returns-in_err-conn g c = match_from c.from_residual-in_err-conn.result _ _ _ c.from_residual-in_err-conn.ensures.1 (refl, c.in_err-conn.ensures.left)

pub returns-in_err-left : goal.returns-in_err-left
returns-in_err-left g c =
    match_from c.from_residual-in_err-left.result c.in_err-left.field-0.0 _ _ c.from_residual-in_err-left.ensures.1
    (audit_stopped _ IsFresh c.in_err-left.field-0.0 c.args.counts c.args.whole c.in_ok-conn.conn c.over_archive-done.result.1 _ _ _ c.in_ok-conn.ensures.opened c.close_connection-closed.ensures.shut
    c.over_archive-done.ensures.kept refl (if_is_err c.over_archive-done.result.0 c.in_err-left.field-0.0 _ c.in_err-left.was c.over_archive-done.ensures.left))

pub returns-in-Ok : goal.returns-in-Ok
returns-in-Ok g c =
    let audited = if_is_ok c.over_archive-done.result.0 c.in_ok-left.left _ c.in_ok-left.was c.over_archive-done.ensures.over in
    audit_printed _ IsFresh c.args.counts c.args.whole c.in_ok-ending.ending c.in_ok-conn.conn c.over_archive-done.result.1 (g.W.Write.contents c.args.writer.now) (g.W.Write.contents c.print_done.new.writer)
    c.in_ok-ending.ensures c.in-Ok.status c.in_ok-left.left c.close_connection-closed.result c.in_ok-conn.ensures.opened audited c.close_connection-closed.ensures.laid c.in-Ok.ensures

pub returns : goal.returns
returns g c =
    let audited = if_is_ok c.over_archive-done.result.0 c.in_ok-left.left _ c.in_ok-left.was c.over_archive-done.ensures.over in (
      c.in_ok-conn.conn,
      c.in_ok-conn.ensures.opened,
      (
        record { last = c.over_archive-done.result.1; shut = c.close_connection-closed.ensures.shut; kept = c.over_archive-done.ensures.kept },
        inr (audit_cut _ IsFresh c.args.counts c.args.whole c.in_ok-ending.ending c.in_ok-conn.conn c.over_archive-done.result.1 (g.W.Write.contents c.args.writer.now)
            (g.W.Write.contents c.print_done.new.writer) c.in_ok-ending.ensures c.in_ok-left.left audited c.in-Err.ensures),
      ),
    )
