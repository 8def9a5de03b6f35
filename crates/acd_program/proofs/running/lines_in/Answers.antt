use Rattle.std.proofs.Common.{Result, true, refl, subst}
use Rattle.sqlite.specs.Files.{over_files, file_state}
use Rattle.acd_lines.specs.Lines.{streams}
use Rattle.acd_files.specs.Connections.{IsLaidIn}
use Rattle.acd_sessions.specs.Sessions.{DatabaseLeaves}
use Rattle.acd_sessions.specs.declared.fault.WorkFault.{WorkFault}
use Rattle.acd_program.proofs.Commands.Ended.{ended_made}
use Rattle.acd_files.proofs.Ends.{match_from, on_ok}
use Rattle.acd_sessions.proofs.LinesOver.{answered_in, answered_made}
use Rattle.acd_program.proofs.running.lines_in.Goals as goal

pub returns-in_err-conn : goal.returns-in_err-conn
returns-in_err-conn g c = match_from c.from_residual.result _ _ _ c.from_residual.ensures.1 ((refl, refl), c.in_err-conn.ensures.left)

pub returns-in-Ok : goal.returns-in-Ok
returns-in-Ok g c =
    let io : _ = streams g.R.Read.remaining g.W.Write.contents (c.args.reader.now, c.database_lines-done.new.reader) (c.args.writer.now, c.database_lines-done.new.writer) in
    let s : _ = file_state c.in_ok-conn.conn in
    let last : _ = c.database_lines-done.result.1 in
    record {
      conn = c.in_ok-conn.conn;
      last = last;
      opened = c.in_ok-conn.ensures.opened;
      answered = answered_made over_files c.in_ok-conn.is_new true c.args.reads c.args.ends io s last c.in_ok-conn.ensures.makes
          (answered_in over_files c.in_ok-conn.is_new c.args.reads c.args.ends io s tt last (subst (λ (r : Result (Unit {0}) WorkFault). DatabaseLeaves over_files c.in_ok-conn.is_new c.args.reads c.args.ends io s r last) c.in-Ok.ensures.0 c.database_lines-done.ensures.ended));
      closed = on_ok c.close_connection.result tt (IsLaidIn last) c.in-Ok.ensures.1 c.close_connection.ensures.laid;
    }

pub returns-in-Err : goal.returns-in-Err
returns-in-Err g c =
    let io : _ = streams g.R.Read.remaining g.W.Write.contents (c.args.reader.now, c.database_lines-done.new.reader) (c.args.writer.now, c.database_lines-done.new.writer) in
    let last : _ = c.database_lines-done.result.1 in (
      c.in_ok-conn.conn,
      c.in_ok-conn.ensures.opened,
      record {
        last = last;
        shut = c.close_connection.ensures.shut;
        ended = c.database_lines-done.result.0;
        lines = ended_made over_files c.in_ok-conn.is_new true c.args.ends io (file_state c.in_ok-conn.conn) c.database_lines-done.result.0 last c.in_ok-conn.ensures.makes c.args.reads c.database_lines-done.ensures.ended;
        why = c.in-Err.ensures;
      },
    )
