use Rattle.std.proofs.Common.{true, refl}
use Rattle.sqlite.specs.Files.{over_files, file_state}
use Rattle.acd_files.specs.Connections.{IsLaidIn}
use Rattle.acd_files.proofs.Ends.{match_from, on_ok}
use Rattle.acd_sessions.proofs.LeftDesks.{seen_made}
use Rattle.acd_sessions.proofs.ServeDone.{serve_done_in, serve_made}
use Rattle.acd_program.proofs.running.serve_file.Goals as goal

pub returns-in_err-conn : goal.returns-in_err-conn
returns-in_err-conn g c = match_from c.from_residual.result _ _ _ c.from_residual.ensures.1 ((refl, refl), c.in_err-conn.ensures.left)

pub returns-in-Ok : goal.returns-in-Ok
returns-in-Ok g c =
    let a : _ = g.E.Write.contents c.args.errors.now in
    let b : _ = g.E.Write.contents c.serve-done.new.errors in
    let s : _ = file_state c.in_ok-conn.conn in
    let last : _ = c.serve-done.result.1 in
    record {
      conn = c.in_ok-conn.conn;
      last = last;
      opened = c.in_ok-conn.ensures.opened;
      answered = seen_made over_files _ c.in_ok-conn.is_new true s last c.in_ok-conn.ensures.makes
          (on_ok c.serve-done.result.0 tt _ c.in-Ok.ensures.0
          (serve_done_in c.args.serving.span a b c.args.serving.address (g.W.Write.contents c.args.writer.now) (g.W.Write.contents c.serve-done.new.writer) over_files s c.serve-done.result.0 last c.in_ok-conn.is_new c.serve-done.ensures.ended));
      closed = on_ok c.close_connection.result tt (IsLaidIn last) c.in-Ok.ensures.1 c.close_connection.ensures.laid;
    }

pub returns-in-Err : goal.returns-in-Err
returns-in-Err g c =
    let a : _ = g.E.Write.contents c.args.errors.now in
    let b : _ = g.E.Write.contents c.serve-done.new.errors in
    let s : _ = file_state c.in_ok-conn.conn in
    let last : _ = c.serve-done.result.1 in (
      c.in_ok-conn.conn,
      c.in_ok-conn.ensures.opened,
      record {
        last = last;
        shut = c.close_connection.ensures.shut;
        ended = c.serve-done.result.0;
        answered = serve_made c.args.serving.span a b c.args.serving.address (g.W.Write.contents c.args.writer.now) (g.W.Write.contents c.serve-done.new.writer) over_files s c.serve-done.result.0 last c.in_ok-conn.is_new true
            c.in_ok-conn.ensures.makes c.serve-done.ensures.ended;
        why = c.in-Err.ensures;
      },
    )
