use Rattle.std.proofs.Common.{MutBor, true, refl}
use Rattle.sqlite.specs.Files.{over_files, file_state}
use Rattle.acd_lines.specs.Lines.{streams, output}
use Rattle.acd_io.specs.RestOfInput.{input_left}
use Rattle.acd_files.specs.Connections.{IsLaidIn}
use Rattle.acd_files.proofs.Ends.{match_from, on_ok}
use Rattle.acd_sessions.proofs.StandbyRuns.{by_input, fed_by, standby_of_reader, standby_done_in}
use Rattle.acd_program.proofs.running.stand_by_file.Goals as goal

pub returns-in_err-conn : goal.returns-in_err-conn
returns-in_err-conn g c = match_from c.from_residual.result _ _ _ c.from_residual.ensures.1 (((refl, refl), refl), c.in_err-conn.ensures.left)

pub returns-in-Ok-done_and_closed : goal.returns-in-Ok-done_and_closed
returns-in-Ok-done_and_closed g c =
    let s : _ = file_state c.in_ok-conn.conn in
    let last : _ = c.stand_by-done.result.1 in
    let known : _ = g.R.Read.remaining c.args.reader.now in
    let remaining : _ = λ (r : MutBor g.row.R.Denot). g.R.Read.remaining r.now in
    let feed : _ = (c.new-lines.result, c.stand_by-done.new.feed) in
    let writer : _ = (c.args.writer.now, c.stand_by-done.new.writer) in
    let mine : _ = streams (input_left remaining) g.W.Write.contents feed writer in
    let errors : _ = output g.E.Write.contents c.args.errors.now c.stand_by-done.new.errors in
    record {
      conn = c.in_ok-conn.conn;
      last = last;
      left = input_left remaining c.stand_by-done.new.feed;
      opened = c.in_ok-conn.ensures.opened;
      answered = on_ok c.stand_by-done.result.0 tt _ c.in-Ok-done_and_closed.ensures.0
          (standby_done_in (by_input c.args.serving known mine errors) over_files s c.stand_by-done.result.0 last true
          (standby_of_reader c.args.serving known mine errors (fed_by remaining g.W.Write.contents known feed writer c.new-lines.ensures) over_files
          c.in_ok-conn.is_new c.in_ok-conn.ensures.makes s c.stand_by-done.result.0 last c.stand_by-done.ensures.ended));
      closed = on_ok c.close_connection.result tt (IsLaidIn last) c.in-Ok-done_and_closed.ensures.1 c.close_connection.ensures.laid;
    }

pub returns : goal.returns
returns g c =
    let s : _ = file_state c.in_ok-conn.conn in
    let last : _ = c.stand_by-done.result.1 in
    let known : _ = g.R.Read.remaining c.args.reader.now in
    let remaining : _ = λ (r : MutBor g.row.R.Denot). g.R.Read.remaining r.now in
    let feed : _ = (c.new-lines.result, c.stand_by-done.new.feed) in
    let writer : _ = (c.args.writer.now, c.stand_by-done.new.writer) in
    let mine : _ = streams (input_left remaining) g.W.Write.contents feed writer in
    let errors : _ = output g.E.Write.contents c.args.errors.now c.stand_by-done.new.errors in (
      c.in_ok-conn.conn,
      c.in_ok-conn.ensures.opened,
      record {
        last = last;
        left = input_left remaining c.stand_by-done.new.feed;
        shut = c.close_connection.ensures.shut;
        ended = c.stand_by-done.result.0;
        answered = standby_of_reader c.args.serving known mine errors (fed_by remaining g.W.Write.contents known feed writer c.new-lines.ensures) over_files
            c.in_ok-conn.is_new c.in_ok-conn.ensures.makes s c.stand_by-done.result.0 last c.stand_by-done.ensures.ended;
        why = c.in-Err.ensures;
      },
    )
