use Rattle.std.proofs.Common.{inl, refl}
use Rattle.sqlite.specs.Held.{state}
use Rattle.acd_lines.specs.Input.{line_asked}
use Rattle.acd_lines.specs.Lines.{streams}
use Rattle.acd_lines.specs.Parts.{InTurn}
use Rattle.acd_sessions.proofs.LinesOver.{lines_in}
use Rattle.acd_sessions.proofs.connection.lines_over_connection.Goals as goal

pub returns-in-Err-clause-done : goal.returns-in-Err-clause-done
returns-in-Err-clause-done g c = inl (record { why = c.from.result; outcome = refl; unserved = c.in-Err.ensures.unserved; untouched = (refl, refl) })

pub returns-clause-done : goal.returns-clause-done
returns-clause-done g c =
    lines_in g.S.Store (InTurn (line_asked g.A.Answering.unmarked g.A.Answering.long g.A.Answering.read) g.A.Answering.answers) c.args.makes c.args.ends
    (streams g.R.Read.remaining g.W.Write.contents (c.args.reader.now, c.lines_over_book-done.new.reader) (c.args.writer.now, c.lines_over_book-done.new.writer))
    (state g.S.Store c.args.conn) c.in-Ok.book c.lines_over_book-done.result.1 c.lines_over_book-done.result.0 c.into_connection.result
    (g.met.S.Store.settled c.args.conn.store) c.in-Ok.ensures.taken c.into_connection.ensures.same c.lines_over_book-done.ensures
