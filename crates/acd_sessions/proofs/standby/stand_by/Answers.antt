use Rattle.std.proofs.Common.{inl, refl}
use Rattle.sqlite.specs.Held.{state}
use Rattle.acd_lines.specs.Lines.{streams, output}
use Rattle.acd_io.specs.RestOfInput.{input_left}
use Rattle.acd_sessions.specs.Standby.{upon_lines}
use Rattle.acd_sessions.proofs.StandbyRuns.{standby_in}
use Rattle.acd_sessions.proofs.standby.stand_by.Goals as goal

pub returns-in-Err-clause-ended : goal.returns-in-Err-clause-ended
returns-in-Err-clause-ended g c = inl (record { why = c.from.result; ended = refl; unserved = c.in-Err.ensures.unserved; quiet = refl; unsaid = refl })

pub returns-clause-ended : goal.returns-clause-ended
returns-clause-ended g c =
    standby_in (upon_lines c.args.serving
    (streams (input_left g.R.Read.remaining) g.W.Write.contents (c.args.feed.now, c.stand_by_book-done.new.feed) (c.args.writer.now, c.stand_by_book-done.new.writer))
    (output g.E.Write.contents c.args.errors.now c.stand_by_book-done.new.errors))
    g.S.Store (state g.S.Store c.args.conn) c.stand_by_book-done.result.0 c.into_connection.result c.args.makes c.in-Ok.book c.stand_by_book-done.result.1
    (g.met.S.Store.settled c.args.conn.store) c.in-Ok.ensures.taken c.into_connection.ensures.same c.stand_by_book-done.ensures
