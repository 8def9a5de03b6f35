use Rattle.std.proofs.Common.{inl, refl}
use Rattle.sqlite.specs.Held.{state}
use Rattle.acd_lines.specs.Lines.{streams}
use Rattle.acd_sessions.specs.Over.{before}
use Rattle.acd_sessions.proofs.LinesOver.{seen_lines}
use Rattle.acd_sessions.proofs.connection.with_reads.Goals as goal

pub returns-in-Ok-clause-ended : goal.returns-in-Ok-clause-ended
returns-in-Ok-clause-ended g c =
    seen_lines g.S.Store c.args.makes c.args.ends (streams g.R.Read.remaining g.W.Write.contents (c.args.reader.now, c.lines_over_connection.new.reader) (c.args.writer.now, c.lines_over_connection.new.writer))
    (state g.S.Store c.args.conn) c.lines_over_connection.result.0 c.lines_over_connection.result.1 c.lines_over_connection.ensures.done

pub returns-in-Err-clause-ended : goal.returns-in-Err-clause-ended
returns-in-Err-clause-ended g c = inl (record { why = c.from.result; outcome = refl; unserved = λ clean db left. before left; untouched = (refl, refl) })
