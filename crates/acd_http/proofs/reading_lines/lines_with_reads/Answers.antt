use Rattle.std.proofs.Common.{refl}
use Rattle.acd_desk.specs.Desks.DeskCalls.{state_of}
use Rattle.acd_lines.specs.Input.{line_asked, no_moment, too_long}
use Rattle.acd_lines.specs.Lines.{streams}
use Rattle.acd_lines.specs.declared.fault.LinesFault.TheVariants.{NoMemory}
use Rattle.acd_lines.proofs.Endings.{done_by}
use Rattle.acd_lines.proofs.BoundedLines.{by_front}
use Rattle.acd_lines.proofs.Turns.{nothing_read}
use Rattle.acd_http.specs.LinesWithReads.{plain, text_asked, ReadingAnswers, ReadInTurn}
use Rattle.acd_http.proofs.reading_lines.lines_with_reads.Goals as goal

pub returns-in_err-lines : goal.returns-in_err-lines
returns-in_err-lines g c =
    done_by (state_of g.B.Book) (ReadInTurn g.B.Book) c.args.ends (streams g.R.Read.remaining g.W.Write.contents (c.args.reader.now, c.args.reader.now) (c.args.writer.now, c.args.writer.now))
    c.args.desk.now c.args.desk.now c.from_residual.result NoMemory NoMemory c.from_residual.ensures.1 refl
    (nothing_read (line_asked (plain no_moment) (plain too_long) text_asked) (by_front (plain no_moment) (plain too_long) text_asked) (ReadingAnswers (state_of g.B.Book)) c.args.desk.now
    (g.R.Read.remaining c.args.reader.now) (g.W.Write.contents c.args.writer.now)) ((refl, refl), refl)
