use Rattle.std.proofs.Common.{Err, true, ap, ◌∙◌}
use Rattle.acd_desk.specs.Desks.DeskState.{state_of}
use Rattle.acd_lines.specs.Lines.{EndedBy, streams}
use Rattle.acd_lines.specs.declared.fault.LinesFault.TheVariants as lines
use Rattle.acd_sessions.specs.LinesOver.{in_turn}
use Rattle.acd_io.specs.RestOfInput.{input_left}
use Rattle.acd_files.proofs.Ends.{if_is_err}
use Rattle.acd_sessions.proofs.standby.follow.Goals as goal

pub returns-in-Err-Read : goal.returns-in-Err-Read
returns-in-Err-Read g c =
    let h = if_is_err c.lines_with_reads.result lines.Read
    (EndedBy (in_turn true (state_of g.B.Book)) (streams (input_left g.R.Read.remaining) g.W.Write.contents (c.args.feed.now, c.lines_with_reads.new.reader) (c.args.writer.now, c.lines_with_reads.new.writer)) c.args.desk.now c.lines_with_reads.new.desk)
    (c.in-Err-Read.is ∙ ap Err c.in-Err-Read.field-0-is) c.lines_with_reads.ensures.cause in
    record { taken = h.taken; answers = h.answers; picked = (h.picked, c.is_told.ensures.order c.if-is_told.true); answered = h.answered; out = h.out }
