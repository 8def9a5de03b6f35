use Rattle.std.proofs.Common.{Ok}
use Rattle.acd_desk.specs.Desks.DeskState.{state_of}
use Rattle.acd_lines.specs.Input.{line_asked}
use Rattle.acd_lines.specs.Lines.{streams}
use Rattle.acd_lines.specs.Parts.{InTurn}
use Rattle.acd_sessions.proofs.LinesOver.{lines_ended_fault}
use Rattle.acd_sessions.proofs.session.answer.Goals as goal

pub returns-in_err-answer_lines : goal.returns-in_err-answer_lines
returns-in_err-answer_lines g c =
    lines_ended_fault (state_of g.B.Book) (InTurn (line_asked g.A.Answering.unmarked g.A.Answering.long g.A.Answering.read) g.A.Answering.answers) c.args.ends
    (streams g.R.Read.remaining g.W.Write.contents (c.args.reader.now, c.answer_lines.new.reader) (c.args.writer.now, c.answer_lines.new.writer))
    c.from_residual.result c.in_err-answer_lines.field-0.0 c.args.desk.now c.answer_lines.new.desk c.from_residual.ensures.1 c.in_err-answer_lines.ensures

pub returns : goal.returns
returns g c = record { ended = Ok tt; lines = c.in_ok-answer_lines.ensures; outcome = c.ended.ensures }
