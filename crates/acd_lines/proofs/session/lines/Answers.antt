use Rattle.std.proofs.Common.{false}
use Rattle.acd_desk.specs.Desks.DeskCalls.{state_of}
use Rattle.acd_lines.specs.Answers.{Answers}
use Rattle.acd_lines.specs.Input.{line_of}
use Rattle.acd_lines.specs.Lines.{RunInTurn, streams}
use Rattle.acd_lines.specs.Parts.{InTurn}
use Rattle.acd_lines.proofs.Endings.{done_so}
use Rattle.acd_lines.proofs.RunsInTurn.{run_in_turn}
use Rattle.acd_lines.proofs.session.lines.Goals as goal

pub returns : goal.returns
returns g c =
    done_so (state_of g.B.Book) (InTurn line_of (Answers (state_of g.B.Book))) false (streams g.R.Read.remaining g.W.Write.contents (c.args.reader.now, c.answer_lines.new.reader) (c.args.writer.now, c.answer_lines.new.writer))
    c.args.desk.now c.answer_lines.new.desk (RunInTurn g.B.Book)
    (run_in_turn (state_of g.B.Book) (λ d x clean sound opened stop. g.met.B.Book.settled d.book x clean sound opened stop) c.args.desk.now c.answer_lines.new.desk) c.answer_lines.result c.answer_lines.ensures
