use Rattle.std.proofs.Common.{refl, sym, subst, ◌∙◌}
use Rattle.acd_desk.specs.Desks.DeskCalls.{state_of}
use Rattle.acd_lines.specs.Lines.{LinesDone, streams}
use Rattle.acd_lines.specs.Questions.{question, TakesTurns}
use Rattle.acd_lines.proofs.BoundedLines.{front_decides}
use Rattle.acd_lines.proofs.Endings.{done_by}
use Rattle.acd_lines.proofs.Turns.{nothing_read}
use Rattle.acd_lines.specs.declared.fault.LinesFault.TheVariants.{NoMemory}
use Rattle.acd_lines.proofs.session.answer_lines.Goals as goal

pub returns-in_err-chunk : goal.returns-in_err-chunk
returns-in_err-chunk g c =
    let io = streams g.R.Read.remaining g.W.Write.contents (c.args.reader.now, c.args.reader.now) (c.args.writer.now, c.args.writer.now) in
    done_by (state_of g.B.Book) (TakesTurns g.A.Answering) c.args.ends io c.args.desk.now c.args.desk.now
    c.from_residual.result NoMemory NoMemory c.from_residual.ensures.1 refl
    (nothing_read (question g.A.Answering) (front_decides g.A.Answering) g.A.Answering.answers c.args.desk.now io.old_input io.old_output) ((refl, refl), refl)

pub returns-in_err-partial : goal.returns-in_err-partial
returns-in_err-partial g c =
    let io = streams g.R.Read.remaining g.W.Write.contents (c.args.reader.now, c.args.reader.now) (c.args.writer.now, c.args.writer.now) in
    done_by (state_of g.B.Book) (TakesTurns g.A.Answering) c.args.ends io c.args.desk.now c.args.desk.now
    c.from_residual-in_err-partial.result NoMemory NoMemory c.from_residual-in_err-partial.ensures.1 refl
    (nothing_read (question g.A.Answering) (front_decides g.A.Answering) g.A.Answering.answers c.args.desk.now io.old_input io.old_output) ((refl, refl), refl)

pub returns-in_err-outbox : goal.returns-in_err-outbox
returns-in_err-outbox g c =
    let io = streams g.R.Read.remaining g.W.Write.contents (c.args.reader.now, c.args.reader.now) (c.args.writer.now, c.args.writer.now) in
    done_by (state_of g.B.Book) (TakesTurns g.A.Answering) c.args.ends io c.args.desk.now c.args.desk.now
    c.from_residual-in_err-outbox.result NoMemory NoMemory c.from_residual-in_err-outbox.ensures.1 refl
    (nothing_read (question g.A.Answering) (front_decides g.A.Answering) g.A.Answering.answers c.args.desk.now io.old_input io.old_output) ((refl, refl), refl)

pub returns : goal.returns
returns g c =
    let first = c.new-replies.result in
    let last = c.answer_all.new.self.replies in
    let same = c.answer_all.ensures.same in
    let made = c.new-replies.ensures in
    let writer = c.writer-1.given.1 (sym (same.1 ∙ made.same_writer)) in
    let desk = c.desk-1.given.1 (sym (same.0 ∙ made.same_desk)) in
    rw writer (rw desk
    (subst (λ w. LinesDone (state_of g.B.Book) (TakesTurns g.A.Answering) c.args.ends
    (streams g.R.Read.remaining g.W.Write.contents (c.args.reader.now, c.answer_all.new.reader) (w, last.writer.now)) c.args.desk.now last.desk.now c.answer_all.result) made.writer
    (subst (λ d. LinesDone (state_of g.B.Book) (TakesTurns g.A.Answering) c.args.ends
    (streams g.R.Read.remaining g.W.Write.contents (c.args.reader.now, c.answer_all.new.reader) (first.writer.now, last.writer.now)) d last.desk.now c.answer_all.result) made.desk
    c.answer_all.ensures.done)))
