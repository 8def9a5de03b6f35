use Rattle.std.proofs.Common.{◌<◌, ◌++◌, [], length, take, Err, refl, sym, ◌∙◌, arith}
use Rattle.std.proofs.KnownBytes.{Consumes-nil, Consumes-kept, Consumes-trans}
use Rattle.acd_desk.specs.Desks.DeskCalls.{state_of}
use Rattle.acd_io.proofs.Inputs.{input_ended}
use Rattle.acd_lines.specs.Conversing.{talk}
use Rattle.acd_lines.specs.Lines.{streams}
use Rattle.acd_lines.specs.Questions.{question, TakesTurns}
use Rattle.acd_lines.proofs.BoundedLines.{front_decides}
use Rattle.acd_lines.proofs.Endings.{done_whole, done_failed, done_by}
use Rattle.acd_lines.proofs.Turns.{starts, fed, all_done, first_done, end_stopped, feed_stopped, read_done, read_stopped, some_short}
use Rattle.acd_lines.specs.declared.fault.LinesFault.TheVariants.{Read, Write}
use Rattle.acd_lines.proofs.conversation.Conversation.answer_all.Goals as goal
use Rattle.acd_lines.proofs.conversation.Conversation.answer_all.Goals.{in-Ok+in_ok-feed-in-Ok, in-Err+in_ok-retried-in-Err}

pub loop-init : goal.loop-init
loop-init g c =
    let begins = c.requires.begins in
    let begun = starts (question g.A.Answering) (front_decides g.A.Answering) g.A.Answering.answers 4109 (talk g.W.Write.contents c.args.self.now) begins.0 begins.1 in
    (c.requires.room, [], Consumes-nil _, begins.1, begun, (refl, refl))

pub loop-preserved : goal.loop-preserved
loop-preserved g c =
    let first = c.args.self.now.replies in
    let loop = c.loop.invariant in
    let seen = loop.1 in
    let now = talk g.W.Write.contents c.loop.self in
    let size = c.read.auto.buf in
    let room : 0 < length c.read.new.buf = omega (arith, size, loop.0) in
    elim c.match-read.branch [
      | in-Ok+in_ok-feed-in-Ok w ↦
          let chunk = take w.in-Ok.n c.read.new.buf in
          let next = talk g.W.Write.contents w.feed.new.self in
          let done = w.in_ok-feed-in-Ok.ensures in
          let step = done.fed.1 first.desk.now seen loop.4.part loop.4.answers loop.4.keeps loop.4.reached in
          let after = fed (question g.A.Answering) (front_decides g.A.Answering) g.A.Answering.answers 4109 first.desk.now seen chunk
          (g.W.Write.contents first.writer.now) now next loop.4 step in
          rw w.self-is (
            room,
            seen ++ chunk,
            Consumes-trans _ _ _ seen chunk loop.2 w.in-Ok.ensures.bytes.0,
            done.fed.0,
            after,
            (done.same.0 ∙ loop.5.0, done.same.1 ∙ loop.5.1),
          )
      | in-Err+in_ok-retried-in-Err w ↦
          rw w.self-is (room, seen, Consumes-kept _ _ _ seen loop.2 w.in-Err.ensures.bytes, loop.3, loop.4, loop.5)
    ]

pub returns-then-has_failed-clause-done : goal.returns-then-has_failed-clause-done
returns-then-has_failed-clause-done g c =
    let first = c.args.self.now.replies in
    let last = c.loop.self.replies in
    let loop = c.loop.invariant in
    let io = streams g.R.Read.remaining g.W.Write.contents (c.args.reader.now, c.loop.reader) (first.writer.now, last.writer.now) in
    done_failed (state_of g.B.Book) (TakesTurns g.A.Answering) c.args.ends io first.desk.now last.desk.now c.if-ends.true (sym c.has_failed.ensures ∙ c.if-has_failed.true)
    (first_done (question g.A.Answering) (front_decides g.A.Answering) g.A.Answering.answers 4109 first.desk.now loop.1 io.old_output io.old_input io.left
    (talk g.W.Write.contents c.loop.self) loop.4 loop.3 loop.2)

pub returns-in-Ok-eq0-clause-done : goal.returns-in-Ok-eq0-clause-done
returns-in-Ok-eq0-clause-done g c =
    let first = c.args.self.now.replies in
    let last = c.finish.new.self.replies in
    let loop = c.loop.invariant in
    let seen = loop.1 in
    let io = streams g.R.Read.remaining g.W.Write.contents (c.args.reader.now, c.read.new.self) (first.writer.now, last.writer.now) in
    let read = c.in-Ok-eq0 in
    let bytes = read.ensures.bytes in
    let all = input_ended io.old_input (g.R.Read.remaining c.loop.reader) io.left seen c.read.new.buf read.field-0 loop.2 bytes.0 read.field-0-test
    (bytes.1 read.field-0-test (omega (arith, c.read.auto.buf, loop.0))) in
    let done = c.in_ok-finish-in-Ok-eq0.ensures.finished first.desk.now seen loop.4.part loop.4.answers loop.4.keeps loop.4.reached in
    done_whole (state_of g.B.Book) (TakesTurns g.A.Answering) c.args.ends io first.desk.now last.desk.now
    (all_done (question g.A.Answering) (front_decides g.A.Answering) g.A.Answering.answers 4109 first.desk.now seen io.old_output io.old_input
    (talk g.W.Write.contents c.loop.self) (talk g.W.Write.contents c.finish.new.self) loop.4 all done)

pub returns-in_err-finish-in-Ok-eq0-clause-done : goal.returns-in_err-finish-in-Ok-eq0-clause-done
returns-in_err-finish-in-Ok-eq0-clause-done g c =
    let first = c.args.self.now.replies in
    let last = c.finish.new.self.replies in
    let loop = c.loop.invariant in
    let seen = loop.1 in
    let io = streams g.R.Read.remaining g.W.Write.contents (c.args.reader.now, c.read.new.self) (first.writer.now, last.writer.now) in
    let read = c.in-Ok-eq0 in
    let bytes = read.ensures.bytes in
    let all = input_ended io.old_input (g.R.Read.remaining c.loop.reader) io.left seen c.read.new.buf read.field-0 loop.2 bytes.0 read.field-0-test
    (bytes.1 read.field-0-test (omega (arith, c.read.auto.buf, loop.0))) in
    let done = c.in_err-finish-in-Ok-eq0.ensures.finished first.desk.now seen loop.4.part loop.4.answers loop.4.keeps loop.4.reached in
    let short = end_stopped (question g.A.Answering) (front_decides g.A.Answering) g.A.Answering.answers 4109 first.desk.now seen io.old_output io.old_input
    (talk g.W.Write.contents c.loop.self) (talk g.W.Write.contents c.finish.new.self) loop.4 all done in
    done_by (state_of g.B.Book) (TakesTurns g.A.Answering) c.args.ends io first.desk.now last.desk.now c.from_residual.result Write Write c.from_residual.ensures.1 refl
    (some_short (question g.A.Answering) (front_decides g.A.Answering) g.A.Answering.answers io.old_input first.desk.now last.desk.now io.old_output io.new_output short) short

pub returns-in_err-feed-in-Ok-clause-done : goal.returns-in_err-feed-in-Ok-clause-done
returns-in_err-feed-in-Ok-clause-done g c =
    let first = c.args.self.now.replies in
    let last = c.feed.new.self.replies in
    let loop = c.loop.invariant in
    let seen = loop.1 in
    let io = streams g.R.Read.remaining g.W.Write.contents (c.args.reader.now, c.read.new.self) (first.writer.now, last.writer.now) in
    let chunk = take c.in-Ok.n c.read.new.buf in
    let taken = Consumes-trans _ _ _ seen chunk loop.2 c.in-Ok.ensures.bytes.0 in
    let stopped = c.in_err-feed-in-Ok.ensures.fed first.desk.now seen loop.4.part loop.4.answers loop.4.keeps loop.4.reached in
    let short = feed_stopped (question g.A.Answering) (front_decides g.A.Answering) g.A.Answering.answers 4109 first.desk.now seen chunk io.old_output io.old_input io.left
    (talk g.W.Write.contents c.loop.self) (talk g.W.Write.contents c.feed.new.self) loop.4 taken stopped in
    let result = c.from_residual-in_err-feed-in-Ok in
    done_by (state_of g.B.Book) (TakesTurns g.A.Answering) c.args.ends io first.desk.now last.desk.now result.result Write Write result.ensures.1 refl
    (some_short (question g.A.Answering) (front_decides g.A.Answering) g.A.Answering.answers io.old_input first.desk.now last.desk.now io.old_output io.new_output short) short

pub returns-in_err-retried-in-Err-clause-done : goal.returns-in_err-retried-in-Err-clause-done
returns-in_err-retried-in-Err-clause-done g c =
    let first = c.args.self.now.replies in
    let last = c.loop.self.replies in
    let loop = c.loop.invariant in
    let seen = loop.1 in
    let io = streams g.R.Read.remaining g.W.Write.contents (c.args.reader.now, c.read.new.self) (first.writer.now, last.writer.now) in
    let now = talk g.W.Write.contents c.loop.self in
    let failed = c.in_err-retried-in-Err in
    let result = c.from_residual-in_err-retried-in-Err in
    done_by (state_of g.B.Book) (TakesTurns g.A.Answering) c.args.ends io first.desk.now last.desk.now result.result failed.field-0.0 Read result.ensures.1 failed.ensures.given
    (read_stopped (question g.A.Answering) (front_decides g.A.Answering) g.A.Answering.answers 4109 first.desk.now seen io.old_output io.old_input (g.R.Read.remaining c.loop.reader) now
    loop.4 loop.2)
    (read_done (question g.A.Answering) (front_decides g.A.Answering) g.A.Answering.answers 4109 first.desk.now seen io.old_output io.old_input io.left now loop.4 loop.3
    (Consumes-kept _ _ _ seen loop.2 c.in-Err.ensures.bytes))

pub returns-clause-done : goal.returns-clause-done
returns-clause-done g c =
    let first = c.args.self.now.replies in
    let last = c.loop.self.replies in
    let loop = c.loop.invariant in
    let io = streams g.R.Read.remaining g.W.Write.contents (c.args.reader.now, c.loop.reader) (first.writer.now, last.writer.now) in
    let now = talk g.W.Write.contents c.loop.self in
    done_by (state_of g.B.Book) (TakesTurns g.A.Answering) c.args.ends io first.desk.now last.desk.now (Err Read) Read Read refl refl
    (read_stopped (question g.A.Answering) (front_decides g.A.Answering) g.A.Answering.answers 4109 first.desk.now loop.1 io.old_output io.old_input io.left now loop.4 loop.2)
    (read_done (question g.A.Answering) (front_decides g.A.Answering) g.A.Answering.answers 4109 first.desk.now loop.1 io.old_output io.old_input io.left now loop.4 loop.3 loop.2)
