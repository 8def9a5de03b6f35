use Rattle.std.proofs.Common.{length, sym, ◌∙◌}
use Rattle.std.proofs.lemmas.Bool.{eqb-true}
use Rattle.acd_io.proofs.DigitLemmas.{positive}
use Rattle.acd_io.proofs.Sends.{stopped, so_of}
use Rattle.acd_lines.specs.Conversing.{talk, talk_with}
use Rattle.acd_lines.specs.Questions.{question}
use Rattle.acd_lines.proofs.BoundedLines.{front_decides}
use Rattle.acd_lines.proofs.Turns.{finish_empty, finish_empty_stops, finish_line, finish_line_stops, finish_stops}
use Rattle.acd_lines.proofs.conversation.Conversation.finish.Goals as goal

pub returns-then-is_empty-clause-finished : goal.returns-then-is_empty-clause-finished
returns-then-is_empty-clause-finished g c =
    let kept = c.args.self.now.partial.now in
    let old = talk g.W.Write.contents c.args.self.now in
    let new = talk_with g.W.Write.contents c.flush.new.self kept in
    let none = eqb-true (length kept) 0 (sym c.is_empty.ensures ∙ c.if-is_empty.true) in
    so_of c.flush.result _ _ _ _
    (λ out. finish_empty (question g.A.Answering) (front_decides g.A.Answering) g.A.Answering.answers old new c.flush.ensures.desk none out.1)
    (λ begun. finish_empty_stops (question g.A.Answering) (front_decides g.A.Answering) g.A.Answering.answers old new c.flush.ensures.desk none begun)
    c.flush.ensures.flushed

pub returns-in_err-respond-clause-finished : goal.returns-in_err-respond-clause-finished
returns-in_err-respond-clause-finished g c =
    let kept = c.args.self.now.partial.now in
    let old = talk g.W.Write.contents c.args.self.now in
    let new = talk_with g.W.Write.contents c.respond.new.self kept in
    let some = positive (length kept) (sym c.is_empty.ensures ∙ c.if-is_empty.false) in
    stopped c.from_residual.result c.in_err-respond.field-0.0 _ _ c.from_residual.ensures.1
    (finish_stops (question g.A.Answering) (front_decides g.A.Answering) g.A.Answering.answers old new c.as_slice.result.now some c.as_slice.ensures
    c.in_err-respond.ensures.answered)

pub returns-clause-finished : goal.returns-clause-finished
returns-clause-finished g c =
    let kept = c.args.self.now.partial.now in
    let old = talk g.W.Write.contents c.args.self.now in
    let now = talk_with g.W.Write.contents c.respond.new.self kept in
    let new = talk_with g.W.Write.contents c.flush-2.new.self kept in
    let text = c.as_slice.result.now in
    let same = c.as_slice.ensures in
    let some = positive (length kept) (sym c.is_empty.ensures ∙ c.if-is_empty.false) in
    let line = c.in_ok-respond.ensures.answered in
    let desk = c.flush-2.ensures.desk in
    so_of c.flush-2.result _ _ _ _
    (λ out. finish_line (question g.A.Answering) (front_decides g.A.Answering) g.A.Answering.answers old now new text some same line desk out.1)
    (λ begun. finish_line_stops (question g.A.Answering) (front_decides g.A.Answering) g.A.Answering.answers old now new text some same line desk begun)
    c.flush-2.ensures.flushed
