use Rattle.std.proofs.Common.{length, sym, ◌∙◌, lit<}
use Rattle.std.proofs.lemmas.Bool.{eqb-true}
use Rattle.acd_lines.specs.Conversing.{over_replies}
use Rattle.acd_lines.specs.Questions.{question}
use Rattle.acd_lines.proofs.BoundedLines.{front_decides, whole_line}
use Rattle.acd_lines.proofs.Turns.{pushed_same}
use Rattle.acd_lines.proofs.conversation.Conversation.end_line.Goals as goal

pub returns-then-is_empty-clause-answered : goal.returns-then-is_empty-clause-answered
returns-then-is_empty-clause-answered g c =
    let first = c.args.self.now in
    let none = eqb-true (length first.partial.now) 0 (sym c.is_empty.ensures ∙ c.if-is_empty.true) in
    let line = whole_line (question g.A.Answering) (front_decides g.A.Answering) 4108 first.partial.now c.args.end.now c.without_return.result.now (lit< tt) none c.without_return.ensures in
    pushed_same (question g.A.Answering) (front_decides g.A.Answering) g.A.Answering.answers _ _ (over_replies g.W.Write.contents first.replies c.respond.new.self) c.respond.result line c.respond.ensures.answered
