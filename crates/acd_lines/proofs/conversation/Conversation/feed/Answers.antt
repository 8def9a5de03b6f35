use Rattle.std.proofs.Common.{[], ◌∷◌, ◌++◌, refl, ◌∙◌}
use Rattle.acd_lines.specs.Conversing.{talk, talk_with}
use Rattle.acd_lines.specs.Questions.{question}
use Rattle.acd_lines.proofs.BoundedLines.{front_decides}
use Rattle.acd_io.proofs.Sends.{stopped, so_of}
use Rattle.acd_lines.proofs.Turns.{past_line, keeping, feed_none, feed_line, feed_stops, feed_rest, feed_out, feed_out_stops}
use Rattle.acd_lines.proofs.conversation.Conversation.feed.Goals as goal

pub loop-end-init : goal.loop-end-init
loop-end-init g c =
    ([], refl, feed_none (question g.A.Answering) (front_decides g.A.Answering) g.A.Answering.answers (talk g.W.Write.contents c.args.self.now), (refl, refl))

pub loop-end-preserved : goal.loop-end-preserved
loop-end-preserved g c =
    let loop = c.loop-end.invariant in
    let split = c.in-Some.ensures in
    let end = c.in-Some.end.now in
    let first = talk g.W.Write.contents c.args.self.now in
    let before = talk g.W.Write.contents c.loop-end.self in
    let after = talk g.W.Write.contents c.end_line.new.self in
    let answered = c.in_ok-end_line.ensures in
    let same = answered.same in (
      loop.0 ++ (end ++ 10 ∷ []),
      past_line c.args.chunk.now loop.0 c.loop-end.rest.now end c.in-Some.new_rest.now loop.1 split.0,
      feed_line (question g.A.Answering) (front_decides g.A.Answering) g.A.Answering.answers first before after loop.0 end loop.2 split.1 answered.answered answered.empty,
      (same.0 ∙ loop.3.0, same.1 ∙ loop.3.1),
    )

pub returns-in_err-end_line-clause-fed : goal.returns-in_err-end_line-clause-fed
returns-in_err-end_line-clause-fed g c =
    let loop = c.loop-end.invariant in
    let split = c.in-Some.ensures in
    let first = talk g.W.Write.contents c.args.self.now in
    let before = talk g.W.Write.contents c.loop-end.self in
    let after = talk g.W.Write.contents c.end_line.new.self in
    stopped c.from_residual.result c.in_err-end_line.field-0.0 _ _ c.from_residual.ensures.1
    (feed_stops (question g.A.Answering) (front_decides g.A.Answering) g.A.Answering.answers first before after c.args.chunk.now loop.0 c.loop-end.rest.now
    c.in-Some.end.now c.in-Some.new_rest.now loop.2 split.1 c.in_err-end_line.ensures.answered loop.1 split.0)

pub returns-clause-fed : goal.returns-clause-fed
returns-clause-fed g c =
    let loop = c.loop-end.invariant in
    let chunk = c.args.chunk.now in
    let first = talk g.W.Write.contents c.args.self.now in
    let before = talk g.W.Write.contents c.loop-end.self in
    let kept = keeping before c.extend.new.self in
    let after = talk_with g.W.Write.contents c.flush.new.self c.extend.new.self in
    let rest = feed_rest (question g.A.Answering) (front_decides g.A.Answering) g.A.Answering.answers first before c.extend.new.self chunk loop.0 c.loop-end.rest.now
    loop.2 c.in_default.ensures c.extend.ensures loop.1 in
    so_of c.flush.result _ _ _ _
    (λ out. (
      out.0,
      feed_out (question g.A.Answering) (front_decides g.A.Answering) g.A.Answering.answers first kept after chunk rest c.flush.ensures.desk refl out.1 out.0,
    ))
    (λ begun. feed_out_stops (question g.A.Answering) (front_decides g.A.Answering) g.A.Answering.answers first kept after chunk rest c.flush.ensures.desk begun)
    c.flush.ensures.flushed
