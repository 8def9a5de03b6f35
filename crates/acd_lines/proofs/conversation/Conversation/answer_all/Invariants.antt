use Rattle.std.proofs.Common.{◌≡◌, ℕ, ◌<◌, List, [], length}
use Rattle.std.specs.Io.KnownBytes.{Consumes}
use Rattle.acd_lines.specs.Conversing.{talk, KeepsEnds}
use Rattle.acd_lines.specs.Parts.{AnsweredSoFar}
use Rattle.acd_lines.specs.Questions.{question}
use Rattle.acd_lines.proofs.conversation.Conversation.answer_all.Given as goal

abbrev pub invariant-loop : goal.invariant-loop
invariant-loop g l =
    let first = l.fn.self in
    let last = l.self in
    let now = talk g.W.Write.contents last in
    (0 < length l.chunk) × (seen : List ℕ) × Consumes (g.R.Read.remaining l.fn.reader) (g.R.Read.remaining l.reader) seen × (now.waiting ≡ [])
    × AnsweredSoFar (question g.A.Answering) g.A.Answering.answers 4109 first.replies.desk.now seen [] [] (g.W.Write.contents first.replies.writer.now) now
    × KeepsEnds first.replies last.replies
