use Rattle.std.proofs.Common.{◌≡◌, ℕ, List, ◌++◌, length}
use Rattle.acd_lines.specs.Conversing.{turn, KeepsEnds}
use Rattle.acd_lines.specs.Questions.{FedTo}
use Rattle.acd_lines.proofs.conversation.Conversation.feed.Given as goal

abbrev pub invariant-loop-end : goal.invariant-loop-end
invariant-loop-end g l =
    (front : List ℕ) × (l.chunk ≡ front ++ l.rest) × FedTo g.A.Answering front (turn g.W.Write.contents l.fn.self l.self) × KeepsEnds l.fn.self.replies l.self.replies

abbrev pub decreases-loop-end : goal.decreases-loop-end
decreases-loop-end g l = length l.rest
