use Rattle.std.proofs.Common.{Ok}
use Rattle.acd_book.specs.BookReads.{Anything, ReadsIfOpen}
use Rattle.acd_desk.proofs.overlap.stamp_at.Given as goal

abbrev pub invariant-loop : goal.invariant-loop
invariant-loop g l = ReadsIfOpen {A = Unit {0}} (g.A.Book.state l.fn.archive) (g.A.Book.state l.archive) (Ok tt) Anything
