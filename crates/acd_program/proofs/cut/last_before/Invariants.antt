use Rattle.std.proofs.Common.{Ok}
use Rattle.acd_book.specs.BookReads.{ReadsIfOpen}
use Rattle.acd_book.specs.Content.{Content}
use Rattle.acd_program.proofs.cut.last_before.Given as goal

abbrev pub invariant-loop : goal.invariant-loop
invariant-loop g l = ReadsIfOpen {A = Unit {0}} (g.B.Book.state l.fn.book) (g.B.Book.state l.book) (Ok tt) (λ (a : Content) (found : Unit {0}). Unit {0})
