use Rattle.acd_sqlbook.proofs.ReopenedBooks.{books_are_adopted}
use Rattle.acd_sqlbook.proofs.laws.books_are_adopted.Goals as goal

pub returns : goal.returns
returns g c conn result content over h = books_are_adopted g.S.Store conn content over result h
