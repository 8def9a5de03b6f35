use Rattle.acd_sqlbook.proofs.ReopenedBooks.{books_reopen}
use Rattle.acd_sqlbook.proofs.laws.books_reopen.Goals as goal

pub returns : goal.returns
returns c = books_reopen
