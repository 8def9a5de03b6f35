use Rattle.acd_sessions.proofs.Reopening.{books_make_desks}
use Rattle.acd_sessions.proofs.laws.books_make_desks.Goals as goal

pub returns : goal.returns
returns g c conn content over = books_make_desks g.S.Store conn content over
