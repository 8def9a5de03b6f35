use Rattle.std.proofs.Common.{Err, inl, inr, refl, ap}
use Rattle.acd_sessions.proofs.session.lines_over_book.Goals as goal

pub returns-in-Err : goal.returns-in-Err
returns-in-Err g c = inl (record { why = c.in-Err.fault; outcome = ap Err c.from.ensures; refused = c.in-Err.ensures; untouched = (refl, refl) })

pub returns : goal.returns
returns g c = inr (record { first = c.in-Ok.desk; final = c.answer-done.new.desk; opened = c.in-Ok.ensures; did = c.answer-done.ensures; back = c.close.ensures })
