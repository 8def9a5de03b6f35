use Rattle.std.proofs.Common.{Err, inl, inr, refl, ap}
use Rattle.acd_sessions.proofs.standby.stand_by_book.Goals as goal

pub returns-in-Err : goal.returns-in-Err
returns-in-Err g c = inl (record { why = c.in-Err.fault; ended = ap Err c.from.ensures; refused = c.in-Err.ensures; quiet = refl; unsaid = refl })

pub returns : goal.returns
returns g c = inr (record { first = c.in-Ok.desk; final = c.stand_by_desk-done.new.desk; opened = c.in-Ok.ensures; did = c.stand_by_desk-done.ensures; back = c.close.ensures })
