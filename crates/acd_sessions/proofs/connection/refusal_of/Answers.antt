use Rattle.sqlite.specs.Held.{state}
use Rattle.acd_sessions.proofs.Archives.{looked_untouched}
use Rattle.acd_sessions.proofs.connection.refusal_of.Goals as goal

pub returns-in-Ok-Book : goal.returns-in-Ok-Book
returns-in-Ok-Book g c clean = looked_untouched (state g.S.Store c.args.conn.now) (state g.S.Store c.look_over.new.conn) c.look_over.result clean c.look_over.ensures.looked

pub returns-in-Ok-Fault : goal.returns-in-Ok-Fault
returns-in-Ok-Fault g c clean = looked_untouched (state g.S.Store c.args.conn.now) (state g.S.Store c.look_over.new.conn) c.look_over.result clean c.look_over.ensures.looked

pub returns-in-Err : goal.returns-in-Err
returns-in-Err g c clean = looked_untouched (state g.S.Store c.args.conn.now) (state g.S.Store c.look_over.new.conn) c.look_over.result clean c.look_over.ensures.looked
