use Rattle.sqlite.specs.Held.{state}
use Rattle.acd_sqlbook.proofs.MonitorPage.{page_recorded, page_unrecorded}
use Rattle.acd_sqlbook.proofs.page.recorded_page.Goals as goal

pub returns-in-Some-clause-found : goal.returns-in-Some-clause-found
returns-in-Some-clause-found g c =
    page_recorded (state g.S.Store c.args.conn.now) (state g.S.Store c.page.new.conn) c.args.recorded.now c.in-Some.index c.args.monitor c.args.number
    c.args.limit c.page.result c.in-Some.is c.page.ensures.found

pub returns-in-None-clause-found : goal.returns-in-None-clause-found
returns-in-None-clause-found g c =
    page_unrecorded (state g.S.Store c.args.conn.now) (state g.S.Store c.events_watched.new.conn) c.args.recorded.now c.args.monitor c.args.number c.args.limit
    c.events_watched.result c.events_watched.ensures.found
