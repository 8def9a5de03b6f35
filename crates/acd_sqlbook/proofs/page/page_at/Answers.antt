use Rattle.sqlite.specs.Held.{state}
use Rattle.acd_sqlbook.proofs.MonitorPage.{page_by_numbers, page_by_all}
use Rattle.acd_sqlbook.proofs.page.page_at.Goals as goal

pub returns-in-Some-clause-found : goal.returns-in-Some-clause-found
returns-in-Some-clause-found g c is_open =
    page_by_numbers (state g.S.Store c.args.conn.now) (state g.S.Store c.events_numbered.new.conn) c.args.index.now c.args.device c.args.number c.args.limit
    c.in-Some.numbers.now c.events_numbered.result c.in-Some.ensures (c.events_numbered.ensures.found is_open)

pub returns-in-None-clause-found : goal.returns-in-None-clause-found
returns-in-None-clause-found g c is_open =
    page_by_all (state g.S.Store c.args.conn.now) (state g.S.Store c.events_at.new.conn) c.args.index.now c.args.device c.args.number c.args.limit
    c.events_at.result c.events_at.ensures.found
