use Rattle.std.proofs.Common.{rules}
use Rattle.sqlite.specs.Held.{state}
use Rattle.acd_sql_statements.proofs.ReadCauses.{cause_as, cause_after}
use Rattle.acd_sqlbook.proofs.MonitorPage.{page_of}
use Rattle.acd_sqlbook.proofs.page.page.Goals as goal

pub returns-in-Some-clause-found : goal.returns-in-Some-clause-found
returns-in-Some-clause-found g c =
    page_of (state g.S.Store c.args.conn.now) (state g.S.Store c.monitor_at.new.conn) (state g.S.Store c.page_at.new.conn) c.args.index.now c.args.monitor
    c.args.number c.max-above.result c.args.limit c.in_ok-watch.field-0 c.in-Some.watch c.page_at.result c.in-Some.is c.in_ok-watch.ensures.found
    c.max-above.ensures (c.page_at.ensures.found c.in_ok-watch.ensures.found.up)

pub returns-in_err-watch-clause-cause : goal.returns-in_err-watch-clause-cause
returns-in_err-watch-clause-cause g c =
    cause_as (state g.S.Store c.args.conn.now) (state g.S.Store c.monitor_at.new.conn) c.in_err-watch.field-0.0 c.from_residual.result (search rules)
    c.in_err-watch.ensures.cause

pub returns-in-Some-clause-cause : goal.returns-in-Some-clause-cause
returns-in-Some-clause-cause g c =
    cause_after (state g.S.Store c.args.conn.now) (state g.S.Store c.monitor_at.new.conn) (state g.S.Store c.page_at.new.conn) c.in_ok-watch.field-0
    c.page_at.result c.in_ok-watch.ensures.cause c.in_ok-watch.ensures.found.quiet c.in_ok-watch.ensures.found.up
    (c.page_at.ensures.found c.in_ok-watch.ensures.found.up).quiet.clean (c.page_at.ensures.cause c.in_ok-watch.ensures.found.up)
