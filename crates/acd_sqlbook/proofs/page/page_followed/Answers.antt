use Rattle.std.proofs.Common.{Option, rules, subst, sym}
use Rattle.sqlite.specs.Held.{state}
use Rattle.acd_sql_statements.proofs.ReadCauses.{cause_as, cause_after}
use Rattle.acd_sqlbook.specs.EventIndex.{IsIndexOf}
use Rattle.acd_sqlbook.specs.declared.index.Index.{Index}
use Rattle.acd_sqlbook.proofs.MonitorPage.{page_next, next_recorded, page_never}
use Rattle.acd_sqlbook.proofs.page.page_followed.Goals as goal

pub returns-in_err-next-clause-recorded : goal.returns-in_err-next-clause-recorded
returns-in_err-next-clause-recorded g c clean x held recorded = subst (λ (o : Option Index). IsIndexOf o x.events) (sym c.take.ensures.after) tt

pub returns-in_err-next-clause-read : goal.returns-in_err-next-clause-read
returns-in_err-next-clause-read g c =
    page_never (state g.S.Store c.args.ready.now.conn) (state g.S.Store c.index_or_rebuild.new.ready.conn) c.args.recorded.now c.take.result c.args.monitor
    c.args.number c.args.limit c.in_err-next.field-0.0 c.from_residual.result (search rules) c.in_err-next.ensures.read

pub returns-in_err-next-clause-cause : goal.returns-in_err-next-clause-cause
returns-in_err-next-clause-cause g c =
    cause_as (state g.S.Store c.args.ready.now.conn) (state g.S.Store c.index_or_rebuild.new.ready.conn) c.in_err-next.field-0.0 c.from_residual.result
    (search rules) c.in_err-next.ensures.cause

pub returns-clause-recorded : goal.returns-clause-recorded
returns-clause-recorded g c =
    next_recorded (state g.S.Store c.args.ready.now.conn) (state g.S.Store c.index_or_rebuild.new.ready.conn) (state g.S.Store c.recorded_page-found.new.conn)
    c.args.recorded.now c.take.result c.in_ok-next.next c.args.monitor c.args.number c.args.limit c.take.ensures.value c.in_ok-next.ensures.read
    c.recorded_page-found.ensures.found.quiet.clean

pub returns-clause-read : goal.returns-clause-read
returns-clause-read g c =
    page_next (state g.S.Store c.args.ready.now.conn) (state g.S.Store c.index_or_rebuild.new.ready.conn) (state g.S.Store c.recorded_page-found.new.conn)
    c.args.recorded.now c.take.result c.in_ok-next.next c.args.monitor c.args.number c.args.limit c.take.ensures.value c.in_ok-next.ensures.read
    c.recorded_page-found.result c.recorded_page-found.ensures.found

pub returns-clause-cause : goal.returns-clause-cause
returns-clause-cause g c =
    cause_after (state g.S.Store c.args.ready.now.conn) (state g.S.Store c.index_or_rebuild.new.ready.conn) (state g.S.Store c.recorded_page-found.new.conn)
    c.in_ok-next.next c.recorded_page-found.result
    c.in_ok-next.ensures.cause c.in_ok-next.ensures.read.quiet c.in_ok-next.ensures.read.up c.recorded_page-found.ensures.found.quiet.clean
    c.recorded_page-found.ensures.cause
