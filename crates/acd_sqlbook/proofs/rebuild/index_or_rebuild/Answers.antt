use Rattle.std.proofs.Common.{rules}
use Rattle.sqlite.specs.Held.{state}
use Rattle.acd_sql_statements.proofs.ReadCauses.{cause_as, cause_after}
use Rattle.acd_sqlbook.specs.EventIndex.{IsIndexOf}
use Rattle.acd_sqlbook.proofs.AfterProbe.{reads_after}
use Rattle.acd_sqlbook.proofs.IndexRebuild.{stays_recorded, begins_anew}
use Rattle.acd_sqlbook.proofs.rebuild.index_or_rebuild.Goals as goal

pub returns-in-Some-clause-read : goal.returns-in-Some-clause-read
returns-in-Some-clause-read g c =
    stays_recorded (state g.S.Store c.args.ready.now.conn) (state g.S.Store c.refresh.new.self.conn) c.args.recorded c.in-Some.index (search rules)
    c.refresh.ensures.quiet c.in_ok-refresh.ensures.up c.refresh.ensures.stops

pub returns-in-None-clause-read : goal.returns-in-None-clause-read
returns-in-None-clause-read g c =
    reads_after (state g.S.Store c.args.ready.now.conn) (state g.S.Store c.refresh.new.self.conn) (state g.S.Store c.rebuilt_index.new.conn) c.rebuilt_index.result
    (λ x next. IsIndexOf c.args.recorded x.events → IsIndexOf next x.events)
    c.refresh.ensures.quiet c.in_ok-refresh.ensures.up c.refresh.ensures.stops
    (begins_anew (state g.S.Store c.refresh.new.self.conn) (state g.S.Store c.rebuilt_index.new.conn) c.args.recorded c.rebuilt_index.result c.rebuilt_index.ensures.found)

pub returns-in_err-refresh-clause-cause : goal.returns-in_err-refresh-clause-cause
returns-in_err-refresh-clause-cause g c =
    cause_as (state g.S.Store c.args.ready.now.conn) (state g.S.Store c.refresh.new.self.conn) c.in_err-refresh.field-0.0 c.from_residual.result (search rules)
    c.in_err-refresh.ensures.cause

pub returns-in-None-clause-cause : goal.returns-in-None-clause-cause
returns-in-None-clause-cause g c =
    cause_after (state g.S.Store c.args.ready.now.conn) (state g.S.Store c.refresh.new.self.conn) (state g.S.Store c.rebuilt_index.new.conn) tt c.rebuilt_index.result
    c.in_ok-refresh.ensures.cause c.refresh.ensures.quiet c.in_ok-refresh.ensures.up c.rebuilt_index.ensures.found.quiet.clean c.rebuilt_index.ensures.cause
