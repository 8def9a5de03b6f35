use Rattle.std.proofs.Common.{◌≡◌, rules}
use Rattle.sqlite.specs.Held.{state}
use Rattle.acd_sqlbook.proofs.AfterProbe.{reads_after}
use Rattle.acd_sql_statements.proofs.ReadCauses.{cause_as, cause_after}
use Rattle.acd_sqlbook.proofs.ready.Ready.rows.Goals as goal

pub returns-clause-read : goal.returns-clause-read
returns-clause-read g c =
    reads_after (state g.S.Store c.args.self.now.conn) (state g.S.Store c.refresh.new.self.conn) (state g.S.Store c.rows.new.conn) c.rows.result
    (λ x found. found ≡ x.rows)
    c.refresh.ensures.quiet c.in_ok-refresh.ensures.up c.refresh.ensures.stops c.rows.ensures.found

pub returns-in_err-refresh-clause-cause : goal.returns-in_err-refresh-clause-cause
returns-in_err-refresh-clause-cause g c =
    cause_as (state g.S.Store c.args.self.now.conn) (state g.S.Store c.refresh.new.self.conn) c.in_err-refresh.field-0.0 c.from_residual.result (search rules)
    c.in_err-refresh.ensures.cause

pub returns-clause-cause : goal.returns-clause-cause
returns-clause-cause g c =
    cause_after (state g.S.Store c.args.self.now.conn) (state g.S.Store c.refresh.new.self.conn) (state g.S.Store c.rows.new.conn) tt c.rows.result
    c.in_ok-refresh.ensures.cause c.refresh.ensures.quiet c.in_ok-refresh.ensures.up c.rows.ensures.found.quiet.clean c.rows.ensures.cause
