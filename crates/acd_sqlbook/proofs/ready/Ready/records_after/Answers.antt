use Rattle.sqlite.specs.Held.{state}
use Rattle.acd_book.specs.Content.{records_after}
use Rattle.acd_sqlbook.proofs.AfterProbe.{reads_after}
use Rattle.std.proofs.Common.{◌≡◌, rules}
use Rattle.acd_sql_statements.proofs.ReadCauses.{cause_as, cause_after}
use Rattle.acd_sqlbook.proofs.ready.Ready.records_after.Goals as goal

pub returns-clause-read : goal.returns-clause-read
returns-clause-read g c =
    reads_after (state g.S.Store c.args.self.now.conn) (state g.S.Store c.refresh.new.self.conn) (state g.S.Store c.records_after.new.conn)
    c.records_after.result (λ x found. found.items ≡ records_after x.kept c.args.stamp c.args.limit)
    c.refresh.ensures.quiet c.in_ok-refresh.ensures.up c.refresh.ensures.stops c.records_after.ensures.found

pub returns-in_err-refresh-clause-cause : goal.returns-in_err-refresh-clause-cause
returns-in_err-refresh-clause-cause g c =
    cause_as (state g.S.Store c.args.self.now.conn) (state g.S.Store c.refresh.new.self.conn) c.in_err-refresh.field-0.0 c.from_residual.result (search rules)
    c.in_err-refresh.ensures.cause

pub returns-clause-cause : goal.returns-clause-cause
returns-clause-cause g c =
    cause_after (state g.S.Store c.args.self.now.conn) (state g.S.Store c.refresh.new.self.conn) (state g.S.Store c.records_after.new.conn) tt
    c.records_after.result
    c.in_ok-refresh.ensures.cause c.refresh.ensures.quiet c.in_ok-refresh.ensures.up c.records_after.ensures.found.quiet.clean c.records_after.ensures.cause
