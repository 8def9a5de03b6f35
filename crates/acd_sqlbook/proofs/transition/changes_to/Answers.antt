use Rattle.std.proofs.Common.{rules}
use Rattle.sqlite.specs.Held.{state}
use Rattle.acd_sqlbook.specs.CommitStops.{Drops}
use Rattle.acd_sqlbook.proofs.CommitCauses.{counts_not, whole_caused}
use Rattle.acd_sqlbook.proofs.TableReplacement.{reads_leading}
use Rattle.acd_sqlbook.proofs.transition.changes_to.Goals as goal

pub returns-clause-read : goal.returns-clause-read
returns-clause-read g c =
    let e = c.whole_changes.ensures in
    reads_leading (state g.S.Store c.args.ready.now.conn) (state g.S.Store c.rows.new.self.conn) c.in_ok-held.held c.args.rows.now c.whole_changes.result
    c.in_ok-held.ensures.read e.exact e.leads

pub returns-clause-cause : goal.returns-clause-cause
returns-clause-cause g c =
    whole_caused (state g.S.Store c.args.ready.now.conn) (state g.S.Store c.rows.new.self.conn) c.in_ok-held.held c.args.rows.now c.whole_changes.result
    c.in_ok-held.ensures.read c.in_ok-held.ensures.cause c.whole_changes.ensures.failed

pub returns-in_err-held-clause-cause : goal.returns-in_err-held-clause-cause
returns-in_err-held-clause-cause g c =
    counts_not (Drops c.args.rows.now) (state g.S.Store c.args.ready.now.conn) (state g.S.Store c.rows.new.self.conn) c.in_err-held.field-0.0
    c.from_residual.result (search rules) c.in_err-held.ensures.cause
