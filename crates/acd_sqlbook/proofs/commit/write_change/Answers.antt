use Rattle.std.proofs.Common.{inr, IsTrue}
use Rattle.sqlite.specs.Held.{state}
use Rattle.acd_sql_columns.specs.Relations.{relations_of}
use Rattle.acd_sqlbook.specs.CommitStops.{RefusesChange, StopsAtChange}
use Rattle.acd_sqlbook.specs.Commit.{applied}
use Rattle.acd_sqlbook.proofs.CommitsInRange.{applied_in_range, ranging}
use Rattle.acd_sqlbook.proofs.PartCauses.{stops_more}
use Rattle.acd_sqlbook.proofs.commit.write_change.Goals as goal

pub returns-clause-failed : goal.returns-clause-failed
returns-clause-failed g c =
    let new = IsTrue c.args.is_new in
    let change = c.args.change.now in
    stops_more (state g.S.Store c.args.tx.now.conn.now) (state g.S.Store c.make_change.new.tx.conn.now) (λ x. RefusesChange new change (relations_of x))
    (StopsAtChange new change) c.make_change.result (λ x h. inr h) c.make_change.ensures.failed

pub returns-clause-put : goal.returns-clause-put
returns-clause-put g c clean =
    let change = c.args.change.now in
    ranging (state g.S.Store c.args.tx.now.conn.now) (state g.S.Store c.make_change.new.tx.conn.now) c.make_change.result (λ x. applied x change)
    (applied_in_range change c.change_is_good.ensures) (c.make_change.ensures.put clean)
