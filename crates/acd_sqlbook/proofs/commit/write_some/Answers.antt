use Rattle.std.proofs.Common.{inr, rules}
use Rattle.sqlite.specs.Held.{state}
use Rattle.acd_sql_statements.specs.SeveralEvents.{with_all_events, RefusesEvents}
use Rattle.acd_sqlbook.specs.Commit.{with_events}
use Rattle.acd_sqlbook.specs.CommitStops.{StopsAtEvents}
use Rattle.acd_sqlbook.proofs.WritesInTurn.{leaving, all_applied_at_once}
use Rattle.acd_sqlbook.proofs.CommitsInRange.{events_in_range, ranging}
use Rattle.acd_sqlbook.proofs.PartCauses.{stops_as}
use Rattle.acd_sqlbook.proofs.commit.write_some.Goals as goal

pub returns-clause-put : goal.returns-clause-put
returns-clause-put g c clean =
    let old = state g.S.Store c.args.tx.now.conn.now in
    let new = state g.S.Store c.insert_events.new.tx.conn.now in
    let events = c.args.events.now in
    ranging old new c.insert_events.result (λ x. with_events x events) (events_in_range events (c.events_fit.ensures.good (search rules)))
    (leaving old new c.insert_events.result (with_all_events events) (λ x. with_events x events) (λ x seen. all_applied_at_once x events)
    (c.insert_events.ensures.put clean))

pub returns-clause-failed : goal.returns-clause-failed
returns-clause-failed g c =
    let es = c.args.events.now in
    stops_as (state g.S.Store c.args.tx.now.conn.now) (state g.S.Store c.insert_events.new.tx.conn.now) c.requires.limit (RefusesEvents es) (StopsAtEvents es)
    c.insert_events.result (λ x h. inr h) c.insert_events.ensures.failed
