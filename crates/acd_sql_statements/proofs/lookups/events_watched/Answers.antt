use Rattle.sqlite.specs.Held.{state}
use Rattle.acd_sql_statements.proofs.ReadsInTurn.{finds_failed}
use Rattle.acd_sql_statements.proofs.FirstRecord.{watched}
use Rattle.std.proofs.Common.{rules}
use Rattle.acd_sql_statements.proofs.ReadCauses.{cause_as, cause_after}
use Rattle.acd_sql_statements.proofs.lookups.events_watched.Goals as goal

pub returns-in-Some : goal.returns-in-Some
returns-in-Some g c = record {
  found =
      watched (state g.S.Store c.args.conn.now) (state g.S.Store c.monitor_at.new.conn) (state g.S.Store c.events_at.new.conn) c.args.monitor c.args.number
      c.max-above.result c.args.limit c.in_ok-watch.field-0 c.in-Some.watch c.events_at.result c.in-Some.is c.in_ok-watch.ensures.found c.max-above.ensures
      c.events_at.ensures.found;
  cause =
      cause_after (state g.S.Store c.args.conn.now) (state g.S.Store c.monitor_at.new.conn) (state g.S.Store c.events_at.new.conn) c.in_ok-watch.field-0
      c.events_at.result c.in_ok-watch.ensures.cause c.in_ok-watch.ensures.found.quiet c.in_ok-watch.ensures.found.up c.events_at.ensures.found.quiet.clean
      c.events_at.ensures.cause;
}

pub returns-in_err-watch : goal.returns-in_err-watch
returns-in_err-watch g c = record {
  found = finds_failed c.in_err-watch.ensures.found (search rules);
  cause =
      cause_as (state g.S.Store c.args.conn.now) (state g.S.Store c.monitor_at.new.conn) c.in_err-watch.field-0.0 c.from_residual.result (search rules)
      c.in_err-watch.ensures.cause;
}
