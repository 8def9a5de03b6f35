use Rattle.std.proofs.Common.{[], ◌∷◌}
use Rattle.sqlite.specs.Held.{state}
use Rattle.acd_sql_columns.specs.Values.{id_value}
use Rattle.acd_sql_columns.proofs.OneTable.Listings.{finds}
use Rattle.acd_sql_columns.proofs.Results.QueryAnswers.{monitor_plain, shows_monitor}
use Rattle.acd_sql_columns.specs.declared.texts.TheConstants.{SELECT_MONITOR}
use Rattle.acd_sql_statements.proofs.ReadTexts.{monitor_answered}
use Rattle.acd_sql_statements.proofs.query.found_monitor_row.Goals as goal

pub returns : goal.returns
returns g c = record {
  found =
      let e = c.read.ensures in
      finds SELECT_MONITOR.now (id_value c.args.monitor ∷ []) (state g.S.Store c.args.conn.now) (state g.S.Store c.read.new.conn) c.read.result monitor_plain _
      (record { up = e.up; quiet = e.quiet; stops = e.stops; shown = λ clean. rw (c.integer.ensures) at (e.shown clean) })
      (shows_monitor c.args.monitor _ _);
  cause = (rw (c.integer.ensures) at c.read.ensures.cause) (monitor_answered c.args.monitor);
}
