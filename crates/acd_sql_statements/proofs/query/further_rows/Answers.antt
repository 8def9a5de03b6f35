use Rattle.sqlite.specs.Held.{state}
use Rattle.acd_sql_columns.proofs.FileTables.AgentGroups.{groups_plain, shows_groups}
use Rattle.acd_sql_columns.proofs.OneTable.Listings.{finds}
use Rattle.acd_sql_statements.proofs.ReadTexts.{further_answered}
use Rattle.acd_sql_statements.proofs.query.further_rows.Goals as goal

pub returns : goal.returns
returns g c = record {
  found =
      let e = c.read.ensures in
      finds _ _ (state g.S.Store c.args.conn.now) (state g.S.Store c.read.new.conn) c.read.result groups_plain _
      (record { up = e.up; quiet = e.quiet; stops = e.stops; shown = e.shown }) (shows_groups _ _);
  cause = c.read.ensures.cause further_answered;
}
