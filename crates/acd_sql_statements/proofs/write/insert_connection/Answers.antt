use Rattle.sqlite.specs.Held.{state}
use Rattle.acd_sql_columns.specs.Rows.{connection_values}
use Rattle.acd_sql_columns.specs.declared.texts.TheConstants.{INSERT_CONNECTION}
use Rattle.acd_sql_columns.proofs.FileTables.Connections.{inserts_connection}
use Rattle.acd_sql_columns.proofs.Writes.Common.{changes_uncommitted}
use Rattle.acd_sql_statements.proofs.RefusalCauses.{by_one}
use Rattle.acd_sql_statements.proofs.write.insert_connection.Goals as goal

pub returns : goal.returns
returns g c = record {
  same = c.write.ensures.same;
  works = c.write.ensures.works;
  put = λ clean.
      let old = state g.S.Store c.args.tx.now.conn.now in
      let new = state g.S.Store c.write.new.tx.conn.now in
      let connection = c.args.connection.now in
      changes_uncommitted INSERT_CONNECTION.now (connection_values connection) _ old new c.write.result
      (λ x count. inserts_connection connection x old new count)
      (rw c.connection_values.ensures at (c.write.ensures.ran clean));
  failed =
      by_one (state g.S.Store c.args.tx.now.conn.now) (state g.S.Store c.write.new.tx.conn.now) INSERT_CONNECTION.now (connection_values c.args.connection.now)
      c.write.result
      (λ clean inside. rw c.connection_values.ensures at (c.write.ensures.failed clean inside));
}
