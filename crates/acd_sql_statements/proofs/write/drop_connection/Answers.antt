use Rattle.std.proofs.Common.{[], ◌∷◌}
use Rattle.sqlite.specs.Held.{state}
use Rattle.acd_sql_columns.specs.Values.{id_value}
use Rattle.acd_sql_columns.proofs.FileTables.Connections.{drops_connection}
use Rattle.acd_sql_columns.specs.declared.texts.TheConstants.{DELETE_CONNECTION}
use Rattle.acd_sql_columns.proofs.Writes.Common.{changes_uncommitted}
use Rattle.acd_sql_statements.proofs.RefusalCauses.{by_one}
use Rattle.acd_sql_statements.proofs.write.drop_connection.Goals as goal

pub returns : goal.returns
returns g c = record {
  same = c.write.ensures.same;
  works = c.write.ensures.works;
  put = λ clean.
      let old = state g.S.Store c.args.tx.now.conn.now in
      let new = state g.S.Store c.write.new.tx.conn.now in
      changes_uncommitted DELETE_CONNECTION.now (id_value c.args.call ∷ id_value c.args.device ∷ []) _ old new c.write.result
      (λ x count. drops_connection c.args.call c.args.device x old new count)
      (rw (c.integer.ensures, c.device.ensures) at (c.write.ensures.ran clean));
  failed =
      by_one (state g.S.Store c.args.tx.now.conn.now) (state g.S.Store c.write.new.tx.conn.now) DELETE_CONNECTION.now
      (id_value c.args.call ∷ id_value c.args.device ∷ []) c.write.result
      (λ clean inside. rw (c.integer.ensures, c.device.ensures) at (c.write.ensures.failed clean inside));
}
