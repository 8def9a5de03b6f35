use Rattle.std.proofs.Common.{◌≡◌, arith, ◌∙◌}
use Rattle.sqlite.specs.Held.{state}
use Rattle.acd_sql_columns.proofs.Writes.TransactionEnds.{works_on}
use Rattle.sqlite.specs.State.{HasCleanDisk}
use Rattle.acd_terms.specs.Lists.{put_by}
use Rattle.acd_model.specs.Scans.{at_connection}
use Rattle.acd_sql_columns.specs.declared.tables.Table.TheVariants as table
use Rattle.acd_sql_columns.specs.Relations.{Relations}
use Rattle.acd_sql_columns.specs.Content.{with_part}
use Rattle.acd_sql_columns.proofs.FileTables.Connections.{sets_connection, after_none}
use Rattle.std.proofs.Common.{inl, inr, rules}
use Rattle.acd_sql_columns.specs.Rows.{connection_values}
use Rattle.acd_sql_columns.specs.declared.texts.TheConstants.{INSERT_CONNECTION, UPDATE_CONNECTION}
use Rattle.acd_sql_statements.specs.WriteRefusals.{HasNoConnection, RefusesOn, RefusesPutConnection}
use Rattle.acd_sql_statements.proofs.RefusalCauses.{refused_on, by_known, by_more, by_same, by_later, still_connected, unless_ok}
use Rattle.acd_sql_statements.proofs.MissingConnections.{none_connected}
use Rattle.acd_sql_statements.proofs.write.put_connection.Goals as goal

pub returns-then-changed-gt0 : goal.returns-then-changed-gt0
returns-then-changed-gt0 g c = record {
  same = c.changed_rows.ensures.same;
  works = c.changed_rows.ensures.works;
  put = λ clean content d.
      let old = state g.S.Store c.args.tx.now.conn.now in
      let new = state g.S.Store c.changed_rows.new.tx.conn.now in
      sets_connection c.args.connection.now content old new c.in_ok-changed.changed d
      (rw c.connection_values.ensures at (c.in_ok-changed.ensures.ran clean))
      (λ none. omega (arith, none, c.if-changed-gt0.true));
  failed = λ clean r uncommitted. tt;
}

pub returns : goal.returns
returns g c = record {
  same = c.insert_connection.ensures.same ∙ c.changed_rows.ensures.same;
  works = works_on _ _ _ c.changed_rows.ensures.works c.insert_connection.ensures.works;
  put = λ clean.
      let old = state g.S.Store c.args.tx.now.conn.now in
      let mid = state g.S.Store c.changed_rows.new.tx.conn.now in
      let new = state g.S.Store c.insert_connection.new.tx.conn.now in
      let connection = c.args.connection.now in
      let middle : HasCleanDisk mid = omega (arith, clean, c.insert_connection.ensures.works.survives.clean) in
      let none : c.in_ok-changed.changed ≡ 0 = omega (arith, c.if-changed-gt0.false) in
      let first = rw c.connection_values.ensures at (c.in_ok-changed.ensures.ran middle) in
      after_none connection (λ (content : Relations). with_part table.Connections
      (put_by (at_connection connection.call connection.device) content.connections connection) content)
      old mid new c.in_ok-changed.changed c.insert_connection.result first none (c.insert_connection.ensures.put clean);
  failed =
      let old = state g.S.Store c.args.tx.now.conn.now in
      let mid = state g.S.Store c.changed_rows.new.tx.conn.now in
      let new = state g.S.Store c.insert_connection.new.tx.conn.now in
      let x = c.args.connection.now in
      let none : c.in_ok-changed.changed ≡ 0 = omega (arith, c.if-changed-gt0.false) in
      by_known old new (HasNoConnection x) (RefusesOn INSERT_CONNECTION.now (connection_values x)) (RefusesPutConnection x) c.insert_connection.result
      (λ clean r d.
      let middle : HasCleanDisk mid = omega (arith, clean, c.insert_connection.ensures.works.survives.clean) in
      none_connected x r old mid c.in_ok-changed.changed d (rw c.connection_values.ensures at (c.in_ok-changed.ensures.ran middle)) none)
      (λ limit r none h. inr (none, h))
      (by_later old mid new (λ r. r) (RefusesOn INSERT_CONNECTION.now (connection_values x)) c.insert_connection.result c.changed_rows.ensures.works
      c.insert_connection.ensures.works
      (λ middle r d. still_connected x r old mid c.in_ok-changed.changed d (rw c.connection_values.ensures at (c.in_ok-changed.ensures.ran middle)) none)
      c.insert_connection.ensures.failed);
}

pub returns-in_err-changed : goal.returns-in_err-changed
returns-in_err-changed g c = record {
  same = c.changed_rows.ensures.same;
  works = c.changed_rows.ensures.works;
  put = λ clean. unless_ok _ c.in_err-changed.field-0.0 c.from_residual.result (search rules);
  failed =
      let old = state g.S.Store c.args.tx.now.conn.now in
      let mid = state g.S.Store c.changed_rows.new.tx.conn.now in
      let x = c.args.connection.now in
      by_more old mid (RefusesOn UPDATE_CONNECTION.now (connection_values x)) (RefusesPutConnection x) c.from_residual.result (λ limit r h. inl h)
      (by_same old mid (RefusesOn UPDATE_CONNECTION.now (connection_values x)) c.in_err-changed.field-0.0 c.from_residual.result (search rules)
      (λ clean r d. refused_on old mid UPDATE_CONNECTION.now (connection_values x) c.in_err-changed.field-0.0 r d
      (rw c.connection_values.ensures at (c.in_err-changed.ensures.failed clean d.inside))));
}
