use Rattle.sqlite.specs.Held.{state}
use Rattle.acd_sql_columns.specs.declared.texts.TheConstants.{UPDATE_META}
use Rattle.acd_sql_columns.proofs.FileTables.Counters.{set_values, sets_meta}
use Rattle.acd_sql_columns.proofs.Writes.Common.{changes_uncommitted}
use Rattle.acd_sql_statements.proofs.RefusalCauses.{by_one}
use Rattle.acd_sql_statements.proofs.write.set_meta.Goals as goal

pub returns : goal.returns
returns g c = record {
  same = c.write.ensures.same;
  works = c.write.ensures.works;
  put = λ clean.
      let old = state g.S.Store c.args.tx.now.conn.now in
      let new = state g.S.Store c.write.new.tx.conn.now in
      let meta = c.args.meta.now in
      changes_uncommitted UPDATE_META.now (set_values meta) _ old new c.write.result (λ x count. sets_meta meta x old new count)
      (rw c.counters_values.ensures at (c.write.ensures.ran clean));
  failed =
      by_one (state g.S.Store c.args.tx.now.conn.now) (state g.S.Store c.write.new.tx.conn.now) UPDATE_META.now (set_values c.args.meta.now) c.write.result
      (λ clean inside. rw c.counters_values.ensures at (c.write.ensures.failed clean inside));
}
