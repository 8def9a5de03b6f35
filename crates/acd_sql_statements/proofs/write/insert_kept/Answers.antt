use Rattle.sqlite.specs.Held.{state}
use Rattle.acd_sql_columns.specs.declared.texts.TheConstants.{INSERT_KEPT}
use Rattle.acd_sql_columns.specs.Rows.{kept_values}
use Rattle.acd_sql_columns.specs.Tables.{kept}
use Rattle.acd_sql_columns.proofs.Writes.Common.{changes_uncommitted}
use Rattle.acd_sql_columns.proofs.FileTables.DescribedTable.{inserted_in}
use Rattle.acd_sql_columns.proofs.FileTables.TablesDescribed.{kept_described}
use Rattle.acd_sql_statements.proofs.RefusalCauses.{by_one}
use Rattle.acd_sql_statements.proofs.write.insert_kept.Goals as goal

pub returns : goal.returns
returns g c = record {
  same = c.write.ensures.same;
  works = c.write.ensures.works;
  put = λ clean.
      let old = state g.S.Store c.args.tx.now.conn.now in
      let new = state g.S.Store c.write.new.tx.conn.now in
      let item = c.args.kept.now in
      changes_uncommitted INSERT_KEPT.now (kept_values item) _ old new c.write.result
      (λ x count. inserted_in kept kept_described item c.reads_back.ensures x old new count)
      (rw (
        c.integer.ensures,
        c.text.ensures,
        c.as_bytes.ensures.value,
        c.small.ensures,
        c.number.ensures.value,
        c.small-2.ensures,
        c.text-2.ensures,
        c.as_bytes-2.ensures.value,
        c.small-3.ensures,
        c.from.ensures,
        c.text-3.ensures,
        c.as_bytes-3.ensures.value,
        c.as_str.ensures,
        c.requires.request,
      )
      at (c.write.ensures.ran clean));
  failed =
      by_one (state g.S.Store c.args.tx.now.conn.now) (state g.S.Store c.write.new.tx.conn.now) INSERT_KEPT.now (kept_values c.args.kept.now) c.write.result
      (λ clean inside. rw (
        c.integer.ensures,
        c.text.ensures,
        c.as_bytes.ensures.value,
        c.small.ensures,
        c.number.ensures.value,
        c.small-2.ensures,
        c.text-2.ensures,
        c.as_bytes-2.ensures.value,
        c.small-3.ensures,
        c.from.ensures,
        c.text-3.ensures,
        c.as_bytes-3.ensures.value,
        c.as_str.ensures,
        c.requires.request,
      )
      at (c.write.ensures.failed clean inside));
}
