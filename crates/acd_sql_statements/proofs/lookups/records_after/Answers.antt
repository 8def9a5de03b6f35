use Rattle.sqlite.specs.Held.{state}
use Rattle.acd_sql_statements.proofs.ReadsInTurn.{finds_failed}
use Rattle.acd_sql_columns.proofs.Rows.RecordsOfRows.{recorded_good}
use Rattle.acd_sql_statements.proofs.FirstRecord.{page_readable}
use Rattle.std.proofs.Common.{nat_lt, map, refl, rules}
use Rattle.acd_book.specs.Content.{Content, records_after}
use Rattle.acd_book.specs.declared.kept.Kept.{Kept}
use Rattle.acd_sql_columns.specs.Ranges.{kept_in}
use Rattle.acd_sql_columns.specs.Rows.{IsReadable, kept_values}
use Rattle.acd_sql_columns.proofs.Rows.EventRows.{kept_exact}
use Rattle.acd_sql_columns.specs.declared.tables.Table.TheVariants as table
use Rattle.acd_sql_statements.proofs.ReadCauses.{cause_as}
use Rattle.acd_sql_statements.proofs.RowCauses.{cause_records, rows_has, page_has}
use Rattle.acd_sql_statements.proofs.lookups.records_after.Goals as goal

pub returns : goal.returns
returns g c = record {
  found =
      recorded_good kept_in kept_values IsReadable kept_exact (state g.S.Store c.args.conn.now) (state g.S.Store c.kept_page.new.conn) c.in_ok-rows.rows
      c.records.result (λ (x : Content). records_after x.kept c.args.stamp c.args.limit)
      (page_readable (state g.S.Store c.args.conn.now) c.args.stamp c.args.limit) c.in_ok-rows.ensures.found
      (rw c.deref.ensures.value at c.records.ensures.records);
  cause =
      cause_records kept_in table.Kept (λ row. refl) (state g.S.Store c.args.conn.now) (state g.S.Store c.kept_page.new.conn) c.in_ok-rows.rows c.records.result
      (λ (x : Content). map kept_values (records_after x.kept c.args.stamp c.args.limit))
      (λ x row. rows_has kept_values (records_after x.kept c.args.stamp c.args.limit) x.kept row
      (page_has c.args.limit (λ (k : Kept). nat_lt c.args.stamp k.stamp) x.kept))
      c.in_ok-rows.ensures.cause c.in_ok-rows.ensures.found (rw c.deref.ensures.value at c.records.ensures.bad);
}

pub returns-in_err-rows : goal.returns-in_err-rows
returns-in_err-rows g c = record {
  found = finds_failed c.in_err-rows.ensures.found (search rules);
  cause =
      cause_as (state g.S.Store c.args.conn.now) (state g.S.Store c.kept_page.new.conn) c.in_err-rows.field-0.0 c.from_residual.result (search rules)
      c.in_err-rows.ensures.cause;
}
