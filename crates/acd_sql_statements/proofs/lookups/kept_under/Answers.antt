use Rattle.sqlite.specs.Held.{state}
use Rattle.acd_sql_statements.proofs.ReadsInTurn.{finds_failed}
use Rattle.acd_book.specs.Content.{Content, kept_of, is_key}
use Rattle.acd_book.specs.declared.kept.Kept.{Kept}
use Rattle.acd_sql_columns.specs.Rows.{IsReadable, kept_values}
use Rattle.acd_sql_columns.specs.Ranges.{kept_in}
use Rattle.acd_sql_statements.proofs.FirstRecord.{first_recorded, found_readable}
use Rattle.acd_sql_columns.proofs.Rows.EventRows.{kept_exact}
use Rattle.std.proofs.Common.{map, refl, rules}
use Rattle.std.specs.Prelude.{option_to_list}
use Rattle.acd_sql_columns.specs.declared.tables.Table.TheVariants as table
use Rattle.acd_sql_statements.proofs.ReadCauses.{cause_as}
use Rattle.acd_sql_statements.proofs.RowCauses.{cause_records, rows_has, found_has}
use Rattle.acd_sql_statements.proofs.lookups.kept_under.Goals as goal

pub returns : goal.returns
returns g c = record {
  found =
      first_recorded kept_in kept_values IsReadable kept_exact (state g.S.Store c.args.conn.now) (state g.S.Store c.found_kept_row.new.conn) c.in_ok-rows.rows
      c.first.result (λ (x : Content). kept_of x.kept c.args.requester.now c.args.invoke)
      (found_readable (state g.S.Store c.args.conn.now) (λ (k : Kept). is_key c.args.requester.now c.args.invoke k.request)) c.in_ok-rows.ensures.found
      (rw c.deref.ensures.value at c.first.ensures.found);
  cause =
      cause_records kept_in table.Kept (λ row. refl) (state g.S.Store c.args.conn.now) (state g.S.Store c.found_kept_row.new.conn) c.in_ok-rows.rows c.first.result
      (λ (x : Content). map kept_values (option_to_list (kept_of x.kept c.args.requester.now c.args.invoke)))
      (λ x row. rows_has kept_values (option_to_list (kept_of x.kept c.args.requester.now c.args.invoke)) x.kept row
      (found_has (λ (k : Kept). is_key c.args.requester.now c.args.invoke k.request) x.kept))
      c.in_ok-rows.ensures.cause c.in_ok-rows.ensures.found (rw c.deref.ensures.value at c.first.ensures.bad);
}

pub returns-in_err-rows : goal.returns-in_err-rows
returns-in_err-rows g c = record {
  found = finds_failed c.in_err-rows.ensures.found (search rules);
  cause =
      cause_as (state g.S.Store c.args.conn.now) (state g.S.Store c.found_kept_row.new.conn) c.in_err-rows.field-0.0 c.from_residual.result (search rules)
      c.in_err-rows.ensures.cause;
}
