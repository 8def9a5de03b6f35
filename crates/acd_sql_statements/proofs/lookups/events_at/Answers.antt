use Rattle.std.proofs.Common.{filter, take, Some, map, refl, rules}
use Rattle.sqlite.specs.Held.{state}
use Rattle.acd_sql_statements.proofs.ReadsInTurn.{finds_failed}
use Rattle.acd_book.specs.Content.{Content, is_at_after}
use Rattle.acd_sql_columns.specs.Ranges.{event_in}
use Rattle.acd_sql_columns.specs.Rows.{event_values}
use Rattle.acd_sql_columns.proofs.Rows.EventRows.{event_exact}
use Rattle.acd_sql_columns.proofs.Rows.RecordsOfRows.{recorded}
use Rattle.acd_sql_columns.specs.declared.tables.Table.TheVariants as table
use Rattle.acd_sql_statements.proofs.ReadCauses.{cause_as}
use Rattle.acd_sql_statements.proofs.RowCauses.{cause_records, rows_has, page_has}
use Rattle.acd_sql_statements.proofs.lookups.events_at.Goals as goal

pub returns : goal.returns
returns g c = record {
  found =
      recorded event_in event_values event_exact (state g.S.Store c.args.conn.now) (state g.S.Store c.event_page_at.new.conn) c.in_ok-rows.rows c.records.result
      (λ (x : Content). take c.args.limit (filter (is_at_after (Some c.args.device) c.args.number) x.events)) c.in_ok-rows.ensures.found
      (rw c.deref.ensures.value at c.records.ensures.records);
  cause =
      cause_records event_in table.Events (λ row. refl) (state g.S.Store c.args.conn.now) (state g.S.Store c.event_page_at.new.conn) c.in_ok-rows.rows
      c.records.result (λ (x : Content). map event_values (take c.args.limit (filter (is_at_after (Some c.args.device) c.args.number) x.events)))
      (λ x row. rows_has event_values (take c.args.limit (filter (is_at_after (Some c.args.device) c.args.number) x.events)) x.events row
      (page_has c.args.limit (is_at_after (Some c.args.device) c.args.number) x.events))
      c.in_ok-rows.ensures.cause c.in_ok-rows.ensures.found (rw c.deref.ensures.value at c.records.ensures.bad);
}

pub returns-in_err-rows : goal.returns-in_err-rows
returns-in_err-rows g c = record {
  found = finds_failed c.in_err-rows.ensures.found (search rules);
  cause =
      cause_as (state g.S.Store c.args.conn.now) (state g.S.Store c.event_page_at.new.conn) c.in_err-rows.field-0.0 c.from_residual.result (search rules)
      c.in_err-rows.ensures.cause;
}
