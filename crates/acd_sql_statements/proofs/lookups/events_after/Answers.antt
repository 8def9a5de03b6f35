use Rattle.sqlite.specs.Held.{state}
use Rattle.acd_sql_statements.proofs.ReadsInTurn.{finds_failed}
use Rattle.acd_book.specs.Content.{Content, events_after}
use Rattle.acd_sql_columns.specs.Ranges.{event_in}
use Rattle.acd_sql_columns.specs.Rows.{event_values}
use Rattle.acd_sql_columns.proofs.Rows.EventRows.{event_exact}
use Rattle.acd_sql_columns.proofs.Rows.RecordsOfRows.{recorded}
use Rattle.std.proofs.Common.{nat_lt, map, refl, rules}
use Rattle.acd_terms.specs.declared.event.Event.{Event}
use Rattle.acd_sql_columns.specs.declared.tables.Table.TheVariants as table
use Rattle.acd_sql_statements.proofs.ReadCauses.{cause_as}
use Rattle.acd_sql_statements.proofs.RowCauses.{cause_records, rows_has, page_has}
use Rattle.acd_sql_statements.proofs.lookups.events_after.Goals as goal

pub returns : goal.returns
returns g c = record {
  found =
      recorded event_in event_values event_exact (state g.S.Store c.args.conn.now) (state g.S.Store c.event_page.new.conn) c.in_ok-rows.rows c.records.result
      (λ (x : Content). events_after x.events c.args.number c.args.limit) c.in_ok-rows.ensures.found
      (rw c.deref.ensures.value at c.records.ensures.records);
  cause =
      cause_records event_in table.Events (λ row. refl) (state g.S.Store c.args.conn.now) (state g.S.Store c.event_page.new.conn) c.in_ok-rows.rows
      c.records.result (λ (x : Content). map event_values (events_after x.events c.args.number c.args.limit))
      (λ x row. rows_has event_values (events_after x.events c.args.number c.args.limit) x.events row
      (page_has c.args.limit (λ (e : Event). nat_lt c.args.number e.number) x.events))
      c.in_ok-rows.ensures.cause c.in_ok-rows.ensures.found (rw c.deref.ensures.value at c.records.ensures.bad);
}

pub returns-in_err-rows : goal.returns-in_err-rows
returns-in_err-rows g c = record {
  found = finds_failed c.in_err-rows.ensures.found (search rules);
  cause =
      cause_as (state g.S.Store c.args.conn.now) (state g.S.Store c.event_page.new.conn) c.in_err-rows.field-0.0 c.from_residual.result (search rules)
      c.in_err-rows.ensures.cause;
}
