use Rattle.sqlite.specs.Held.{state}
use Rattle.acd_sql_statements.proofs.ReadsInTurn.{finds_failed}
use Rattle.acd_book.specs.Content.{Content}
use Rattle.acd_sql_columns.specs.Ranges.{further_of_row as read}
use Rattle.acd_sql_columns.specs.Relations.{further_in}
use Rattle.acd_sql_columns.specs.Rows.{further_values}
use Rattle.acd_sql_columns.proofs.Rows.Records.{further_exact}
use Rattle.acd_sql_columns.proofs.Rows.RecordsOfRows.{recorded}
use Rattle.std.proofs.Common.{map, refl, rules}
use Rattle.acd_sql_columns.specs.declared.tables.Table.TheVariants as table
use Rattle.acd_sql_statements.proofs.ReadCauses.{cause_as}
use Rattle.acd_sql_statements.proofs.RowCauses.{cause_records}
use Rattle.acd_sql_statements.proofs.plan.further.Goals as goal

pub returns : goal.returns
returns g c = record {
  found =
      recorded read further_values further_exact (state g.S.Store c.args.conn.now) (state g.S.Store c.further_rows.new.conn) c.in_ok-rows.rows c.records.result
      (λ (x : Content). further_in x.rows.agents) c.in_ok-rows.ensures.found (rw c.deref.ensures.value at c.records.ensures.records);
  cause =
      cause_records read table.AgentGroups (λ row. refl) (state g.S.Store c.args.conn.now) (state g.S.Store c.further_rows.new.conn) c.in_ok-rows.rows
      c.records.result (λ (x : Content). map further_values (further_in x.rows.agents)) (λ x row has. has)
      c.in_ok-rows.ensures.cause c.in_ok-rows.ensures.found (rw c.deref.ensures.value at c.records.ensures.bad);
}

pub returns-in_err-rows : goal.returns-in_err-rows
returns-in_err-rows g c = record {
  found = finds_failed c.in_err-rows.ensures.found (search rules);
  cause =
      cause_as (state g.S.Store c.args.conn.now) (state g.S.Store c.further_rows.new.conn) c.in_err-rows.field-0.0 c.from_residual.result (search rules)
      c.in_err-rows.ensures.cause;
}
