use Rattle.std.proofs.Common.{◌≡◌, Err, rules, subst, sym, map, refl}
use Rattle.std.specs.Prelude.{Vec}
use Rattle.std.specs.declared.alloc.Global.{Global}
use Rattle.sqlite.specs.Held.{state}
use Rattle.acd_terms.specs.declared.record.ConnectionRecord.{ConnectionRecord}
use Rattle.acd_book.specs.Content.{Content}
use Rattle.acd_sql_columns.specs.Ranges.{connection_of_row}
use Rattle.acd_sql_columns.specs.Rows.{connection_values}
use Rattle.acd_sql_columns.proofs.Rows.Records.{connection_exact}
use Rattle.acd_sql_columns.proofs.Rows.RecordsOfRows.{found_none, recorded}
use Rattle.acd_sql_columns.specs.ReadResults.{Finds}
use Rattle.acd_sql_columns.specs.declared.tables.Table.TheVariants as table
use Rattle.acd_sql_statements.proofs.ReadCauses.{cause_as}
use Rattle.acd_sql_statements.proofs.RowCauses.{cause_records}
use Rattle.acd_sql_statements.proofs.reads.connections.Goals as goal

pub returns-in_err-rows : goal.returns-in_err-rows
returns-in_err-rows g c = record {
  found =
      let is : c.from_residual.result ≡ Err c.in_err-rows.field-0.0 = search rules in
      subst
      (λ r. Finds (state g.S.Store c.args.conn.now) (state g.S.Store c.connection_rows.new.conn) r
      (λ (x : Content) (found : Vec ConnectionRecord Global). found.items ≡ x.rows.connections))
      (sym is)
      (found_none (state g.S.Store c.args.conn.now) (state g.S.Store c.connection_rows.new.conn) c.in_err-rows.field-0.0 _
      (λ (x : Content) (found : Vec ConnectionRecord Global). found.items ≡ x.rows.connections) c.in_err-rows.ensures.found);
  cause =
      cause_as (state g.S.Store c.args.conn.now) (state g.S.Store c.connection_rows.new.conn) c.in_err-rows.field-0.0 c.from_residual.result (search rules)
      c.in_err-rows.ensures.cause;
}

pub returns : goal.returns
returns g c = record {
  found =
      recorded connection_of_row connection_values connection_exact (state g.S.Store c.args.conn.now) (state g.S.Store c.connection_rows.new.conn) c.in_ok-rows.rows
      c.records.result (λ (x : Content). x.rows.connections) c.in_ok-rows.ensures.found
      (rw c.deref.ensures.value at c.records.ensures.records);
  cause =
      cause_records connection_of_row table.Connections (λ row. refl) (state g.S.Store c.args.conn.now) (state g.S.Store c.connection_rows.new.conn)
      c.in_ok-rows.rows c.records.result (λ (x : Content). map connection_values x.rows.connections) (λ x row has. has)
      c.in_ok-rows.ensures.cause c.in_ok-rows.ensures.found (rw c.deref.ensures.value at c.records.ensures.bad);
}
