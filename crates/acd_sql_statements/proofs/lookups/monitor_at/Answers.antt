use Rattle.sqlite.specs.Held.{state}
use Rattle.acd_sql_statements.proofs.ReadsInTurn.{finds_failed}
use Rattle.acd_sql_statements.proofs.FirstRecord.{monitor_listed, monitor_first}
use Rattle.std.proofs.Common.{map, refl, rules}
use Rattle.std.specs.Prelude.{option_to_list}
use Rattle.acd_model.specs.Scans.{monitor_of}
use Rattle.acd_book.specs.Content.{Content}
use Rattle.acd_sql_columns.specs.Ranges.{monitor_of_row}
use Rattle.acd_sql_columns.specs.Rows.{monitor_values}
use Rattle.acd_sql_columns.specs.declared.tables.Table.TheVariants as table
use Rattle.acd_sql_statements.proofs.ReadTexts.{monitors_answered}
use Rattle.acd_sql_statements.proofs.ReadCauses.{cause_as, cause_done}
use Rattle.acd_sql_statements.proofs.RowCauses.{cause_records, rows_has, monitor_has}
use Rattle.acd_sql_statements.proofs.lookups.monitor_at.Goals as goal

pub returns-then-not-fits : goal.returns-then-not-fits
returns-then-not-fits g c = record {
  found =
      monitor_listed (state g.S.Store c.args.conn.now) (state g.S.Store c.records.new.conn) c.args.number c.in_ok-monitors.monitors c.find.result
      c.in_ok-monitors.ensures.found (rw c.deref.ensures.value at c.find.ensures);
  cause =
      cause_done (state g.S.Store c.args.conn.now) (state g.S.Store c.records.new.conn) c.in_ok-monitors.monitors c.find.result
      (c.in_ok-monitors.ensures.cause monitors_answered (λ x. refl));
}

pub returns : goal.returns
returns g c = record {
  found =
      monitor_first (state g.S.Store c.args.conn.now) (state g.S.Store c.found_monitor_row.new.conn) c.args.number c.in_ok-rows.rows c.first.result
      c.in_ok-rows.ensures.found (rw c.deref-2.ensures.value at c.first.ensures.found);
  cause =
      cause_records monitor_of_row table.Monitors (λ row. refl) (state g.S.Store c.args.conn.now) (state g.S.Store c.found_monitor_row.new.conn) c.in_ok-rows.rows
      c.first.result (λ (x : Content). map monitor_values (option_to_list (monitor_of x.rows c.args.number)))
      (λ x row. rows_has monitor_values (option_to_list (monitor_of x.rows c.args.number)) x.rows.monitors row (monitor_has x c.args.number))
      c.in_ok-rows.ensures.cause c.in_ok-rows.ensures.found (rw c.deref-2.ensures.value at c.first.ensures.bad);
}

pub returns-in_err-monitors : goal.returns-in_err-monitors
returns-in_err-monitors g c = record {
  found = finds_failed c.in_err-monitors.ensures.found (search rules);
  cause =
      cause_as (state g.S.Store c.args.conn.now) (state g.S.Store c.records.new.conn) c.in_err-monitors.field-0.0 c.from_residual.result (search rules)
      (c.in_err-monitors.ensures.cause monitors_answered (λ x. refl));
}

pub returns-in_err-rows : goal.returns-in_err-rows
returns-in_err-rows g c = record {
  found = finds_failed c.in_err-rows.ensures.found (search rules);
  cause =
      cause_as (state g.S.Store c.args.conn.now) (state g.S.Store c.found_monitor_row.new.conn) c.in_err-rows.field-0.0 c.from_residual-in_err-rows.result
      (search rules) c.in_err-rows.ensures.cause;
}
