use Rattle.std.proofs.Common.{◌-◌, ◌^◌, Ok}
use Rattle.sqlite.specs.Effect.{Database}
use Rattle.sqlite.specs.Held.{state}
use Rattle.acd_sql_columns.specs.Transactions.{Fits}
use Rattle.acd_sql_columns.specs.Schema.{tables_1, BeginsSchema}
use Rattle.acd_sql_columns.specs.DatabaseView.{Sees}
use Rattle.acd_sql_statements.specs.Looks.{HasLookCause}
use Rattle.acd_sql_schema.specs.Inspection.{IsPaged}
use Rattle.acd_sql_schema.proofs.InspectionReads.{Left}
use Rattle.acd_sql_schema.proofs.inspection.are_pages_good.Given as goal

abbrev pub invariant-loop-page : goal.invariant-loop-page
invariant-loop-page g l = record {
  fits : Fits l.number;
  seen : (d : Database) → BeginsSchema tables_1 d.schema
      → Sees {A = Unit {0}} d (state g.S.Store l.fn.conn) (state g.S.Store l.conn) (Ok tt) (Left l.log l.number d.trees);
  looked : HasLookCause {A = Unit {0}} (IsPaged l.log) (state g.S.Store l.fn.conn) (state g.S.Store l.conn) (Ok tt);
}

abbrev pub decreases-loop-page : goal.decreases-loop-page
decreases-loop-page g l = 2 ^ 63 - l.number
