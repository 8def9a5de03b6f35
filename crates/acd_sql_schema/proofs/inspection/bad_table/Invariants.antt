use Rattle.std.proofs.Common.{take, Ok}
use Rattle.sqlite.specs.Effect.{Database}
use Rattle.sqlite.specs.Held.{state}
use Rattle.acd_terms.specs.Lists.{Every}
use Rattle.acd_sql_columns.specs.AnyRows.{Covers}
use Rattle.acd_sql_columns.specs.DatabaseView.{Sees}
use Rattle.acd_sql_statements.specs.Looks.{HasLookCause}
use Rattle.acd_sql_schema.specs.Inspection.{HasCanonical}
use Rattle.acd_sql_schema.proofs.InspectionReads.{Good}
use Rattle.acd_sql_schema.proofs.inspection.bad_table.Given as goal

abbrev pub invariant-loop-table : goal.invariant-loop-table
invariant-loop-table g l = record {
  seen : (d : Database) → Every (Covers d.schema) l.tables
      → Sees {A = Unit {0}} d (state g.S.Store l.fn.conn) (state g.S.Store l.conn) (Ok tt) (Good (take l.table-index l.tables) d.trees);
  looked : HasLookCause {A = Unit {0}} (HasCanonical (λ s. Every (Covers s) l.tables)) (state g.S.Store l.fn.conn) (state g.S.Store l.conn) (Ok tt);
}
