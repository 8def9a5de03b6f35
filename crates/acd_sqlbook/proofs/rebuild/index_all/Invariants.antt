use Rattle.std.proofs.Common.{Ok}
use Rattle.sqlite.specs.Held.{state}
use Rattle.sqlite.specs.declared.error.Error.{Error}
use Rattle.acd_sql_columns.specs.ReadResults.{Finds}
use Rattle.acd_sql_statements.specs.EventsByNumber.{IsOpenIfClean}
use Rattle.acd_sql_statements.specs.ReadFailures.{HasReadCause}
use Rattle.acd_sqlbook.proofs.IndexRebuild.{HasPassed}
use Rattle.acd_sqlbook.proofs.rebuild.index_all.Given as goal

abbrev pub invariant-loop : goal.invariant-loop
invariant-loop g l = record {
  found : IsOpenIfClean (state g.S.Store l.fn.conn)
      → Finds {E = Error} (state g.S.Store l.fn.conn) (state g.S.Store l.conn) (Ok l.index) (HasPassed l.fn.begun);
  cause : IsOpenIfClean (state g.S.Store l.fn.conn) → HasReadCause (state g.S.Store l.fn.conn) (state g.S.Store l.conn) (Ok l.index);
}
