use Rattle.std.proofs.Common.{◌≡◌, take, Ok}
use Rattle.sqlite.specs.Held.{state}
use Rattle.sqlite.specs.declared.error.Error.{Error}
use Rattle.acd_sql_columns.specs.ReadResults.{Finds}
use Rattle.acd_sql_statements.specs.EventsByNumber.{picked, IsOpenIfClean}
use Rattle.acd_sql_statements.specs.ReadFailures.{HasReadCause}
use Rattle.acd_sql_statements.proofs.numbered.events_numbered.Given as goal

abbrev pub invariant-loop-number : goal.invariant-loop-number
invariant-loop-number g l = record {
  found : IsOpenIfClean (state g.S.Store l.fn.conn)
      → Finds {E = Error} (state g.S.Store l.fn.conn) (state g.S.Store l.conn) (Ok l.found)
      (λ c events. events.items ≡ picked c.events (take l.number-index l.numbers));
  cause : IsOpenIfClean (state g.S.Store l.fn.conn) → HasReadCause (state g.S.Store l.fn.conn) (state g.S.Store l.conn) (Ok l.found);
}
