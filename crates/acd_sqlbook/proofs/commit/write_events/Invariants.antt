use Rattle.std.proofs.Common.{◌≡◌, length}
use Rattle.sqlite.specs.State.{HasCleanDisk}
use Rattle.sqlite.specs.Held.{state}
use Rattle.acd_book.specs.Content.{Content}
use Rattle.acd_sqlbook.specs.Commit.{with_events}
use Rattle.acd_sql_columns.specs.Transactions.{HoldsGood, Works}
use Rattle.acd_sqlbook.specs.CommitStops.{StopsInEvents}
use Rattle.acd_sqlbook.proofs.commit.write_events.Given as goal

abbrev pub invariant-loop-some : goal.invariant-loop-some
invariant-loop-some g l = record {
  same : l.tx.conn.ghost_name ≡ l.fn.tx.conn.ghost_name;
  works : Works (state g.S.Store l.fn.tx.conn.now) (state g.S.Store l.tx.conn.now);
  put : HasCleanDisk (state g.S.Store l.tx.conn.now) → (c : Content) → HoldsGood (state g.S.Store l.fn.tx.conn.now) c
      → (x : Content) × HoldsGood (state g.S.Store l.tx.conn.now) x × (with_events x l.rest ≡ with_events c l.events)
      × (StopsInEvents l.rest x → StopsInEvents l.events c);
}

abbrev pub decreases-loop-some : goal.decreases-loop-some
decreases-loop-some g l = length l.rest
