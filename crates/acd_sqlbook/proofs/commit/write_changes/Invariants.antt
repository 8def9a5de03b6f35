use Rattle.std.proofs.Common.{◌≡◌, length}
use Rattle.sqlite.specs.State.{HasCleanDisk}
use Rattle.sqlite.specs.Held.{state}
use Rattle.acd_book.specs.Content.{Content}
use Rattle.acd_sql_columns.specs.Transactions.{HoldsGood, Works}
use Rattle.acd_sqlbook.specs.WriteChoice.{written_changes}
use Rattle.acd_sqlbook.specs.CommitStops.{HasAbove, StopsInChanges}
use Rattle.acd_sqlbook.proofs.ElidedPuts.{HoldsBefore}
use Rattle.acd_sqlbook.proofs.FreshKeys.{Unmet}
use Rattle.acd_sqlbook.proofs.commit.write_changes.Given as goal

abbrev pub invariant-loop-change : goal.invariant-loop-change
invariant-loop-change g l = record {
  same : l.tx.conn.ghost_name ≡ l.fn.tx.conn.ghost_name;
  works : Works (state g.S.Store l.fn.tx.conn.now) (state g.S.Store l.tx.conn.now);
  put : HasCleanDisk (state g.S.Store l.tx.conn.now) → (c : Content) → HoldsGood (state g.S.Store l.fn.tx.conn.now) c
      → HoldsBefore (state g.S.Store l.tx.conn.now) l.rest l.changes c;
  stops : HasCleanDisk (state g.S.Store l.tx.conn.now) → (c : Content) → HoldsGood (state g.S.Store l.fn.tx.conn.now) c
      → (x : Content) × HoldsGood (state g.S.Store l.tx.conn.now) x
      × (StopsInChanges (HasAbove l.last c) (written_changes l.rest) x → StopsInChanges (HasAbove l.last c) (written_changes l.changes) c) × Unmet l.rest l.changes c x;
}

abbrev pub decreases-loop-change : goal.decreases-loop-change
decreases-loop-change g l = length l.rest
