use Rattle.std.proofs.Common.{◌≡◌, ℕ, map, take}
use Rattle.sqlite.specs.State.{HasCleanDisk}
use Rattle.sqlite.specs.Held.{state}
use Rattle.acd_sql_columns.specs.Content.{with_part}
use Rattle.acd_sql_columns.specs.declared.tables.Table.TheVariants as table
use Rattle.acd_sql_columns.specs.Relations.{Relations, all_put}
use Rattle.acd_sql_columns.specs.Transactions.{HoldsUncommitted, Works}
use Rattle.acd_sql_statements.proofs.parts.insert_all.Given as goal

abbrev pub invariant-loop-group : goal.invariant-loop-group
invariant-loop-group g l = record {
  same : l.tx.conn.ghost_name ≡ l.fn.tx.conn.ghost_name;
  works : Works (state g.S.Store l.fn.tx.conn.now) (state g.S.Store l.tx.conn.now);
  put : HasCleanDisk (state g.S.Store l.tx.conn.now) → (r : Relations) → HoldsUncommitted (state g.S.Store l.fn.tx.conn.now) r
      → HoldsUncommitted (state g.S.Store l.tx.conn.now)
      (with_part table.AgentGroups (all_put (map (λ (k : ℕ). (l.agent, k)) (take l.group-index l.groups)) r.further) r);
}
