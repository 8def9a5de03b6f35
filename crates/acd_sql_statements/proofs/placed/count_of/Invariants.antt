use Rattle.std.proofs.Common.{◌≡◌, ◌+◌, ◌≤◌, length, drop}
use Rattle.acd_sql_columns.specs.Relations.{groups_beside}
use Rattle.acd_sql_statements.proofs.placed.count_of.Given as goal

abbrev pub invariant-loop-pair : goal.invariant-loop-pair
invariant-loop-pair l = record {
  left : l.count + length (groups_beside (drop l.pair-index l.pairs) l.agent) ≡ length (groups_beside l.pairs l.agent);
  few : l.count ≤ l.pair-index;
}
