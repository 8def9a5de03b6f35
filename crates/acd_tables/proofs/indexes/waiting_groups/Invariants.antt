use Rattle.std.proofs.Common.{◌≡◌, ℕ, ◌≤◌, true, length, take}
use Rattle.acd_terms.specs.Groups.{is_one_of}
use Rattle.acd_tables.specs.IndexedRows.{lists}
use Rattle.acd_tables.proofs.indexes.waiting_groups.Given as goal

abbrev pub invariant-loop-group : goal.invariant-loop-group
invariant-loop-group l = record {
  all : (g : ℕ) (p : ℕ × ℕ) → is_one_of (take l.group-index l.groups) g ≡ true → lists l.queues g p ≡ true → is_one_of l.waiting g ≡ true;
  few : length l.waiting ≤ l.group-index;
}
