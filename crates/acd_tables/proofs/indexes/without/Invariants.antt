use Rattle.std.proofs.Common.{◌≡◌, ℕ, ◌++◌, ◌≤◌, not, length, drop}
use Rattle.std.specs.Prelude.{filter}
use Rattle.acd_terms.specs.Groups.{is_one_of}
use Rattle.acd_tables.proofs.indexes.without.Given as goal

abbrev pub invariant-loop-group : goal.invariant-loop-group
invariant-loop-group l = record {
  left : l.left ++ filter (λ (g : ℕ). not (is_one_of l.others g)) (drop l.group-index l.groups) ≡ filter (λ (g : ℕ). not (is_one_of l.others g)) l.groups;
  few : length l.left ≤ l.group-index;
}
