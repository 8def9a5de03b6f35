use Rattle.std.proofs.Common.{◌≡◌, ◌≤◌, ◌-◌, ◌++◌, take, replicate, length, true}
use Rattle.std.specs.List.{list_all}
use Rattle.std.specs.Char.{is_ascii}
use Rattle.acd_terms.proofs.short_text.ShortText.holding.Given as goal

abbrev pub invariant-loop-place : goal.invariant-loop-place
invariant-loop-place g l = record {
  cells_are : l.cells ≡ take l.place l.bytes ++ replicate (g.row.N - l.place) 0;
  few : length l.bytes ≤ g.row.N;
  ascii : list_all is_ascii l.bytes ≡ true;
}
