use Rattle.std.proofs.Common.{◌≡◌, ◌+◌, drop, length}
use Rattle.acd_desk.specs.Reads.Kinds.{all_above}
use Rattle.acd_desk.proofs.page.has_above.Given as goal

abbrev pub invariant-loop-item : goal.invariant-loop-item
invariant-loop-item g l = l.count + length (all_above g.T.Placed.kind.place l.above (drop l.item-index l.items)) ≡ l.left + length (all_above g.T.Placed.kind.place l.above l.items)
