use Rattle.std.proofs.Common.{◌≡◌, drop}
use Rattle.acd_desk.specs.Reads.Kinds.{first_above}
use Rattle.acd_desk.proofs.page.Page.next.Given as goal

abbrev pub invariant-loop-item : goal.invariant-loop-item
invariant-loop-item g l = first_above g.T.Placed.kind.place l.above 1 (drop l.item-index l.self.items.items) ≡ first_above g.T.Placed.kind.place l.above 1 l.self.items.items
