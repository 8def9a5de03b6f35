use Rattle.std.proofs.Common.{Ok}
use Rattle.acd_desk.specs.Audits.Pairs.{BorrowsSame, BothRead}
use Rattle.acd_desk.proofs.Archives.Overlaps.{SharesSoFar}
use Rattle.acd_desk.proofs.pair.Pair.other.Given as goal

abbrev pub invariant-loop : goal.invariant-loop
invariant-loop g l = record {
  same : BorrowsSame l.fn.self l.self;
  shares : BothRead g.A.Book.state g.B.Book.state (l.fn.self, l.self) (Ok tt) (SharesSoFar g.T.Placed.kind (l.above, l.last) l.counter l.place l.pages);
}
