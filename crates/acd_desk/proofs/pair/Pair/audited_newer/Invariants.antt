use Rattle.std.proofs.Common.{◌≡◌, Ok}
use Rattle.acd_desk.specs.Audits.Pairs.{BorrowsSame, BothRead}
use Rattle.acd_desk.proofs.Archives.ArchiveReplaySteps.{SeenWith}
use Rattle.acd_desk.proofs.pair.Pair.audited_newer.Given as goal

abbrev pub invariant-loop : goal.invariant-loop
invariant-loop g l = record {
  same : BorrowsSame l.fn.self l.self;
  stamp : l.newer.replay.loaded.switch.value.last_stamp ≡ l.counter;
  limit : l.newer.replay.loaded.switch.value.limits.requests ≡ l.most;
  seen : BothRead g.A.Book.state g.B.Book.state (l.fn.self, l.self) (Ok tt) (SeenWith l.fn.first l.newer);
}
