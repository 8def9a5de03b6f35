use Rattle.std.proofs.Common.{◌≡◌, Ok}
use Rattle.acd_book.specs.State.{Reads}
use Rattle.acd_desk.proofs.Replays.AuditSteps.{Seen}
use Rattle.acd_desk.proofs.replay.audited.Given as goal

abbrev pub invariant-loop-count : goal.invariant-loop-count
invariant-loop-count g l = record {
  stamp : l.replay.loaded.switch.value.last_stamp ≡ l.count;
  limit : l.replay.loaded.switch.value.limits.requests ≡ l.most;
  seen : Reads (g.B.Book.state l.fn.book) (g.B.Book.state l.book) (Ok tt) (Seen l.replay);
}
