use Rattle.std.proofs.Common.{◌≡◌, take}
use Rattle.acd_sqlbook.specs.Commit.{last_call}
use Rattle.acd_sqlbook.proofs.commit.last_call.Given as goal

abbrev pub invariant-loop-change : goal.invariant-loop-change
invariant-loop-change l = record { top : l.top ≡ last_call l.last (take l.change-index l.changes) }
