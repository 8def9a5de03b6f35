use Rattle.std.proofs.Common.{◌≡◌, take}
use Rattle.acd_sqlbook.specs.Commit.{last_monitor}
use Rattle.acd_sqlbook.proofs.commit.last_monitor.Given as goal

abbrev pub invariant-loop-change : goal.invariant-loop-change
invariant-loop-change l = record { top : l.top ≡ last_monitor l.last (take l.change-index l.changes) }
