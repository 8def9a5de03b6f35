use Rattle.std.proofs.Common.{◌≡◌, ℕ, ◌-◌, length}
use Rattle.sqlite_wal.specs.Recovery.{frame_at}
use Rattle.acd_log.proofs.LogFrames.{Looking}
use Rattle.acd_log.proofs.frames.is_before_commit.Given as goal

abbrev pub invariant-loop-page : goal.invariant-loop-page
invariant-loop-page l = (n : ℕ) → l.bad ≡ frame_at l.page n → Looking l.page l.log n l.at l.is_committed

abbrev pub decreases-loop-page : goal.decreases-loop-page
decreases-loop-page l = length l.log - l.at
