use Rattle.std.proofs.Common.{◌-◌, length}
use Rattle.acd_log.proofs.LogFrames.{Good}
use Rattle.acd_log.proofs.frames.first_bad.Given as goal

abbrev pub invariant-loop-before : goal.invariant-loop-before
invariant-loop-before l = Good l.page l.log l.before l.at

abbrev pub decreases-loop-before : goal.decreases-loop-before
decreases-loop-before l = length l.log - l.at
