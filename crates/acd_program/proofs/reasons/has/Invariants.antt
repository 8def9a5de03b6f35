use Rattle.std.proofs.Common.{◌≡◌, drop}
use Rattle.acd_program.specs.Reasons.{occurs}
use Rattle.acd_program.proofs.reasons.has.Given as goal

abbrev pub invariant-loop-start : goal.invariant-loop-start
invariant-loop-start l = occurs l.text l.bytes ≡ occurs l.text (drop l.start l.bytes)
