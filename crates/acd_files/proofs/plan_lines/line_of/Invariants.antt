use Rattle.std.proofs.Common.{◌≡◌, drop}
use Rattle.acd_files.specs.PlanLines.{line_from, line_number}
use Rattle.acd_files.proofs.plan_lines.line_of.Given as goal

abbrev pub invariant-loop-byte : goal.invariant-loop-byte
invariant-loop-byte l = line_number l.plan l.wanted ≡ line_from l.place l.wanted (drop l.byte-index l.plan)
