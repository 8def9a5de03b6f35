use Rattle.std.proofs.Common.{string_bytes}
use Rattle.acd_files.specs.PlanLines.{first_line}
use Rattle.acd_files.proofs.ShownLines.{IsShown}
use Rattle.acd_files.proofs.plan_lines.first_line.Given as goal

abbrev pub invariant-loop-byte : goal.invariant-loop-byte
invariant-loop-byte l = IsShown (first_line l.plan) (string_bytes l.text) l.byte-index
