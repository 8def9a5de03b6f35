use Rattle.std.proofs.Common.{◌≡◌, ◌++◌, replicate, string_bytes}
use Rattle.acd_reports.proofs.columns.push_spaces.Given as goal

abbrev pub invariant-loop : goal.invariant-loop
invariant-loop l = string_bytes l.line ≡ string_bytes l.initial.line ++ replicate (l.counter) 32
