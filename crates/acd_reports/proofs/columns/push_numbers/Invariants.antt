use Rattle.std.proofs.Common.{◌≡◌, ◌++◌, string_bytes, drop}
use Rattle.acd_reports.specs.Layout.{numbers_text}
use Rattle.acd_reports.proofs.columns.push_numbers.Given as goal

abbrev pub invariant-loop-width : goal.invariant-loop-width
invariant-loop-width l =
    string_bytes l.line ++ numbers_text (drop l.width-index l.numbers) ≡ string_bytes l.initial.line ++ numbers_text l.numbers
