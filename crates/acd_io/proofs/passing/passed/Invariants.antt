use Rattle.std.proofs.Common.{◌≡◌}
use Rattle.acd_io.specs.Order.{PassesOrder}
use Rattle.acd_io.proofs.passing.passed.Given as goal

abbrev pub invariant-loop-i : goal.invariant-loop-i
invariant-loop-i l = record {
  passes : PassesOrder l.ended l.starts l.bytes (l.i, l.line);
  first : l.i ≡ 0 → l.line ≡ l.starts;
}
