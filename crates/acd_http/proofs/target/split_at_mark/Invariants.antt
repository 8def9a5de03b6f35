use Rattle.std.proofs.Common.{◌≡◌, ◌++◌, take, drop}
use Rattle.acd_http.specs.Target.{before_mark, after_mark}
use Rattle.acd_http.proofs.target.split_at_mark.Given as goal

abbrev pub invariant-loop-i : goal.invariant-loop-i
invariant-loop-i l = record {
  before : take l.i l.bytes ++ before_mark (drop l.i l.bytes) ≡ before_mark l.bytes;
  after : after_mark (drop l.i l.bytes) ≡ after_mark l.bytes;
}
