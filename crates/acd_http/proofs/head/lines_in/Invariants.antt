use Rattle.std.proofs.Common.{◌≡◌, ◌≤◌, ◌+◌, drop}
use Rattle.acd_http.specs.Head.{lines_from, lines_in}
use Rattle.acd_http.proofs.head.lines_in.Given as goal

abbrev pub invariant-loop-byte : goal.invariant-loop-byte
invariant-loop-byte l = record {
  counted : l.lines + lines_from l.place (drop l.byte-index l.bytes) ≡ lines_in l.bytes;
  small : l.lines ≤ l.byte-index;
}
