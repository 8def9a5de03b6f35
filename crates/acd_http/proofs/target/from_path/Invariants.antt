use Rattle.std.proofs.Common.{◌≡◌, drop}
use Rattle.acd_http.specs.Target.{from_path}
use Rattle.acd_http.proofs.target.from_path.Given as goal

abbrev pub invariant-loop-i : goal.invariant-loop-i
invariant-loop-i l = from_path (drop l.i l.bytes) ≡ from_path l.bytes
