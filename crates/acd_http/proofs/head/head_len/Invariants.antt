use Rattle.std.proofs.Common.{◌≡◌, ◌+◌, drop, option_map}
use Rattle.acd_http.specs.Head.{head_from, head_len}
use Rattle.acd_http.proofs.head.head_len.Given as goal

abbrev pub invariant-loop-i : goal.invariant-loop-i
invariant-loop-i l = option_map (λ n. l.i + n) (head_from l.some l.place (drop l.i l.bytes)) ≡ head_len l.bytes
