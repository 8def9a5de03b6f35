use Rattle.std.proofs.Common.{◌≡◌, ◌≤◌, ◌+◌, ◌++◌, length, take}
use Rattle.acd_http.proofs.head_text.HeadText.push.Given as goal

abbrev pub invariant-loop-i : goal.invariant-loop-i
invariant-loop-i l = record {
  put : take (l.self-inside.len + l.i) l.self-inside.bytes ≡ l.fn.self ++ take l.i l.text;
  size : length l.self-inside.bytes ≡ 1024;
  room : l.self-inside.len + length l.text ≤ 1024;
}
