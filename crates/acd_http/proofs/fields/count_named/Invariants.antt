use Rattle.std.proofs.Common.{◌≡◌, ◌≤◌, map, take}
use Rattle.httparse.specs.Spans.{header_bytes}
use Rattle.acd_http.specs.Fields.{count_named}
use Rattle.acd_http.proofs.fields.count_named.Given as goal

abbrev pub invariant-loop-header : goal.invariant-loop-header
invariant-loop-header l = record {
  counted : l.count ≡ count_named l.wanted (map (header_bytes l.buf) (take l.header-index l.headers));
  small : l.count ≤ l.header-index;
}
