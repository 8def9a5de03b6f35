use Rattle.std.proofs.Common.{◌≡◌, map, drop, find}
use Rattle.httparse.specs.Spans.{header_bytes}
use Rattle.acd_http.specs.Fields.{is_named}
use Rattle.acd_http.proofs.fields.first_named.Given as goal

abbrev pub invariant-loop-header : goal.invariant-loop-header
invariant-loop-header l = find (is_named l.wanted) (map (header_bytes l.buf) (drop l.header-index l.headers)) ≡ find (is_named l.wanted) (map (header_bytes l.buf) l.headers)
