use Rattle.std.proofs.Common.{sym, ◌∙◌, arith}
use Rattle.acd_http.proofs.Steps.{no_line}
use Rattle.acd_http.proofs.LineCounts.{lines_on, lines_more, lines_same}
use Rattle.acd_http.proofs.head.lines_in.Goals as goal
use Rattle.acd_http.proofs.head.lines_in.Goals.{then-byte-ne10, else-byte-ne10+then-not-is_empty, else-byte-ne10+else-not-is_empty}

pub loop-byte-preserved : goal.loop-byte-preserved
loop-byte-preserved c =
    let bytes = c.args.bytes.now in
    let i = c.loop-byte.byte-index in
    elim c.if-byte-ne10.branch [
      | then-byte-ne10 w ↦ record {
        counted = lines_on bytes i c.loop-byte.lines c.if-byte-ne10.lines c.loop-byte.place c.if-byte-ne10.place c.loop-byte-test.true w.if-byte-ne10.true w.lines-is (w.place-is ∙ w.after-place.ensures) c.loop-byte.invariant.counted;
        small = omega (arith, w.lines-is, c.loop-byte.invariant.small);
      }
      | else-byte-ne10+then-not-is_empty w ↦ record {
        counted = lines_more bytes i c.loop-byte.lines c.if-byte-ne10.lines c.loop-byte.place c.if-byte-ne10.place c.loop-byte-test.true w.if-byte-ne10.false (sym w.is_empty.ensures ∙ w.if-not-is_empty.true) w.lines-is w.place-is c.loop-byte.invariant.counted;
        small = omega (arith, w.lines-is, c.loop-byte.invariant.small);
      }
      | else-byte-ne10+else-not-is_empty w ↦ record {
        counted = lines_same bytes i c.loop-byte.lines c.if-byte-ne10.lines c.loop-byte.place c.if-byte-ne10.place c.loop-byte-test.true w.if-byte-ne10.false (sym w.is_empty.ensures ∙ w.if-not-is_empty.false) w.lines-is w.place-is c.loop-byte.invariant.counted;
        small = omega (arith, w.lines-is, c.loop-byte.invariant.small);
      }
    ]

pub returns-clause-value : goal.returns-clause-value
returns-clause-value c = let none = no_line c.loop-byte.place c.args.bytes.now c.loop-byte.byte-index c.loop-byte-test.false in omega (arith, none, c.loop-byte.invariant.counted)
