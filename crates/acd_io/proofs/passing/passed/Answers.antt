use Rattle.std.proofs.Common.{ℕ, List, sym, ap, ◌∙◌, ◌&&◌, drop, arith, length-drop}
use Rattle.std.proofs.lemmas.List.{take_all}
use Rattle.acd_io.specs.Order.{is_held}
use Rattle.acd_io.proofs.PassedBytes.{passes_more}
use Rattle.acd_io.proofs.passing.passed.Goals as goal

pub loop-i-preserved : goal.loop-i-preserved
loop-i-preserved c =
    let bytes : List ℕ = c.args.bytes.now in
    let i : ℕ = c.loop-i.i in
    let whole = take_all _ (drop i bytes) (omega (arith, length-drop i bytes)) in
    record {
      passes = passes_more c.args.ended c.args.starts c.loop-i.line bytes i (omega arith) (ap (λ (l : List ℕ). c.loop-i.line && is_held c.args.ended l) (sym whole) ∙ sym c.stops.ensures ∙ c.if-stops.false) c.loop-i.invariant.passes;
      first = λ e. absurd (omega arith);
    }
