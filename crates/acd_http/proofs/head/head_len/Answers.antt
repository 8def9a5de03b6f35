use Rattle.std.proofs.Common.{◌+◌, ℕ, drop, option_map, get_or, true, false, sym, ap, ◌∙◌}
use Rattle.acd_http.specs.Head.{head_from, head_place_after}
use Rattle.acd_http.specs.declared.head.Place.TheVariants.{Start}
use Rattle.acd_http.proofs.Heads.{step_other, step_end, step_bare, step_line, turn, no_head}
use Rattle.acd_http.proofs.head.head_len.Goals as goal
use Rattle.acd_http.proofs.head.head_len.Goals.{then-byte-ne10, else-byte-ne10+then-is_empty+else-some, else-byte-ne10+else-is_empty}

pub returns-then-some : goal.returns-then-some
returns-then-some c =
    let bytes = c.args.bytes.now in
    let here = ap (λ b. head_from b c.loop-i.place (drop c.loop-i.i bytes)) c.if-some.true ∙ step_end c.loop-i.place bytes c.loop-i.i c.loop-i-test.true c.if-byte-ne10.false (sym c.is_empty.ensures ∙ c.if-is_empty.true) in
    ap (option_map (λ (n : ℕ). c.loop-i.i + n)) (sym here) ∙ c.loop-i.invariant

pub loop-i-preserved : goal.loop-i-preserved
loop-i-preserved c =
    let bytes = c.args.bytes.now in
    let i = c.loop-i.i in
    elim c.if-byte-ne10.branch [
      | then-byte-ne10 w ↦ turn i bytes c.loop-i.some c.loop-i.some c.if-byte-ne10.some c.loop-i.place (head_place_after c.loop-i.place (get_or bytes i 0)) c.if-byte-ne10.place w.some-is (w.place-is ∙ w.after-place.ensures) (step_other c.loop-i.some c.loop-i.place bytes i c.loop-i-test.true w.if-byte-ne10.true) c.loop-i.invariant
      | else-byte-ne10+then-is_empty+else-some w ↦ turn i bytes c.loop-i.some false c.if-byte-ne10.some c.loop-i.place Start c.if-byte-ne10.place (w.some-is ∙ w.if-some.false) w.place-is (ap (λ b. head_from b c.loop-i.place (drop i bytes)) w.if-some.false ∙ step_bare c.loop-i.place bytes i c.loop-i-test.true w.if-byte-ne10.false (sym w.is_empty.ensures ∙ w.if-is_empty.true)) c.loop-i.invariant
      | else-byte-ne10+else-is_empty w ↦ turn i bytes c.loop-i.some true c.if-byte-ne10.some c.loop-i.place Start c.if-byte-ne10.place w.some-is w.place-is (step_line c.loop-i.some c.loop-i.place bytes i c.loop-i-test.true w.if-byte-ne10.false (sym w.is_empty.ensures ∙ w.if-is_empty.false)) c.loop-i.invariant
    ]

pub returns : goal.returns
returns c = ap (option_map (λ (n : ℕ). c.loop-i.i + n)) (sym (no_head c.loop-i.some c.loop-i.place c.args.bytes.now c.loop-i.i c.loop-i-test.false)) ∙ c.loop-i.invariant
