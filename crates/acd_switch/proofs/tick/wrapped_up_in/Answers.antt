use Rattle.std.proofs.Common.{◌≡◌, length, ap, ◌∙◌, arith}
use Rattle.std.proofs.lemmas.Result.{IfOk-weaker}
use Rattle.std.specs.Prelude.{filter}
use Rattle.acd_model.specs.Tick.{is_wrapped_up}
use Rattle.acd_switch.proofs.TickLemmas.{rested-working, nobody_rested}
use Rattle.acd_switch.proofs.tick.wrapped_up_in.Goals as goal

pub returns-then-is_empty : goal.returns-then-is_empty
returns-then-is_empty c =
    let none : length c.in_ok-working.working.items ≡ 0 = grind (arith) in
    nobody_rested c.args.tables.now c.args.moment c.in_ok-working.working.items none c.in_ok-working.ensures

pub returns : goal.returns
returns c =
    let all =
    ap (filter (is_wrapped_up c.args.tables.now c.args.moment)) (c.as_slice.ensures.value ∙ c.in_ok-working.ensures)
    ∙ rested-working c.args.tables.now c.args.moment in
    IfOk-weaker c.wrapped_up_among.result _ _ (λ v h. h ∙ all) c.wrapped_up_among.ensures
