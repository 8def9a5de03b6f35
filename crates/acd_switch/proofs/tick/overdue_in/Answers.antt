use Rattle.std.proofs.Common.{◌≡◌, length, ap, ◌∙◌, arith}
use Rattle.std.proofs.lemmas.Result.{IfOk-weaker}
use Rattle.std.specs.Prelude.{filter}
use Rattle.acd_model.specs.Tick.{is_overdue}
use Rattle.acd_switch.proofs.TickLemmas.{overdue-ringing, nothing_overdue}
use Rattle.acd_switch.proofs.tick.overdue_in.Goals as goal

pub returns-then-is_empty : goal.returns-then-is_empty
returns-then-is_empty c =
    let none : length c.in_ok-ringing.ringing.items ≡ 0 = grind (arith) in
    nothing_overdue c.args.tables.now c.args.moment c.in_ok-ringing.ringing.items none c.in_ok-ringing.ensures

pub returns : goal.returns
returns c =
    let all =
    ap (filter (is_overdue c.args.tables.now c.args.moment)) (c.as_slice.ensures.value ∙ c.in_ok-ringing.ensures)
    ∙ overdue-ringing c.args.tables.now c.args.moment in
    IfOk-weaker c.overdue_among.result _ _ (λ v h. h ∙ all) c.overdue_among.ensures
