use Rattle.std.proofs.Common.{◌≡◌, ◌+◌, ◌≤◌, ◌∷◌, drop, length, arith}
use Rattle.std.proofs.lemmas.Grind.{common_steps}
use Rattle.acd_model.specs.Tick.{wrap_up_moves}
use Rattle.acd_switch.proofs.MovesInTurn.{one_carried, rests_carried}
use Rattle.acd_switch.proofs.tick.end_wrap_ups.Goals as goal

pub loop-agent-preserved : goal.loop-agent-preserved
loop-agent-preserved c =
    let items = c.as_slice-agent-items.result.now in
    let i = c.loop-agent.agent-index in
    let x = c.agent-item.result in
    let parts : drop i items ≡ x ∷ drop (i + 1) items = grind (arith, common_steps) in
    record {
      left = one_carried (λ t y. wrap_up_moves c.args.at y) x (drop i items) (drop (i + 1) items) parts c.loop-agent.invariant.left c.in_ok-end_work.ensures;
      all = c.loop-agent.invariant.all;
    }

pub returns : goal.returns
returns c =
    let items = c.as_slice-agent-items.result.now in
    let past : length items ≤ c.loop-agent.agent-index = omega arith in
    rests_carried c.args.at items c.loop-agent.agent-index past c.loop-agent.invariant.all c.loop-agent.invariant.left
