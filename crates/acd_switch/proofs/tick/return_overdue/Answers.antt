use Rattle.std.proofs.Common.{◌≡◌, ◌+◌, ◌≤◌, ◌∷◌, drop, length, arith}
use Rattle.std.proofs.lemmas.Grind.{common_steps}
use Rattle.acd_model.specs.Tick.{return_moves}
use Rattle.acd_switch.proofs.MovesInTurn.{one_carried, returns_carried}
use Rattle.acd_switch.proofs.tick.return_overdue.Goals as goal

pub loop-connection-preserved : goal.loop-connection-preserved
loop-connection-preserved c =
    let items = c.as_slice-connection-items.result.now in
    let i = c.loop-connection.connection-index in
    let x = c.connection-item.result in
    let parts : drop i items ≡ x ∷ drop (i + 1) items = grind (arith, common_steps) in
    record {
      left =
          one_carried (λ t y. return_moves t c.args.at y) x (drop i items) (drop (i + 1) items) parts c.loop-connection.invariant.left
          c.in_ok-take_back.ensures;
      all = c.loop-connection.invariant.all;
    }

pub returns : goal.returns
returns c =
    let items = c.as_slice-connection-items.result.now in
    let past : length items ≤ c.loop-connection.connection-index = omega arith in
    returns_carried c.args.at items c.loop-connection.connection-index past c.loop-connection.invariant.all c.loop-connection.invariant.left
