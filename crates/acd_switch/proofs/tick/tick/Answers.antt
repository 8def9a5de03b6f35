use Rattle.std.proofs.lemmas.Result.{on_ok_weaker}
use Rattle.acd_switch.proofs.MovesInTurn.{tick_carried}
use Rattle.acd_switch.proofs.tick.tick.Goals as goal

pub returns : goal.returns
returns c = on_ok_weaker c.end_wrap_ups.result (λ h. tick_carried c.args.at c.in_ok-return_overdue.ensures h) c.end_wrap_ups.ensures
