use Rattle.std.proofs.Common.{ℕ, ap, ◌∙◌}
use Rattle.std.specs.List.{list_any}
use Rattle.acd_model.specs.Scans.{agent_of}
use Rattle.acd_model.specs.Tick.{is_wrapped_up}
use Rattle.acd_switch.proofs.TickLemmas.{passes, rested_given}
use Rattle.acd_switch.proofs.tick.has_wrapped_up.Goals as goal

pub loop-number-init : goal.loop-number-init
loop-number-init c =
    ap (list_any (λ (n : ℕ). passes (is_wrapped_up c.args.tables.now c.args.moment) (agent_of c.args.tables.now n)))
    c.into_iter-number-iterator.ensures.into_iter_gives
    ∙ rested_given c.args.tables.now c.args.moment c.working_keys-number-items.result c.working_keys-number-items.ensures
