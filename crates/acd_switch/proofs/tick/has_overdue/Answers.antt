use Rattle.std.proofs.Common.{ℕ, ap, ◌∙◌}
use Rattle.std.specs.List.{list_any}
use Rattle.acd_model.specs.Scans.{connection_of}
use Rattle.acd_model.specs.Tick.{is_overdue}
use Rattle.acd_switch.proofs.TickLemmas.{passes, overdue_given}
use Rattle.acd_switch.proofs.tick.has_overdue.Goals as goal

pub loop-key-init : goal.loop-key-init
loop-key-init c =
    ap (list_any (λ (p : ℕ × ℕ). passes (is_overdue c.args.tables.now c.args.moment) (connection_of c.args.tables.now p.0 p.1)))
    c.into_iter-key-iterator.ensures.into_iter_gives
    ∙ overdue_given c.args.tables.now c.args.moment c.ringing_keys-key-items.result c.ringing_keys-key-items.ensures
