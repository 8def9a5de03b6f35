use Rattle.std.proofs.Common.{◌≡◌}
use Rattle.std.specs.List.{list_any}
use Rattle.acd_model.specs.Scans.{connection_of}
use Rattle.acd_model.specs.Tick.{is_overdue}
use Rattle.acd_switch.proofs.TickLemmas.{passes}
use Rattle.acd_switch.proofs.tick.has_overdue.Given as goal

abbrev pub invariant-loop-key : goal.invariant-loop-key
invariant-loop-key l =
    list_any (λ p. passes (is_overdue l.tables l.moment) (connection_of l.tables p.0 p.1)) l.key-iterator
    ≡ list_any (is_overdue l.tables l.moment) l.tables.connections
