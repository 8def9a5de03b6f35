use Rattle.std.proofs.Common.{◌≡◌}
use Rattle.std.specs.List.{list_any}
use Rattle.acd_model.specs.Scans.{agent_of}
use Rattle.acd_model.specs.Tick.{is_wrapped_up}
use Rattle.acd_switch.proofs.TickLemmas.{passes}
use Rattle.acd_switch.proofs.tick.has_wrapped_up.Given as goal

abbrev pub invariant-loop-number : goal.invariant-loop-number
invariant-loop-number l =
    list_any (λ n. passes (is_wrapped_up l.tables l.moment) (agent_of l.tables n)) l.number-iterator ≡ list_any (is_wrapped_up l.tables l.moment) l.tables.agents
