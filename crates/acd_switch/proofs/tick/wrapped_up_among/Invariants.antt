use Rattle.std.proofs.Common.{◌≡◌, ◌++◌, drop}
use Rattle.std.specs.Prelude.{filter}
use Rattle.acd_model.specs.Tick.{is_wrapped_up}
use Rattle.acd_switch.proofs.tick.wrapped_up_among.Given as goal

abbrev pub invariant-loop-agent : goal.invariant-loop-agent
invariant-loop-agent l = record {
  done : l.rested.items ++ filter (is_wrapped_up l.tables l.moment) (drop l.agent-index l.working) ≡ filter (is_wrapped_up l.tables l.moment) l.working;
}
