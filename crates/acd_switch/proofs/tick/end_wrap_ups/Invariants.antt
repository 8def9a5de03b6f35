use Rattle.std.proofs.Common.{◌≡◌, drop}
use Rattle.acd_model.specs.Tick.{each, wrap_up_moves, wrapped_up_in}
use Rattle.acd_switch.proofs.MovesInTurn.{IsLeft}
use Rattle.acd_switch.proofs.tick.end_wrap_ups.Given as goal

abbrev pub invariant-loop-agent : goal.invariant-loop-agent
invariant-loop-agent l = record {
  left : IsLeft l.at.moment (each (λ t x. wrap_up_moves l.at x) l.tables (drop l.agent-index l.agent-items)) l.tables l.journal
      (each (λ t x. wrap_up_moves l.at x) l.fn.tables l.agent-items) l.fn.tables l.fn.journal;
  all : l.agent-items ≡ wrapped_up_in l.fn.tables l.at.moment;
}
