use Rattle.std.proofs.Common.{◌≡◌, drop}
use Rattle.acd_model.specs.Tick.{each, return_moves, overdue_in}
use Rattle.acd_switch.proofs.MovesInTurn.{IsLeft}
use Rattle.acd_switch.proofs.tick.return_overdue.Given as goal

abbrev pub invariant-loop-connection : goal.invariant-loop-connection
invariant-loop-connection l = record {
  left : IsLeft l.at.moment (each (λ t x. return_moves t l.at x) l.tables (drop l.connection-index l.connection-items)) l.tables l.journal
      (each (λ t x. return_moves t l.at x) l.fn.tables l.connection-items) l.fn.tables l.fn.journal;
  all : l.connection-items ≡ overdue_in l.fn.tables l.at.moment;
}
