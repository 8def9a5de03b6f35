use Rattle.std.proofs.Common.{◌≡◌, ◌-◌, length}
use Rattle.acd_model.specs.Distribution.{offers}
use Rattle.acd_model.specs.Scans.{queued_in_all}
use Rattle.acd_switch.proofs.MovesInTurn.{IsLeft}
use Rattle.acd_switch.proofs.distribution.distribute.Given as goal

abbrev pub invariant-loop-round : goal.invariant-loop-round
invariant-loop-round l = record {
  left : IsLeft l.moment (offers (l.most - l.round) l.tables l.moment) l.tables l.journal (offers l.most l.fn.tables l.moment) l.fn.tables l.fn.journal;
  most_is : l.most ≡ length (queued_in_all l.fn.tables);
}
