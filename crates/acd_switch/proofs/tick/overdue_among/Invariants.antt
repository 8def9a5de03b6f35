use Rattle.std.proofs.Common.{◌≡◌, ◌++◌, drop}
use Rattle.std.specs.Prelude.{filter}
use Rattle.acd_model.specs.Tick.{is_overdue}
use Rattle.acd_switch.proofs.tick.overdue_among.Given as goal

abbrev pub invariant-loop-connection : goal.invariant-loop-connection
invariant-loop-connection l = record {
  done : l.overdue.items ++ filter (is_overdue l.tables l.moment) (drop l.connection-index l.ringing) ≡ filter (is_overdue l.tables l.moment) l.ringing;
}
