use Rattle.std.proofs.Common.{◌≤◌, List, take}
use Rattle.acd_terms.specs.Lists.{Every}
use Rattle.acd_terms.specs.declared.event.Event.{Event}
use Rattle.acd_book.specs.MonitorIndexes.{ListsEvents, KeepsWatched, RecordsThese}
use Rattle.acd_book.proofs.monitor_index.MonitorIndex.of_monitors.Given as goal

abbrev pub invariant-loop-monitor : goal.invariant-loop-monitor
invariant-loop-monitor l = record {
  lists : (events : List Event) → Every (λ (e : Event). e.number ≤ l.last) events → ListsEvents events l.watched;
  kept : KeepsWatched l.watched;
  recorded : RecordsThese (take l.monitor-index l.monitors) l.watched;
}
