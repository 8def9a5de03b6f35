use Rattle.std.proofs.Common.{◌≤◌, List, take}
use Rattle.acd_terms.specs.Lists.{Every}
use Rattle.acd_terms.specs.declared.event.Event.{Event}
use Rattle.acd_book.specs.MonitorIndexes.{ListsEvents, StillKeeps, RecordsChanges}
use Rattle.acd_book.proofs.monitor_index.MonitorIndex.change.Given as goal

abbrev pub invariant-loop-change : goal.invariant-loop-change
invariant-loop-change l = record {
  lists : (events : List Event) → Every (λ (e : Event). e.number ≤ l.last) events → ListsEvents events l.initial.self → ListsEvents events l.self;
  kept : StillKeeps l.initial.self l.self;
  recorded : RecordsChanges (take l.change-index l.changes) l.initial.self l.self;
}
