use Rattle.std.proofs.Common.{◌≡◌, ◌++◌, List, take}
use Rattle.acd_terms.specs.declared.event.Event.{Event}
use Rattle.acd_book.specs.MonitorIndexes.{ListsEvents, StillKeeps}
use Rattle.acd_book.proofs.monitor_index.MonitorIndex.add_all.Given as goal

abbrev pub invariant-loop-event : goal.invariant-loop-event
invariant-loop-event l = record {
  lists : (events : List Event) → ListsEvents events l.initial.self → ListsEvents (events ++ take l.event-index l.more) l.self;
  kept : StillKeeps l.initial.self l.self;
  devices : l.self.devices ≡ l.initial.self.devices;
}
