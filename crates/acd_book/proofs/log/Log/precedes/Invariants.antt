use Rattle.std.proofs.Common.{◌≡◌, length, drop}
use Rattle.acd_book.specs.Memory.{is_numbered, number_of_event}
use Rattle.acd_book.proofs.log.Log.precedes.Given as goal

abbrev pub invariant-loop-event : goal.invariant-loop-event
invariant-loop-event l = is_numbered number_of_event (length l.self.events.items) l.events ≡ is_numbered number_of_event l.last (drop l.event-index l.events)
