use Rattle.std.proofs.Common.{◌≡◌, ◌++◌, drop}
use Rattle.std.specs.List.{filter_map}
use Rattle.acd_book.specs.Memory.{event_numbered}
use Rattle.acd_book.proofs.log.Log.events_at.Given as goal

abbrev pub invariant-loop-number : goal.invariant-loop-number
invariant-loop-number l =
    l.found.items ++ filter_map (event_numbered l.self.events.items) (drop l.number-index l.numbers) ≡ filter_map (event_numbered l.self.events.items) l.numbers
