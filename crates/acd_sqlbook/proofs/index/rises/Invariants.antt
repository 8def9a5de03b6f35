use Rattle.std.proofs.Common.{◌≡◌, ◌≤◌, take, drop}
use Rattle.acd_terms.specs.Lists.{Every}
use Rattle.acd_terms.specs.declared.event.Event.{Event}
use Rattle.acd_book.specs.Memory.{number_of_event}
use Rattle.acd_book.specs.Order.{Rises}
use Rattle.acd_sqlbook.specs.EventIndex.{last_of}
use Rattle.acd_sqlbook.proofs.index.rises.Given as goal

abbrev pub invariant-loop-event : goal.invariant-loop-event
invariant-loop-event l = record {
  rise : Rises number_of_event l.top (drop l.event-index l.events) → Rises number_of_event l.last l.events;
  low : l.last ≤ l.top;
  all : Every (λ (e : Event). e.number ≤ l.top) (take l.event-index l.events);
  end : last_of l.top (drop l.event-index l.events) ≡ last_of l.last l.events;
}
