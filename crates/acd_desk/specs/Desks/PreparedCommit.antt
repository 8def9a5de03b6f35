-- A commit as it is prepared.
use Rattle.std.specs.Prelude.{◌≡◌, List, length}
use Rattle.acd_terms.specs.declared.rows.Rows.{Rows}
use Rattle.acd_terms.specs.declared.event.Event.{Event}
use Rattle.acd_terms.specs.declared.command.Arrival.{Arrival}
use Rattle.acd_model.specs.Changes.{rows_made}
use Rattle.acd_model.specs.Rules.First.{BreaksNoRule}
use Rattle.acd_model.specs.declared.moves.Change.{Change}
use Rattle.acd_switch.specs.declared.switch.Executed.{Executed}
use Rattle.acd_book.specs.declared.kept.Kept.{Kept}
use Rattle.acd_desk.specs.Contents.AbstractDesk.{stepped, record_of}

-- by an arrival the switch came from these rows to the next, and its changes, events and record say so
pub record Prepared (rows : Rows) (a : Arrival) (changes : List Change) (events : List Event) (kept : Kept) (next : Rows) : Type 0 where
  pub next_is : next ≡ (stepped rows a).rows
  pub made : rows_made rows changes kept.stamp kept.moment (length events) ≡ next
  pub events_are : events ≡ (stepped rows a).events
  pub kept_is : kept ≡ record_of rows a
  pub rules : BreaksNoRule next

-- the same, by what the switch executed and the record that is to be kept
abbrev pub HasExecuted : Rows → Arrival → Rows → Executed × Kept → Type 0
HasExecuted rows a next done = Prepared rows a done.0.changes.items done.0.events.items done.1 next
