-- A desk that executed arrivals and was read between them, over any book: what it leaves.
use Rattle.std.specs.Prelude.{◌≡◌, true, List, length}
use Rattle.std.specs.List.{Contains}
use Rattle.acd_terms.specs.declared.command.Arrival.{Arrival}
use Rattle.acd_book.specs.Content.{Content}
use Rattle.acd_book.specs.State.{IfHonest}
use Rattle.acd_desk.specs.declared.taken.Taken.{Taken}
use Rattle.acd_desk.specs.declared.taken.Taken.TheVariants.{StoreFault}
use Rattle.acd_desk.specs.Contents.AcceptedArrivals.{accepted, maybe_last, answers_sent}
use Rattle.acd_desk.specs.Contents.SoundContent.{ran_after, replies, StopsAt}
use Rattle.acd_desk.specs.Desks.DeskState.{DeskState, InStep}
use Rattle.acd_desk.specs.Desks.DeskCalls.{IfStarted}
use Rattle.acd_desk.specs.Contents.AnyContent.{Leads}

-- some arrivals, in turn, and their answers; what was read between them isn't listed
pub record Attended (old : DeskState) (arrivals : List Arrival) (answers : List Taken) (new : DeskState) : Type 0 where
  pub even : length arrivals ≡ length answers
  pub clean : new.book.is_clean → old.book.is_clean
  pub sound : IfHonest old.book new.book new.book.is_sound
  pub in_step : IfHonest old.book new.book (InStep old → InStep new)
  -- the desk executed them in turn, from any content that it is in step with
  pub leads : IfHonest old.book new.book (old.book.is_open → InStep old → Leads old.book.content arrivals answers new.book)
  -- each answer but the faults is that of the abstract desk, at its place in the list of what was kept and accepted
  pub replies : IfStarted old new (answers_sent answers ≡ replies old.book.content (accepted arrivals answers))
  -- an open book holds the run over the first arrivals of that list
  pub content : IfStarted old new (new.book.is_open → new.book.content ≡ ran_after old.book.content (accepted arrivals answers))
  -- whatever a stop leaves is that run, or that with one more arrival, which came after the last accepted one
  pub stops : IfStarted old new ((c : Content) → new.book.stops c → StopsAt old.book.content (accepted arrivals answers) (maybe_last arrivals answers) c)
  pub shuts : Contains answers StoreFault → new.failed ≡ true
