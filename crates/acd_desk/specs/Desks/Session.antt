-- A session over a book: a desk is opened, runs and is closed.
use Rattle.std.specs.Prelude.{◌≡◌, false, List, [], ◌∷◌, length, Vec}
use Rattle.std.specs.List.{Contains}
use Rattle.acd_terms.specs.declared.command.Arrival.{Arrival}
use Rattle.acd_model.specs.Rules.First.{BreaksNoRule}
use Rattle.acd_book.specs.Content.{Content, IsCounted, HasRisen}
use Rattle.acd_book.specs.State.{BookState, IfHonest, BookStep}
use Rattle.acd_desk.specs.declared.taken.Taken.{Taken}
use Rattle.acd_desk.specs.declared.taken.Taken.TheVariants.{StoreFault}
use Rattle.acd_desk.specs.declared.open_fault.OpenFault.{OpenFault}
use Rattle.acd_desk.specs.declared.open_fault.OpenFault.TheVariants as fault
use Rattle.acd_desk.specs.declared.session.SessionFault.{SessionFault}
use Rattle.acd_desk.specs.declared.session.SessionFault.TheVariants as session
use Rattle.acd_desk.specs.Contents.AcceptedArrivals.{is_fault, accepted, maybe_last, answers_sent}
use Rattle.acd_desk.specs.Contents.SoundContent.{IsSound, replies, StopsAt}
use Rattle.acd_desk.specs.Desks.DeskCalls.{EndsIn, IsStoreFault, HoldsRun}
use Rattle.acd_desk.specs.Desks.Opening.{Refused}
use Rattle.acd_desk.specs.Contents.AnyContent.{Leads}

-- this is said where the book was honest and its content sound
abbrev pub IfWhole : BookState → BookState → Type 0 → Type 0
IfWhole old new P = new.is_clean → old.is_sound → IsSound old.content → P

-- the last arrival was accepted, or there was none
abbrev pub IsLastAccepted : List Taken → Type 0
IsLastAccepted [] = Unit {0}
IsLastAccepted (t ∷ []) = is_fault t ≡ false
IsLastAccepted (_ ∷ t ∷ ts) = IsLastAccepted (t ∷ ts)

-- the desk answered the arrivals in turn, and the book came back; the answers after a storeFault have this property
pub record Session (After : Taken → Type 0) (old : BookState) (arrivals : List Arrival) (answers : List Taken) (new : BookState) : Type 0 where
  pub even : length arrivals ≡ length answers
  -- no failure was counted but where a storeFault is among the answers
  pub step : BookStep (Contains answers StoreFault) old new
  -- the book was open, with rows that break no rule
  pub opened : IfHonest old new old.is_open
  pub accepts : IfHonest old new (BreaksNoRule old.content.rows)
  -- the desk executed them in turn, from any content whose counters are up to its records
  pub leads : IfHonest old new (IsCounted old.content → Leads old.content arrivals answers new)
  -- each answer but the faults is that of the abstract desk, at its place in the list of what was kept and accepted
  pub replies : IfWhole old new (answers_sent answers ≡ replies old.content (accepted arrivals answers))
  -- an open book holds the run over the first arrivals of that list, and a reopening finds nothing else
  pub holds : IfWhole old new (new.is_open → HoldsRun old.content (accepted arrivals answers) new)
  -- the book is open after an accepted arrival, so also where all were accepted
  pub up : IfHonest old new (IsLastAccepted answers → new.is_open)
  -- whatever a stop leaves is that run, or that with one more arrival, which came after the last accepted one
  pub stops : IfWhole old new ((c : Content) → new.stops c → StopsAt old.content (accepted arrivals answers) (maybe_last arrivals answers) c)
  pub sound_stops : IfWhole old new ((c : Content) → new.stops c → IsSound c)
  -- a storeFault comes only where a failure was counted
  pub later : EndsIn After answers
  pub cause : IfWhole old new (Contains answers StoreFault → HasRisen old.failures new.failures)

-- want of room for the answers is want of memory
abbrev pub refusal : SessionFault → OpenFault
refusal (session.Open why) = why
refusal session.NoRoom = fault.NoMemory

-- a reopening finds what an open book held, and nothing else
abbrev pub LeavesContent : BookState → BookState → Type 0
LeavesContent old new = IfHonest old new (old.is_open → (c : Content) → new.stops c → c ≡ old.content)

-- ---- of a session over a book, by what the book says of itself

-- it gives the answers and the book
abbrev pub RanOver : {B Z : Type 0} → (B → BookState) → B → List Arrival → Vec Taken Z × B → Type 0
RanOver state old arrivals done = Session IsStoreFault (state old) arrivals done.0.items (state done.1)

-- or why it executed nothing, and the book
abbrev pub RefusedOver : {B : Type 0} → (B → BookState) → B → SessionFault × B → Type 0
RefusedOver state old refused = Refused (state old) (refusal refused.0) (state refused.1)
