-- One call of a desk, and many calls, over any book: what they leave.
use Rattle.std.specs.Prelude.{◌≡◌, ◌⊎◌, true, false, List, [], ◌∷◌, length, None}
use Rattle.std.specs.List.{Contains}
use Rattle.acd_terms.specs.Lists.{Every}
use Rattle.acd_terms.specs.declared.command.Arrival.{Arrival}
use Rattle.acd_book.specs.declared.book.Book.{Ghosts}
use Rattle.acd_book.specs.Content.{Content, HasRisen, Within}
use Rattle.acd_book.specs.State.{BookState, IfHonest, BookStep}
use Rattle.acd_desk.specs.declared.desk.Desk.{Desk}
use Rattle.acd_desk.specs.declared.taken.Taken.{Taken}
use Rattle.acd_desk.specs.declared.taken.Taken.TheVariants.{NoMemory, StoreFault}
use Rattle.acd_desk.specs.Contents.Replies.{answer_in, after}
use Rattle.acd_desk.specs.Contents.AcceptedArrivals.{is_fault, is_reply, accepted, maybe_last, answers_sent}
use Rattle.acd_desk.specs.Contents.SoundContent.{IsSound, ran_after, replies, StopsAt}
pub use Rattle.acd_desk.specs.Desks.DeskState.{DeskState, state_of}
use Rattle.acd_desk.specs.Desks.DeskState.{InStep, Starts, with_new_key}
use Rattle.acd_desk.specs.Laws.{KeepsLaws}
use Rattle.acd_desk.specs.Contents.AnyContent.{Leads}

-- the desk failed before, or its store has failed since
abbrev pub IsCause : DeskState → DeskState → Type 0
IsCause old new = (old.failed ≡ true) ⊎ HasRisen old.book.failures new.book.failures

-- the book has given an answer that an honest one in step with its desk never gives
abbrev pub IsDeceived : DeskState → DeskState → Type 0
IsDeceived old new = ¬ (new.book.is_clean × old.book.is_sound × InStep old)

-- this is said where the desk started well, and its book is clean after
abbrev pub IfStarted : DeskState → DeskState → Type 0 → Type 0
IfStarted old new P = new.book.is_clean → Starts old → P

-- a step of a desk, of one call or of many, where `Faulted` says that it answered storeFault, and `Unloaded` that it had no switch in memory
pub record DeskStep (Faulted Unloaded : Type 0) (old new : DeskState) : Type 0 where
  pub in_step : IfHonest old.book new.book (InStep old → InStep new)
  -- the desk fails where it answers storeFault, and nowhere else; once failed it stays so
  pub shuts : Faulted → new.failed ≡ true
  pub answers : new.failed ≡ true → (old.failed ≡ true) ⊎ Faulted
  pub lasts : old.failed ≡ true → new.failed ≡ true
  -- it fails where a failure was counted, or where rows that an unloaded desk was given break a rule
  pub cause : new.failed ≡ true → IsCause old new ⊎ (Unloaded × IsDeceived old new)

-- one arrival, and its answer; where it is anything but storeFault, noMemory too, no failure was counted
pub record Took (old : DeskState) (a : Arrival) (t : Taken) (new : DeskState) : Type 0 where
  pub step : BookStep (t ≡ StoreFault) old.book new.book
  pub desk : DeskStep (t ≡ StoreFault) (old.switch ≡ None) old new
  pub up : is_fault t ≡ false → IfHonest old.book new.book (old.book.is_open × new.book.is_open)
  pub sent : is_fault t ≡ false → IfHonest old.book new.book (InStep old
      → (t ≡ answer_in (after old.book.content a) a.request) × (new.book.content ≡ after old.book.content a))
  pub unmoved : is_reply t ≡ false → IfHonest old.book new.book (new.book.is_open → old.book.is_open × (new.book.content ≡ old.book.content))
  -- a stop was one before; or the desk worked, its book was open, and the arrival is executed
  pub stops : IfHonest old.book new.book (InStep old → (c : Content) → new.book.stops c
      → old.book.stops c ⊎ ((old.failed ≡ false) × old.book.is_open × (c ≡ after old.book.content a)))
  -- once failed it answers faults alone
  pub shut : old.failed ≡ true → is_fault t ≡ true
  -- it drops its switch where it answers noMemory, or has failed
  pub unloads : new.failed ≡ false → new.switch ≡ None → (old.switch ≡ None) ⊎ (t ≡ NoMemory)

-- after a storeFault there are such answers alone
abbrev pub EndsIn : (Taken → Type 0) → List Taken → Type 0
EndsIn P [] = Unit {0}
EndsIn P (t ∷ ts) = (t ≡ StoreFault → Every P ts) × EndsIn P ts

abbrev pub IsFault : Taken → Type 0
IsFault t = is_fault t ≡ true

abbrev pub IsStoreFault : Taken → Type 0
IsStoreFault t = t ≡ StoreFault

-- at some time the desk had no switch in memory
abbrev pub WasUnloaded : DeskState → List Taken → Type 0
WasUnloaded old answers = (old.switch ≡ None) ⊎ Contains answers NoMemory

-- the last arrival was accepted, or there was none and the book was open
abbrev pub EndsUp : DeskState → List Taken → Type 0
EndsUp old [] = old.book.is_open
EndsUp old (t ∷ []) = is_fault t ≡ false
EndsUp old (_ ∷ t ∷ ts) = EndsUp old (t ∷ ts)

-- the book holds the run over the first arrivals of what was kept and accepted, and a reopening finds nothing else
pub record HoldsRun (start : Content) (list : List Arrival) (new : BookState) : Type 0 where
  pub content : new.content ≡ ran_after start list
  pub whole : IsSound new.content
  pub laws : KeepsLaws new.content
  pub alone : (c : Content) → new.stops c → c ≡ new.content

-- some arrivals, and their answers; where none is storeFault, no failure was counted
pub record Ran (old : DeskState) (arrivals : List Arrival) (answers : List Taken) (new : DeskState) : Type 0 where
  pub even : length arrivals ≡ length answers
  pub step : BookStep (Contains answers StoreFault) old.book new.book
  pub desk : DeskStep (Contains answers StoreFault) (WasUnloaded old answers) old new
  -- the desk executed them in turn, from any content that it is in step with
  pub leads : IfHonest old.book new.book (old.book.is_open → InStep old → Leads old.book.content arrivals answers new.book)
  -- each answer but the faults is that of the abstract desk, at its place in the list of what was kept and accepted
  pub replies : IfStarted old new (answers_sent answers ≡ replies old.book.content (accepted arrivals answers))
  -- an open book holds the run over the first arrivals of that list, and a reopening finds nothing else
  pub holds : IfStarted old new (new.book.is_open → HoldsRun old.book.content (accepted arrivals answers) new.book)
  -- the book is open after an accepted arrival, so also where all were accepted
  pub up : IfHonest old.book new.book (EndsUp old answers → new.book.is_open)
  -- a book that was shut stays shut
  pub opened : IfHonest old.book new.book (new.book.is_open → old.book.is_open)
  -- whatever a stop leaves is that run, or that with one more arrival, which came after the last accepted one
  pub stops : IfStarted old new ((c : Content) → new.book.stops c → StopsAt old.book.content (accepted arrivals answers) (maybe_last arrivals answers) c)
  pub sound_stops : IfStarted old new ((c : Content) → new.book.stops c → IsSound c)
  -- over a book that was shut, or by a desk that failed before, no stop is added
  pub still : IfHonest old.book new.book ((¬ old.book.is_open) ⊎ (old.failed ≡ true) → Within new.book.stops old.book.stops)
  -- after a storeFault there are faults alone
  pub later : EndsIn IsFault answers
  pub shut : old.failed ≡ true → Every IsFault answers
  pub unloads : new.failed ≡ false → new.switch ≡ None → WasUnloaded old answers

-- ---- of a desk over a book, by the words of that book

abbrev pub DeskTook : {B : Type 0} → Ghosts B → Desk B → Arrival → Taken → Desk B → Type 0
DeskTook book old a t new = Took (state_of book old) a t (state_of book new)

-- the same of a request with a new key
abbrev pub TookNew : {B : Type 0} → Ghosts B → Desk B → Arrival → Taken → Desk B → Type 0
TookNew book old a t new = Took (with_new_key (state_of book old) a.request) a t (state_of book new)

abbrev pub DeskRan : {B : Type 0} → Ghosts B → Desk B → List Arrival → List Taken → Desk B → Type 0
DeskRan book old arrivals answers new = Ran (state_of book old) arrivals answers (state_of book new)

abbrev pub HasFailed : {B : Type 0} → Ghosts B → Desk B → Type 0
HasFailed book d = (state_of book d).failed ≡ true
