-- A book that has indexed the events at the devices that are watched.
use Rattle.std.specs.Prelude.{◌≡◌, ℕ, ◌≤◌, List, [], ◌∷◌, ◌++◌, filter, take, Option, None, Some, Result, Vec, is_ok, true, ⊤}
use Rattle.std.specs.declared.alloc.Global.{Global}
use Rattle.sqlite.specs.declared.error.Error.{Error}
use Rattle.acd_terms.specs.Lists.{Every}
use Rattle.acd_terms.specs.declared.event.Event.{Event}
use Rattle.acd_book.specs.Content.{Content, events_of_monitor, is_at_after}
use Rattle.acd_book.specs.Memory.{number_of_event}
use Rattle.acd_book.specs.Order.{Rises}
use Rattle.acd_book.specs.MonitorIndexes.{ListsEvents}
use Rattle.acd_sqlbook.specs.declared.index.Index.{Index}

-- each list is of these events, and none of them has a greater number than the last one that was indexed
pub record Indexes (i : Index) (events : List Event) : Type 0 where
  pub lists : ListsEvents events i.watched
  pub last : Every (λ (e : Event). e.number ≤ i.last) events

-- the same, where anything was indexed
abbrev pub IsIndexOf : Option Index → List Event → Type 0
IsIndexOf None events = ⊤
IsIndexOf (Some i) events = Indexes i events

-- the number of the last of these events or, where there is none, the one before them
abbrev pub last_of : ℕ → List Event → ℕ
last_of last [] = last
last_of last (e ∷ events) = last_of e.number events

-- each event has a number above `last` and above all events before it, and `top` is the last one's number
pub record RisesTo (last : ℕ) (events : List Event) (top : ℕ) : Type 0 where
  pub rise : Rises number_of_event last events
  pub low : last ≤ top
  pub all : Every (λ (e : Event). e.number ≤ top) events
  pub end : top ≡ last_of last events

-- the next index is of more events, which go on above all before
pub record IndexGoesOn (old : Index) (more : List Event) (new : Index) : Type 0 where
  pub rise : Rises number_of_event old.last more
  pub end : new.last ≡ last_of old.last more
  pub of_both : (events : List Event) → Indexes old events → Indexes new (events ++ more)

-- it is of the first of these events, and the others go on above all of those
pub record BeginsIndex (i : Index) (events : List Event) : Type 0 where
  pub seen : List Event
  pub rest : List Event
  pub all : events ≡ seen ++ rest
  pub indexes : Indexes i seen
  pub above : Rises number_of_event i.last rest

-- what is indexed after a commit: nothing or, where it succeeded, an index that goes on
abbrev pub IsIndexAfter : Option Index → Result (Unit {0}) Error → List Event → Option Index → Type 0
IsIndexAfter before done more None = ⊤
IsIndexAfter before done more (Some next) = (is_ok done ≡ true) × ((old : Index) × (before ≡ Some old) × IndexGoesOn old more next)

-- ---- of a content

-- an index, where there is one, is of this content's events
abbrev pub IsIndexIn : Option Index → Content → Type 0
IsIndexIn recorded c = IsIndexOf recorded c.events

-- the next one is of them too, if this one is
abbrev pub KeepsIndex : Option Index → Content → Option Index → Type 0
KeepsIndex recorded c next = IsIndexIn recorded c → IsIndexIn next c

-- it is of all events, if the index that had begun is of the first of them
abbrev pub EndsIndex : Index → Content → Option Index → Type 0
EndsIndex begun c recorded = BeginsIndex begun c.events → IsIndexIn recorded c

-- by an index of this content's events: the first events of a running monitor above a number, and the first events at a device
abbrev pub IsPageBy : Option Index → ℕ → ℕ → ℕ → Content → Vec Event Global → Type 0
IsPageBy recorded monitor number limit c found = IsIndexIn recorded c → found.items ≡ events_of_monitor c monitor number limit

abbrev pub IsDevicePage : Index → ℕ → ℕ → ℕ → Content → Vec Event Global → Type 0
IsDevicePage index device number limit c found = Indexes index c.events → found.items ≡ take limit (filter (is_at_after (Some device) number) c.events)
