-- Events by their numbers.
use Rattle.std.specs.Prelude.{◌≡◌, ℕ, ◌-◌, List, Vec, [], ◌∷◌, ◌++◌, IsTrue, Result}
use Rattle.std.specs.declared.alloc.Global.{Global}
use Rattle.sqlite_trees.specs.declared.store.Store.{Ghosts}
use Rattle.sqlite.specs.Held.{Held, state}
use Rattle.sqlite.specs.State.{State, HasCleanDisk}
use Rattle.acd_terms.specs.declared.event.Event.{Event}
use Rattle.sqlite.specs.declared.error.Error.{Error}
use Rattle.acd_book.specs.Content.{Content, events_after}
use Rattle.acd_sql_statements.specs.ReadsBetween.{FindsIn, HasReadCauseIn}

-- for each of these numbers the first event that isn't below it
abbrev pub picked : List Event → List ℕ → List Event
picked events [] = []
picked events (n ∷ ns) = events_after events (n - 1) 1 ++ picked events ns

-- the connection isn't shut, where its store has broken no promise
abbrev pub IsOpenIfClean : State → Type 0
IsOpenIfClean s = HasCleanDisk s → IsTrue s.is_open

-- the list has one event more: the first that isn't below the number
abbrev pub AddsPicked : {A : Type 0} → ℕ → Vec Event Global → Vec Event Global → Content → A → Type 0
AddsPicked number old new c done = new.items ≡ old.items ++ events_after c.events (number - 1) 1

-- these are the events for the numbers
abbrev pub ArePicked : List ℕ → Content → Vec Event Global → Type 0
ArePicked numbers c events = events.items ≡ picked c.events numbers

-- ---- over such a connection

-- it finds what `IsAnswer` says of the content of a book
abbrev pub FindsIfOpen : {S A : Type 0} → Ghosts S → Held S → Held S → Result A Error → (Content → A → Type 0) → Type 0
FindsIfOpen g old new result IsAnswer = IsOpenIfClean (state g old) → FindsIn g old new result IsAnswer

-- it failed for a cause that is known
abbrev pub HasReadCauseIfOpen : {S A : Type 0} → Ghosts S → Held S → Held S → Result A Error → Type 0
HasReadCauseIfOpen g old new result = IsOpenIfClean (state g old) → HasReadCauseIn g old new result
