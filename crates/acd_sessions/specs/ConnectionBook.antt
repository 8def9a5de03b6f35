-- The book over a connection, as what the database held.
use Rattle.std.specs.Prelude.{◌≡◌, ◌⊎◌, Bool, true}
use Rattle.sqlite_trees.specs.declared.store.Store.{Ghosts}
use Rattle.sqlite.specs.Held.{Held, state}
use Rattle.sqlite.specs.State.{State, HasCleanDisk}
use Rattle.acd_terms.specs.Limits.{greatest_limits}
use Rattle.acd_book.specs.Content.{Within}
use Rattle.acd_book.specs.Order.{IsOrdered}
use Rattle.acd_book.specs.State.{BookState, BookStep}
use Rattle.acd_sql_columns.specs.Schema.{no_schema}
use Rattle.acd_sql_schema.specs.Creation.{MayMake}
use Rattle.acd_sessions.specs.Over.{HasTables, held, unmade}

-- a book that came of another and holds the same
pub record IsHeldBook (old new : BookState) : Type 0 where
  pub step : BookStep ⊥ old new
  pub content : new.is_clean → old.is_sound → new.content ≡ old.content
  pub stops : new.is_clean → old.is_sound → Within new.stops old.stops
  pub keeps : new.is_clean → old.is_sound → Within old.stops new.stops
  pub opened : new.is_clean → old.is_sound → old.is_open
  pub live : new.is_clean → old.is_sound → new.is_open
  pub ordered : new.is_clean → old.is_sound → IsOrdered new.content

-- a crash leaves what it left before, or a new book with the greatest limits
abbrev pub MayMakeIn : {S : Type 0} → Ghosts S → Held S → Held S → Type 0
MayMakeIn store old new = HasCleanDisk (state store new) → MayMake (state store old) (state store new) greatest_limits

-- the book in the database, whose tables are a book's
pub record IsFoundIn (s : State) (new : BookState) : Type 0 where
  pub tables : new.is_clean → HasTables s
  pub of_held : IsHeldBook (held s) new

-- the book in the database or, where it had no tables and one was to be made, a new one
abbrev pub IsTaken : Bool → State → BookState → Type 0
IsTaken makes s new = IsFoundIn s new ⊎ ((makes ≡ true) × (s.now.schema ≡ no_schema) × IsHeldBook (unmade s) new)
