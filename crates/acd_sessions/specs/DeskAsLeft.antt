-- A desk over a book, as a command leaves it: the book's state, and what the desk has in memory.
use Rattle.std.specs.Prelude.{◌≡◌, ◌⊎◌, ℕ, Bool, true, Option}
use Rattle.sqlite.specs.State.{State, HasCleanDisk}
use Rattle.sqlite.specs.Held.{Held, state}
use Rattle.sqlite_trees.specs.declared.store.Store.{Ghosts}
use Rattle.acd_terms.specs.declared.rows.Rows.{Rows}
use Rattle.acd_book.specs.Content.{Content}
use Rattle.acd_book.specs.State.{BookState, unfailing}
use Rattle.acd_sql_columns.specs.Schema.{no_schema}
use Rattle.acd_desk.specs.Desks.Opening.{Opened}
use Rattle.acd_desk.specs.Desks.DeskState.{DeskState}
use Rattle.acd_sessions.specs.MemoryAnswers.{IsNewDesk}
use Rattle.acd_sessions.specs.Over.{held, unmade, left, Database, HadTables, LeavesBooks}

pub record Seen (B : Type 0) : Type 0 where
  pub book : B
  -- the switch, where it is in memory
  pub switch : Option Rows
  -- it answers storeFault, and nothing else
  pub failed : Bool

-- its state, by what its book says
abbrev pub seen : {B : Type 0} → (B → BookState) → Seen B → DeskState
seen says d = record { book = says d.book; switch = d.switch; failed = d.failed }

-- ---- over a new book in memory

-- a new desk did this
pub record SeenNew (Did : (Seen Content → DeskState) → Seen Content → Seen Content → Type 0) : Type 0 where
  pub first : Seen Content
  pub final : Seen Content
  pub opened : IsNewDesk (seen unfailing first)
  pub did : Did (seen unfailing) first final

-- ---- over the book of a database

pub record InDatabase (S : Type 0) : Type 0 where
  pub conn : Held S
  pub failures : ℕ

module _ {S : Type 0} (store : Ghosts S) where
  -- what it says: it is sound where the book was that it began as
  abbrev pub left_of : BookState → InDatabase S → BookState
  left_of began b = record (left (state store b.conn) b.failures) { is_sound = began.is_sound }

  module _ (Did : (Seen (InDatabase S) → DeskState) → Seen (InDatabase S) → Seen (InDatabase S) → Type 0) where
    -- a desk was opened over the book and did this, and the connection came back; of a sound book whatever a crash may leave opens
    -- as a book
    pub record SeenOver (old : BookState) (new : Held S) : Type 0 where
      pub first : Seen (InDatabase S)
      pub final : Seen (InDatabase S)
      pub opened : Opened old (seen (left_of old) first)
      pub did : Did (seen (left_of old)) first final
      pub opens : HasCleanDisk (state store new) → old.is_sound → LeavesBooks (state store new)
      pub back : new ≡ final.book.conn

    -- over the book in the database, which is no other program's, or, where it had no tables and one was to be made, over the new one
    abbrev pub SeenIn : Bool → State → Held S → Type 0
    SeenIn makes old new = (HadTables old (state store new) × SeenOver (held old) new) ⊎ ((makes ≡ true) × (old.now.schema ≡ no_schema) × SeenOver (unmade old) new)

-- so it was over the book of a database that was handed in, as this connection leaves it
abbrev pub SeenInCall : {S : Type 0} → Database S → ((Seen (InDatabase S) → DeskState) → Seen (InDatabase S) → Seen (InDatabase S) → Type 0) → Held S → Type 0
SeenInCall db Did new = SeenIn db.store Did db.makes (state db.store db.conn) new
