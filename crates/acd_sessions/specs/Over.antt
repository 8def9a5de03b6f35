-- The answers of lines over a book, and what they leave.
use Rattle.std.specs.Prelude.{◌≡◌, ◌⊎◌, ℕ, Bool, true, List, IsTrue, ⊤}
use Rattle.std.specs.List.{Contains}
use Rattle.std.specs.Io.KnownBytes.{Appends}
use Rattle.sqlite_trees.specs.Tree.{Trees}
use Rattle.sqlite_trees.specs.declared.store.Store.{Ghosts}
use Rattle.sqlite.specs.Held.{Held, state}
use Rattle.sqlite.specs.State.{State, HasCleanDisk}
use Rattle.acd_terms.specs.declared.command.Arrival.{Arrival}
use Rattle.acd_book.specs.Content.{Within}
use Rattle.acd_book.specs.State.{BookState, IfHonest}
use Rattle.acd_sql_columns.specs.AnyRows.{IsCanonical, schema_of}
use Rattle.acd_sql_columns.specs.declared.tables.Version.{Version}
use Rattle.acd_sql_columns.specs.InTables.{content_of}
use Rattle.acd_sql_columns.specs.Schema.{no_schema, old_schema}
use Rattle.acd_sql_columns.specs.Transactions.{IsBook}
use Rattle.acd_sql_schema.specs.Migration.{IsMigration}
use Rattle.acd_desk.specs.declared.taken.Taken.{Taken}
use Rattle.acd_desk.specs.declared.taken.Taken.TheVariants.{StoreFault}
use Rattle.acd_desk.specs.Desks.DeskCalls.{IsFault}
use Rattle.acd_desk.specs.Desks.Session.{Session}
use Rattle.acd_lines.specs.Lines.{LinesAnswered, AllLines, ArrivalsAnswered, Streams}
use Rattle.acd_sessions.specs.MemoryAnswers.{nothing}

-- the answers to arrivals that are a session, from a book to what it is then
abbrev pub IsSession : BookState → BookState → List Arrival → List Taken → Type 0
IsSession old new arrivals answers = Session IsFault old arrivals answers new

-- and none of them is a storeFault, where one was to end them
abbrev pub IsSessionTo : Bool → BookState → BookState → List Arrival → List Taken → Type 0
IsSessionTo ends old new arrivals answers = Session IsFault old arrivals answers new × (ends ≡ true → ¬ (Contains answers StoreFault))

-- and one of them is a storeFault
abbrev pub IsFailedSession : BookState → BookState → List Arrival → List Taken → Type 0
IsFailedSession old new arrivals answers = Session IsFault old arrivals answers new × Contains answers StoreFault

-- the whole input, and one answer line for each of its lines; the arrivals among them are a session over the book, without a storeFault where one was to end them
abbrev pub AnswersOver : Bool → Streams → BookState → BookState → Type 0
AnswersOver ends io old new = LinesAnswered (AllLines io.old_input) (ArrivalsAnswered (IsSessionTo ends old new)) (Appends io.old_output io.new_output)

-- ---- over a connection

-- a database as it is handed in: by its store, whether a book may be made in it, and the connection
pub record Database (S : Type 0) : Type 1 where
  pub store : Ghosts S
  pub makes : Bool
  pub conn : Held S

-- it is made of these
abbrev pub database : {S : Type 0} → Ghosts S → Bool → Held S → Database S
database store makes conn = record { store = store; makes = makes; conn = conn }

-- a database as a book: its tables give its content, and it is sound where their rows are canonical
abbrev pub held : State → BookState
held s = record {
  content = content_of s.committed.trees;
  stops = λ c. (db : Trees) × s.may_leave db × (c ≡ content_of db);
  is_sound = IsCanonical s.now;
  is_clean = HasCleanDisk s;
  is_open = IsTrue s.is_open;
  failures = 0;
}

-- the new book that is made where a database has no tables
abbrev pub unmade : State → BookState
unmade s = record { content = nothing; stops = λ c. c ≡ nothing; is_sound = ⊤; is_clean = HasCleanDisk s; is_open = ⊤; failures = 0 }

-- what it sees while it is open, the last commit, and whatever a crash may leave open as books of what their tables represent
pub record LeavesBooks (s : State) : Type 0 where
  pub now : IsTrue s.is_open → IsBook s.now.trees (content_of s.now.trees)
  pub committed : IsTrue s.is_open → IsBook s.committed.trees (content_of s.committed.trees)
  pub left : (db : Trees) → s.may_leave db → IsBook db (content_of db)

-- a database as the book that a desk left in it, whose store has failed so often
abbrev pub left : State → ℕ → BookState
left s failures = record (held s) { is_sound = LeavesBooks s; failures = failures }

-- the tables are those of a book, of either version
abbrev pub HasTables : State → Type 0
HasTables s = (v : Version) × (s.now.schema ≡ schema_of v)

-- what a crash may leave of a database in which no desk executed anything
pub data IsKept (makes : Bool) (old : State) (db : Trees) : Type 0 where
  -- what it left before
  before : old.may_leave db → IsKept makes old db
  -- version 2 of tables of version 1
  migrated : old.now.schema ≡ old_schema → IsMigration old.now.trees db → IsKept makes old db
  -- of a book's tables, where their rows were canonical, a book of what they represented
  same : HasTables old → (IsCanonical old.now → IsBook db (content_of old.committed.trees)) → IsKept makes old db
  -- where there were no tables and a book was to be made, one with nothing in it
  made : makes ≡ true → old.now.schema ≡ no_schema → IsBook db nothing → IsKept makes old db

-- no desk executed anything: a crash leaves such a one
abbrev pub Unserved : Bool → State → State → Type 0
Unserved makes old new = HasCleanDisk new → (db : Trees) → new.may_leave db → IsKept makes old db

-- the tables were a book's; only a disk that returned other than was written may have shown them so
abbrev pub HadTables : State → State → Type 0
HadTables old new = HasCleanDisk new → HasTables old

-- this holds of the book in the database, which is no other program's, or, where it had no tables and one was to be made, of the new one
abbrev pub OverConnection : (BookState → BookState → Type 0) → Bool → State → State → Type 0
OverConnection P makes old new = (failures : ℕ) × ((HadTables old new × P (held old) (left new failures)) ⊎ ((makes ≡ true) × (old.now.schema ≡ no_schema) × P (unmade old) (left new failures)))

-- this holds of the book of a database that was handed in, as this connection leaves it
abbrev pub OverDatabase : {S : Type 0} → Database S → (BookState → BookState → Type 0) → Held S → Type 0
OverDatabase db P new = OverConnection P db.makes (state db.store db.conn) (state db.store new)

-- a desk over the book was asked, or there was none: whatever it answered, a reopening finds nothing new
pub record OnlyAsked (old new : BookState) : Type 0 where
  pub clean : new.is_clean → old.is_clean
  pub sound : IfHonest old new new.is_sound
  pub stops : IfHonest old new (Within new.stops old.stops)
