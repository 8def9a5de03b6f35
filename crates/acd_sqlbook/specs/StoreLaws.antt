-- The store of a book, and its content: what is known.
use Rattle.std.specs.Prelude.{◌≡◌, ℕ, Result, IfOk, IfErr, ⊤}
use Rattle.sqlite_trees.specs.Tree.{Trees}
use Rattle.sqlite_trees.specs.declared.memory.MemStore.{MemStore}
use Rattle.sqlite_trees.specs.declared.store.Store.{Ghosts}
use Rattle.sqlite.specs.Effect.{Database, IsDatabase}
use Rattle.sqlite.specs.Held.{Held, state}
use Rattle.sqlite.specs.State.{State}
use Rattle.sqlite.specs.Steps.{over_memory}
use Rattle.acd_book.specs.Content.{Content}
use Rattle.acd_book.specs.Order.{IsOrdered}
use Rattle.acd_sql_columns.specs.declared.tables.Version.TheVariants.{Second}
use Rattle.acd_sql_columns.specs.AnyRows.{IsCanonical}
use Rattle.acd_sql_columns.specs.Content.{Encodes}
use Rattle.acd_sql_columns.specs.InTables.{content_of}
use Rattle.acd_sql_columns.specs.Schema.{book_schema}
use Rattle.acd_sql_columns.specs.Transactions.{IsBook}
use Rattle.acd_sql_schema.specs.declared.fault.AdoptFault.{AdoptFault}
use Rattle.acd_sql_schema.specs.declared.fault.AdoptFault.TheVariants.{WrongVersion, BadRow, NoMemory, Store}
use Rattle.acd_sql_schema.specs.declared.fault.Found.{Found}
use Rattle.acd_sql_schema.specs.declared.fault.Found.TheVariants.{Book}
use Rattle.acd_sql_schema.specs.Inspection.{IsFound, IsOfBook}
use Rattle.acd_sql_statements.specs.StoreFailures.{StoreHasFailed}
use Rattle.acd_sql_columns.specs.InRange.{IsInRange}
use Rattle.acd_sqlbook.specs.Opening.{HasAdoptCause, IfHandedBack, IfOpened, IsAdoptedOver, IsHandedBackOver}
use Rattle.acd_sqlbook.specs.State.{book_state}
use Rattle.acd_sqlbook.specs.View.{BookView}

-- over a store in memory a book is clean, whatever was done to it
abbrev pub MemoryIsClean : Type 0
MemoryIsClean = (h : Held MemStore) (failures : ℕ) → (book_state (state over_memory h) failures).is_clean

-- the content of tables is in order, where each value is in its range
abbrev pub StoredIsOrdered : Type 0
StoredIsOrdered = (db : Trees) (c : Content) → Encodes db c → IsInRange c → IsOrdered c

-- it has the book's schema, rows as a store keeps them and this content; it is a book of version 2, and a look at it finds nothing else, so no fault
pub record Reopens (d : Database) (c : Content) : Type 0 where
  pub schema : d.schema ≡ book_schema
  pub canonical : IsCanonical d
  pub content : content_of d.trees ≡ c
  pub of_book : IsOfBook Second d
  pub only : (found : Found) → IsFound d found → found ≡ Book Second

-- a database whose trees are a book of this content reopens with this content
abbrev pub BooksReopen : Type 0
BooksReopen = (d : Database) (c : Content) → IsDatabase d → IsBook d.trees c → Reopens d c

-- between transactions, over a database that reopens with this content
pub record IsOverBook (s : State) (c : Content) : Type 0 where
  pub idle : s.now ≡ s.committed
  pub reopens : Reopens s.now c

-- ---- what `adopt` answers over it

abbrev pub AdoptResult : Type 0 → Type 0
AdoptResult S = Result (BookView S) (AdoptFault × Held S)

-- what it ensures of any answer
pub record IsAdoptAnswer {S : Type 0} (g : Ghosts S) (conn : Held S) (result : AdoptResult S) : Type 0 where
  pub adopted : IfOk result (IsAdoptedOver g conn)
  pub handed_back : IfErr result (IsHandedBackOver g conn)
  pub caused : IfHandedBack g conn result HasAdoptCause

abbrev pub HasContent : Content → State → State → Type 0
HasContent c old new = content_of new.committed.trees ≡ c

-- why it hands back a connection over a book: memory lacks, or the store has failed or the connection was shut before
abbrev pub FailsToAdopt : AdoptFault → State → State → Type 0
FailsToAdopt (WrongVersion n) old new = ⊥
FailsToAdopt (BadRow t) old new = ⊥
FailsToAdopt NoMemory old new = ⊤
FailsToAdopt Store old new = StoreHasFailed old new

-- it opens a book of this content, or fails by memory or its store
pub record Adopts {S : Type 0} (g : Ghosts S) (conn : Held S) (result : AdoptResult S) (c : Content) : Type 0 where
  pub content : IfOpened g conn result (HasContent c)
  pub failed : IfHandedBack g conn result FailsToAdopt

-- over a book no answer is another
abbrev pub BooksAreAdopted : {S : Type 0} → Ghosts S → Type 0
BooksAreAdopted {S} g = (conn : Held S) (result : AdoptResult S) (c : Content) → IsOverBook (state g conn) c → IsAdoptAnswer g conn result → Adopts g conn result c
