-- A connection as a book, after the look at it.
use Rattle.std.specs.Prelude.{◌≡◌, ◌⊎◌, false, None, IsTrue}
use Rattle.sqlite_disk.specs.Disk.{MoreFaults}
use Rattle.sqlite_trees.specs.Tree.{Trees}
use Rattle.sqlite.specs.Effect.{Database}
use Rattle.sqlite.specs.State.{State}
use Rattle.acd_book.specs.Content.{Within}
use Rattle.acd_book.specs.Order.{IsOrdered}
use Rattle.acd_book.specs.State.{BookState}
use Rattle.acd_sql_schema.specs.declared.fault.AdoptFault.{AdoptFault}
use Rattle.acd_sql_columns.specs.Content.{Encodes}
use Rattle.acd_sql_columns.specs.InTables.{content_of}
use Rattle.acd_sql_columns.specs.Transactions.{NoStop}
use Rattle.acd_sql_columns.specs.AnyRows.{IsCanonical, HaveAllColumns, schema_of}
use Rattle.acd_sql_columns.specs.DatabaseView.{HasDatabase}
use Rattle.acd_sql_columns.specs.declared.tables.Version.{Version}
use Rattle.acd_sql_columns.specs.Schema.{old_schema}
use Rattle.acd_sql_schema.specs.Migration.{IsMigration, IsVersionRefused}
use Rattle.acd_sql_columns.specs.InRange.{IsInRange}
use Rattle.acd_sql_schema.specs.Inspection.{IsAdoptFaultOf, IsOfBook, IsUnlike}

-- each row of its version's tables has its number, and a value for each column
abbrev pub HasAllColumns : Database → Type 0
HasAllColumns d = (v : Version) → d.schema ≡ schema_of v → HaveAllColumns v d.trees

-- nothing is changed, in tables of a book or of anything else: no stop is new and, while the connection is open, its database is the one that it was
pub record IsUntouched (old new : State) : Type 0 where
  pub same : IsTrue new.is_open → HasDatabase new old.now
  pub stops : NoStop old new

-- of tables of version 1: it has their content, where their rows are canonical
pub record IsSecondOf (old : State) (db : Trees) : Type 0 where
  pub version : old.now.schema ≡ old_schema
  pub tables : IsMigration old.now.trees db
  pub content : IsCanonical old.now → Encodes db (content_of old.committed.trees)

-- a crash leaves what it left before or, of version 1, its migration
abbrev pub MayMigrate : State → State → Type 0
MayMigrate old new = (db : Trees) → new.may_leave db → old.may_leave db ⊎ IsSecondOf old db

-- A book of a connection over this database, of either version: it holds what the connection held, and keeps its stops, where the rows are canonical.
pub record IsAdopted (d : Database) (old new : BookState) : Type 0 where
  pub was_open : old.is_open
  pub live : new.is_open
  pub of_book : (v : Version) × IsOfBook v d
  pub canonical : old.is_sound → IsCanonical d
  pub content : IsCanonical d → new.content ≡ old.content
  pub stops : IsCanonical d → Within new.stops old.stops
  pub keeps : IsCanonical d → Within old.stops new.stops
  pub sound : IsCanonical d → new.is_sound
  pub in_range : IsCanonical d → IsInRange new.content
  pub ordered : IsCanonical d → IsOrdered new.content

-- a connection that is handed back: no stop is new and, while it is open, it holds what it held
pub record IsHandedBack (d : Database) (old new : BookState) (fault : AdoptFault) : Type 0 where
  pub sound : old.is_sound → new.is_sound
  pub same : new.is_open → old.is_open × (new.content ≡ old.content)
  pub stops : IsCanonical d → Within new.stops old.stops
  pub cause : IsAdoptFaultOf d fault

-- why `adopt` answers that the store has failed, between these two states of its connection
pub data AdoptCause (old new : State) : Type 0 where
  -- the store's count of faults rose
  failed : MoreFaults old.faults new.faults → AdoptCause old new
  -- the connection was shut before
  shut : old.is_open ≡ false → AdoptCause old new
  -- the tables are those of no version, or of another than they hold
  unlike : IsUnlike old.now → AdoptCause old new
  -- by what it says of tables of version 1 with two more after them, the store refuses to write version 2 there
  refused : old.now.schema ≡ old_schema → IsVersionRefused None old.now.trees → AdoptCause old new
