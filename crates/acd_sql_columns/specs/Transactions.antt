-- The content of a connection, inside a transaction and between two.
use Rattle.std.specs.Prelude.{◌≡◌, ◌⊎◌, ◌<◌, ◌^◌, ℕ, List, Ok, true, IsTrue}
use Rattle.sqlite_value.specs.Order.{Row}
use Rattle.sqlite_trees.specs.Tree.{Trees}
use Rattle.sqlite_catalog.specs.Listing.{IsSound}
use Rattle.sqlite.specs.State.{State, HasCleanDisk, KeepsCommit, Survives, Executes}
use Rattle.acd_terms.specs.declared.record.Figures.{Figures}
use Rattle.acd_terms.specs.declared.rows.Limits.{Limits}
use Rattle.acd_book.specs.Content.{Content}
use Rattle.acd_sql_columns.specs.declared.meta.Meta.{Meta}
use Rattle.acd_sql_columns.specs.Schema.{book_schema}
use Rattle.acd_sql_columns.specs.Relations.{Relations, relations_of}
use Rattle.acd_sql_columns.specs.Content.{AreTables, Encodes}
use Rattle.acd_sql_columns.specs.InRange.{IsInRange}

-- A database that opens as a book of this content: its catalog lists the book's schema, its rows and indexes obey that, its tables are those of the content, and
-- each value of that is in its range.
pub record IsBook (db : Trees) (c : Content) : Type 0 where
  pub sound : IsSound book_schema db
  pub encodes : Encodes db c
  pub range : IsInRange c

-- the transaction sees these relations, in a database that obeys the book's schema
pub record HoldsUncommitted (s : State) (r : Relations) : Type 0 where
  pub inside : s.in_transaction ≡ true
  pub schema : s.now.schema ≡ book_schema
  pub sound : IsSound book_schema s.now.trees
  pub tables : AreTables s.now.trees r

-- the same of the tables of a content, each of whose values is in its range
pub record HoldsGood (s : State) (c : Content) : Type 0 where
  pub relations : HoldsUncommitted s (relations_of c)
  pub range : IsInRange c

-- nothing is committed, and a crash leaves what it left before
pub record Works (old new : State) : Type 0 where
  pub survives : Survives old new (λ _. ⊥)
  pub kept : HasCleanDisk new → KeepsCommit old new

-- the statement was executed
abbrev pub RanStatement : List ℕ → Row → State → State → Type 0
RanStatement sql params old new = (count : ℕ) × Executes sql params old new (Ok count)

-- between transactions: the connection is open, and the last commit obeys the book's schema and has this content, each of whose values is in its range
pub record HoldsContent (s : State) (c : Content) : Type 0 where
  pub is_open : IsTrue s.is_open
  pub idle : s.now ≡ s.committed
  pub schema : s.committed.schema ≡ book_schema
  pub sound : IsSound book_schema s.committed.trees
  pub encodes : Encodes s.committed.trees c
  pub range : IsInRange c

-- a crash leaves what it left before, or a book of this
abbrev pub AddsStop : State → State → (Content → Content) → Type 0
AddsStop old new change = (db : Trees) → new.may_leave db → old.may_leave db ⊎ ((c : Content) → HoldsContent old c → IsBook db (change c))

-- nothing is changed, but that a failure may shut it
pub record Quiet (old new : State) : Type 0 where
  pub clean : HasCleanDisk new → HasCleanDisk old
  pub was_open : HasCleanDisk new → IsTrue new.is_open → IsTrue old.is_open
  pub same : HasCleanDisk new → (c : Content) → HoldsContent old c → IsTrue new.is_open → HoldsContent new c

abbrev pub NoStop : State → State → Type 0
NoStop old new = (db : Trees) → new.may_leave db → old.may_leave db

-- a crash leaves what it left before or, where it was open, a book of this
abbrev pub MayAdd : State → State → (Content → Content) → Type 0
MayAdd old new change = (db : Trees) → new.may_leave db → old.may_leave db ⊎ (IsTrue old.is_open × ((c : Content) → HoldsContent old c → IsBook db (change c)))

-- ---- numbers that an INTEGER column can hold

abbrev pub Fits : ℕ → Type 0
Fits n = n < 2 ^ 63

pub record FiguresFitColumns (f : Figures) : Type 0 where
  pub entered : Fits f.entered
  pub answered : Fits f.answered
  pub abandoned : Fits f.abandoned
  pub moved : Fits f.moved
  pub waited : Fits f.waited

pub record LimitsFit (l : Limits) : Type 0 where
  pub requests : Fits l.requests
  pub calls : Fits l.calls
  pub groups : Fits l.groups
  pub stations : Fits l.stations
  pub agents : Fits l.agents
  pub monitors : Fits l.monitors

pub record MetaFits (m : Meta) : Type 0 where
  pub limits : LimitsFit m.limits
  pub last_stamp : Fits m.last_stamp
  pub last_call : Fits m.last_call
  pub last_monitor : Fits m.last_monitor
  pub last_event : Fits m.last_event
