-- Why a book answers that its store has failed.
use Rattle.std.specs.Prelude.{◌≡◌, ◌≢◌, ◌⊎◌, ℕ, ◌<◌, false, List, length, None, Some, Result, Err}
use Rattle.sqlite_disk.specs.Disk.{MoreFaults}
use Rattle.sqlite_trees.specs.declared.store.Store.{Ghosts}
use Rattle.sqlite.specs.Held.{state}
use Rattle.sqlite.specs.State.{State, HasCleanDisk}
use Rattle.acd_terms.specs.declared.event.Event.{Event}
use Rattle.acd_terms.specs.declared.rows.Limits.{Limits}
use Rattle.acd_terms.specs.declared.rows.Rows.{Rows}
use Rattle.acd_model.specs.declared.moves.Change.{Change}
use Rattle.acd_book.specs.Content.{Content}
use Rattle.acd_book.specs.declared.kept.Kept.{Kept}
use Rattle.acd_sql_columns.specs.Relations.{meta_of}
use Rattle.acd_book.specs.declared.fault.BookFault.{BookFault}
use Rattle.acd_book.specs.declared.fault.BookFault.TheVariants.{Store}
use Rattle.acd_sql_columns.specs.Transactions.{LimitsFit}
use Rattle.acd_sql_columns.specs.InTables.{content_of}
use Rattle.acd_sql_columns.specs.Schema.{no_schema}
use Rattle.acd_sql_differences.specs.ChangeOrder.{rows_differences}
use Rattle.acd_sql_columns.specs.InRange.{IsInRange}
use Rattle.acd_sql_schema.specs.Creation.{IsUnstarted}
use Rattle.acd_sqlbook.specs.State.{IsSoundState}
use Rattle.acd_sqlbook.specs.View.{BookView, book_seen}
use Rattle.acd_sqlbook.specs.Commit.{meta_after}
use Rattle.acd_sqlbook.specs.CommitStops.{AllNumbersFit, AreCounted, Drops, HasAbove, IsUncounted, RefusesInAll}
use Rattle.acd_sqlbook.specs.Lent.{Lent}
use Rattle.acd_sqlbook.specs.Pruning.{IsUnfitPrune, RefusesPrune}

-- the calls of a book
pub data StoreCall : Type 0 where
  create : Limits → StoreCall
  read : StoreCall
  change : List Change → List Event → Kept → StoreCall
  replace : Rows → List Event → Kept → StoreCall
  prune : ℕ → ℕ → StoreCall

-- a number of it, of a change that it makes, or of the counters after it, doesn't fit its column or its range, or an event or the kept record isn't as each has to be
abbrev pub IsUnfit : StoreCall → State → Type 0
IsUnfit (create limits) s = ¬ (LimitsFit limits)
IsUnfit read s = ⊥
IsUnfit (change changes events kept) s =
    IsUncounted changes (length events) kept (content_of s.committed.trees) ⊎ (¬ (AllNumbersFit changes events))
IsUnfit (replace rows events kept) s =
    (¬ (AreCounted rows kept)) ⊎ (¬ (AllNumbersFit (rows_differences (content_of s.committed.trees).rows rows) events))
IsUnfit (prune stamp number) s = IsUnfitPrune stamp number

-- it asks for a content with a value out of its range, which `adopt` would refuse
abbrev pub IsUnreadable : StoreCall → State → Type 0
IsUnreadable (create limits) s = ⊥
IsUnreadable read s = ¬ (IsInRange (content_of s.committed.trees))
IsUnreadable (change changes events kept) s = ¬ (IsInRange (content_of s.committed.trees))
IsUnreadable (replace rows events kept) s = ¬ (IsInRange (content_of s.committed.trees))
IsUnreadable (prune stamp number) s = ¬ (IsInRange (content_of s.committed.trees))

-- it makes tables, and the database has some
abbrev pub IsOccupied : StoreCall → State → Type 0
IsOccupied (create limits) s = s.now.schema ≢ no_schema
IsOccupied read s = ⊥
IsOccupied (change changes events kept) s = ⊥
IsOccupied (replace rows events kept) s = ⊥
IsOccupied (prune stamp number) s = ⊥

-- it would drop a group, a station or an agent
abbrev pub IsDropping : StoreCall → State → Type 0
IsDropping (create limits) s = ⊥
IsDropping read s = ⊥
IsDropping (change changes events kept) s = ⊥
IsDropping (replace rows events kept) s = Drops rows (content_of s.committed.trees)
IsDropping (prune stamp number) s = ⊥

-- of a commit of changes, with the counters that go on from the content's
abbrev pub RefusesToCommit : List Change → List Event → Kept → Content → Type 0
RefusesToCommit changes events kept c = RefusesInAll (HasAbove (Some c.rows.last_call) c) changes events kept (meta_after (meta_of c.rows) changes (length events) kept) c

-- by what it says of such tables, the store refuses the row of the limits; it refuses no query, and no table of a book; of a commit or a prune it refuses a
-- statement, on what those before it made
abbrev pub IsRefusedByStore : StoreCall → State → Type 0
IsRefusedByStore (create limits) s = IsUnstarted None limits
IsRefusedByStore read s = ⊥
IsRefusedByStore (change changes events kept) s = RefusesToCommit changes events kept (content_of s.committed.trees)
IsRefusedByStore (replace rows events kept) s = RefusesInAll ⊥ (rows_differences (content_of s.committed.trees).rows rows) events kept (meta_of rows) (content_of s.committed.trees)
IsRefusedByStore (prune stamp number) s = RefusesPrune stamp number (content_of s.committed.trees)

-- between these two states of its connection
pub data StoreCause (asked : StoreCall) (old new : State) : Type 0 where
  -- the store's count of faults rose
  failed : MoreFaults old.faults new.faults → StoreCause asked old new
  -- the connection was shut before
  shut : old.is_open ≡ false → StoreCause asked old new
  unfit : IsUnfit asked old → StoreCause asked old new
  unreadable : IsUnreadable asked old → StoreCause asked old new
  occupied : IsOccupied asked old → StoreCause asked old new
  drops : IsDropping asked old → StoreCause asked old new
  refused : IsRefusedByStore asked old → StoreCause asked old new

-- a connection that holds a content answers so, and its failures rise, only where there is a cause
pub record HasCause {A : Type 0} (asked : StoreCall) (old new : State) (failures next : ℕ) (result : Result A BookFault) : Type 0 where
  pub answer : HasCleanDisk new → IsSoundState old → result ≡ Err Store → StoreCause asked old new
  pub count : HasCleanDisk new → IsSoundState old → failures < next → StoreCause asked old new

-- so it is with a book
abbrev pub IsCaused : {S A : Type 0} → StoreCall → Ghosts S → Lent (BookView S) → Result A BookFault → Type 0
IsCaused asked g book result =
    HasCause asked (state g book.entry.now.conn) (state g book.exit.now.conn) book.entry.now.failures book.exit.now.failures result

-- the same of a book that is sound, its cache too
abbrev pub IsCausedIfSound : {S A : Type 0} → StoreCall → Ghosts S → Lent (BookView S) → Result A BookFault → Type 0
IsCausedIfSound asked g book result = (book_seen g book.entry.now).is_sound → IsCaused asked g book result
