-- A book over a connection, at a moment.
use Rattle.std.specs.Prelude.{◌≡◌, ℕ, ◌+◌, ◌-◌, ◌^◌, min, Result, Ok, Err, IsTrue}
use Rattle.sqlite_trees.specs.Tree.{Trees}
use Rattle.sqlite.specs.declared.error.Error.{Error}
use Rattle.sqlite.specs.declared.error.Error.TheVariants.{SqliteFailure}
use Rattle.sqlite.specs.declared.error.ErrorCode.TheVariants.{OutOfMemory}
use Rattle.sqlite.specs.State.{State, HasCleanDisk}
use Rattle.acd_terms.specs.declared.rows.Limits.{Limits}
use Rattle.acd_book.specs.Content.{Content, empty_content}
use Rattle.acd_book.specs.State.{BookState}
use Rattle.acd_book.specs.declared.fault.BookFault.{BookFault}
use Rattle.acd_book.specs.declared.fault.BookFault.TheVariants.{NoMemory, Store}
use Rattle.acd_sql_columns.specs.Transactions.{IsBook}
use Rattle.acd_sql_columns.specs.InTables.{content_of}
use Rattle.acd_sqlbook.specs.Calls.{ShowsContent}

-- whatever a crash may leave opens as a book of a content, and so does what the connection sees while it is open
pub record IsSoundState (s : State) : Type 0 where
  pub stands : ShowsContent s
  pub left : (db : Trees) → s.may_leave db → (c : Content) × IsBook db c

abbrev pub book_state : State → ℕ → BookState
book_state s failures = record {
  content = content_of s.committed.trees;
  stops = λ c. (db : Trees) × s.may_leave db × (c ≡ content_of db);
  is_sound = IsSoundState s;
  is_clean = HasCleanDisk s;
  is_open = IsTrue s.is_open;
  failures = failures;
}

-- a book that holds the limits and nothing else
pub record IsNewBook (b : BookState) (limits : Limits) : Type 0 where
  pub sound : b.is_sound
  pub live : b.is_open
  pub content : b.content ≡ empty_content limits
  pub stop : b.stops (empty_content limits)
  pub only : (c : Content) → b.stops c → c ≡ empty_content limits

-- ---- faults

-- want of memory is no failure of the store
abbrev pub error_fault : Error → BookFault
error_fault (SqliteFailure OutOfMemory) = NoMemory
error_fault _ = Store

abbrev pub book_result : {A : Type 0} → Result A Error → Result A BookFault
book_result (Ok found) = Ok found
book_result (Err error) = Err (error_fault error)

-- the count of failures after an answer; it stays at its greatest value
abbrev pub failures_after : {A : Type 0} → Result A BookFault → ℕ → ℕ
failures_after (Err Store) failures = min (failures + 1) (2 ^ 64 - 1)
failures_after _ failures = failures
