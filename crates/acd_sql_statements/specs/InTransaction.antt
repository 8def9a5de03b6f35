-- What a statement inside a transaction leaves, and why it fails. The transaction keeps its connection, and a crash leaves what it left before.
use Rattle.std.specs.Prelude.{◌≡◌, ℕ, Result, Ok, IfErr, IfOk, IsTrue, OnOk}
use Rattle.std.specs.Borrow.{MutBor}
use Rattle.sqlite_trees.specs.declared.store.Store.{Ghosts}
use Rattle.sqlite.specs.Held.{Held, state}
use Rattle.sqlite.specs.State.{State, HasCleanDisk, Executes}
use Rattle.sqlite.specs.declared.error.Error.{Error}
use Rattle.acd_book.specs.Content.{empty_content}
use Rattle.acd_sql_columns.specs.declared.meta.Meta.{Meta}
use Rattle.acd_sql_columns.specs.declared.tables.Table.TheVariants as table
use Rattle.acd_sql_columns.specs.Content.{with_part}
use Rattle.acd_sql_columns.specs.SchemaSteps.{Builds, no_rows, SetsSecondVersion}
use Rattle.acd_sql_columns.specs.Relations.{relations_of}
use Rattle.acd_sql_columns.specs.Schema.{book_schema}
use Rattle.acd_sql_columns.specs.Transactions.{HoldsUncommitted, Works, RanStatement}
use Rattle.acd_sql_statements.specs.StoreFailures.{Text, FailsToWrite}
use Rattle.acd_sql_statements.specs.WriteRefusals.{HasWriteCause}
use Rattle.acd_sql_statements.specs.StatementEffects.{Writing, LeavesRelations}

-- ---- where no disk lied

-- where it succeeds, this holds of the states before and after
abbrev pub OnOkInside : {S A : Type 0} → Ghosts S → MutBor (Held S) → MutBor (Held S) → Result A Error → (State → State → Type 0) → Type 0
OnOkInside g old new result Fact = HasCleanDisk (state g new.now) → OnOk result (Fact (state g old.now) (state g new.now))

-- in a transaction it fails for such a cause
abbrev pub FailsInside : {S A : Type 0} → Ghosts S → MutBor (Held S) → MutBor (Held S) → Result A Error → (State → State → Error → Type 0) → Type 0
FailsInside g old new result Cause = HasCleanDisk (state g new.now) → IsTrue (state g old.now).in_transaction → IfErr result (Cause (state g old.now) (state g new.now))

-- ---- a text

-- with its parameters it ran, or it failed for a cause that is known
pub record RunsText {S : Type 0} (g : Ghosts S) (old new : MutBor (Held S)) (result : Result (Unit {0}) Error) (text : Text) : Type 0 where
  pub same : new.ghost_name ≡ old.ghost_name
  pub works : Works (state g old.now) (state g new.now)
  pub ran : HasCleanDisk (state g new.now) → OnOk result (RanStatement text.0 text.1 (state g old.now) (state g new.now))
  pub failed : FailsInside g old new result (λ (s t : State). FailsToWrite s t text.0 text.1)

-- the same of one that says how many rows it changed
pub record CountsRows {S : Type 0} (g : Ghosts S) (old new : MutBor (Held S)) (result : Result ℕ Error) (text : Text) : Type 0 where
  pub same : new.ghost_name ≡ old.ghost_name
  pub works : Works (state g old.now) (state g new.now)
  pub ran : HasCleanDisk (state g new.now) → IfOk result (λ (count : ℕ). Executes text.0 text.1 (state g old.now) (state g new.now) (Ok count))
  pub failed : FailsInside g old new result (λ (s t : State). FailsToWrite s t text.0 text.1)

-- ---- relations

-- relations that the transaction saw are now what the writing makes of them, or it failed, where that says what of it is refused
pub record WritesRow {S : Type 0} (g : Ghosts S) (old new : MutBor (Held S)) (result : Result (Unit {0}) Error) (writing : Writing) : Type 0 where
  pub same : new.ghost_name ≡ old.ghost_name
  pub works : Works (state g old.now) (state g new.now)
  pub put : LeavesRelations (state g old.now) (state g new.now) result writing.change
  pub failed : HasWriteCause writing.Refused (state g old.now) (state g new.now) result

-- ---- the start of a book, and its second version

-- tables that had no row hold the limits and the counters, and nothing else
abbrev pub StartsBook : Meta → State → State → Type 0
StartsBook m old new = Builds old book_schema (no_rows 11) → HoldsUncommitted new (with_part table.Meta m (relations_of (empty_content m.limits)))

-- the tables of a book name version 2
abbrev pub NamesSecondVersion : State → State → Type 0
NamesSecondVersion old new = old.now.schema ≡ book_schema → SetsSecondVersion old new
