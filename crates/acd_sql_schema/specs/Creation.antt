-- The making of the tables: what a crash leaves of it, and why they aren't made.
use Rattle.std.specs.Prelude.{◌≡◌, ◌⊎◌, ◌++◌, ◌∷◌, [], ℕ, List, Option, Result, IsTrue, IfErr, OnOk}
use Rattle.std.specs.Borrow.{MutBor}
use Rattle.sqlite_value.specs.Order.{Row}
use Rattle.sqlite_trees.specs.Tree.{Trees}
use Rattle.sqlite_trees.specs.declared.store.Store.{Ghosts}
use Rattle.sqlite_schema.specs.declared.schema.Schema.{Schema}
use Rattle.sqlite.specs.Effect.{Database}
use Rattle.sqlite.specs.Held.{Held, state}
use Rattle.sqlite.specs.State.{State, HasCleanDisk}
use Rattle.sqlite.specs.declared.error.Error.{Error}
use Rattle.acd_terms.specs.declared.rows.Limits.{Limits}
use Rattle.acd_book.specs.Content.{empty_content}
use Rattle.acd_sql_columns.specs.declared.meta.Meta.{Meta}
use Rattle.acd_sql_columns.specs.declared.tables.Version.{Version}
use Rattle.acd_sql_columns.specs.declared.tables.Version.TheVariants as version
use Rattle.acd_sql_columns.specs.declared.texts.TheConstants.{INSERT_META}
use Rattle.acd_sql_columns.specs.AnyRows.{schema_of}
use Rattle.acd_sql_columns.specs.Transactions.{HoldsContent, IsBook, Works}
use Rattle.acd_sql_columns.specs.SchemaSteps.{Builds, HasRows, no_rows, plan_schema, state_schema}
use Rattle.acd_sql_columns.specs.Rows.{meta_values}
use Rattle.acd_sql_columns.specs.Schema.{book_schema, no_schema, old_schema}
use Rattle.acd_sql_statements.specs.StoreFailures.{IsMemory, StoreHasFailed, Refuses}

-- this holds of the states before and after, where no disk broke a promise
abbrev pub IfClean : {S : Type 0} → Ghosts S → Held S → Held S → (State → State → Type 0) → Type 0
IfClean g old new Fact = HasCleanDisk (state g new) → Fact (state g old) (state g new)

-- where no disk broke a promise, a connection that is open after a call was open before it
abbrev pub WasOpen : {S : Type 0} → Ghosts S → Held S → Held S → Type 0
WasOpen g old new = HasCleanDisk (state g new) → IsTrue (state g new).is_open → IsTrue (state g old).is_open

-- where a call succeeds, this holds of the states before and after it; where it fails, it has such a cause
abbrev pub IfSucceeds : {A : Type 0} → Result A Error → (State → State → Type 0) → State → State → Type 0
IfSucceeds result Fact old new = OnOk result (Fact old new)

abbrev pub IfFails : {A : Type 0} → Result A Error → (State → State → Error → Type 0) → State → State → Type 0
IfFails result Cause old new = IfErr result (Cause old new)

-- after a call the tables are those of this version
abbrev pub HasTablesOf : Version → State → State → Type 0
HasTablesOf v old new = new.now.schema ≡ schema_of v

-- after a call a book with these limits and nothing else is there
abbrev pub HasNewBook : Limits → State → State → Type 0
HasNewBook limits old new = HoldsContent new (empty_content limits)

-- a crash leaves what it left before, or a book with the limits and nothing else
abbrev pub MayMake : State → State → Limits → Type 0
MayMake old new limits = (db : Trees) → new.may_leave db → old.may_leave db ⊎ IsBook db (empty_content limits)

-- ---- failures

-- the limits, and no counter
abbrev pub start_of : Limits → Meta
start_of limits = record { limits = limits; last_stamp = 0; last_moment = 0; last_call = 0; last_monitor = 0; last_event = 0 }

-- the store refuses the row of the limits in tables that have no row
abbrev pub IsUnstarted : Option ℕ → Limits → Type 0
IsUnstarted limit limits =
    (d : Database) × (d.schema ≡ book_schema) × HasRows d.trees book_schema.tables (no_rows 11) × Refuses limit d INSERT_META.now (meta_values (start_of limits))

-- why tables aren't made: the store refuses none of their texts
abbrev pub FailsToMake : State → State → Error → Type 0
FailsToMake old new e = IsMemory e ⊎ StoreHasFailed old new

-- why a new book isn't
abbrev pub FailsToSetUp : State → State → Limits → Error → Type 0
FailsToSetUp old new limits e = IsMemory e ⊎ (StoreHasFailed old new ⊎ IsUnstarted old.step_limit limits)

-- a fault has such a cause, where no disk lied
abbrev pub FailsBy : {S A : Type 0} → Ghosts S → Held S → Held S → Result A Error → (State → State → Error → Type 0) → Type 0
FailsBy g old new result Cause = IfClean g old new (IfFails result Cause)

-- ---- inside the transaction

-- how many tables a version has
abbrev pub tables_in : Version → ℕ
tables_in version.First = 9
tables_in version.Second = 11

-- tables, and the rows of each
pub record Stage : Type 0 where
  pub schema : Schema
  pub rows : List (List Row)

abbrev pub stage : Schema → List (List Row) → Stage
stage schema rows = record { schema = schema; rows = rows }

-- without a row: none, those of the plan, with what changes from call to call, and all of a version
abbrev pub none_made : Stage
none_made = stage no_schema (no_rows 0)

abbrev pub plan_made : Stage
plan_made = stage plan_schema (no_rows 4)

abbrev pub state_made : Stage
state_made = stage state_schema (no_rows 7)

abbrev pub made_of : Version → Stage
made_of version = stage (schema_of version) (no_rows (tables_in version))

-- the nine tables of version 1 with these rows, and two without one after them
abbrev pub eleven_with : List (List Row) → Stage
eleven_with rows = stage book_schema ((rows ++ [] ∷ []) ++ [] ∷ [])

-- the first of these tables, with their rows, become the second ones, and nothing is committed
pub record MakesTables {S : Type 0} (g : Ghosts S) (old new : MutBor (Held S)) (result : Result (Unit {0}) Error) (stages : Stage × Stage) : Type 0 where
  pub same : new.ghost_name ≡ old.ghost_name
  pub works : Works (state g old.now) (state g new.now)
  pub made : HasCleanDisk (state g new.now) → OnOk result (Builds (state g old.now) stages.0.schema stages.0.rows → Builds (state g new.now) stages.1.schema stages.1.rows)
  pub failed : HasCleanDisk (state g new.now) → Builds (state g old.now) stages.0.schema stages.0.rows → IfErr result (FailsToMake (state g old.now) (state g new.now))

-- the two tables of version 2 are made after the nine, whatever rows these have
abbrev pub MakesTwo : {S : Type 0} → Ghosts S → MutBor (Held S) → MutBor (Held S) → Result (Unit {0}) Error → Type 0
MakesTwo g old new result = (rows : List (List Row)) → MakesTables g old new result (stage old_schema rows, eleven_with rows)
