-- What is looked for in a database, whatever that holds, and why a look fails.
use Rattle.std.specs.Prelude.{◌≡◌, ◌⊎◌, ℕ, true, List, [], ◌∷◌, Result, IfErr, IsSome}
use Rattle.sqlite_disk.specs.Disk.{MoreFaults}
use Rattle.sqlite_value.specs.Order.{Row}
use Rattle.sqlite_trees.specs.declared.store.Store.{Ghosts}
use Rattle.sqlite_schema.specs.declared.schema.Schema.{Schema}
use Rattle.sqlite_schema.specs.declared.schema.Table.{Table as Made}
use Rattle.sqlite.specs.Effect.{Database}
use Rattle.sqlite.specs.Held.{Held, state}
use Rattle.sqlite.specs.State.{State, HasCleanDisk}
use Rattle.sqlite.specs.declared.error.Error.{Error}
use Rattle.acd_terms.specs.Lists.{Every}
use Rattle.acd_sql_columns.specs.declared.tables.Table.{Table}
use Rattle.acd_sql_columns.specs.AnyRows.{is_good_in, Covers}
use Rattle.acd_sql_columns.specs.Schema.{tables_1, BeginsSchema}
use Rattle.acd_sql_columns.specs.DatabaseView.{HasDatabase}
use Rattle.acd_sql_statements.specs.StoreFailures.{IsMemory, Text}
use Rattle.acd_sql_statements.specs.ReadFailures.{RefusesToShow, Spares}

-- ---- what is looked for

-- the schemas over which it is looked for, and what the answer is of each database
pub record Look (A : Type 0) : Type 1 where
  pub Over : Schema → Type 0
  pub IsAnswer : Database → A → Type 0

-- the look at these schemas with this answer
abbrev pub over : {A : Type 0} → (Schema → Type 0) → (Database → A → Type 0) → Look A
over Over IsAnswer = record { Over = Over; IsAnswer = IsAnswer }

-- it begins with the nine tables of version 1
abbrev pub BeginsNine : Schema → Type 0
BeginsNine = BeginsSchema tables_1

-- ---- why a look fails

-- no memory, a fault of the store, or a limit of steps that was set
abbrev pub FailsToLook : State → State → Error → Type 0
FailsToLook old new e = IsMemory e ⊎ (MoreFaults old.faults new.faults ⊎ IsSome old.step_limit)

-- why a look fails at a database of which this is so
pub record HasLookCause {A : Type 0} (Is : Database → Type 0) (old new : State) (result : Result A Error) : Type 0 where
  pub spares : Spares old new
  pub cause : HasCleanDisk new → (d : Database) → HasDatabase old d → Is d → IfErr result (FailsToLook old new)

-- the same of what a connection holds before and after
abbrev pub HasLookCauseIn : {S A : Type 0} → (Database → Type 0) → Ghosts S → Held S → Held S → Result A Error → Type 0
HasLookCauseIn Is g old new result = HasLookCause Is (state g old) (state g new) result

-- its schema is one of these, and each value of these tables is in its range
abbrev pub HasGood : (Schema → Type 0) → List Table → Database → Type 0
HasGood Has tables d = Has d.schema × Every (λ t. is_good_in t d.trees ≡ true) tables

-- the table is there as a book has it, and each of its values is in its range
abbrev pub HasGoodOne : Table → Database → Type 0
HasGoodOne t = HasGood (λ s. Covers s t) (t ∷ [])

-- the same at a database on which the store doesn't refuse to answer the text
abbrev pub HasLookCauseAt : {S A : Type 0} → Ghosts S → Held S → Held S → Result A Error → Text → Type 0
HasLookCauseAt g old new result text = HasLookCauseIn (λ d. ¬ (RefusesToShow d text.0 text.1)) g old new result

-- over no database that begins with these tables the store refuses to answer the text
abbrev pub IsAnsweredOver : List Made → List ℕ → Row → Type 0
IsAnsweredOver base sql params = (d : Database) → BeginsSchema base d.schema → ¬ (RefusesToShow d sql params)
