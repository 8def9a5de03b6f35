-- The result of a migration of version 1, and what a crash leaves of it.
use Rattle.std.specs.Prelude.{◌≡◌, ◌≢◌, ◌⊎◌, ℕ, true, [], ◌∷◌, Option, Result, IsTrue, OnErr}
use Rattle.std.specs.Borrow.{MutBor}
use Rattle.sqlite_trees.specs.Tree.{Trees}
use Rattle.sqlite_trees.specs.declared.store.Store.{Ghosts}
use Rattle.sqlite_catalog.specs.Listing.{IsSound}
use Rattle.sqlite.specs.Effect.{Database}
use Rattle.sqlite.specs.Held.{Held}
use Rattle.sqlite.specs.State.{State}
use Rattle.sqlite.specs.declared.error.Error.{Error}
use Rattle.sqlite.specs.declared.transaction.Transaction.{Transaction}
use Rattle.acd_sql_columns.specs.declared.meta.Meta.{Meta}
use Rattle.acd_sql_columns.specs.declared.tables.Table.{Table}
use Rattle.acd_sql_columns.specs.declared.tables.Table.TheVariants as table
use Rattle.acd_sql_columns.specs.declared.tables.Version.TheVariants as version
use Rattle.acd_sql_columns.specs.declared.texts.TheConstants.{UPDATE_VERSION}
use Rattle.acd_sql_columns.specs.Content.{tree_of, IsIn}
use Rattle.acd_sql_columns.specs.Rows.{meta_row, meta_row_as}
use Rattle.acd_sql_columns.specs.Schema.{old_schema, book_schema}
use Rattle.acd_sql_statements.specs.StoreFailures.{IsMemory, StoreHasFailed, Refuses}
use Rattle.acd_sql_schema.specs.Creation.{IfClean}
use denote.Triple.Both.{Both}

-- a database that obeys the schema of version 2, with the nine tables as they were but for the version, and two empty ones
pub record IsMigration (old new : Trees) : Type 0 where
  pub sound : IsSound book_schema new
  pub version_is : (m : Meta) → old (tree_of table.Meta) ≡ meta_row_as 1 m ∷ [] → new (tree_of table.Meta) ≡ meta_row m ∷ []
  pub kept : (t : Table) → IsIn version.First t → tree_of t ≢ tree_of table.Meta → new (tree_of t) ≡ old (tree_of t)
  pub further : new (tree_of table.AgentGroups) ≡ []
  pub priorities : new (tree_of table.GroupPriority) ≡ []

-- this holds where the tables were those of version 1
abbrev pub OfFirst : (State → State → Type 0) → State → State → Type 0
OfFirst Fact old new = old.now.schema ≡ old_schema → Fact old new

-- so it is with a connection over a call, where no disk lied
abbrev pub IfFirst : {S : Type 0} → Ghosts S → Both (MutBor (Held S)) (MutBor (Held S)) → (State → State → Type 0) → Type 0
IfFirst g conn Fact = IfClean g conn.entry.now conn.exit.now (OfFirst Fact)

-- the same of the states within the transaction
abbrev pub IfFirstInside : {S : Type 0} → Ghosts S → Both (MutBor (Transaction S)) (MutBor (Transaction S)) → (State → State → Type 0) → Type 0
IfFirstInside g tx Fact = IfClean g tx.entry.now.conn.now tx.exit.now.conn.now (λ (old new : State). IsTrue old.in_transaction → OfFirst Fact old new)

-- inside the transaction
pub record IsAltered (old new : State) : Type 0 where
  pub inside : new.in_transaction ≡ true
  pub schema_is : new.now.schema ≡ book_schema
  pub tables : IsMigration old.now.trees new.now.trees

-- after it
pub record IsMade (old new : State) : Type 0 where
  pub is_open : IsTrue new.is_open
  pub idle : new.now ≡ new.committed
  pub schema_is : new.committed.schema ≡ book_schema
  pub tables : IsMigration old.now.trees new.committed.trees

-- the last commit is still the last
pub record IsRestored (old new : State) : Type 0 where
  pub now : new.now ≡ old.committed
  pub committed : new.committed ≡ old.committed

-- where a migration fails, a connection that is still open has what it had before
abbrev pub IfFailsRestored : {A : Type 0} → Result A Error → State → State → Type 0
IfFailsRestored result old new = OnErr result (IsTrue new.is_open → IsRestored old new)

-- a crash leaves what it left before, or a migration
abbrev pub MayAlter : State → State → Type 0
MayAlter old new = (db : Trees) → new.may_leave db → old.may_leave db ⊎ IsMigration old.now.trees db

-- ---- failures

-- the nine tables with these rows, and two empty ones after them
pub record AreBeside (old : Trees) (d : Database) : Type 0 where
  pub schema_is : d.schema ≡ book_schema
  pub kept : (t : Table) → IsIn version.First t → d.trees (tree_of t) ≡ old (tree_of t)
  pub further : d.trees (tree_of table.AgentGroups) ≡ []
  pub priorities : d.trees (tree_of table.GroupPriority) ≡ []

-- the store refuses to write version 2 into them
abbrev pub IsVersionRefused : Option ℕ → Trees → Type 0
IsVersionRefused limit old = (d : Database) × AreBeside old d × Refuses limit d UPDATE_VERSION.now []

-- why version 2 isn't made
abbrev pub FailsToMigrate : State → State → Error → Type 0
FailsToMigrate old new e = IsMemory e ⊎ (StoreHasFailed old new ⊎ IsVersionRefused old.step_limit old.now.trees)
