-- A schema that is made table by table.
use Rattle.std.specs.Prelude.{◌≡◌, ◌≢◌, ℕ, zero, suc, true, false, List, [], ◌∷◌, Result, Ok, Err, ⊤}
use Rattle.std.specs.List.{AllByRecursion}
use Rattle.sqlite_value.specs.Order.{Row}
use Rattle.sqlite_trees.specs.Tree.{Trees}
use Rattle.sqlite_catalog.specs.Listing.{IsSound}
use Rattle.sqlite_schema.specs.declared.schema.Table.{Table}
use Rattle.sqlite_schema.specs.declared.schema.Schema.{Schema}
use Rattle.sqlite_schema.specs.declared.command.Command.{Command}
use Rattle.sqlite_schema.specs.declared.command.Command.TheVariants.{CreateTable, Nothing}
use Rattle.sqlite_resolve.specs.declared.compiled.Compiled.{Compiled}
use Rattle.sqlite_resolve.specs.declared.error.CompileError.{CompileError}
use Rattle.sqlite.specs.Change.{created}
use Rattle.sqlite.specs.Compile.{table_defined_by}
use Rattle.sqlite.specs.Does.{lacks_sequence}
use Rattle.sqlite.specs.Given.{IsPlain}
use Rattle.sqlite.specs.Listing.{understood}
use Rattle.sqlite.specs.State.{State, text_of}
use Rattle.acd_sql_columns.specs.declared.meta.Meta.{Meta}
use Rattle.acd_sql_columns.specs.Rows.{meta_row, meta_row_as}
use Rattle.acd_sql_columns.specs.Schema.{Layout, table_of, no_schema, book_schema, meta, groups_layout, stations_layout, agents_layout, calls_layout, connections_layout, monitors_layout}

abbrev pub create_command : Result Compiled CompileError → Command
create_command (Ok c) = c.command
create_command (Err e) = Nothing

abbrev pub statement_of : List ℕ → Result Compiled CompileError → List ℕ
statement_of sql (Ok c) = text_of sql c
statement_of sql (Err e) = []

-- the text makes this table, under this schema
pub record MakesTable (schema : Schema) (text : List ℕ) (table : Table) : Type 0 where
  pub command : create_command (understood schema text) ≡ CreateTable
  pub statement : statement_of text (understood schema text) ≡ text
  pub plain : IsPlain (understood schema text)
  pub defined : table_defined_by text ≡ Ok table
  pub uncounted : lacks_sequence (created schema table) ≡ false

-- these tables have these rows
abbrev pub HasRows : Trees → List Table → List (List Row) → Type 0
HasRows db [] [] = ⊤
HasRows db (t ∷ ts) (rows ∷ more) = (db t.tree ≡ rows) × HasRows db ts more
HasRows db _ _ = ⊥

-- of so many tables
abbrev pub no_rows : ℕ → List (List Row)
no_rows zero = []
no_rows (suc n) = [] ∷ no_rows n

-- the transaction sees this schema, and these rows in its tables
pub record Builds (s : State) (schema : Schema) (rows : List (List Row)) : Type 0 where
  pub inside : s.in_transaction ≡ true
  pub schema_is : s.now.schema ≡ schema
  pub rows_are : HasRows s.now.trees schema.tables rows

-- the version becomes 2 in a database that obeys the book's schema, and nothing else is changed
pub record SetsSecondVersion (old new : State) : Type 0 where
  pub inside : new.in_transaction ≡ old.in_transaction
  pub schema_is : new.now.schema ≡ book_schema
  pub sound : IsSound book_schema new.now.trees
  pub others : AllByRecursion (λ u. u.tree ≢ meta.tree → new.now.trees u.tree ≡ old.now.trees u.tree) book_schema.tables
  pub version_is : (m : Meta) → old.now.trees meta.tree ≡ meta_row_as 1 m ∷ [] → new.now.trees meta.tree ≡ meta_row m ∷ []

-- the table, before its tree is chosen
abbrev pub unplaced : Layout → Table
unplaced l = table_of (record l { tree = 0 })

-- the schema with these tables made, one after the other
abbrev pub with_tables : Schema → List Layout → Schema
with_tables s [] = s
with_tables s (l ∷ ls) = with_tables (created s (unplaced l)) ls

-- the limits and the plan
abbrev pub plan_schema : Schema
plan_schema = with_tables no_schema (meta ∷ groups_layout ∷ stations_layout ∷ agents_layout ∷ [])

-- and what changes from call to call
abbrev pub state_schema : Schema
state_schema = with_tables plan_schema (calls_layout ∷ connections_layout ∷ monitors_layout ∷ [])
