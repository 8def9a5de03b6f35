-- Rows as they are in a database, whatever they hold, and whether their values are in their ranges.
use Rattle.std.specs.Prelude.{◌≡◌, ℕ, suc, Bool, false, List, [], ◌∷◌, length, map, take, drop, filter, nat_lt, codes, IsTrue}
use Rattle.std.specs.List.{AllByRecursion, list_all, list_any}
use Rattle.std.specs.Option.{is_some}
use Rattle.std.specs.Str.{bytes_eq}
use Rattle.sqlite_value.specs.Order.{Row, column}
use Rattle.sqlite_trees.specs.Tree.{Trees, IsTable, rowid}
use Rattle.sqlite_trees.specs.View.{is_int}
use Rattle.sqlite_rules.specs.Lists.{Has}
use Rattle.sqlite_schema.specs.declared.schema.Table.{Table as Made}
use Rattle.sqlite_schema.specs.declared.schema.Schema.{Schema}
use Rattle.acd_sql_columns.specs.declared.tables.Table.{Table}
use Rattle.acd_sql_columns.specs.declared.tables.Table.TheVariants as table
use Rattle.acd_sql_columns.specs.declared.tables.Log.{Log}
use Rattle.acd_sql_columns.specs.declared.tables.Log.TheVariants as log
use Rattle.acd_sql_columns.specs.declared.tables.Version.{Version}
use Rattle.acd_sql_columns.specs.declared.tables.Version.TheVariants as version
use Rattle.sqlite.specs.Effect.{Database}
use Rattle.acd_sql_columns.specs.Content.{tree_of, IsIn}
use Rattle.acd_sql_columns.specs.Decoding.{as_group, as_priority, as_agent, as_further}
use Rattle.acd_sql_columns.specs.Relations.{are_after, are_of_groups}
use Rattle.acd_sql_columns.specs.Values.{id_value, cells}
use Rattle.acd_sql_columns.specs.Schema.{Layout, further_columns, tables_1, BeginsSchema, old_schema, book_schema}
use Rattle.acd_sql_columns.specs.Schema as schema
use Rattle.acd_sql_columns.specs.Ranges.{priority_of_row, further_of_row, group_of_row, station_of_row, agent_of_row, call_in, connection_of_row, monitor_of_row, counters_in, event_in, kept_in}

-- ---- ranges

-- each value of the row is in its range
abbrev pub is_good : Table → Row → Bool
is_good table.Meta r = is_some (counters_in r)
is_good table.Groups r = is_some (group_of_row r)
is_good table.Stations r = is_some (station_of_row r)
is_good table.Agents r = is_some (agent_of_row r)
is_good table.Calls r = is_some (call_in r)
is_good table.Connections r = is_some (connection_of_row r)
is_good table.Monitors r = is_some (monitor_of_row r)
is_good table.Events r = is_some (event_in r)
is_good table.Kept r = is_some (kept_in r)
is_good table.AgentGroups r = is_some (further_of_row r)
is_good table.GroupPriority r = is_some (priority_of_row r)

unfoldable pub are_good : Table → List Row → Bool
are_good t rows = list_all (is_good t) rows

-- ---- rows as they are in a database

-- the number of the row, which is the key, and the columns after it
abbrev pub keyed_in : Layout → Row → Row
keyed_in l r = column r 0 ∷ cells 2 (further_columns l) r

-- all columns
abbrev pub numbered_in : Layout → Row → Row
numbered_in l r = cells 1 (length l.columns) r

-- the values of a row that are looked at
abbrev pub values_in : Table → Row → Row
values_in table.Meta r = cells 3 (length (drop 2 schema.meta.columns)) r
values_in table.Groups r = keyed_in schema.groups_layout r
values_in table.Stations r = keyed_in schema.stations_layout r
values_in table.Agents r = keyed_in schema.agents_layout r
values_in table.Calls r = keyed_in schema.calls_layout r
values_in table.Connections r = numbered_in schema.connections_layout r
values_in table.Monitors r = keyed_in schema.monitors_layout r
values_in table.Events r = keyed_in schema.events_layout r
values_in table.Kept r = keyed_in schema.kept_layout r
values_in table.AgentGroups r = numbered_in schema.agent_groups_layout r
values_in table.GroupPriority r = keyed_in schema.group_priority_layout r

-- of all rows of the table
abbrev pub rows_in : Table → Trees → List Row
rows_in t db = map (values_in t) (db (tree_of t))

-- each of them is in its range
unfoldable pub is_good_in : Table → Trees → Bool
is_good_in t db = are_good t (rows_in t db)

-- each further group comes after the first one of its agent, who has seven at most
unfoldable pub is_beside : Trees → Bool
is_beside db = are_after (map as_agent (rows_in table.Agents db)) (map as_further (rows_in table.AgentGroups db))

-- each priority is of a group
unfoldable pub is_ranked : Trees → Bool
is_ranked db = are_of_groups (map as_group (rows_in table.Groups db)) (map as_priority (rows_in table.GroupPriority db))

-- Each row has its number, and a value for each column. One from before a column was added may lack the last ones, where these may hold NULL.
abbrev pub HaveAllColumns : Version → Trees → Type 0
HaveAllColumns v db =
    AllByRecursion (λ r. length r ≡ suc (length schema.stations_layout.columns)) (db (tree_of table.Stations))
    × AllByRecursion (λ r. length r ≡ suc (length schema.connections_layout.columns)) (db (tree_of table.Connections))
    × AllByRecursion (λ r. length r ≡ suc (length schema.events_layout.columns)) (db (tree_of table.Events))
    × (IsIn v table.AgentGroups → AllByRecursion (λ r. length r ≡ suc (length schema.agent_groups_layout.columns)) (db (tree_of table.AgentGroups)))

-- as a store keeps the rows of a version's tables: they have integers as numbers, which rise
pub record IsCanonicalAs (v : Version) (db : Trees) : Type 0 where
  pub rising : (t : Table) → IsIn v t → IsTable (db (tree_of t))
  pub numbered : (t : Table) → IsIn v t → AllByRecursion (λ r. IsTrue (is_int (rowid r))) (db (tree_of t))
  pub whole : HaveAllColumns v db

-- a bad one is there; and where the rows are canonical the query finds whether there is one
pub record FindsGood (t : Table) (db : Trees) (good : Bool) : Type 0 where
  pub bad : good ≡ false → is_good_in t db ≡ false
  pub canonical : IsCanonicalAs version.First db → good ≡ is_good_in t db

-- ---- the tables that are read in pages

abbrev pub table_of_log : Log → Table
table_of_log log.Events = table.Events
table_of_log log.Kept = table.Kept

-- a row whose number is no less than 0
pub record Numbered : Type 0 where
  pub key : ℕ
  pub row : Row
  pub is : rowid row ≡ id_value key

-- these are the rows of the log, in order
pub record AreNumbered (l : Log) (db : Trees) (xs : List Numbered) : Type 0 where
  pub rising : IsTable (db (tree_of (table_of_log l)))
  pub rows : db (tree_of (table_of_log l)) ≡ map (λ (x : Numbered). x.row) xs

abbrev pub values_after : Log → ℕ → List Numbered → List Row
values_after l n xs = map (λ (x : Numbered). values_in (table_of_log l) x.row) (filter (λ (x : Numbered). nat_lt n x.key) xs)

-- its number is one from 1 on
abbrev pub FromOne : Row → Type 0
FromOne r = (n : ℕ) × (rowid r ≡ id_value n) × (nat_lt n 1 ≡ false)

-- whether a number is below 1
pub record FindsLow (l : Log) (db : Trees) (low : List Row) : Type 0 where
  pub none : low ≡ [] → AllByRecursion (λ r. IsTrue (is_int (rowid r)) → FromOne r) (db (tree_of (table_of_log l)))
  pub some : (low ≡ [] → ⊥) → is_good_in (table_of_log l) db ≡ false

-- the first rows above a number
pub record IsPageRows (l : Log) (n limit : ℕ) (db : Trees) (rows : List Row) : Type 0 where
  pub known : AllByRecursion (λ r. Has (rows_in (table_of_log l) db) r) rows
  pub paged : (xs : List Numbered) → AreNumbered l db xs → rows ≡ take limit (values_after l n xs)

-- ---- versions

abbrev pub schema_of : Version → Schema
schema_of version.First = old_schema
schema_of version.Second = book_schema

-- of a database with the tables of a version
abbrev pub IsCanonical : Database → Type 0
IsCanonical d = (v : Version) → d.schema ≡ schema_of v → IsCanonicalAs v d.trees

-- the table is there as a book has it: each of the nine in either version
abbrev pub Covers : Schema → Table → Type 0
Covers s table.AgentGroups = s ≡ book_schema
Covers s table.GroupPriority = s ≡ book_schema
Covers s t = BeginsSchema tables_1 s

-- ---- the first table

unfoldable pub has_meta : List Made → Bool
has_meta tables = list_any (λ t. bytes_eq t.name (codes "meta")) tables

-- its first table is `meta` as a book has it
abbrev pub BeginsAsBook : Schema → Type 0
BeginsAsBook s = BeginsSchema (schema.table_of schema.meta ∷ []) s

abbrev pub AreSameFirst : List Made → List Made → Type 0
AreSameFirst (x ∷ xs) (y ∷ ys) = x ≡ y
AreSameFirst _ _ = ⊥
