-- The tables of a book, as their texts make them.
use Rattle.std.specs.Prelude.{◌≡◌, ◌++◌, Bool, true, false, ℕ, pos, [], ◌∷◌, Option, None, Some, codes, List, map, length, drop}
use Rattle.sqlite_value.specs.declared.keys.Order.{Order}
use Rattle.sqlite_value.specs.declared.keys.Collation.TheVariants.{Binary}
use Rattle.sqlite_value.specs.declared.value.Value.TheVariants.{Null, Int}
use Rattle.sqlite_value.specs.Keys.{plain}
use Rattle.sqlite_sql.specs.Term.{Term, lit, col, op2}
use Rattle.sqlite_sql.specs.declared.ops.BinaryOp.TheVariants.{Compare, And}
use Rattle.sqlite_sql.specs.declared.ops.CompareOp.TheVariants.{Eq, Ge, Le}
use Rattle.sqlite_schema.specs.declared.schema.Table.{Table}
use Rattle.sqlite_schema.specs.declared.schema.Index.{Index}
use Rattle.sqlite_schema.specs.declared.schema.Schema.{Schema}
use Rattle.sqlite_schema.specs.declared.schema.Column.{Column}
use Rattle.sqlite_schema.specs.declared.schema.Reference.{Reference}
use Rattle.sqlite_schema.specs.declared.schema.Action.TheVariants.{NoAction}
use Rattle.sqlite_schema.specs.declared.schema.Kind.{Kind}
use Rattle.sqlite_schema.specs.declared.schema.Kind.TheVariants.{Integer, Text}
use Rattle.acd_sql_columns.specs.Fields.{Field}
use Rattle.acd_sql_columns.specs.Rows.{meta_fields, group_fields, station_fields, agent_fields, call_fields, connection_fields, monitor_fields, event_fields, further_fields, priority_fields}
use Rattle.acd_sql_columns.specs.Sorts.{type_in, is_sure}

-- ---- columns

abbrev pub column_of : List ℕ → Kind → Bool → Column
column_of name kind not_null = record { name = name; kind = kind; is_strict = true; not_null = not_null; default = Null; collation = Binary }

abbrev pub number_column : List ℕ → Column
number_column name = column_of name Integer true

abbrev pub text_column : List ℕ → Column
text_column name = column_of name Text true

-- the columns that hold the fields of a record
abbrev pub field_columns : {R : Type 0} → List (Field R) → List Column
field_columns [] = []
field_columns (f ∷ fs) = column_of f.name (type_in f.column) (is_sure f.column) ∷ field_columns fs

-- ---- tables

abbrev pub no_schema : Schema
no_schema = record { tables = []; indexes = []; views = [] }

-- the text of a table: none counts its rowids, and none has a default
pub record Layout : Type 0 where
  pub name : List ℕ
  pub tree : ℕ
  pub columns : List Column
  pub key : Option ℕ
  pub primary : List ℕ
  pub uniques : List (List ℕ)
  pub orders : List Order
  pub checks : List Term
  pub references : List Reference

abbrev pub table_of : Layout → Table
table_of l = record {
  name = l.name;
  tree = l.tree;
  columns = l.columns;
  key = l.key;
  primary = l.primary;
  uniques = l.uniques;
  orders = l.orders;
  checks = l.checks;
  references = l.references;
  computed = [];
  stamps = record { places = []; terms = []; formats = [] };
  is_counted = false;
}

-- how many columns come after the first
abbrev pub further_columns : Layout → ℕ
further_columns l = length (drop 1 l.columns)

-- as a query of all columns names them
abbrev pub names_of : Layout → List (List ℕ)
names_of l = map (λ (c : Column). c.name) l.columns

-- a table whose first column is its key, with no more to say
abbrev pub keyed : List ℕ → ℕ → List Column → Layout
keyed name tree columns = record {
  name = name;
  tree = tree;
  columns = columns;
  key = Some 0;
  primary = 0 ∷ [];
  uniques = [];
  orders = [];
  checks = [];
  references = [];
}

-- the value in a column, counted from 1, is one of these
abbrev pub is_between : ℕ → ℕ → ℕ → Term
is_between place least greatest =
    op2 And (op2 (Compare Ge Binary) (col 1 place) (lit (Int (pos least)))) (op2 (Compare Le Binary) (col 1 place) (lit (Int (pos greatest))))

-- a column refers to the key of a table
abbrev pub refers : ℕ → List ℕ → Reference
refers place parent = record { columns = place ∷ []; parent = parent; parent_columns = []; on_delete = NoAction; on_update = NoAction; is_deferred = false }

abbrev pub unique : List ℕ → ℕ → ℕ → List ℕ → Index
unique name tree table columns = record { name = name; tree = tree; table = table; columns = columns; order = plain; is_unique = true }

abbrev pub meta : Layout
meta = record (keyed (codes "meta") 0 (
    number_column (codes "id") ∷ number_column (codes "version") ∷ field_columns meta_fields
    )) { checks = op2 (Compare Eq Binary) (col 1 0) (lit (Int (pos 1))) ∷ [] }

abbrev pub groups_layout : Layout
groups_layout = keyed (codes "acd_groups") 1 (field_columns group_fields)

abbrev pub stations_layout : Layout
stations_layout = keyed (codes "stations") 2 (field_columns station_fields)

abbrev pub agents_layout : Layout
agents_layout = record (keyed (codes "agents") 3 (field_columns agent_fields)) {
  uniques = (5 ∷ []) ∷ [];
  orders = plain ∷ [];
  checks = is_between 3 0 4 ∷ [];
  references = refers 5 (codes "stations") ∷ refers 6 (codes "acd_groups") ∷ [];
}

abbrev pub agents_station : Index
agents_station = unique (codes "sqlite_autoindex_agents_1") 4 3 (5 ∷ [])

abbrev pub calls_layout : Layout
calls_layout = keyed (codes "calls") 5 (field_columns call_fields)

-- its key is of two columns, so its rows have separate rowids
abbrev pub connections_layout : Layout
connections_layout = record {
  name = codes "connections";
  tree = 6;
  columns = field_columns connection_fields;
  key = None;
  primary = 1 ∷ 2 ∷ [];
  uniques = (1 ∷ 2 ∷ []) ∷ [];
  orders = plain ∷ [];
  checks = is_between 3 1 6 ∷ [];
  references = refers 1 (codes "calls") ∷ refers 4 (codes "acd_groups") ∷ [];
}

abbrev pub connections_key : Index
connections_key = unique (codes "sqlite_autoindex_connections_1") 7 6 (1 ∷ 2 ∷ [])

abbrev pub monitors_layout : Layout
monitors_layout = keyed (codes "monitors") 8 (field_columns monitor_fields)

abbrev pub events_layout : Layout
events_layout = record (keyed (codes "events") 9 (field_columns event_fields)) { checks = is_between 3 1 18 ∷ [] }

abbrev pub kept_layout : Layout
kept_layout = record (keyed (codes "kept") 10 (
    number_column (codes "stamp") ∷ text_column (codes "requester") ∷ number_column (codes "invoke") ∷ number_column (codes "moment") ∷ text_column (codes "request") ∷ number_column (codes "status") ∷ text_column (codes "body") ∷ []
    )) { uniques = (2 ∷ 3 ∷ []) ∷ []; orders = plain ∷ [] }

abbrev pub kept_key : Index
kept_key = unique (codes "sqlite_autoindex_kept_1") 11 10 (2 ∷ 3 ∷ [])

-- ---- version 1

abbrev pub tables_1 : List Table
tables_1 = table_of meta ∷ table_of groups_layout ∷ table_of stations_layout ∷ table_of agents_layout ∷ table_of calls_layout ∷ table_of connections_layout ∷ table_of monitors_layout ∷ table_of events_layout ∷ table_of kept_layout ∷ []

abbrev pub old_schema : Schema
old_schema = record { tables = tables_1; indexes = agents_station ∷ connections_key ∷ kept_key ∷ []; views = [] }

-- ---- version 2

-- the groups of an agent after its first; its key is of two columns, so its rows have separate rowids
abbrev pub agent_groups_layout : Layout
agent_groups_layout = record {
  name = codes "agent_groups";
  tree = 12;
  columns = field_columns further_fields;
  key = None;
  primary = 1 ∷ 2 ∷ [];
  uniques = (1 ∷ 2 ∷ []) ∷ [];
  orders = plain ∷ [];
  checks = [];
  references = refers 1 (codes "agents") ∷ refers 2 (codes "acd_groups") ∷ [];
}

abbrev pub agent_groups_key : Index
agent_groups_key = unique (codes "sqlite_autoindex_agent_groups_1") 13 12 (1 ∷ 2 ∷ [])

-- the groups whose priority isn't 0
abbrev pub group_priority_layout : Layout
group_priority_layout = record (keyed (codes "group_priority") 14 (field_columns priority_fields)) {
  checks = is_between 2 1 9 ∷ [];
  references = refers 0 (codes "acd_groups") ∷ [];
}

abbrev pub added_in_2 : List Table
added_in_2 = table_of agent_groups_layout ∷ table_of group_priority_layout ∷ []

abbrev pub book_schema : Schema
book_schema = record { tables = tables_1 ++ added_in_2; indexes = agents_station ∷ connections_key ∷ kept_key ∷ agent_groups_key ∷ []; views = [] }

-- ---- of either version

-- these tables, and whatever tables come later
abbrev pub with_later : List Table → List Table → Schema → Schema
with_later base rest s = record s { tables = base ++ rest }

abbrev pub BeginsSchema : List Table → Schema → Type 0
BeginsSchema base s = (rest : List Table) × (s.tables ≡ base ++ rest)
