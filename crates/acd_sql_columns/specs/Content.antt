-- The trees of a database, and the content that they hold.
use Rattle.std.specs.Prelude.{◌≡◌, ℕ, ℤ, List, [], ◌∷◌, map, ⊤}
use Rattle.std.specs.Ordering.{nat_cmp}
use Rattle.std.specs.declared.cmp.Ordering.{Ordering}
use Rattle.sqlite_value.specs.Order.{Row, column}
use Rattle.sqlite_trees.specs.Tree.{Trees, IsTable}
use Rattle.sqlite_rules.specs.Lists.{Has}
use Rattle.acd_terms.specs.Lists.{Among, Every, IsAscending}
use Rattle.acd_terms.specs.declared.event.Event.{Event}
use Rattle.acd_terms.specs.declared.record.StationRecord.{StationRecord}
use Rattle.acd_terms.specs.declared.record.CallRecord.{CallRecord}
use Rattle.acd_terms.specs.declared.record.ConnectionRecord.{ConnectionRecord}
use Rattle.acd_terms.specs.declared.record.MonitorRecord.{MonitorRecord}
use Rattle.acd_model.specs.Rules.Plan.{connection_order}
use Rattle.acd_book.specs.Content.{Content}
use Rattle.acd_book.specs.declared.kept.Kept.{Kept}
use Rattle.acd_sql_columns.specs.declared.relations.GroupRow.{GroupRow}
use Rattle.acd_sql_columns.specs.declared.relations.AgentRow.{AgentRow}
use Rattle.acd_sql_columns.specs.declared.relations.GroupPriority.{GroupPriority}
use Rattle.acd_sql_columns.specs.declared.tables.Table.{Table}
use Rattle.acd_sql_columns.specs.declared.tables.Table.TheVariants as table
use Rattle.acd_sql_columns.specs.declared.tables.Version.{Version}
use Rattle.acd_sql_columns.specs.declared.tables.Version.TheVariants as version
use Rattle.acd_sql_columns.specs.declared.meta.Meta.{Meta}
use Rattle.acd_sql_columns.specs.Relations.{Relations, relations_of, pair_order}
use Rattle.acd_sql_columns.specs.Schema as schema
use Rattle.acd_sql_columns.specs.Rows.{IsReadable, meta_row_as, group_row, station_row, agent_row, call_row, connection_row, monitor_row, event_row, kept_row, further_row, priority_row}

-- the tree of a table
abbrev pub tree_of : Table → ℕ
tree_of table.Meta = schema.meta.tree
tree_of table.Groups = schema.groups_layout.tree
tree_of table.Stations = schema.stations_layout.tree
tree_of table.Agents = schema.agents_layout.tree
tree_of table.Calls = schema.calls_layout.tree
tree_of table.Connections = schema.connections_layout.tree
tree_of table.Monitors = schema.monitors_layout.tree
tree_of table.Events = schema.events_layout.tree
tree_of table.Kept = schema.kept_layout.tree
tree_of table.AgentGroups = schema.agent_groups_layout.tree
tree_of table.GroupPriority = schema.group_priority_layout.tree

-- the content of a table
abbrev pub TableContent : Table → Type 0
TableContent table.Meta = Meta
TableContent table.Groups = List GroupRow
TableContent table.Stations = List StationRecord
TableContent table.Agents = List AgentRow
TableContent table.Calls = List CallRecord
TableContent table.Connections = List ConnectionRecord
TableContent table.Monitors = List MonitorRecord
TableContent table.Events = List Event
TableContent table.Kept = List Kept
TableContent table.AgentGroups = List (ℕ × ℕ)
TableContent table.GroupPriority = List GroupPriority

abbrev pub part : (t : Table) → Relations → TableContent t
part table.Meta r = r.meta
part table.Groups r = r.groups
part table.Stations r = r.stations
part table.Agents r = r.agents
part table.Calls r = r.calls
part table.Connections r = r.connections
part table.Monitors r = r.monitors
part table.Events r = r.events
part table.Kept r = r.kept
part table.AgentGroups r = r.further
part table.GroupPriority r = r.priorities

-- the relations with this in a table, and all else as it was
abbrev pub with_part : (t : Table) → TableContent t → Relations → Relations
with_part table.Meta m r = record r { meta = m }
with_part table.Groups groups r = record r { groups = groups }
with_part table.Stations stations r = record r { stations = stations }
with_part table.Agents agents r = record r { agents = agents }
with_part table.Calls calls r = record r { calls = calls }
with_part table.Connections connections r = record r { connections = connections }
with_part table.Monitors monitors r = record r { monitors = monitors }
with_part table.Events events r = record r { events = events }
with_part table.Kept kept r = record r { kept = kept }
with_part table.AgentGroups further r = record r { further = further }
with_part table.GroupPriority priorities r = record r { priorities = priorities }

-- the rows are those of the records, which are in ascending key
pub record AreRows {R : Type 0} (key : R → ℕ) (row : R → Row) (rows : List Row) (records : List R) : Type 0 where
  pub rows_are : rows ≡ map row records
  pub ascending : IsAscending (λ a b. nat_cmp (key a) (key b)) records

-- The key is of the first two columns, so the rows have separate rowids, and may be in any order of keys.
pub record AreHeaped {R : Type 0} (order : R → R → Ordering) (row : ℤ → R → Row) (rows : List Row) (records : List R) : Type 0 where
  pub rising : IsTable rows
  -- each row is that of a record, and each record has a row
  pub known : (r : Row) → Has rows r → (id : ℤ) × (x : R) × (r ≡ row id x) × Among x records
  pub stored : (x : R) → Among x records → (id : ℤ) × Has rows (row id x)
  -- no two rows have one key
  pub apart : (a b : Row) → Has rows a → Has rows b → column a 1 ≡ column b 1 → column a 2 ≡ column b 2 → a ≡ b
  pub ascending : IsAscending order records

abbrev pub AreConnections : List Row → List ConnectionRecord → Type 0
AreConnections rows records = AreHeaped connection_order connection_row rows records

-- the rows that represent a table's content; the first table holds the version
abbrev pub StoresAs : ℕ → (t : Table) → List Row → TableContent t → Type 0
StoresAs v table.Meta rows m = rows ≡ meta_row_as v m ∷ []
StoresAs v table.Groups rows groups = AreRows (λ (g : GroupRow). g.device) group_row rows groups
StoresAs v table.Stations rows stations = AreRows (λ (s : StationRecord). s.device) station_row rows stations
StoresAs v table.Agents rows agents = AreRows (λ (a : AgentRow). a.agent) agent_row rows agents
StoresAs v table.Calls rows calls = AreRows (λ (c : CallRecord). c.call) call_row rows calls
StoresAs v table.Connections rows connections = AreConnections rows connections
StoresAs v table.Monitors rows monitors = AreRows (λ (w : MonitorRecord). w.monitor) monitor_row rows monitors
StoresAs v table.Events rows events = AreRows (λ (e : Event). e.number) event_row rows events
StoresAs v table.Kept rows kept = AreRows (λ (k : Kept). k.stamp) kept_row rows kept × Every IsReadable kept
StoresAs v table.AgentGroups rows further = AreHeaped pair_order further_row rows further
StoresAs v table.GroupPriority rows priorities = AreRows (λ (p : GroupPriority). p.device) priority_row rows priorities

abbrev pub Stores : (t : Table) → List Row → TableContent t → Type 0
Stores t rows x = StoresAs 2 t rows x

-- each table has just the rows of its records
abbrev pub AreTables : Trees → Relations → Type 0
AreTables db r = (t : Table) → Stores t (db (tree_of t)) (part t r)

-- the tables of a content
abbrev pub Encodes : Trees → Content → Type 0
Encodes db c = AreTables db (relations_of c)

-- the tables that a version has
abbrev pub IsIn : Version → Table → Type 0
IsIn version.First table.AgentGroups = ⊥
IsIn version.First table.GroupPriority = ⊥
IsIn v t = ⊤

abbrev pub version_number : Version → ℕ
version_number version.First = 1
version_number version.Second = 2

-- nothing is held that only a later version has a table of
abbrev pub FitsIn : Version → Relations → Type 0
FitsIn version.First r = (r.further ≡ []) × (r.priorities ≡ [])
FitsIn version.Second r = ⊤

-- the tables of a content, as a version has them
pub record EncodesAs (v : Version) (db : Trees) (c : Content) : Type 0 where
  pub fits : FitsIn v (relations_of c)
  pub tables : (t : Table) → IsIn v t → StoresAs (version_number v) t (db (tree_of t)) (part t (relations_of c))
