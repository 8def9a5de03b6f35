-- When each value of a content is in its range.
use Rattle.std.specs.Prelude.{◌≡◌, ◌⊎◌, ◌≤◌, ℕ, Bool, true, List, [], ◌∷◌, map, IfSome}
use Rattle.sqlite_value.specs.Order.{Row}
use Rattle.acd_terms.specs.Columns.{columns_of}
use Rattle.acd_terms.specs.Groups.{are_groups}
use Rattle.acd_terms.specs.Lists.{Every}
use Rattle.acd_terms.specs.declared.event.Event.{Event}
use Rattle.acd_terms.specs.declared.event.Report.{Report}
use Rattle.acd_terms.specs.declared.record.AgentRecord.{AgentRecord}
use Rattle.acd_terms.specs.declared.record.CallRecord.{CallRecord}
use Rattle.acd_terms.specs.declared.record.ConnectionRecord.{ConnectionRecord}
use Rattle.acd_terms.specs.declared.record.GroupRecord.{GroupRecord}
use Rattle.acd_terms.specs.declared.record.MonitorRecord.{MonitorRecord}
use Rattle.acd_terms.specs.declared.record.StationRecord.{StationRecord}
use Rattle.acd_codec.specs.RequestForms.{IsSerial}
use Rattle.acd_book.specs.Content.{Content}
use Rattle.acd_book.specs.declared.kept.Kept.{Kept}
use Rattle.acd_sql_columns.specs.declared.meta.Meta.{Meta}
use Rattle.acd_sql_columns.specs.declared.tables.Table.{Table}
use Rattle.acd_sql_columns.specs.declared.tables.Table.TheVariants as table
use Rattle.acd_sql_columns.specs.AnyRows.{is_good, are_good}
use Rattle.acd_sql_columns.specs.Relations.{meta_of, group_part, agent_part, further_of, further_in, priorities_in}
use Rattle.acd_sql_columns.specs.Reports.{is_formed}
use Rattle.acd_sql_columns.specs.Rows.{meta_shown, group_values, station_values, agent_values, call_values, connection_values, monitor_values, event_values, kept_values, further_values, priority_values}

-- the values of the rows of a table
abbrev pub values_of : Table → Content → List Row
values_of table.Meta c = meta_shown (meta_of c.rows) ∷ []
values_of table.Groups c = map (λ (g : GroupRecord). group_values (group_part g)) c.rows.groups
values_of table.Stations c = map station_values c.rows.stations
values_of table.Agents c = map (λ (a : AgentRecord). agent_values (agent_part a)) c.rows.agents
values_of table.Calls c = map call_values c.rows.calls
values_of table.Connections c = map connection_values c.rows.connections
values_of table.Monitors c = map monitor_values c.rows.monitors
values_of table.Events c = map event_values c.events
values_of table.Kept c = map kept_values c.kept
values_of table.AgentGroups c = map further_values (further_in c.rows.agents)
values_of table.GroupPriority c = map priority_values (priorities_in c.rows.groups)

-- each value of the table is in its range
unfoldable pub is_good_table : Table → Content → Bool
is_good_table t c = are_good t (values_of t c)

-- each value of each table is, and each agent has eight groups at most, which ascend
pub record IsInRange (c : Content) : Type 0 where
  pub tables : (t : Table) → is_good_table t c ≡ true
  pub groups : Every (λ (a : AgentRecord). are_groups a.groups ≡ true) c.rows.agents

-- ---- of one record: each value that is written of it is in its range

abbrev pub IsGoodMeta : Meta → Type 0
IsGoodMeta m = is_good table.Meta (meta_shown m) ≡ true

abbrev pub IsGoodGroup : GroupRecord → Type 0
IsGoodGroup g = (is_good table.Groups (group_values (group_part g)) ≡ true) × (are_good table.GroupPriority (map priority_values (priorities_in (g ∷ []))) ≡ true)

abbrev pub IsGoodStation : StationRecord → Type 0
IsGoodStation s = is_good table.Stations (station_values s) ≡ true

-- and its groups are as those of an agent have to be
abbrev pub IsGoodAgent : AgentRecord → Type 0
IsGoodAgent a = (is_good table.Agents (agent_values (agent_part a)) ≡ true) × (are_good table.AgentGroups (map further_values (further_of a)) ≡ true) × (are_groups a.groups ≡ true)

abbrev pub IsGoodCall : CallRecord → Type 0
IsGoodCall k = is_good table.Calls (call_values k) ≡ true

abbrev pub IsGoodConnection : ConnectionRecord → Type 0
IsGoodConnection x = is_good table.Connections (connection_values x) ≡ true

abbrev pub IsGoodMonitor : MonitorRecord → Type 0
IsGoodMonitor w = is_good table.Monitors (monitor_values w) ≡ true

abbrev pub IsGoodEvent : Event → Type 0
IsGoodEvent e = is_good table.Events (event_values e) ≡ true

abbrev pub IsGoodKept : Kept → Type 0
IsGoodKept k = is_good table.Kept (kept_values k) ≡ true

-- ---- the numbers that the types of records don't bound

-- a stamp, a place or the number of an event
abbrev pub IsStamp : ℕ → Type 0
IsStamp n = 1 ≤ n

-- the status of a reply that is kept
abbrev pub IsStatus : ℕ → Type 0
IsStatus n = (n ≡ 200) ⊎ (n ≡ 409)

-- the columns are those of a report of their kind, and a call among them is one
pub record IsReported (r : Report) : Type 0 where
  pub formed : is_formed (columns_of r) ≡ true
  pub call : IfSome (columns_of r).call IsSerial
