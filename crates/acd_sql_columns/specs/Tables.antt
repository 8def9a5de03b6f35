-- The tables, as they are described.
use Rattle.std.specs.Prelude.{⊤, ◌++◌, ℕ, None, Some, IfSome}
use Rattle.acd_terms.specs.declared.record.StationRecord.{StationRecord}
use Rattle.acd_terms.specs.declared.record.CallRecord.{CallRecord}
use Rattle.acd_terms.specs.declared.record.ConnectionRecord.{ConnectionRecord}
use Rattle.acd_terms.specs.declared.record.MonitorRecord.{MonitorRecord}
use Rattle.acd_terms.specs.declared.event.Event.{Event}
use Rattle.acd_terms.specs.Columns.{columns_of}
use Rattle.acd_book.specs.declared.kept.Kept.{Kept}
use Rattle.acd_sql_columns.specs.declared.relations.GroupRow.{GroupRow}
use Rattle.acd_sql_columns.specs.declared.relations.AgentRow.{AgentRow}
use Rattle.acd_sql_columns.specs.declared.relations.GroupPriority.{GroupPriority}
use Rattle.acd_sql_columns.specs.Content.{with_part}
use Rattle.acd_sql_columns.specs.declared.tables.Table.TheVariants as table
use Rattle.acd_sql_columns.specs.declared.texts.TheConstants.{UPDATE_GROUP, SELECT_GROUPS, SELECT_STATIONS, UPDATE_AGENT, SELECT_AGENTS, UPDATE_CALL, DELETE_CALL, SELECT_CALLS, UPDATE_MONITOR, DELETE_MONITOR, SELECT_MONITORS, UPDATE_GROUP_PRIORITY, DELETE_GROUP_PRIORITY, SELECT_GROUP_PRIORITY, INSERT_GROUP, INSERT_STATION, INSERT_AGENT, INSERT_CALL, INSERT_CONNECTION, INSERT_MONITOR, INSERT_EVENT, INSERT_KEPT, INSERT_AGENT_GROUP, INSERT_GROUP_PRIORITY}
use Rattle.acd_sql_columns.specs.Descriptions.{Description, Heap}
use Rattle.acd_sql_columns.specs.Transactions.{Fits, FiguresFitColumns}
use Rattle.acd_sql_columns.specs.Ranges.{priority_of_row, further_of_row, group_of_row, station_of_row, agent_of_row, call_in, connection_of_row, monitor_of_row, event_in, kept_in}
use Rattle.acd_sql_columns.specs.Rows.{group_values, priority_values, station_values, agent_values, call_values, connection_values, monitor_values, event_values, kept_values, further_values, IsReadable}
use Rattle.acd_sql_columns.specs.Schema.{tables_1, added_in_2}
use Rattle.acd_sql_columns.specs.Schema as schema

abbrev pub groups : Description GroupRow
groups = record {
  table = table.Groups;
  place = 1;
  layout = schema.groups_layout;
  key = λ g. g.device;
  values = group_values;
  in_row = group_of_row;
  records = λ r. r.groups;
  with_records = with_part table.Groups;
  Fits = λ g. FiguresFitColumns g.figures;
  IsRead = λ _. ⊤;
  insert = INSERT_GROUP.now;
  update = Some UPDATE_GROUP.now;
  delete = None;
  select = Some SELECT_GROUPS.now;
  base = tables_1;
}

abbrev pub stations : Description StationRecord
stations = record {
  table = table.Stations;
  place = 2;
  layout = schema.stations_layout;
  key = λ s. s.device;
  values = station_values;
  in_row = station_of_row;
  records = λ r. r.stations;
  with_records = with_part table.Stations;
  Fits = λ _. ⊤;
  IsRead = λ _. ⊤;
  insert = INSERT_STATION.now;
  update = None;
  delete = None;
  select = Some SELECT_STATIONS.now;
  base = tables_1;
}

abbrev pub agents : Description AgentRow
agents = record {
  table = table.Agents;
  place = 3;
  layout = schema.agents_layout;
  key = λ a. a.agent;
  values = agent_values;
  in_row = agent_of_row;
  records = λ r. r.agents;
  with_records = with_part table.Agents;
  Fits = λ a. Fits a.stamp;
  IsRead = λ _. ⊤;
  insert = INSERT_AGENT.now;
  update = Some UPDATE_AGENT.now;
  delete = None;
  select = Some SELECT_AGENTS.now;
  base = tables_1;
}

abbrev pub calls : Description CallRecord
calls = record {
  table = table.Calls;
  place = 4;
  layout = schema.calls_layout;
  key = λ k. k.call;
  values = call_values;
  in_row = call_in;
  records = λ r. r.calls;
  with_records = with_part table.Calls;
  Fits = λ k. Fits k.call;
  IsRead = λ _. ⊤;
  insert = INSERT_CALL.now;
  update = Some UPDATE_CALL.now;
  delete = Some DELETE_CALL.now;
  select = Some SELECT_CALLS.now;
  base = tables_1;
}

abbrev pub monitors : Description MonitorRecord
monitors = record {
  table = table.Monitors;
  place = 6;
  layout = schema.monitors_layout;
  key = λ w. w.monitor;
  values = monitor_values;
  in_row = monitor_of_row;
  records = λ r. r.monitors;
  with_records = with_part table.Monitors;
  Fits = λ w. Fits w.monitor × Fits w.after_event;
  IsRead = λ _. ⊤;
  insert = INSERT_MONITOR.now;
  update = Some UPDATE_MONITOR.now;
  delete = Some DELETE_MONITOR.now;
  select = Some SELECT_MONITORS.now;
  base = tables_1;
}

abbrev pub events : Description Event
events = record {
  table = table.Events;
  place = 7;
  layout = schema.events_layout;
  key = λ e. e.number;
  values = event_values;
  in_row = event_in;
  records = λ r. r.events;
  with_records = with_part table.Events;
  Fits = λ e. Fits e.number × IfSome (columns_of e.report).call Fits;
  IsRead = λ _. ⊤;
  insert = INSERT_EVENT.now;
  update = None;
  delete = None;
  select = None;
  base = tables_1;
}

-- the request is read of its text
abbrev pub kept : Description Kept
kept = record {
  table = table.Kept;
  place = 8;
  layout = schema.kept_layout;
  key = λ k. k.stamp;
  values = kept_values;
  in_row = kept_in;
  records = λ r. r.kept;
  with_records = with_part table.Kept;
  Fits = λ k. Fits k.stamp;
  IsRead = IsReadable;
  insert = INSERT_KEPT.now;
  update = None;
  delete = None;
  select = None;
  base = tables_1;
}

abbrev pub group_priority : Description GroupPriority
group_priority = record {
  table = table.GroupPriority;
  place = 10;
  layout = schema.group_priority_layout;
  key = λ p. p.device;
  values = priority_values;
  in_row = priority_of_row;
  records = λ r. r.priorities;
  with_records = with_part table.GroupPriority;
  Fits = λ _. ⊤;
  IsRead = λ _. ⊤;
  insert = INSERT_GROUP_PRIORITY.now;
  update = Some UPDATE_GROUP_PRIORITY.now;
  delete = Some DELETE_GROUP_PRIORITY.now;
  select = Some SELECT_GROUP_PRIORITY.now;
  base = tables_1 ++ added_in_2;
}

abbrev pub connections : Heap ConnectionRecord
connections = record {
  table = table.Connections;
  place = 5;
  layout = schema.connections_layout;
  first = λ x. x.call;
  second = λ x. x.device;
  values = connection_values;
  in_row = connection_of_row;
  records = λ r. r.connections;
  with_records = with_part table.Connections;
  insert = INSERT_CONNECTION.now;
}

-- an agent and a group after its first
abbrev pub agent_groups : Heap (ℕ × ℕ)
agent_groups = record {
  table = table.AgentGroups;
  place = 9;
  layout = schema.agent_groups_layout;
  first = λ p. p.0;
  second = λ p. p.1;
  values = further_values;
  in_row = further_of_row;
  records = λ r. r.further;
  with_records = with_part table.AgentGroups;
  insert = INSERT_AGENT_GROUP.now;
}
