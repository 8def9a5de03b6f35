-- The rows of each kind of record, and the records that are shown of them.
use Rattle.std.proofs.Common.{◌≡◌, ℕ, Some, refl, rules}
use Rattle.std.specs.Prelude.{⊤}
use Rattle.sqlite_value.specs.Order.{Row}
use Rattle.acd_terms.specs.declared.record.StationRecord.{StationRecord}
use Rattle.acd_terms.specs.declared.record.CallRecord.{CallRecord}
use Rattle.acd_terms.specs.declared.record.ConnectionRecord.{ConnectionRecord}
use Rattle.acd_terms.specs.declared.record.MonitorRecord.{MonitorRecord}
use Rattle.acd_sql_columns.specs.declared.relations.GroupRow.{GroupRow}
use Rattle.acd_sql_columns.specs.declared.relations.AgentRow.{AgentRow}
use Rattle.acd_sql_columns.specs.declared.relations.GroupPriority.{GroupPriority}
use Rattle.acd_sql_columns.proofs.Rows.FieldLaws.{row_is_written, shown_back, fields_exact}
use Rattle.acd_sql_columns.specs.declared.decode.EventValues.{EventValues}
use Rattle.acd_sql_columns.specs.declared.meta.Meta.{Meta}
use Rattle.acd_sql_columns.specs.Decoding.{as_priority, as_further, as_group, as_station, as_agent, as_call, as_connection, as_monitor, as_meta}
use Rattle.acd_sql_columns.specs.Fields.{read_whole, shown_whole, written_row, Agree}
use Rattle.acd_sql_columns.specs.Ranges.{further_of_row, connection_of_row, monitor_of_row, counters_in}
use Rattle.acd_sql_columns.specs.Rows.{priority_fields, priority_made, priority_values, further_fields, further_made, further_values, group_fields, group_made, group_values, station_fields, station_made, station_values, agent_fields, agent_made, agent_values, call_fields, call_made, call_values, connection_fields, connection_made, connection_values, monitor_fields, monitor_made, monitor_values, meta_fields, meta_made, meta_shown, event_fields, event_made}

pub group_agrees : Agree group_fields group_made (λ r. ⊤)
group_agrees = search rules

pub group_back : (g : GroupRow) → as_group (group_values g) ≡ g
group_back g = shown_back group_fields group_made g refl

pub priority_agrees : Agree priority_fields priority_made (λ r. ⊤)
priority_agrees = search rules

pub priority_back : (p : GroupPriority) → as_priority (priority_values p) ≡ p
priority_back p = shown_back priority_fields priority_made p refl

further_agrees : Agree further_fields further_made (λ r. ⊤)
further_agrees = search rules

pub further_stored : (r : Row) (p : ℕ × ℕ) → further_of_row r ≡ Some p → r ≡ further_values p
further_stored = row_is_written further_fields further_made further_agrees

pub further_exact : (r : Row) (x y : ℕ × ℕ) → further_of_row r ≡ Some x → r ≡ further_values y → x ≡ y
further_exact = fields_exact further_fields further_made further_agrees (λ p. refl)

pub further_back : (p : ℕ × ℕ) → as_further (further_values p) ≡ p
further_back p = shown_back further_fields further_made p refl

pub station_agrees : Agree station_fields station_made (λ r. ⊤)
station_agrees = search rules

pub station_back : (s : StationRecord) → as_station (station_values s) ≡ s
station_back s = shown_back station_fields station_made s refl

pub agent_agrees : Agree agent_fields agent_made (λ r. ⊤)
agent_agrees = search rules

pub agent_back : (a : AgentRow) → as_agent (agent_values a) ≡ a
agent_back a = shown_back agent_fields agent_made a refl

pub call_agrees : Agree call_fields call_made (λ r. ⊤)
call_agrees = search rules

pub call_back : (k : CallRecord) → as_call (call_values k) ≡ k
call_back k = shown_back call_fields call_made k refl

connection_agrees : Agree connection_fields connection_made (λ r. ⊤)
connection_agrees = search rules

pub connection_stored : (r : Row) (x : ConnectionRecord) → connection_of_row r ≡ Some x → r ≡ connection_values x
connection_stored = row_is_written connection_fields connection_made connection_agrees

pub connection_exact : (r : Row) (x y : ConnectionRecord) → connection_of_row r ≡ Some x → r ≡ connection_values y → x ≡ y
connection_exact = fields_exact connection_fields connection_made connection_agrees (λ x. refl)

pub connection_back : (x : ConnectionRecord) → as_connection (connection_values x) ≡ x
connection_back x = shown_back connection_fields connection_made x refl

monitor_agrees : Agree monitor_fields monitor_made (λ r. ⊤)
monitor_agrees = search rules

pub monitor_stored : (r : Row) (w : MonitorRecord) → monitor_of_row r ≡ Some w → r ≡ monitor_values w
monitor_stored = row_is_written monitor_fields monitor_made monitor_agrees

pub monitor_exact : (r : Row) (x y : MonitorRecord) → monitor_of_row r ≡ Some x → r ≡ monitor_values y → x ≡ y
monitor_exact = fields_exact monitor_fields monitor_made monitor_agrees (λ w. refl)

pub monitor_back : (w : MonitorRecord) → as_monitor (monitor_values w) ≡ w
monitor_back w = shown_back monitor_fields monitor_made w refl

meta_agrees : Agree meta_fields meta_made (λ r. ⊤)
meta_agrees = search rules

pub counters_stored : (r : Row) (m : Meta) → counters_in r ≡ Some m → r ≡ meta_shown m
counters_stored = row_is_written meta_fields meta_made meta_agrees

pub meta_exact : (r : Row) (x y : Meta) → counters_in r ≡ Some x → r ≡ meta_shown y → x ≡ y
meta_exact = fields_exact meta_fields meta_made meta_agrees (λ m. refl)

pub meta_back : (m : Meta) → as_meta (meta_shown m) ≡ m
meta_back m = shown_back meta_fields meta_made m refl

event_agrees : Agree event_fields event_made (λ r. ⊤)
event_agrees = search rules

-- of an event, before it is asked what its columns say together
pub values_stored : (r : Row) (v : EventValues) → read_whole event_fields event_made r ≡ Some v → r ≡ written_row event_fields v
values_stored = row_is_written event_fields event_made event_agrees

pub values_back : (v : EventValues) → shown_whole event_fields event_made (written_row event_fields v) ≡ v
values_back v = shown_back event_fields event_made v refl
