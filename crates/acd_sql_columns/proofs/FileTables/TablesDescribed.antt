-- The tables are as they are described.
use Rattle.std.proofs.Common.{List, [], ◌∷◌, refl}
use Rattle.std.specs.Prelude.{⊤}
use Rattle.sqlite.specs.Listing.{understood}
use Rattle.sqlite_tied.specs.Compute.{everything}
use Rattle.acd_terms.specs.Lists.{Every}
use Rattle.acd_sql_columns.specs.declared.tables.Table.TheVariants as table
use Rattle.acd_sql_columns.specs.declared.texts.TheConstants.{SELECT_EVENTS_AFTER, SELECT_KEPT_AFTER}
use Rattle.acd_sql_columns.specs.Rows.{priority_fields, priority_made, group_fields, group_made, station_fields, station_made, agent_fields, agent_made, call_fields, call_made, monitor_fields, event_fields, values_of_event}
use Rattle.acd_sql_columns.specs.Schema.{added_in_2}
use Rattle.acd_sql_columns.specs.Schema as schema
use Rattle.acd_sql_columns.specs.Tables.{groups, group_priority, stations, agents, calls, monitors, events, kept}
use Rattle.acd_sql_columns.proofs.Writes.Common.{cast_id, cast_null}
use Rattle.acd_sql_columns.proofs.Rows.FieldLaws.{row_is_written, fields_exact, fields_cast}
use Rattle.acd_sql_columns.proofs.FileTables.DescribedTable.{Described, Pages}
use Rattle.acd_sql_columns.proofs.Writes.Frames.{framed}
use Rattle.acd_sql_columns.proofs.Rows.Records.{priority_agrees, group_agrees, station_agrees, agent_agrees, call_agrees, monitor_stored, monitor_exact}
use Rattle.acd_sql_columns.proofs.Rows.EventRows.{event_stored, event_exact, kept_stored, kept_exact}

all_read : {R : Type 0} (rs : List R) → Every (λ _. ⊤) rs
all_read [] = tt
all_read (r ∷ rs) = (tt, all_read rs)

pub groups_described : Described groups
unfolding understood everything
groups_described = record {
  computes = refl;
  plain = (refl, refl);
  keyed = refl;
  of_record = λ g. refl;
  of_row = λ row. refl;
  casts = λ g. fields_cast schema.groups_layout group_fields g.device g refl refl;
  stored = λ row x h. (row_is_written group_fields group_made group_agrees row x h, tt);
  exact = λ row x y reads h e. fields_exact group_fields group_made group_agrees (λ g. refl) row x y h e;
  held = λ c db encodes. (encodes table.Groups, all_read _);
  framed = λ rs rows old new c are reads. framed table.Groups rs rows old new c are;
  unchanged = λ c. refl;
  updates = record { updates = refl; plain = (refl, refl); changes = λ new r. refl };
  deletes = tt;
  selects = record { begins = (added_in_2, refl); selects = λ rest s. refl; plain = λ rest s. (refl, refl); unlisted = λ rest s. refl };
}

pub priorities_described : Described group_priority
unfolding understood everything
priorities_described = record {
  computes = refl;
  plain = (refl, refl);
  keyed = refl;
  of_record = λ p. refl;
  of_row = λ row. refl;
  casts = λ p. fields_cast schema.group_priority_layout priority_fields p.device p refl refl;
  stored = λ row x h. (row_is_written priority_fields priority_made priority_agrees row x h, tt);
  exact = λ row x y reads h e. fields_exact priority_fields priority_made priority_agrees (λ p. refl) row x y h e;
  held = λ c db encodes. (encodes table.GroupPriority, all_read _);
  framed = λ rs rows old new c are reads. framed table.GroupPriority rs rows old new c are;
  unchanged = λ c. refl;
  updates = record { updates = refl; plain = (refl, refl); changes = λ new r. refl };
  deletes = record { deletes = refl; plain = (refl, refl) };
  selects = record { begins = ([], refl); selects = λ rest s. refl; plain = λ rest s. (refl, refl); unlisted = λ rest s. refl };
}

pub stations_described : Described stations
unfolding understood everything
stations_described = record {
  computes = refl;
  plain = (refl, refl);
  keyed = refl;
  of_record = λ s. refl;
  of_row = λ row. refl;
  casts = λ s. fields_cast schema.stations_layout station_fields s.device s refl refl;
  stored = λ row x h. (row_is_written station_fields station_made station_agrees row x h, tt);
  exact = λ row x y reads h e. fields_exact station_fields station_made station_agrees (λ s. refl) row x y h e;
  held = λ c db encodes. (encodes table.Stations, all_read _);
  framed = λ rs rows old new c are reads. framed table.Stations rs rows old new c are;
  unchanged = λ c. refl;
  updates = tt;
  deletes = tt;
  selects = record { begins = (added_in_2, refl); selects = λ rest s. refl; plain = λ rest s. (refl, refl); unlisted = λ rest s. refl };
}

pub agents_described : Described agents
unfolding understood everything
agents_described = record {
  computes = refl;
  plain = (refl, refl);
  keyed = refl;
  of_record = λ a. refl;
  of_row = λ row. refl;
  casts = λ a. fields_cast schema.agents_layout agent_fields a.agent a refl refl;
  stored = λ row x h. (row_is_written agent_fields agent_made agent_agrees row x h, tt);
  exact = λ row x y reads h e. fields_exact agent_fields agent_made agent_agrees (λ a. refl) row x y h e;
  held = λ c db encodes. (encodes table.Agents, all_read _);
  framed = λ rs rows old new c are reads. framed table.Agents rs rows old new c are;
  unchanged = λ c. refl;
  updates = record { updates = refl; plain = (refl, refl); changes = λ new r. refl };
  deletes = tt;
  selects = record { begins = (added_in_2, refl); selects = λ rest s. refl; plain = λ rest s. (refl, refl); unlisted = λ rest s. refl };
}

pub calls_described : Described calls
unfolding understood everything
calls_described = record {
  computes = refl;
  plain = (refl, refl);
  keyed = refl;
  of_record = λ k. refl;
  of_row = λ row. refl;
  casts = λ k. fields_cast schema.calls_layout call_fields k.call k refl refl;
  stored = λ row x h. (row_is_written call_fields call_made call_agrees row x h, tt);
  exact = λ row x y reads h e. fields_exact call_fields call_made call_agrees (λ k. refl) row x y h e;
  held = λ c db encodes. (encodes table.Calls, all_read _);
  framed = λ rs rows old new c are reads. framed table.Calls rs rows old new c are;
  unchanged = λ c. refl;
  updates = record { updates = refl; plain = (refl, refl); changes = λ new r. refl };
  deletes = record { deletes = refl; plain = (refl, refl) };
  selects = record { begins = (added_in_2, refl); selects = λ rest s. refl; plain = λ rest s. (refl, refl); unlisted = λ rest s. refl };
}

pub monitors_described : Described monitors
unfolding understood everything
monitors_described = record {
  computes = refl;
  plain = (refl, refl);
  keyed = refl;
  of_record = λ w. refl;
  of_row = λ row. refl;
  casts = λ w. fields_cast schema.monitors_layout monitor_fields w.monitor w refl refl;
  stored = λ row x h. (monitor_stored row x h, tt);
  exact = λ row x y reads h e. monitor_exact row x y h e;
  held = λ c db encodes. (encodes table.Monitors, all_read _);
  framed = λ rs rows old new c are reads. framed table.Monitors rs rows old new c are;
  unchanged = λ c. refl;
  updates = record { updates = refl; plain = (refl, refl); changes = λ new r. refl };
  deletes = record { deletes = refl; plain = (refl, refl) };
  selects = record { begins = (added_in_2, refl); selects = λ rest s. refl; plain = λ rest s. (refl, refl); unlisted = λ rest s. refl };
}

pub events_described : Described events
unfolding understood everything
events_described = record {
  computes = refl;
  plain = (refl, refl);
  keyed = refl;
  of_record = λ e. refl;
  of_row = λ row. refl;
  casts = λ e. fields_cast schema.events_layout event_fields e.number (values_of_event e) refl refl;
  stored = λ row x h. (event_stored row x h, tt);
  exact = λ row x y reads h e. event_exact row x y h e;
  held = λ c db encodes. (encodes table.Events, all_read _);
  framed = λ rs rows old new c are reads. framed table.Events rs rows old new c are;
  unchanged = λ c. refl;
  updates = tt;
  deletes = tt;
  selects = tt;
}

pub events_pages : Pages events SELECT_EVENTS_AFTER.now
unfolding understood everything
events_pages = record { pages = λ rest s. refl; plain = λ rest s. (refl, refl); unlisted = λ rest s. refl }

-- its request is read of its text
pub kept_described : Described kept
unfolding understood everything
kept_described = record {
  computes = refl;
  plain = (refl, refl);
  keyed = refl;
  of_record = λ k. refl;
  of_row = λ row. refl;
  casts = λ k. rw (cast_id k.stamp, cast_null, cast_id k.request.invoke, cast_id k.moment, cast_id k.status) refl;
  stored = kept_stored;
  exact = kept_exact;
  held = λ c db encodes. encodes table.Kept;
  framed = λ rs rows old new c are reads. framed table.Kept rs rows old new c (are, reads);
  unchanged = λ c. refl;
  updates = tt;
  deletes = tt;
  selects = tt;
}

pub kept_pages : Pages kept SELECT_KEPT_AFTER.now
unfolding understood everything
kept_pages = record { pages = λ rest s. refl; plain = λ rest s. (refl, refl); unlisted = λ rest s. refl }
