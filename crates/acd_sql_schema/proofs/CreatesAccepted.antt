-- The tables that are made, one after the other, are such that the store refuses none.
use Rattle.std.proofs.Common.{[], ◌∷◌, refl}
use Rattle.std.specs.Fmt.{digits}
use Rattle.sqlite_trees.specs.Sound.{begins, same_name, is_free_name}
use Rattle.sqlite.specs.Listing.{understood}
use Rattle.sqlite_tied.specs.Compute.{everything}
use Rattle.acd_sql_columns.specs.Schema.{no_schema, old_schema, agent_groups_layout, group_priority_layout, meta, groups_layout, stations_layout, agents_layout, calls_layout, connections_layout, monitors_layout, events_layout, kept_layout}
use Rattle.acd_sql_columns.specs.declared.texts.TheConstants.{CREATE_AGENTS, CREATE_AGENT_GROUPS, CREATE_CALLS, CREATE_CONNECTIONS, CREATE_EVENTS, CREATE_GROUPS, CREATE_GROUP_PRIORITY, CREATE_KEPT, CREATE_META, CREATE_MONITORS, CREATE_STATIONS}
use Rattle.acd_sql_columns.specs.SchemaSteps.{unplaced, with_tables, plan_schema, state_schema}
use Rattle.acd_sql_schema.proofs.CreateAccepted.{IsTaken}

pub takes_meta : IsTaken no_schema CREATE_META.now (unplaced meta)
unfolding understood everything digits begins same_name is_free_name
takes_meta = record {
  one = (refl, refl);
  ascii = (refl, refl);
  free = (refl, refl);
  plain = refl;
  low = refl;
  reals = (refl, refl);
  formed = refl;
  fit = (refl, refl, refl, refl);
  short = refl;
}

pub takes_groups : IsTaken (with_tables no_schema (meta ∷ [])) CREATE_GROUPS.now (unplaced groups_layout)
unfolding understood everything digits begins same_name is_free_name
takes_groups = record {
  one = (refl, refl);
  ascii = (refl, refl);
  free = (refl, refl);
  plain = refl;
  low = refl;
  reals = (refl, refl);
  formed = refl;
  fit = (refl, refl, refl, refl);
  short = refl;
}

pub takes_stations : IsTaken (with_tables no_schema (meta ∷ groups_layout ∷ [])) CREATE_STATIONS.now (unplaced stations_layout)
unfolding understood everything digits begins same_name is_free_name
takes_stations = record {
  one = (refl, refl);
  ascii = (refl, refl);
  free = (refl, refl);
  plain = refl;
  low = refl;
  reals = (refl, refl);
  formed = refl;
  fit = (refl, refl, refl, refl);
  short = refl;
}

pub takes_agents : IsTaken (with_tables no_schema (meta ∷ groups_layout ∷ stations_layout ∷ [])) CREATE_AGENTS.now (unplaced agents_layout)
unfolding understood everything digits begins same_name is_free_name
takes_agents = record {
  one = (refl, refl);
  ascii = (refl, refl);
  free = (refl, refl);
  plain = refl;
  low = refl;
  reals = (refl, refl);
  formed = refl;
  fit = (refl, refl, refl, refl);
  short = refl;
}

pub takes_calls : IsTaken plan_schema CREATE_CALLS.now (unplaced calls_layout)
unfolding understood everything digits begins same_name is_free_name
takes_calls = record {
  one = (refl, refl);
  ascii = (refl, refl);
  free = (refl, refl);
  plain = refl;
  low = refl;
  reals = (refl, refl);
  formed = refl;
  fit = (refl, refl, refl, refl);
  short = refl;
}

pub takes_connections : IsTaken (with_tables plan_schema (calls_layout ∷ [])) CREATE_CONNECTIONS.now (unplaced connections_layout)
unfolding understood everything digits begins same_name is_free_name
takes_connections = record {
  one = (refl, refl);
  ascii = (refl, refl);
  free = (refl, refl);
  plain = refl;
  low = refl;
  reals = (refl, refl);
  formed = refl;
  fit = (refl, refl, refl, refl);
  short = refl;
}

pub takes_monitors : IsTaken (with_tables plan_schema (calls_layout ∷ connections_layout ∷ [])) CREATE_MONITORS.now (unplaced monitors_layout)
unfolding understood everything digits begins same_name is_free_name
takes_monitors = record {
  one = (refl, refl);
  ascii = (refl, refl);
  free = (refl, refl);
  plain = refl;
  low = refl;
  reals = (refl, refl);
  formed = refl;
  fit = (refl, refl, refl, refl);
  short = refl;
}

pub takes_events : IsTaken state_schema CREATE_EVENTS.now (unplaced events_layout)
unfolding understood everything digits begins same_name is_free_name
takes_events = record {
  one = (refl, refl);
  ascii = (refl, refl);
  free = (refl, refl);
  plain = refl;
  low = refl;
  reals = (refl, refl);
  formed = refl;
  fit = (refl, refl, refl, refl);
  short = refl;
}

pub takes_kept : IsTaken (with_tables state_schema (events_layout ∷ [])) CREATE_KEPT.now (unplaced kept_layout)
unfolding understood everything digits begins same_name is_free_name
takes_kept = record {
  one = (refl, refl);
  ascii = (refl, refl);
  free = (refl, refl);
  plain = refl;
  low = refl;
  reals = (refl, refl);
  formed = refl;
  fit = (refl, refl, refl, refl);
  short = refl;
}

-- the two tables that version 2 adds
pub takes_agent_groups : IsTaken old_schema CREATE_AGENT_GROUPS.now (unplaced agent_groups_layout)
unfolding understood everything digits begins same_name is_free_name
takes_agent_groups = record {
  one = (refl, refl);
  ascii = (refl, refl);
  free = (refl, refl);
  plain = refl;
  low = refl;
  reals = (refl, refl);
  formed = refl;
  fit = (refl, refl, refl, refl);
  short = refl;
}

pub takes_group_priority : IsTaken (with_tables old_schema (agent_groups_layout ∷ [])) CREATE_GROUP_PRIORITY.now (unplaced group_priority_layout)
unfolding understood everything digits begins same_name is_free_name
takes_group_priority = record {
  one = (refl, refl);
  ascii = (refl, refl);
  free = (refl, refl);
  plain = refl;
  low = refl;
  reals = (refl, refl);
  formed = refl;
  fit = (refl, refl, refl, refl);
  short = refl;
}
