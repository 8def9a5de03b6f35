-- The texts make the tables.
use Rattle.std.proofs.Common.{◌≡◌, [], ◌∷◌, refl}
use Rattle.std.specs.Fmt.{digits}
use Rattle.sqlite.specs.Listing.{understood}
use Rattle.sqlite_tied.specs.Compute.{everything}
use Rattle.acd_sql_columns.specs.Schema.{no_schema, old_schema, book_schema, agent_groups_layout, group_priority_layout, meta, groups_layout, stations_layout, agents_layout, calls_layout, connections_layout, monitors_layout, events_layout, kept_layout}
use Rattle.acd_sql_columns.specs.declared.texts.TheConstants.{CREATE_AGENTS, CREATE_AGENT_GROUPS, CREATE_CALLS, CREATE_CONNECTIONS, CREATE_EVENTS, CREATE_GROUPS, CREATE_GROUP_PRIORITY, CREATE_KEPT, CREATE_META, CREATE_MONITORS, CREATE_STATIONS}
use Rattle.acd_sql_columns.specs.SchemaSteps.{MakesTable, unplaced, with_tables, plan_schema, state_schema}

pub nine_made : with_tables state_schema (events_layout ∷ kept_layout ∷ []) ≡ old_schema
unfolding digits
nine_made = refl

pub two_made : with_tables old_schema (agent_groups_layout ∷ group_priority_layout ∷ []) ≡ book_schema
unfolding digits
two_made = refl

pub makes_meta : MakesTable no_schema CREATE_META.now (unplaced meta)
unfolding understood everything
makes_meta = record { command = refl; statement = refl; plain = (refl, refl); defined = refl; uncounted = refl }

pub makes_groups : MakesTable (with_tables no_schema (meta ∷ [])) CREATE_GROUPS.now (unplaced groups_layout)
unfolding understood everything
makes_groups = record { command = refl; statement = refl; plain = (refl, refl); defined = refl; uncounted = refl }

pub makes_stations : MakesTable (with_tables no_schema (meta ∷ groups_layout ∷ [])) CREATE_STATIONS.now (unplaced stations_layout)
unfolding understood everything
makes_stations = record { command = refl; statement = refl; plain = (refl, refl); defined = refl; uncounted = refl }

pub makes_agents : MakesTable (with_tables no_schema (meta ∷ groups_layout ∷ stations_layout ∷ [])) CREATE_AGENTS.now (unplaced agents_layout)
unfolding understood everything
makes_agents = record { command = refl; statement = refl; plain = (refl, refl); defined = refl; uncounted = refl }

pub makes_calls : MakesTable plan_schema CREATE_CALLS.now (unplaced calls_layout)
unfolding understood everything
makes_calls = record { command = refl; statement = refl; plain = (refl, refl); defined = refl; uncounted = refl }

pub makes_connections : MakesTable (with_tables plan_schema (calls_layout ∷ [])) CREATE_CONNECTIONS.now (unplaced connections_layout)
unfolding understood everything
makes_connections = record { command = refl; statement = refl; plain = (refl, refl); defined = refl; uncounted = refl }

pub makes_monitors : MakesTable (with_tables plan_schema (calls_layout ∷ connections_layout ∷ [])) CREATE_MONITORS.now (unplaced monitors_layout)
unfolding understood everything
makes_monitors = record { command = refl; statement = refl; plain = (refl, refl); defined = refl; uncounted = refl }

pub makes_events : MakesTable state_schema CREATE_EVENTS.now (unplaced events_layout)
unfolding understood everything
makes_events = record { command = refl; statement = refl; plain = (refl, refl); defined = refl; uncounted = refl }

pub makes_kept : MakesTable (with_tables state_schema (events_layout ∷ [])) CREATE_KEPT.now (unplaced kept_layout)
unfolding understood everything
makes_kept = record { command = refl; statement = refl; plain = (refl, refl); defined = refl; uncounted = refl }

pub makes_agent_groups : MakesTable old_schema CREATE_AGENT_GROUPS.now (unplaced agent_groups_layout)
unfolding understood everything
makes_agent_groups = record { command = refl; statement = refl; plain = (refl, refl); defined = refl; uncounted = refl }

pub makes_group_priority : MakesTable (with_tables old_schema (agent_groups_layout ∷ [])) CREATE_GROUP_PRIORITY.now (unplaced group_priority_layout)
unfolding understood everything
makes_group_priority = record { command = refl; statement = refl; plain = (refl, refl); defined = refl; uncounted = refl }
