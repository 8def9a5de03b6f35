-- The order of the lists of rows.
use Rattle.acd_terms.specs.Lists.{IsAscending}
use Rattle.acd_terms.specs.declared.rows.Rows.{Rows}
use Rattle.acd_model.specs.Rules.Plan.{group_order, station_order, agent_order, call_order, connection_order, monitor_order}

-- each list strictly ascending in its key
pub record Orders (s : Rows) : Type 0 where
  pub groups : IsAscending group_order s.groups
  pub stations : IsAscending station_order s.stations
  pub agents : IsAscending agent_order s.agents
  pub calls : IsAscending call_order s.calls
  pub connections : IsAscending connection_order s.connections
  pub monitors : IsAscending monitor_order s.monitors
