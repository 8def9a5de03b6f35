-- The changes that lead from the tables of one state to those of another, in the order in which they are made.
use Rattle.std.specs.Prelude.{ℕ, ◌==◌, ◌++◌, Bool, List, filter, map, Option, None, Some, is_some, if◌then◌else◌}
use Rattle.acd_terms.specs.Lists.{find_by}
use Rattle.acd_terms.specs.declared.rows.Rows.{Rows}
use Rattle.acd_terms.specs.declared.record.GroupRecord.{GroupRecord}
use Rattle.acd_terms.specs.declared.record.StationRecord.{StationRecord}
use Rattle.acd_terms.specs.declared.record.AgentRecord.{AgentRecord}
use Rattle.acd_terms.specs.declared.record.CallRecord.{CallRecord}
use Rattle.acd_terms.specs.declared.record.ConnectionRecord.{ConnectionRecord}
use Rattle.acd_terms.specs.declared.record.MonitorRecord.{MonitorRecord}
use Rattle.acd_terms.specs.contracts.record.GroupRecordPartialEq.TheImpl as groups_eq
use Rattle.acd_terms.specs.contracts.record.StationRecordPartialEq.TheImpl as stations_eq
use Rattle.acd_terms.specs.contracts.record.AgentRecordPartialEq.TheImpl as agents_eq
use Rattle.acd_terms.specs.contracts.record.CallRecordPartialEq.TheImpl as calls_eq
use Rattle.acd_terms.specs.contracts.record.ConnectionRecordPartialEq.TheImpl as connections_eq
use Rattle.acd_terms.specs.contracts.record.MonitorRecordPartialEq.TheImpl as monitors_eq
use Rattle.acd_model.specs.Scans.{at_agent, at_connection}
use Rattle.acd_model.specs.Rules.Plan.{group_order, station_order, agent_order, call_order, connection_order, monitor_order}
use Rattle.acd_model.specs.declared.moves.Change.{Change}
use Rattle.acd_model.specs.declared.moves.Change.TheVariants.{Nothing, PutGroup, PutStation, PutAgent, PutCall, PutConnection, PutMonitor, RemoveCall, RemoveConnection, RemoveMonitor}
use Rattle.acd_sql_differences.specs.DifferenceSteps.{differences, Changes}

-- ---- records, as their types compare them

abbrev pub group_eq : GroupRecord → GroupRecord → Bool
group_eq = (groups_eq.eq-value).it

abbrev pub station_eq : StationRecord → StationRecord → Bool
station_eq = (stations_eq.eq-value).it

abbrev pub agent_eq : AgentRecord → AgentRecord → Bool
agent_eq = (agents_eq.eq-value).it

abbrev pub call_eq : CallRecord → CallRecord → Bool
call_eq = (calls_eq.eq-value).it

abbrev pub connection_eq : ConnectionRecord → ConnectionRecord → Bool
connection_eq = (connections_eq.eq-value).it

abbrev pub monitor_eq : MonitorRecord → MonitorRecord → Bool
monitor_eq = (monitors_eq.eq-value).it

-- ---- the changes that take them out: a group, a station and an agent never are

abbrev pub none_gone : {T : Type 0} → T → Change
none_gone x = Nothing

abbrev pub call_gone : CallRecord → Change
call_gone x = RemoveCall x.call

abbrev pub connection_gone : ConnectionRecord → Change
connection_gone x = RemoveConnection x.call x.device

abbrev pub monitor_gone : MonitorRecord → Change
monitor_gone x = RemoveMonitor x.monitor

-- ---- those between

abbrev pub group_changes : Changes GroupRecord
group_changes = record { gone = none_gone; put = PutGroup }

abbrev pub station_changes : Changes StationRecord
station_changes = record { gone = none_gone; put = PutStation }

abbrev pub agent_changes : Changes AgentRecord
agent_changes = record { gone = none_gone; put = PutAgent }

abbrev pub call_changes : Changes CallRecord
call_changes = record { gone = call_gone; put = PutCall }

abbrev pub connection_changes : Changes ConnectionRecord
connection_changes = record { gone = connection_gone; put = PutConnection }

abbrev pub monitor_changes : Changes MonitorRecord
monitor_changes = record { gone = monitor_gone; put = PutMonitor }

-- ---- those between

-- the station that both have
abbrev pub shared_station : Option ℕ → Option ℕ → Option ℕ
shared_station (Some one) (Some other) = if one == other then Some one else None
shared_station _ _ = None

abbrev pub agent_station : Option AgentRecord → Option ℕ
agent_station (Some a) = a.station
agent_station None = None

-- an agent as it is held, but without a station that is to be another's, or nobody's
unfoldable pub unseated : List AgentRecord → AgentRecord → AgentRecord
unseated new a = record a { station = shared_station a.station (agent_station (find_by (at_agent a.agent) new)) }

-- a connection of its key is among these
unfoldable pub stays : List ConnectionRecord → ConnectionRecord → Bool
stays new x = is_some (find_by (at_connection x.call x.device) new)

-- ---- all of them

abbrev pub group_differences : List GroupRecord → List GroupRecord → List Change
group_differences held new = differences group_order group_eq none_gone PutGroup held new

abbrev pub station_differences : List StationRecord → List StationRecord → List Change
station_differences held new = differences station_order station_eq none_gone PutStation held new

abbrev pub agent_differences : List AgentRecord → List AgentRecord → List Change
agent_differences held new = differences agent_order agent_eq none_gone PutAgent held new

abbrev pub call_differences : List CallRecord → List CallRecord → List Change
call_differences held new = differences call_order call_eq call_gone PutCall held new

abbrev pub connection_differences : List ConnectionRecord → List ConnectionRecord → List Change
connection_differences held new = differences connection_order connection_eq connection_gone PutConnection held new

abbrev pub monitor_differences : List MonitorRecord → List MonitorRecord → List Change
monitor_differences held new = differences monitor_order monitor_eq monitor_gone PutMonitor held new

-- ---- of two states

-- the agents that are held, without the stations that they give up
abbrev pub all_unseated : Rows → Rows → List AgentRecord
all_unseated held new = map (unseated new.agents) held.agents

-- agents give their stations up before others take them
abbrev pub seat_differences : Rows → Rows → List Change
seat_differences held new = agent_differences held.agents (all_unseated held new) ++ agent_differences (all_unseated held new) new.agents

-- groups and stations before agents, who give their stations up before others take them
unfoldable pub plan_differences : Rows → Rows → List Change
plan_differences held new = group_differences held.groups new.groups ++ (station_differences held.stations new.stations ++ seat_differences held new)

-- the connections that are held and whose keys stay
abbrev pub all_staying : Rows → Rows → List ConnectionRecord
all_staying held new = filter (stays new.connections) held.connections

-- the other connections go, and later the new ones are put
abbrev pub connections_gone : Rows → Rows → List Change
connections_gone held new = connection_differences held.connections (all_staying held new)

abbrev pub connections_put : Rows → Rows → List Change
connections_put held new = connection_differences (all_staying held new) new.connections

-- connections go before their calls, and calls are put before their connections
unfoldable pub traffic_differences : Rows → Rows → List Change
traffic_differences held new =
    connections_gone held new ++ (call_differences held.calls new.calls ++ (connections_put held new ++ monitor_differences held.monitors new.monitors))

unfoldable pub rows_differences : Rows → Rows → List Change
rows_differences held new = plan_differences held new ++ traffic_differences held new
