-- The scans of a state: its records by key, and what is filtered from its lists.
use Rattle.std.specs.Prelude.{ℕ, Bool, false, not, ◌&&◌, ◌||◌, ◌==◌, List, Option, Some, None, filter, find, is_some}
use Rattle.std.specs.List.{list_any}
use Rattle.std.specs.declared.cmp.Ordering.{Ordering}
use Rattle.std.specs.Ordering.{nat_cmp, ordering_then}
use Rattle.acd_terms.specs.Lists.{find_by}
use Rattle.acd_terms.specs.Groups.{is_one_of}
use Rattle.acd_terms.specs.States.{is_ready, is_live, is_occupying, is_queued, is_distributed}
use Rattle.acd_terms.specs.Numbers.{Device, Agent, CallId, MonitorId}
use Rattle.acd_terms.specs.declared.rows.Rows.{Rows}
use Rattle.acd_terms.specs.declared.record.GroupRecord.{GroupRecord}
use Rattle.acd_terms.specs.declared.record.StationRecord.{StationRecord}
use Rattle.acd_terms.specs.declared.record.AgentRecord.{AgentRecord}
use Rattle.acd_terms.specs.declared.record.CallRecord.{CallRecord}
use Rattle.acd_terms.specs.declared.record.ConnectionRecord.{ConnectionRecord}
use Rattle.acd_terms.specs.declared.record.MonitorRecord.{MonitorRecord}

-- the orders of the keys
abbrev pub at_group : Device → GroupRecord → Ordering
at_group device r = nat_cmp device r.device

abbrev pub at_station : Device → StationRecord → Ordering
at_station device r = nat_cmp device r.device

abbrev pub at_agent : Agent → AgentRecord → Ordering
at_agent agent r = nat_cmp agent r.agent

abbrev pub at_call : CallId → CallRecord → Ordering
at_call call r = nat_cmp call r.call

abbrev pub at_connection : CallId → Device → ConnectionRecord → Ordering
at_connection call device r = ordering_then (nat_cmp call r.call) (nat_cmp device r.device)

abbrev pub at_monitor : MonitorId → MonitorRecord → Ordering
at_monitor monitor r = nat_cmp monitor r.monitor

-- the records of a state
unfoldable pub group_of : Rows → Device → Option GroupRecord
group_of s device = find_by (at_group device) s.groups

unfoldable pub station_of : Rows → Device → Option StationRecord
station_of s device = find_by (at_station device) s.stations

unfoldable pub agent_of : Rows → Agent → Option AgentRecord
agent_of s agent = find_by (at_agent agent) s.agents

unfoldable pub call_of : Rows → CallId → Option CallRecord
call_of s call = find_by (at_call call) s.calls

unfoldable pub connection_of : Rows → CallId → Device → Option ConnectionRecord
connection_of s call device = find_by (at_connection call device) s.connections

unfoldable pub monitor_of : Rows → MonitorId → Option MonitorRecord
monitor_of s monitor = find_by (at_monitor monitor) s.monitors

abbrev pub is_group : Rows → Device → Bool
is_group s device = is_some (group_of s device)

abbrev pub is_station : Rows → Device → Bool
is_station s device = is_some (station_of s device)

-- groups and stations are planned, external callers are not
abbrev pub is_planned : Rows → Device → Bool
is_planned s device = is_group s device || is_station s device

-- the value that may be there is this number
abbrev pub has : Option ℕ → ℕ → Bool
has None d = false
has (Some x) d = x == d

-- the agent logged on at a station
unfoldable pub agent_at : Rows → Device → Option AgentRecord
agent_at s station = find (λ a. has a.station station) s.agents

unfoldable pub connections_of : Rows → CallId → List ConnectionRecord
connections_of s call = filter (λ c. c.call == call) s.connections

-- the other party of a connection's call
unfoldable pub other_of : Rows → ConnectionRecord → Option ConnectionRecord
other_of s x = find (λ y. y.call == x.call && not (y.device == x.device)) s.connections

-- a connection at the station is initiated, alerting or connected
unfoldable pub is_live_at : Rows → Device → Bool
is_live_at s station = list_any (λ c. c.device == station && is_live c.state) s.connections

-- the connection is at the station, and one of these or on hold
abbrev pub occupies_station : Device → ConnectionRecord → Bool
occupies_station station c = c.device == station && is_occupying c.state

-- no connection at the station is one of them
unfoldable pub is_idle : Rows → Device → Bool
is_idle s station = not (list_any (occupies_station station) s.connections)

-- the connection is distributed, and at the agent's station
abbrev pub occupies_agent : AgentRecord → ConnectionRecord → Bool
occupies_agent a c = has a.station c.device && is_distributed c

-- there is such a connection
unfoldable pub is_occupied : Rows → AgentRecord → Bool
is_occupied s a = list_any (occupies_agent a) s.connections

-- the connections queued at a group
unfoldable pub waiting_in : Rows → Device → List ConnectionRecord
waiting_in s group = filter (λ c. c.device == group && is_queued c.state) s.connections

abbrev pub is_idle_there : Rows → Option Device → Bool
is_idle_there s None = false
is_idle_there s (Some station) = is_idle s station

-- of the group, ready and unoccupied, at an idle station
unfoldable pub is_eligible : Rows → Device → AgentRecord → Bool
is_eligible s group a = is_one_of a.groups group && is_ready a.state && not (is_occupied s a) && is_idle_there s a.station

unfoldable pub eligible_in : Rows → Device → List AgentRecord
eligible_in s group = filter (is_eligible s group) s.agents

-- the caller of a live call has the number
unfoldable pub is_calling : Rows → Device → Bool
is_calling s device = list_any (λ c. c.caller == device) s.calls

-- the number is planned, or that of an external caller of a live call
abbrev pub is_used : Rows → Device → Bool
is_used s device = is_planned s device || is_calling s device

-- the connections in a queue
unfoldable pub queued_in_all : Rows → List ConnectionRecord
queued_in_all s = filter (λ c. is_queued c.state) s.connections
