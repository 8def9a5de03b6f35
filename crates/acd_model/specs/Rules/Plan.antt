-- The rules limits, order, device, agent and monitor.
use Rattle.std.specs.Prelude.{Bool, true, false, not, ◌&&◌, List, Option, Some, None, is_none, length, nat_le, if◌then◌else◌}
use Rattle.std.specs.List.{list_all}
use Rattle.std.specs.Ordering.{nat_cmp, ordering_then}
use Rattle.std.specs.declared.cmp.Ordering.{Ordering}
use Rattle.acd_terms.specs.Lists.{count, ascends}
use Rattle.acd_terms.specs.States.{is_null}
use Rattle.acd_terms.specs.Limits.{limits_fit, greatest_priority}
use Rattle.acd_terms.specs.Groups.{is_choice}
use Rattle.acd_terms.specs.Numbers.{Device}
use Rattle.acd_terms.specs.declared.rows.Rows.{Rows}
use Rattle.acd_terms.specs.declared.record.GroupRecord.{GroupRecord}
use Rattle.acd_terms.specs.declared.record.StationRecord.{StationRecord}
use Rattle.acd_terms.specs.declared.record.AgentRecord.{AgentRecord}
use Rattle.acd_terms.specs.declared.record.CallRecord.{CallRecord}
use Rattle.acd_terms.specs.declared.record.ConnectionRecord.{ConnectionRecord}
use Rattle.acd_terms.specs.declared.record.MonitorRecord.{MonitorRecord}
use Rattle.acd_model.specs.Scans.{is_group, is_station, is_planned, has}
use Rattle.acd_model.specs.Rules.Occupied.{is_empty}

-- no limit is above its greatest, and the plan is within its limits
abbrev pub fits_plan : Rows → Bool
fits_plan s =
    limits_fit s.limits && nat_le (length s.groups) s.limits.groups && nat_le (length s.stations) s.limits.stations
    && nat_le (length s.agents) s.limits.agents

-- so are the calls, the monitors and the requests that were executed
abbrev pub fits_limits : Rows → Bool
fits_limits s =
    fits_plan s && nat_le (length s.calls) s.limits.calls && nat_le (length s.monitors) s.limits.monitors && nat_le s.last_stamp s.limits.requests

-- no last call or monitor is above the last stamp either, and no priority above 9
unfoldable pub keeps_limits : Rows → Bool
keeps_limits s =
    fits_limits s && nat_le s.last_call s.last_stamp && nat_le s.last_monitor s.last_stamp
    && list_all (λ (g : GroupRecord). nat_le g.priority greatest_priority) s.groups

abbrev pub group_order : GroupRecord → GroupRecord → Ordering
group_order x y = nat_cmp x.device y.device

abbrev pub station_order : StationRecord → StationRecord → Ordering
station_order x y = nat_cmp x.device y.device

abbrev pub agent_order : AgentRecord → AgentRecord → Ordering
agent_order x y = nat_cmp x.agent y.agent

abbrev pub call_order : CallRecord → CallRecord → Ordering
call_order x y = nat_cmp x.call y.call

abbrev pub connection_order : ConnectionRecord → ConnectionRecord → Ordering
connection_order x y = ordering_then (nat_cmp x.call y.call) (nat_cmp x.device y.device)

abbrev pub monitor_order : MonitorRecord → MonitorRecord → Ordering
monitor_order x y = nat_cmp x.monitor y.monitor

-- the lists of the plan strictly ascending in their keys
abbrev pub plan_ascends : Rows → Bool
plan_ascends s = ascends group_order s.groups && ascends station_order s.stations && ascends agent_order s.agents

-- and the other lists
unfoldable pub keeps_order : Rows → Bool
keeps_order s = plan_ascends s && ascends call_order s.calls && ascends connection_order s.connections && ascends monitor_order s.monitors

-- no device both group and station
unfoldable pub keeps_device : Rows → Bool
keeps_device s = list_all (λ (g : GroupRecord). not (is_station s g.device)) s.groups

abbrev pub is_station_there : Rows → Option Device → Bool
is_station_there s None = false
is_station_there s (Some d) = is_station s d

-- one to eight, in ascending number, and each is a planned group
abbrev pub are_planned_groups : Rows → List Device → Bool
are_planned_groups s gs = is_choice gs && list_all (is_group s) gs

-- no other agent is logged on there
abbrev pub is_alone_at : Rows → Option Device → Bool
is_alone_at s None = true
is_alone_at s (Some d) = nat_le (count (λ (b : AgentRecord). has b.station d) s.agents) 1

-- an agent in null has no station, group or pending state, any other a planned station that no other agent has, and one to eight
-- planned groups
abbrev pub is_seated : Rows → AgentRecord → Bool
is_seated s a =
    (if is_null a.state then is_none a.station && is_empty a.groups && is_none a.pending
    else is_station_there s a.station && are_planned_groups s a.groups)
    && is_alone_at s a.station

unfoldable pub keeps_agent : Rows → Bool
keeps_agent s = list_all (is_seated s) s.agents

-- a monitor's device is planned, and its identifier and event aren't above the last
unfoldable pub keeps_monitor : Rows → Bool
keeps_monitor s = list_all (λ (w : MonitorRecord). is_planned s w.device && nat_le w.monitor s.last_monitor && nat_le w.after_event s.last_event) s.monitors
