-- The changes of one record, and of the counters.
use Rattle.std.specs.Prelude.{max}
use Rattle.acd_terms.specs.Lists.{put_by, remove_by}
use Rattle.acd_terms.specs.Numbers.{Device, CallId, MonitorId, Moment, Stamp, EventNumber}
use Rattle.acd_terms.specs.declared.rows.Rows.{Rows}
use Rattle.acd_terms.specs.declared.record.GroupRecord.{GroupRecord}
use Rattle.acd_terms.specs.declared.record.StationRecord.{StationRecord}
use Rattle.acd_terms.specs.declared.record.AgentRecord.{AgentRecord}
use Rattle.acd_terms.specs.declared.record.CallRecord.{CallRecord}
use Rattle.acd_terms.specs.declared.record.ConnectionRecord.{ConnectionRecord}
use Rattle.acd_terms.specs.declared.record.MonitorRecord.{MonitorRecord}
use Rattle.acd_model.specs.Scans.{at_group, at_station, at_agent, at_call, at_connection, at_monitor}

unfoldable pub with_group : Rows → GroupRecord → Rows
with_group s r = record s { groups = put_by (at_group r.device) s.groups r }

unfoldable pub with_station : Rows → StationRecord → Rows
with_station s r = record s { stations = put_by (at_station r.device) s.stations r }

unfoldable pub with_agent : Rows → AgentRecord → Rows
with_agent s r = record s { agents = put_by (at_agent r.agent) s.agents r }

-- the last call is raised to a greater one
unfoldable pub with_call : Rows → CallRecord → Rows
with_call s r = record s { calls = put_by (at_call r.call) s.calls r; last_call = max s.last_call r.call }

unfoldable pub with_connection : Rows → ConnectionRecord → Rows
with_connection s r = record s { connections = put_by (at_connection r.call r.device) s.connections r }

-- the last monitor is raised to a greater one
unfoldable pub with_monitor : Rows → MonitorRecord → Rows
with_monitor s r = record s { monitors = put_by (at_monitor r.monitor) s.monitors r; last_monitor = max s.last_monitor r.monitor }

unfoldable pub without_call : Rows → CallId → Rows
without_call s call = record s { calls = remove_by (at_call call) s.calls }

unfoldable pub without_connection : Rows → CallId → Device → Rows
without_connection s call device = record s { connections = remove_by (at_connection call device) s.connections }

unfoldable pub without_monitor : Rows → MonitorId → Rows
without_monitor s monitor = record s { monitors = remove_by (at_monitor monitor) s.monitors }

unfoldable pub with_last : Rows → Stamp → Moment → EventNumber → Rows
with_last s stamp moment event = record s { last_stamp = stamp; last_moment = moment; last_event = event }

unfoldable pub with_last_ids : Rows → CallId → MonitorId → Rows
with_last_ids s call monitor = record s { last_call = call; last_monitor = monitor }
