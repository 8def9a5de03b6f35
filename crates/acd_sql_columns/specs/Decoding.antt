-- The meaning of rows, whatever they hold: a value of another kind, and a code that nothing has, mean some fixed value.
use Rattle.std.specs.Prelude.{ℕ, [], Option, Some, None, Result, Ok, Err}
use Rattle.std.specs.Option.{unwrap_or}
use Rattle.sqlite_value.specs.Order.{Row, column}
use Rattle.acd_terms.specs.declared.command.Request.{Request}
use Rattle.acd_terms.specs.declared.command.Command.TheVariants.{Tick}
use Rattle.acd_terms.specs.declared.event.EventKind.{EventKind}
use Rattle.acd_terms.specs.declared.event.EventKind.TheVariants as kind
use Rattle.acd_terms.specs.declared.event.Cause.{Cause}
use Rattle.acd_terms.specs.declared.event.Cause.TheVariants as cause
use Rattle.acd_terms.specs.declared.event.Waited.{Waited}
use Rattle.acd_terms.specs.declared.event.Columns.{Columns}
use Rattle.acd_terms.specs.declared.event.Report.{Report}
use Rattle.acd_terms.specs.declared.event.Report.TheVariants as report
use Rattle.acd_terms.specs.declared.event.Event.{Event}
use Rattle.acd_terms.specs.declared.record.StationRecord.{StationRecord}
use Rattle.acd_terms.specs.declared.record.CallRecord.{CallRecord}
use Rattle.acd_terms.specs.declared.record.ConnectionRecord.{ConnectionRecord}
use Rattle.acd_terms.specs.declared.record.MonitorRecord.{MonitorRecord}
use Rattle.acd_codec.specs.declared.member.Member.{Member}
use Rattle.acd_codec.specs.RequestReading.{reads_as}
use Rattle.acd_book.specs.declared.kept.Kept.{Kept}
use Rattle.acd_sql_columns.specs.declared.relations.GroupRow.{GroupRow}
use Rattle.acd_sql_columns.specs.declared.relations.AgentRow.{AgentRow}
use Rattle.acd_sql_columns.specs.declared.relations.GroupPriority.{GroupPriority}
use Rattle.acd_sql_columns.specs.declared.decode.EventValues.{EventValues}
use Rattle.acd_sql_columns.specs.declared.meta.Meta.{Meta}
use Rattle.acd_sql_columns.specs.Fields.{shown_whole}
use Rattle.acd_sql_columns.specs.Rows.{group_fields, group_made, priority_fields, priority_made, further_fields, further_made, station_fields, station_made, agent_fields, agent_made, call_fields, call_made, connection_fields, connection_made, monitor_fields, monitor_made, meta_fields, meta_made, event_fields, event_made}
use Rattle.acd_sql_columns.specs.Values.{number_or_zero, text_or_empty}

-- ---- the values of the columns, in the order in which a statement puts them

abbrev pub as_group : Row → GroupRow
as_group r = shown_whole group_fields group_made r

abbrev pub as_priority : Row → GroupPriority
as_priority r = shown_whole priority_fields priority_made r

-- an agent and a group after its first
abbrev pub as_further : Row → ℕ × ℕ
as_further r = shown_whole further_fields further_made r

abbrev pub as_station : Row → StationRecord
as_station r = shown_whole station_fields station_made r

abbrev pub as_agent : Row → AgentRow
as_agent r = shown_whole agent_fields agent_made r

abbrev pub as_call : Row → CallRecord
as_call r = shown_whole call_fields call_made r

abbrev pub as_connection : Row → ConnectionRecord
as_connection r = shown_whole connection_fields connection_made r

abbrev pub as_monitor : Row → MonitorRecord
as_monitor r = shown_whole monitor_fields monitor_made r

-- the limits and the counters, without key and version
abbrev pub as_meta : Row → Meta
as_meta r = shown_whole meta_fields meta_made r

-- the group and the seconds, where both are there
abbrev pub waited_of : Option ℕ → Option ℕ → Option Waited
waited_of (Some group) (Some seconds) = Some (record { group = group; seconds = seconds })
waited_of _ _ = None

-- the report of this kind with the members that its columns hold, and 0 for one that is missing
abbrev pub report_at : EventKind → (call device agent to : ℕ) → Cause → Columns → Report
report_at kind.ServiceInitiated call device agent to why c = report.ServiceInitiated call device
report_at kind.Originated call device agent to why c = report.Originated call device to
report_at kind.Queued call device agent to why c = report.Queued call device why
report_at kind.Delivered call device agent to why c = report.Delivered call device why c.group
report_at kind.Diverted call device agent to why c = report.Diverted call device to why c.group
report_at kind.Established call device agent to why c = report.Established call device (waited_of c.group c.waited)
report_at kind.Held call device agent to why c = report.Held call device
report_at kind.Retrieved call device agent to why c = report.Retrieved call device
report_at kind.Transferred call device agent to why c = report.Transferred call device to
report_at kind.Failed call device agent to why c = report.Failed call device
report_at kind.ConnectionCleared call device agent to why c = report.ConnectionCleared call device
report_at kind.CallCleared call device agent to why c = report.CallCleared call c.group
report_at kind.AgentLoggedOn call device agent to why c = report.AgentLoggedOn agent device c.group
report_at kind.AgentLoggedOff call device agent to why c = report.AgentLoggedOff agent device
report_at kind.AgentNotReady call device agent to why c = report.AgentNotReady agent device
report_at kind.AgentReady call device agent to why c = report.AgentReady agent device
report_at kind.AgentBusy call device agent to why c = report.AgentBusy agent device
report_at kind.AgentWorkingAfterCall call device agent to why c = report.AgentWorkingAfterCall agent device

abbrev pub report_of : Columns → Report
report_of c = report_at c.kind (unwrap_or c.call 0) (unwrap_or c.device 0) (unwrap_or c.agent 0) (unwrap_or c.to 0) (unwrap_or c.cause cause.NewCall) c

abbrev pub event_shown : EventValues → Event
event_shown v = record { number = v.number; moment = v.moment; report = report_of v.columns }

abbrev pub as_event : Row → Event
as_event r = event_shown (shown_whole event_fields event_made r)

-- the request that was read, and some request where none was
abbrev pub as_request : Result Request Member → Request
as_request (Ok request) = request
as_request (Err member) = record { requester = []; invoke = 0; command = Tick }

-- the request is in its text
abbrev pub as_kept : Row → Kept
as_kept r = record {
  stamp = number_or_zero (column r 0);
  moment = number_or_zero (column r 3);
  request = as_request (reads_as (text_or_empty (column r 4)));
  status = number_or_zero (column r 5);
  body = text_or_empty (column r 6);
}
