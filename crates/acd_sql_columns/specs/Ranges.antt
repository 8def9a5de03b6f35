-- The records of rows whose values are all in their ranges, column by column. A row of another width represents none.
use Rattle.std.specs.Prelude.{ℕ, ◌==◌, length, ◌&&◌, Option, None, Some, option_map, if◌then◌else◌}
use Rattle.std.specs.Str.{bytes_eq}
use Rattle.sqlite_value.specs.Order.{Row}
use Rattle.acd_terms.specs.declared.command.Request.{Request}
use Rattle.acd_terms.specs.declared.event.Event.{Event}
use Rattle.acd_terms.specs.declared.record.StationRecord.{StationRecord}
use Rattle.acd_terms.specs.declared.record.CallRecord.{CallRecord}
use Rattle.acd_terms.specs.declared.record.ConnectionRecord.{ConnectionRecord}
use Rattle.acd_terms.specs.declared.record.MonitorRecord.{MonitorRecord}
use Rattle.acd_codec.specs.KeptTexts.{request_of_text}
use Rattle.acd_book.specs.declared.kept.Kept.{Kept}
use Rattle.acd_sql_columns.specs.declared.relations.GroupRow.{GroupRow}
use Rattle.acd_sql_columns.specs.declared.relations.AgentRow.{AgentRow}
use Rattle.acd_sql_columns.specs.declared.relations.GroupPriority.{GroupPriority}
use Rattle.acd_sql_columns.specs.declared.meta.Meta.{Meta}
use Rattle.acd_sql_columns.specs.declared.decode.EventValues.{EventValues}
use Rattle.acd_sql_columns.specs.declared.decode.KeptHead.{KeptHead}
use Rattle.acd_sql_columns.specs.Fields.{read_whole}
use Rattle.acd_sql_columns.specs.Reports.{report_in}
use Rattle.acd_sql_columns.specs.Rows.{group_fields, group_made, priority_fields, priority_made, further_fields, further_made, station_fields, station_made, agent_fields, agent_made, call_fields, call_made, connection_fields, connection_made, monitor_fields, monitor_made, meta_fields, meta_made, event_fields, event_made}
use Rattle.acd_sql_columns.specs.Values.{◌>>=◌, text_at, whole_at, stamp_at, moment_at, status_at, body_at}

abbrev pub group_of_row : Row → Option GroupRow
group_of_row r = read_whole group_fields group_made r

abbrev pub priority_of_row : Row → Option GroupPriority
priority_of_row r = read_whole priority_fields priority_made r

-- an agent and a group after its first
abbrev pub further_of_row : Row → Option (ℕ × ℕ)
further_of_row r = read_whole further_fields further_made r

abbrev pub station_of_row : Row → Option StationRecord
station_of_row r = read_whole station_fields station_made r

abbrev pub agent_of_row : Row → Option AgentRow
agent_of_row r = read_whole agent_fields agent_made r

abbrev pub call_in : Row → Option CallRecord
call_in r = read_whole call_fields call_made r

abbrev pub connection_of_row : Row → Option ConnectionRecord
connection_of_row r = read_whole connection_fields connection_made r

abbrev pub monitor_of_row : Row → Option MonitorRecord
monitor_of_row r = read_whole monitor_fields monitor_made r

-- the limits and the counters as they are read, without key and version
abbrev pub counters_in : Row → Option Meta
counters_in r = read_whole meta_fields meta_made r

-- the event that has these values, if there is one
abbrev pub event_from : EventValues → Option Event
event_from v = do
  report ← report_in v.columns
  Some (record { number = v.number; moment = v.moment; report = report })

unfoldable pub event_in : Row → Option Event
event_in r = read_whole event_fields event_made r >>= event_from

abbrev pub event_number : Row → Option ℕ
event_number r = option_map (λ (e : Event). e.number) (event_in r)

-- the request whose one text this is, where the key is that of its columns
unfoldable pub request_at : Row → Option Request
request_at r = do
  requester ← text_at r 1
  invoke ← whole_at r 2
  text ← text_at r 4
  request ← request_of_text text
  if bytes_eq requester request.requester && invoke == request.invoke then Some request else None

-- the kept record of the row that has these values before its body, if the body is a text
abbrev pub kept_from : Row → KeptHead → Option Kept
kept_from r head = do
  body ← body_at r 6
  Some (record { stamp = head.stamp; moment = head.moment; request = head.request; status = head.status; body = body })

unfoldable pub kept_in : Row → Option Kept
kept_in r = if length r == 7 then (do
  stamp ← stamp_at r 0
  moment ← moment_at r 3
  request ← request_at r
  status ← status_at r 5
  kept_from r (record { stamp = stamp; moment = moment; request = request; status = status })) else None

abbrev pub kept_stamp : Row → Option ℕ
kept_stamp r = option_map (λ (k : Kept). k.stamp) (kept_in r)
