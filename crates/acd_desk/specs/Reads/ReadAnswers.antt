-- The reads of a desk as functions of its content: a text, or none where there is no such thing.
use Rattle.std.specs.Prelude.{◌≡◌, ℕ, List, [], ◌∷◌, ◌++◌, length, map, filter, max, nat_lt, Bool, true, false, Option, Some, None, is_some, option_map, String, string_bytes, if◌then◌else◌}
use Rattle.std.specs.declared.cmp.Ordering.{Ordering}
use Rattle.acd_terms.specs.Lists.{put_by}
use Rattle.acd_terms.specs.Numbers.{Device, Agent, CallId, MonitorId, Moment, Stamp, EventNumber}
use Rattle.acd_terms.specs.declared.rows.Rows.{Rows}
use Rattle.acd_terms.specs.declared.record.GroupRecord.{GroupRecord}
use Rattle.acd_terms.specs.declared.record.StationRecord.{StationRecord}
use Rattle.acd_terms.specs.declared.record.AgentRecord.{AgentRecord}
use Rattle.acd_terms.specs.declared.record.CallRecord.{CallRecord}
use Rattle.acd_terms.specs.declared.record.ConnectionRecord.{ConnectionRecord}
use Rattle.acd_terms.specs.declared.event.Event.{Event}
use Rattle.std.specs.List.{filter_map}
use Rattle.acd_model.specs.Scans.{group_of, agent_of, call_of, connection_of, monitor_of, is_group, is_station, agent_at, connections_of, waiting_in, eligible_in}
use Rattle.acd_model.specs.Choice.{waiting_pair, ready_pair}
use Rattle.acd_tables.specs.IndexedRows.{pair_cmp}
use Rattle.acd_tables.specs.AtDevice.{connections_at}
use Rattle.acd_codec.specs.ReadTexts.{agent_text, call_text, device_text, queue_text}
use Rattle.acd_codec.specs.SnapshotTexts.{snapshot_text}
use Rattle.acd_codec.specs.EventTexts.{page_text}
use Rattle.acd_codec.specs.declared.read_texts.PlannedStation.{PlannedStation}
use Rattle.acd_codec.specs.declared.read_texts.PlannedDevice.{PlannedDevice}
use Rattle.acd_codec.specs.declared.read_texts.PlannedDevice.TheVariants as planned
use Rattle.acd_codec.specs.declared.snapshots.LiveCall.{LiveCall}
use Rattle.acd_codec.specs.declared.snapshots.Snapshot.{Snapshot}
use Rattle.acd_reports.specs.QueueReport.{queue_report}
use Rattle.acd_reports.specs.Export.{events_csv, records_text}
use Rattle.acd_book.specs.declared.kept.Kept.{Kept}
use Rattle.acd_book.specs.Content.{Content, events_after, records_after, events_of_monitor}
use Rattle.acd_book.specs.Memory.{number_of_event}
use Rattle.acd_book.specs.Order.{Rises}
use Rattle.acd_desk.specs.Contents.SoundContent.{IsSound}
use Rattle.acd_desk.specs.Reads.RequestPages.{requests_text}
use Rattle.acd_desk.specs.declared.question.Question.{Question}
use Rattle.acd_desk.specs.declared.question.Question.TheVariants as ask

-- the characters of a text that was read, if one was
abbrev pub text_read : {Z : Type 0} → Option (String Z) → Option (List ℕ)
text_read text = option_map string_bytes text

-- the records in ascending key; no two of them have the same
abbrev pub in_order : {T : Type 0} → (T → T → Ordering) → List T → List T
in_order cmp [] = []
in_order cmp (x ∷ xs) = put_by (cmp x) (in_order cmp xs) x

-- an agent
abbrev pub agent_read : Rows → Agent → Option (List ℕ)
agent_read s agent = option_map agent_text (agent_of s agent)

-- a live call, its connections in ascending device
abbrev pub call_read : Rows → CallId → Option (List ℕ)
call_read s call = option_map (λ (r : CallRecord). call_text r (connections_of s call)) (call_of s call)

-- a station with the agent who is logged on there, and its connections in ascending call
abbrev pub station_at : Rows → Device → PlannedStation
station_at s station = record { device = station; agent = option_map (λ (a : AgentRecord). a.agent) (agent_at s station); connections = connections_at s station }

abbrev pub or_group : Option GroupRecord → Option PlannedDevice → Option PlannedDevice
or_group (Some g) station = Some (planned.Group g)
or_group None station = station

-- a planned device
abbrev pub planned_at : Rows → Device → Option PlannedDevice
planned_at s device = or_group (group_of s device) (if is_station s device then Some (planned.Station (station_at s device)) else None)

abbrev pub device_read : Rows → Device → Option (List ℕ)
device_read s device = option_map device_text (planned_at s device)

-- those who wait in a group, by their places
abbrev pub by_place : ConnectionRecord → ConnectionRecord → Ordering
by_place x y = pair_cmp (waiting_pair x) (waiting_pair y)

unfoldable pub queue_in : Rows → Device → List ConnectionRecord
queue_in s group = in_order by_place (waiting_in s group)

-- the connections in a group of these calls, each by its place and its number
abbrev pub connections_of_device : Rows → Device → List (Stamp × CallId) → List ConnectionRecord
connections_of_device s group places = filter_map (λ (p : Stamp × CallId). connection_of s p.1 group) places

-- its eligible agents, by stamp and then by number
abbrev pub by_ready_pair : AgentRecord → AgentRecord → Ordering
by_ready_pair x y = pair_cmp (ready_pair x) (ready_pair y)

unfoldable pub ready_in : Rows → Device → List Agent
ready_in s group = map (λ (a : AgentRecord). a.agent) (in_order by_ready_pair (eligible_in s group))

-- the queue of a planned group
abbrev pub queue_read : Rows → Device → Option (List ℕ)
queue_read s group = if is_group s group then Some (queue_text group (queue_in s group) (ready_in s group)) else None

-- the queue report at the moment, or at the last executed one where that is later
abbrev pub report_read : Rows → Moment → Option (List ℕ)
report_read s moment = Some (queue_report s (max moment s.last_moment))

-- a live call with its connections in ascending device
abbrev pub live_call : Rows → CallRecord → LiveCall
live_call s r = record { call = r; connections = connections_of s r.call }

-- all records of one state, each list in ascending number, with its last event and its last moment
unfoldable pub snapshot_of : Rows → Snapshot
snapshot_of s = record {
  agents = s.agents;
  calls = map (live_call s) s.calls;
  groups = s.groups;
  last = s.last_event;
  moment = s.last_moment;
  monitors = s.monitors;
  stations = map (λ (t : StationRecord). station_at s t.device) s.stations;
}

abbrev pub snapshot_read : Rows → Option (List ℕ)
snapshot_read s = Some (snapshot_text (snapshot_of s))

-- a page of events has at most so many
abbrev pub page_size : ℕ
page_size = 100

-- and so many, for those who follow a desk from a long way back
abbrev pub history_size : ℕ
history_size = 1000

-- the first events above a number, so many at most, beside the number of the last one
abbrev pub page_read : Content → EventNumber → ℕ → Option (List ℕ)
page_read c after size = Some (page_text (events_after c.events after size) c.rows.last_event)

abbrev pub events_read : Content → EventNumber → Option (List ℕ)
events_read c after = page_read c after page_size

abbrev pub history_read : Content → EventNumber → Option (List ℕ)
history_read c after = page_read c after history_size

-- the same of a running monitor: the events at its device since it was started
abbrev pub monitor_read : Content → MonitorId → EventNumber → Option (List ℕ)
monitor_read c monitor after =
    if is_some (monitor_of c.rows monitor) then Some (page_text (events_of_monitor c monitor after page_size) c.rows.last_event) else None

-- a page of executed requests has at most so many
abbrev pub requests_size : ℕ
requests_size = 1000

-- the first executed requests above a stamp
abbrev pub requests_page : Content → ℕ → List Kept
requests_page c after = records_after c.kept after requests_size

-- these, beside the stamp of the last one of all
abbrev pub requests_read : Content → ℕ → Option (List ℕ)
requests_read c after = Some (requests_text (requests_page c after) c.rows.last_stamp)

-- the answer of a content to a question at a moment, if there is one
abbrev pub question_read : Content → ℕ → Question → Option (List ℕ)
question_read c moment (ask.Agent agent) = agent_read c.rows agent
question_read c moment (ask.Call call) = call_read c.rows call
question_read c moment (ask.Device device) = device_read c.rows device
question_read c moment (ask.Queue group) = queue_read c.rows group
question_read c moment (ask.Events after) = events_read c after
question_read c moment (ask.History after) = history_read c after
question_read c moment (ask.MonitorEvents monitor after) = monitor_read c monitor after
question_read c moment (ask.Requests after) = requests_read c after
question_read c moment ask.Report = report_read c.rows moment
question_read c moment ask.Snapshot = snapshot_read c.rows

-- the report alone is plain text
abbrev pub is_plain : Question → Bool
is_plain (ask.Agent agent) = false
is_plain (ask.Call call) = false
is_plain (ask.Device device) = false
is_plain (ask.Queue group) = false
is_plain (ask.Events after) = false
is_plain (ask.History after) = false
is_plain (ask.MonitorEvents monitor after) = false
is_plain (ask.Requests after) = false
is_plain ask.Report = true
is_plain ask.Snapshot = false

-- the number of the last event, where the monitor is running
abbrev pub last_event_for : MonitorId → Content → Option EventNumber
last_event_for monitor c = if is_some (monitor_of c.rows monitor) then Some c.rows.last_event else None

-- the number of the kept records of a sound content
abbrev pub CountsKept : Content → ℕ → Type 0
CountsKept c count = IsSound c → count ≡ length c.kept

-- all events in CSV
abbrev pub export_read : Content → Option (List ℕ)
export_read c = Some (events_csv c.events)

-- the events are in ascending number, each above the last number
abbrev pub Rise : EventNumber → List Event → Type 0
Rise last events = Rises number_of_event last events

-- those above a number
abbrev pub above : List Event → EventNumber → List Event
above events number = filter (λ (e : Event). nat_lt number e.number) events

-- the records that an export still has to write, above the last one that it wrote
abbrev pub records_left : List Event → Option EventNumber → List ℕ
records_left events None = []
records_left events (Some last) = records_text (above events last)

-- a page is written: with the records above its last one the text is as before, followed by all records above the number
abbrev pub WritesPage : {Z : Type 0} → String Z → String Z → EventNumber → Content → Option EventNumber → Type 0
WritesPage old new after c last =
    Rise 0 c.events → string_bytes new ++ records_left c.events last ≡ string_bytes old ++ records_text (above c.events after)

-- the text is the export of all events, where they stand in ascending number
abbrev pub IsExport : {Z : Type 0} → Content → Option (String Z) → Type 0
IsExport c text = Rise 0 c.events → text_read text ≡ export_read c
