-- The fields of the records, and the rows that represent them. A row has its number first, and then its columns; the column that is the number is NULL there.
use Rattle.std.specs.Prelude.{◌≡◌, ℕ, ℤ, List, [], ◌∷◌, Ok, codes}
use Rattle.sqlite_value.specs.declared.value.Value.TheVariants.{Null, Int, Text}
use Rattle.sqlite_value.specs.Order.{Row}
use Rattle.acd_terms.specs.Columns.{columns_of}
use Rattle.acd_terms.specs.declared.event.Event.{Event}
use Rattle.acd_terms.specs.declared.record.StationRecord.{StationRecord}
use Rattle.acd_terms.specs.declared.record.CallRecord.{CallRecord}
use Rattle.acd_terms.specs.declared.record.ConnectionRecord.{ConnectionRecord}
use Rattle.acd_terms.specs.declared.record.MonitorRecord.{MonitorRecord}
use Rattle.acd_codec.specs.RequestReading.{reads_as}
use Rattle.acd_codec.specs.RequestTexts.{request_text}
use Rattle.acd_book.specs.declared.kept.Kept.{Kept}
use Rattle.acd_sql_columns.specs.declared.relations.GroupRow.{GroupRow}
use Rattle.acd_sql_columns.specs.declared.relations.AgentRow.{AgentRow}
use Rattle.acd_sql_columns.specs.declared.relations.GroupPriority.{GroupPriority}
use Rattle.acd_sql_columns.specs.declared.decode.EventValues.{EventValues}
use Rattle.acd_sql_columns.specs.declared.meta.Meta.{Meta}
use Rattle.acd_sql_columns.specs.Fields.{Field, Makes, field_named, may_have, written_row}
use Rattle.acd_sql_columns.specs.Sorts.{whole, serial, stamp, moment, seconds, priority, device, agent, name, agent_state, pending, kind, cause, connection_state}
use Rattle.acd_sql_columns.specs.Values.{id_value}

-- ---- the fields of each record, in the order of their columns with the names of these, and what makes it of them

abbrev pub group_fields : List (Field GroupRow)
group_fields =
    field_named (codes "device") device (λ g. g.device) ∷ field_named (codes "name") name (λ g. g.name) ∷ field_named (codes "ring") seconds (λ g. g.ring)
    ∷ field_named (codes "wrap") seconds (λ g. g.wrap) ∷ field_named (codes "entered") whole (λ g. g.figures.entered) ∷ field_named (codes "answered") whole (λ g. g.figures.answered)
    ∷ field_named (codes "abandoned") whole (λ g. g.figures.abandoned) ∷ field_named (codes "moved") whole (λ g. g.figures.moved)
    ∷ field_named (codes "waited") whole (λ g. g.figures.waited) ∷ []

abbrev pub group_made : Makes GroupRow group_fields
group_made = λ device name ring wrap entered answered abandoned moved waited. record {
  device = device;
  name = name;
  ring = ring;
  wrap = wrap;
  figures = record { entered = entered; answered = answered; abandoned = abandoned; moved = moved; waited = waited };
}

abbrev pub priority_fields : List (Field GroupPriority)
priority_fields =
    field_named (codes "device") device (λ p. p.device) ∷ field_named (codes "priority") priority (λ p. p.priority) ∷ []

abbrev pub priority_made : Makes GroupPriority priority_fields
priority_made = λ device priority. record { device = device; priority = priority }

-- an agent and a group after its first
abbrev pub further_fields : List (Field (ℕ × ℕ))
further_fields =
    field_named (codes "agent") agent (λ p. p.0) ∷ field_named (codes "grp") device (λ p. p.1) ∷ []

abbrev pub further_made : Makes (ℕ × ℕ) further_fields
further_made = λ agent group. (agent, group)

abbrev pub station_fields : List (Field StationRecord)
station_fields = field_named (codes "device") device (λ s. s.device) ∷ []

abbrev pub station_made : Makes StationRecord station_fields
station_made = λ device. record { device = device }

abbrev pub agent_fields : List (Field AgentRow)
agent_fields =
    field_named (codes "agent") agent (λ a. a.agent) ∷ field_named (codes "name") name (λ a. a.name) ∷ field_named (codes "state") agent_state (λ a. a.state)
    ∷ may_have (codes "pending") pending (λ a. a.pending) ∷ may_have (codes "station") device (λ a. a.station) ∷ may_have (codes "grp") device (λ a. a.group)
    ∷ field_named (codes "stamp") stamp (λ a. a.stamp) ∷ field_named (codes "since") moment (λ a. a.since) ∷ []

abbrev pub agent_made : Makes AgentRow agent_fields
agent_made = λ agent name state pending station group stamp since. record {
  agent = agent;
  name = name;
  state = state;
  pending = pending;
  station = station;
  group = group;
  stamp = stamp;
  since = since;
}

abbrev pub call_fields : List (Field CallRecord)
call_fields =
    field_named (codes "call") serial (λ k. k.call) ∷ field_named (codes "caller") device (λ k. k.caller) ∷ field_named (codes "called") device (λ k. k.called)
    ∷ field_named (codes "since") moment (λ k. k.since) ∷ []

abbrev pub call_made : Makes CallRecord call_fields
call_made = λ call caller called since. record { call = call; caller = caller; called = called; since = since }

abbrev pub connection_fields : List (Field ConnectionRecord)
connection_fields =
    field_named (codes "call") serial (λ x. x.call) ∷ field_named (codes "device") device (λ x. x.device) ∷ field_named (codes "state") connection_state (λ x. x.state)
    ∷ may_have (codes "grp") device (λ x. x.group) ∷ may_have (codes "place") stamp (λ x. x.place) ∷ may_have (codes "queued") moment (λ x. x.queued)
    ∷ may_have (codes "offered") moment (λ x. x.offered) ∷ []

abbrev pub connection_made : Makes ConnectionRecord connection_fields
connection_made = λ call device state group place queued offered. record {
  call = call;
  device = device;
  state = state;
  group = group;
  place = place;
  queued = queued;
  offered = offered;
}

abbrev pub monitor_fields : List (Field MonitorRecord)
monitor_fields =
    field_named (codes "monitor") serial (λ w. w.monitor) ∷ field_named (codes "device") device (λ w. w.device) ∷ field_named (codes "after_event") whole (λ w. w.after_event) ∷ []

abbrev pub monitor_made : Makes MonitorRecord monitor_fields
monitor_made = λ monitor device after_event. record { monitor = monitor; device = device; after_event = after_event }

-- the limits and the counters, after the key and the version
abbrev pub meta_fields : List (Field Meta)
meta_fields =
    field_named (codes "max_requests") whole (λ m. m.limits.requests) ∷ field_named (codes "max_calls") whole (λ m. m.limits.calls)
    ∷ field_named (codes "max_groups") whole (λ m. m.limits.groups) ∷ field_named (codes "max_stations") whole (λ m. m.limits.stations)
    ∷ field_named (codes "max_agents") whole (λ m. m.limits.agents) ∷ field_named (codes "max_monitors") whole (λ m. m.limits.monitors)
    ∷ field_named (codes "last_stamp") whole (λ m. m.last_stamp) ∷ field_named (codes "last_moment") moment (λ m. m.last_moment) ∷ field_named (codes "last_call") whole (λ m. m.last_call)
    ∷ field_named (codes "last_monitor") whole (λ m. m.last_monitor) ∷ field_named (codes "last_event") whole (λ m. m.last_event) ∷ []

abbrev pub meta_made : Makes Meta meta_fields
meta_made = λ requests calls groups stations agents monitors last_stamp last_moment last_call last_monitor last_event. record {
  limits = record { requests = requests; calls = calls; groups = groups; stations = stations; agents = agents; monitors = monitors };
  last_stamp = last_stamp;
  last_moment = last_moment;
  last_call = last_call;
  last_monitor = last_monitor;
  last_event = last_event;
}

-- of an event its number, its moment and the columns of its report
abbrev pub event_fields : List (Field EventValues)
event_fields =
    field_named (codes "number") stamp (λ v. v.number) ∷ field_named (codes "moment") moment (λ v. v.moment) ∷ field_named (codes "kind") kind (λ v. v.columns.kind)
    ∷ may_have (codes "device") device (λ v. v.columns.device) ∷ may_have (codes "call") serial (λ v. v.columns.call)
    ∷ may_have (codes "agent") agent (λ v. v.columns.agent) ∷ may_have (codes "grp") device (λ v. v.columns.group)
    ∷ may_have (codes "target") device (λ v. v.columns.to) ∷ may_have (codes "cause") cause (λ v. v.columns.cause)
    ∷ may_have (codes "waited") moment (λ v. v.columns.waited) ∷ []

abbrev pub event_made : Makes EventValues event_fields
event_made = λ number moment kind device call agent group to cause waited. record {
  number = number;
  moment = moment;
  columns = record { kind = kind; device = device; call = call; agent = agent; group = group; to = to; cause = cause; waited = waited };
}

abbrev pub values_of_event : Event → EventValues
values_of_event e = record { number = e.number; moment = e.moment; columns = columns_of e.report }

-- ---- the values of the columns, which are the parameters of the statement that puts the record

abbrev pub version : ℕ
version = 2

-- the limits and the counters as they are read
abbrev pub meta_shown : Meta → Row
meta_shown m = written_row meta_fields m

abbrev pub meta_values_as : ℕ → Meta → Row
meta_values_as v m = id_value 1 ∷ id_value v ∷ meta_shown m

abbrev pub meta_values : Meta → Row
meta_values m = meta_values_as version m

abbrev pub group_values : GroupRow → Row
group_values g = written_row group_fields g

abbrev pub station_values : StationRecord → Row
station_values s = written_row station_fields s

abbrev pub agent_values : AgentRow → Row
agent_values a = written_row agent_fields a

abbrev pub call_values : CallRecord → Row
call_values c = written_row call_fields c

abbrev pub connection_values : ConnectionRecord → Row
connection_values x = written_row connection_fields x

abbrev pub monitor_values : MonitorRecord → Row
monitor_values w = written_row monitor_fields w

abbrev pub event_values : Event → Row
event_values e = written_row event_fields (values_of_event e)

abbrev pub kept_values : Kept → Row
kept_values k =
    id_value k.stamp ∷ Text k.request.requester ∷ id_value k.request.invoke ∷ id_value k.moment ∷ Text (request_text k.request)
    ∷ id_value k.status ∷ Text k.body ∷ []

-- an agent and a further group
abbrev pub further_values : ℕ × ℕ → Row
further_values p = written_row further_fields p

abbrev pub priority_values : GroupPriority → Row
priority_values p = written_row priority_fields p

-- ---- the rows: the column that is the number of the row is NULL

abbrev pub keyed_row : Row → Row
keyed_row [] = []
keyed_row (key ∷ values) = key ∷ Null ∷ values

-- of a version
abbrev pub meta_row_as : ℕ → Meta → Row
meta_row_as v m = keyed_row (meta_values_as v m)

abbrev pub meta_row : Meta → Row
meta_row m = meta_row_as version m

abbrev pub group_row : GroupRow → Row
group_row g = keyed_row (group_values g)

abbrev pub station_row : StationRecord → Row
station_row s = keyed_row (station_values s)

abbrev pub agent_row : AgentRow → Row
agent_row a = keyed_row (agent_values a)

abbrev pub call_row : CallRecord → Row
call_row c = keyed_row (call_values c)

-- a connection's row has a separate rowid
abbrev pub connection_row : ℤ → ConnectionRecord → Row
connection_row id x = Int id ∷ connection_values x

abbrev pub monitor_row : MonitorRecord → Row
monitor_row w = keyed_row (monitor_values w)

abbrev pub event_row : Event → Row
event_row e = keyed_row (event_values e)

abbrev pub kept_row : Kept → Row
kept_row k = keyed_row (kept_values k)

-- of an agent and a further group; it has a separate rowid
abbrev pub further_row : ℤ → ℕ × ℕ → Row
further_row id p = Int id ∷ further_values p

abbrev pub priority_row : GroupPriority → Row
priority_row p = keyed_row (priority_values p)

-- the text under which a request is kept reads as the request
abbrev pub IsReadable : Kept → Type 0
IsReadable k = reads_as (request_text k.request) ≡ Ok k.request
