-- The texts of agents, calls, devices and queues. The members of each object are in the order of their names.
use Rattle.std.specs.Prelude.{ℕ, nat_lt, List, [], ◌∷◌, ◌++◌, codes, Option, Some, None, option_map, if◌then◌else◌}
use Rattle.serde_json.specs.Data.{Data, string}
use Rattle.serde_json.specs.Written.{compact_text}
use Rattle.acd_terms.specs.States.{is_distributed, agent_state_name, pending_name}
use Rattle.acd_terms.specs.declared.record.AgentRecord.{AgentRecord}
use Rattle.acd_terms.specs.declared.record.CallRecord.{CallRecord}
use Rattle.acd_terms.specs.declared.record.ConnectionRecord.{ConnectionRecord}
use Rattle.acd_terms.specs.declared.record.GroupRecord.{GroupRecord}
use Rattle.acd_terms.specs.declared.state.ConnectionState.{ConnectionState}
use Rattle.acd_terms.specs.declared.state.ConnectionState.TheVariants.{Initiated, Alerting, Connected, Hold, Queued, Fail}
use Rattle.acd_codec.specs.declared.read_texts.Extent.{Extent}
use Rattle.acd_codec.specs.declared.read_texts.Extent.TheVariants.{Brief, All}
use Rattle.acd_codec.specs.declared.read_texts.PlannedDevice.{PlannedDevice}
use Rattle.acd_codec.specs.declared.read_texts.PlannedDevice.TheVariants.{Group, Station}
use Rattle.acd_codec.specs.declared.read_texts.PlannedStation.{PlannedStation}
use Rattle.acd_codec.specs.Parts.{Part, text_part, number_part, list_part, digits_part, groups_parts, object_of, items_of, digits_data}

abbrev pub connection_state_name : ConnectionState → List ℕ
connection_state_name Initiated = codes "initiated"
connection_state_name Alerting = codes "alerting"
connection_state_name Connected = codes "connected"
connection_state_name Hold = codes "hold"
connection_state_name Queued = codes "queued"
connection_state_name Fail = codes "fail"

-- a number that a snapshot contains, and the read of a single record doesn't
abbrev pub in_full : Extent → Option ℕ → Option ℕ
in_full Brief n = None
in_full All n = n

abbrev pub agent_parts : Extent → AgentRecord → List Part
agent_parts extent a =
    digits_part (codes "agent") (Some a.agent)
    ∷ digits_part (codes "device") a.station
    ∷ (groups_parts a.groups
    ++ text_part (codes "name") (Some a.name)
    ∷ text_part (codes "pending") (option_map pending_name a.pending)
    ∷ number_part (codes "since") (Some a.since)
    ∷ number_part (codes "stamp") (in_full extent (Some a.stamp))
    ∷ text_part (codes "state") (Some (agent_state_name a.state)) ∷ [])

-- an agent, with the station and the groups where it is logged on
unfoldable pub agent_text : AgentRecord → List ℕ
agent_text a = compact_text (object_of (agent_parts Brief a))

-- the group from which the connection was distributed
unfoldable pub distributed_from : ConnectionRecord → Option ℕ
distributed_from c = if is_distributed c then c.group else None

-- a connection, within its call
abbrev pub party_parts : Extent → ConnectionRecord → List Part
party_parts extent c =
    digits_part (codes "device") (Some c.device)
    ∷ digits_part (codes "group") (distributed_from c)
    ∷ number_part (codes "offered") (in_full extent c.offered)
    ∷ number_part (codes "place") (in_full extent c.place)
    ∷ number_part (codes "queued") (in_full extent c.queued)
    ∷ text_part (codes "state") (Some (connection_state_name c.state)) ∷ []

abbrev pub party_data : Extent → ConnectionRecord → Data
party_data extent c = object_of (party_parts extent c)

-- the connections of a call
abbrev pub parties_part : Extent → List ConnectionRecord → Part
parties_part extent cs = list_part (codes "connections") (items_of (party_data extent) cs)

abbrev pub call_parts : Extent → CallRecord → List ConnectionRecord → List Part
call_parts extent r cs =
    number_part (codes "call") (Some r.call)
    ∷ digits_part (codes "called") (Some r.called)
    ∷ digits_part (codes "caller") (Some r.caller)
    ∷ parties_part extent cs
    ∷ number_part (codes "since") (Some r.since) ∷ []

-- a call and its connections
unfoldable pub call_text : CallRecord → List ConnectionRecord → List ℕ
call_text r cs = compact_text (object_of (call_parts Brief r cs))

-- a priority, where it isn't the lowest
unfoldable pub above_0 : ℕ → Option ℕ
above_0 priority = if nat_lt 0 priority then Some priority else None

-- the members of a group up to what it is
abbrev pub group_parts_first : Extent → GroupRecord → List Part
group_parts_first extent g =
    number_part (codes "abandoned") (in_full extent (Some g.figures.abandoned))
    ∷ number_part (codes "answered") (in_full extent (Some g.figures.answered))
    ∷ digits_part (codes "device") (Some g.device)
    ∷ number_part (codes "entered") (in_full extent (Some g.figures.entered))
    ∷ text_part (codes "kind") (Some (codes "group")) ∷ []

-- the members whose names follow
abbrev pub group_parts_last : Extent → GroupRecord → List Part
group_parts_last extent g =
    number_part (codes "moved") (in_full extent (Some g.figures.moved))
    ∷ text_part (codes "name") (Some g.name)
    ∷ number_part (codes "priority") (above_0 g.priority)
    ∷ number_part (codes "ring") (Some g.ring)
    ∷ number_part (codes "waited") (in_full extent (Some g.figures.waited))
    ∷ number_part (codes "wrap") (Some g.wrap) ∷ []

abbrev pub group_parts : Extent → GroupRecord → List Part
group_parts extent g = group_parts_first extent g ++ group_parts_last extent g

-- a device that is a group
unfoldable pub group_text : GroupRecord → List ℕ
group_text g = compact_text (object_of (group_parts Brief g))

-- a connection, at its device
abbrev pub line_parts : ConnectionRecord → List Part
line_parts c = number_part (codes "call") (Some c.call) ∷ text_part (codes "state") (Some (connection_state_name c.state)) ∷ []

abbrev pub line_data : ConnectionRecord → Data
line_data c = object_of (line_parts c)

abbrev pub station_parts : PlannedStation → List Part
station_parts s =
    digits_part (codes "agent") s.agent
    ∷ list_part (codes "connections") (items_of line_data s.connections)
    ∷ digits_part (codes "device") (Some s.device)
    ∷ text_part (codes "kind") (Some (codes "station")) ∷ []

-- a device that is a station
unfoldable pub station_text : PlannedStation → List ℕ
station_text s = compact_text (object_of (station_parts s))

-- a planned device
unfoldable pub device_text : PlannedDevice → List ℕ
device_text (Group g) = group_text g
device_text (Station s) = station_text s

-- a connection that waits: its place in the queue, and since when it waits there
abbrev pub waiting_parts : ConnectionRecord → List Part
waiting_parts c = number_part (codes "call") (Some c.call) ∷ number_part (codes "place") c.place ∷ number_part (codes "since") c.queued ∷ []

abbrev pub waiting_data : ConnectionRecord → Data
waiting_data c = object_of (waiting_parts c)

abbrev pub queue_parts : ℕ → List ConnectionRecord → List ℕ → List Part
queue_parts group waiting ready =
    list_part (codes "calls") (items_of waiting_data waiting)
    ∷ digits_part (codes "group") (Some group)
    ∷ list_part (codes "ready") (items_of digits_data ready) ∷ []

-- a group, the connections that wait there and the agents who may be offered a call, as they are given
unfoldable pub queue_text : ℕ → List ConnectionRecord → List ℕ → List ℕ
queue_text group waiting ready = compact_text (object_of (queue_parts group waiting ready))

-- a text that is no JSON, as JSON
unfoldable pub quoted : List ℕ → List ℕ
quoted text = compact_text (string text)
