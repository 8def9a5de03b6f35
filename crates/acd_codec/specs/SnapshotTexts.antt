-- The text of a desk's whole content: its records in the words of their single reads, and more of them.
use Rattle.std.specs.Prelude.{ℕ, List, [], ◌∷◌, codes, Some}
use Rattle.serde_json.specs.Data.{Data}
use Rattle.serde_json.specs.Written.{compact_text}
use Rattle.acd_terms.specs.declared.record.AgentRecord.{AgentRecord}
use Rattle.acd_terms.specs.declared.record.GroupRecord.{GroupRecord}
use Rattle.acd_terms.specs.declared.record.MonitorRecord.{MonitorRecord}
use Rattle.acd_codec.specs.declared.read_texts.Extent.TheVariants.{All}
use Rattle.acd_codec.specs.declared.read_texts.PlannedStation.{PlannedStation}
use Rattle.acd_codec.specs.declared.snapshots.LiveCall.{LiveCall}
use Rattle.acd_codec.specs.declared.snapshots.Snapshot.{Snapshot}
use Rattle.acd_codec.specs.Parts.{Part, number_part, list_part, digits_part, object_of, items_of}
use Rattle.acd_codec.specs.ReadTexts.{agent_parts, call_parts, group_parts, station_parts}

abbrev pub agent_data : AgentRecord → Data
agent_data a = object_of (agent_parts All a)

abbrev pub call_data : LiveCall → Data
call_data c = object_of (call_parts All c.call c.connections)

abbrev pub group_data : GroupRecord → Data
group_data g = object_of (group_parts All g)

-- a monitor, with the last event before it was started
abbrev pub monitor_parts : MonitorRecord → List Part
monitor_parts m = number_part (codes "after") (Some m.after_event) ∷ digits_part (codes "device") (Some m.device) ∷ number_part (codes "monitor") (Some m.monitor) ∷ []

abbrev pub monitor_data : MonitorRecord → Data
monitor_data m = object_of (monitor_parts m)

abbrev pub station_data : PlannedStation → Data
station_data s = object_of (station_parts s)

-- the members in the order of their names, their lists as they are given
abbrev pub snapshot_parts : Snapshot → List Part
snapshot_parts s =
    list_part (codes "agents") (items_of agent_data s.agents)
    ∷ list_part (codes "calls") (items_of call_data s.calls)
    ∷ list_part (codes "groups") (items_of group_data s.groups)
    ∷ number_part (codes "last") (Some s.last)
    ∷ number_part (codes "moment") (Some s.moment)
    ∷ list_part (codes "monitors") (items_of monitor_data s.monitors)
    ∷ list_part (codes "stations") (items_of station_data s.stations) ∷ []

-- compact JSON
unfoldable pub snapshot_text : Snapshot → List ℕ
snapshot_text s = compact_text (object_of (snapshot_parts s))
