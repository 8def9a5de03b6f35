-- The reports alone give a watcher the connections at planned devices, the agents and the order of each queue.
use Rattle.std.specs.Prelude.{◌≡◌, ◌↔◌, ◌<◌, Bool, true, false, not, ◌&&◌, ◌||◌, ◌==◌, List, Option, Some, None, option_map}
use Rattle.acd_terms.specs.Lists.{Among}
use Rattle.acd_terms.specs.States.{is_queued, is_alerting}
use Rattle.acd_terms.specs.Numbers.{Device, Agent, CallId, Stamp}
use Rattle.acd_terms.specs.declared.rows.Rows.{Rows}
use Rattle.acd_terms.specs.declared.record.AgentRecord.{AgentRecord}
use Rattle.acd_terms.specs.declared.record.CallRecord.{CallRecord}
use Rattle.acd_terms.specs.declared.record.ConnectionRecord.{ConnectionRecord}
use Rattle.acd_terms.specs.declared.state.ConnectionState.{ConnectionState}
use Rattle.acd_terms.specs.declared.event.Event.{Event}
use Rattle.acd_model.specs.Scans.{call_of, connection_of, agent_of, is_planned, has}
use Rattle.acd_model.specs.EventReports.{known_after, connection_reported, Seat, no_seat, seat_reported, enters, last_entry}

abbrev pub is_caller : Option CallRecord → Device → Bool
is_caller None device = false
is_caller (Some c) device = c.caller == device

-- the device is no planned one, and the caller of the live call
abbrev pub is_external_caller : Rows → CallId → Device → Bool
is_external_caller s call device = not (is_planned s device) && is_caller (call_of s call) device

-- the state of a connection, or none
abbrev pub state_at : Rows → CallId → Device → Option ConnectionState
state_at s call device = option_map (λ (x : ConnectionRecord). x.state) (connection_of s call device)

abbrev pub seat_of : Option AgentRecord → Seat
seat_of None = no_seat
seat_of (Some a) = record { state = a.state; station = a.station }

-- it waits in the group, or rings from it
abbrev pub waits_or_rings : Device → ConnectionRecord → Bool
waits_or_rings group x = (is_queued x.state && x.device == group) || (is_alerting x.state && has x.group group)

-- the call waits in the group or rings from it, at the place
pub record HasPlace (s : Rows) (group : Device) (call : CallId) (place : Stamp) : Type 0 where
  pub connection : ConnectionRecord
  pub there : Among connection s.connections
  pub of_group : waits_or_rings group connection ≡ true
  pub of_call : connection.call ≡ call
  pub at_place : connection.place ≡ Some place

-- an earlier place is an earlier entry, and an earlier entry an earlier place
abbrev pub InOrder : Rows → List Event → Type 0
InOrder s events = (group : Device) (c d : CallId) (p q : Stamp) → HasPlace s group c p → HasPlace s group d q → (p < q) ↔ (last_entry group c 0 events < last_entry group d 0 events)

-- an event reported that the call entered the group's queue, and it is the last that did
pub record HasEntered (events : List Event) (group : Device) (call : CallId) : Type 0 where
  pub entry : Event
  pub reported : Among entry events
  pub is_entry : enters group call entry ≡ true
  pub last : entry.number ≡ last_entry group call 0 events
  pub numbered : 0 < entry.number

-- each call that waits in a group or rings from it has entered there
abbrev pub EachHasEntered : Rows → List Event → Type 0
EachHasEntered s events = (group : Device) (x : ConnectionRecord) → Among x s.connections → waits_or_rings group x ≡ true → HasEntered events group x.call

pub record IsWatched (s : Rows) (events : List Event) : Type 0 where
  pub connections : (call : CallId) (device : Device) → is_external_caller s call device ≡ false → state_at s call device ≡ known_after (connection_reported call device) None events
  pub agents : (agent : Agent) → seat_of (agent_of s agent) ≡ known_after (seat_reported agent) no_seat events
  pub entries : EachHasEntered s events
  pub queues : InOrder s events
