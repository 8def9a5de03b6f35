-- What the events alone report of a connection, of an agent and of an entry into a queue.
use Rattle.std.specs.Prelude.{Bool, ◌&&◌, List, [], ◌∷◌, Option, Some, None, if◌then◌else◌}
use Rattle.acd_terms.specs.Columns.{columns_of}
use Rattle.acd_terms.specs.Numbers.{Device, Agent, CallId, EventNumber}
use Rattle.acd_terms.specs.declared.event.Columns.{Columns}
use Rattle.acd_terms.specs.declared.event.Event.{Event}
use Rattle.acd_terms.specs.declared.event.EventKind.{EventKind}
use Rattle.acd_terms.specs.declared.event.EventKind.TheVariants as kind
use Rattle.acd_terms.specs.declared.state.ConnectionState.{ConnectionState}
use Rattle.acd_terms.specs.declared.state.ConnectionState.TheVariants.{Initiated, Alerting, Connected, Hold, Queued, Fail}
use Rattle.acd_terms.specs.declared.state.AgentState.{AgentState}
use Rattle.acd_terms.specs.declared.state.AgentState.TheVariants as agent
use Rattle.acd_model.specs.Scans.{has}
use Rattle.acd_model.specs.Figures.{is_entry}

-- a watcher's knowledge after events, each of which changes it by its columns
abbrev pub known_after : {T : Type 0} → (T → Columns → T) → T → List Event → T
known_after f x [] = x
known_after f x (e ∷ es) = known_after f (f x (columns_of e.report)) es

-- the state of a connection after an event with its call and device, or none
abbrev pub state_by : EventKind → Option ConnectionState
state_by kind.ServiceInitiated = Some Initiated
state_by kind.Originated = Some Connected
state_by kind.Established = Some Connected
state_by kind.Retrieved = Some Connected
state_by kind.Held = Some Hold
state_by kind.Delivered = Some Alerting
state_by kind.Queued = Some Queued
state_by kind.Failed = Some Fail
state_by _ = None

-- the event is of the call at the device
abbrev pub names : CallId → Device → Columns → Bool
names call device c = has c.call call && has c.device device

-- the connection of a call at a device
abbrev pub connection_reported : CallId → Device → Option ConnectionState → Columns → Option ConnectionState
connection_reported call device old c = if names call device c then state_by c.kind else old

-- an agent's state, and station unless it is null
pub record Seat : Type 0 where
  pub state : AgentState
  pub station : Option Device

abbrev pub no_seat : Seat
no_seat = record { state = agent.Null; station = None }

abbrev pub seat_by : EventKind → Option Device → Seat → Seat
seat_by kind.AgentLoggedOn station old = record { state = agent.NotReady; station = station }
seat_by kind.AgentLoggedOff station old = no_seat
seat_by kind.AgentNotReady station old = record { state = agent.NotReady; station = old.station }
seat_by kind.AgentReady station old = record { state = agent.Ready; station = old.station }
seat_by kind.AgentBusy station old = record { state = agent.Busy; station = old.station }
seat_by kind.AgentWorkingAfterCall station old = record { state = agent.WorkingAfterCall; station = old.station }
seat_by _ station old = old

-- the seat of an agent
abbrev pub seat_reported : Agent → Seat → Columns → Seat
seat_reported agent old c = if has c.agent agent then seat_by c.kind c.device old else old

-- the event is the call's entry into the group's queue
abbrev pub enters : Device → CallId → Event → Bool
enters group call e = is_entry group e.report && has (columns_of e.report).call call

-- the number of the call's last entry into the group's queue, or what is known from before
abbrev pub last_entry : Device → CallId → EventNumber → List Event → EventNumber
last_entry group call known [] = known
last_entry group call known (e ∷ es) = last_entry group call (if enters group call e then e.number else known) es
