-- The moves of agents.
use Rattle.std.specs.Prelude.{List, [], Option, Some, None}
use Rattle.acd_terms.specs.Groups.{only_group}
use Rattle.acd_terms.specs.Numbers.{Device, Agent}
use Rattle.acd_terms.specs.declared.command.Turn.{Turn}
use Rattle.acd_terms.specs.declared.record.AgentRecord.{AgentRecord}
use Rattle.acd_terms.specs.declared.state.AgentState.{AgentState}
use Rattle.acd_terms.specs.declared.state.AgentState.TheVariants.{Null, NotReady, Ready, Busy, WorkingAfterCall}
use Rattle.acd_terms.specs.declared.state.Pending.{Pending}
use Rattle.acd_terms.specs.declared.event.Report.{Report}
use Rattle.acd_terms.specs.declared.event.Report.TheVariants.{AgentLoggedOn, AgentLoggedOff, AgentNotReady, AgentReady, AgentBusy, AgentWorkingAfterCall}
use Rattle.acd_model.specs.Moves.{no_move, silent, reported}
use Rattle.acd_model.specs.declared.moves.Move.{Move}
use Rattle.acd_model.specs.declared.moves.Change.TheVariants.{PutAgent}

-- the station that an agent has in a state: none in null
abbrev pub while_logged_on : AgentState → Option Device → Option Device
while_logged_on Null device = None
while_logged_on _ device = device

-- and its groups
abbrev pub groups_while_logged_on : AgentState → List Device → List Device
groups_while_logged_on Null groups = []
groups_while_logged_on _ groups = groups

-- the agent in a state, with nothing pending; in null it has no station and no groups
abbrev pub in_state : AgentState → Turn → AgentRecord → AgentRecord
in_state state turn a = record a { state = state; pending = None; station = while_logged_on state a.station; groups = groups_while_logged_on state a.groups; stamp = turn.stamp; since = turn.moment }

-- the report of an agent's new state
abbrev pub state_report : AgentState → Agent → Device → Report
state_report Null agent station = AgentLoggedOff agent station
state_report NotReady agent station = AgentNotReady agent station
state_report Ready agent station = AgentReady agent station
state_report Busy agent station = AgentBusy agent station
state_report WorkingAfterCall agent station = AgentWorkingAfterCall agent station

-- the agent at a station changes to a state
abbrev pub go_to : Turn → AgentRecord → Device → AgentState → Move
go_to turn a station state = reported (PutAgent (in_state state turn a)) (state_report state a.agent station)

-- the agent changes to a state, from the station at which it is logged on
abbrev pub go_from : Turn → AgentRecord → Option Device → AgentState → Move
go_from turn a None state = no_move
go_from turn a (Some station) state = go_to turn a station state

-- the report names the group of an agent who is in just one
abbrev pub log_on_at : Turn → AgentRecord → Device → List Device → Move
log_on_at turn a station groups =
    reported (PutAgent (record a { state = NotReady; pending = None; station = Some station; groups = groups; stamp = turn.stamp; since = turn.moment }))
    (AgentLoggedOn a.agent station (only_group groups))

-- busy, with the same pending state
abbrev pub become_busy : Turn → AgentRecord → Device → Move
become_busy turn a station = reported (PutAgent (record a { state = Busy; stamp = turn.stamp; since = turn.moment })) (AgentBusy a.agent station)

-- another pending state, or none
abbrev pub wait_for : AgentRecord → Option Pending → Move
wait_for a pending = silent (PutAgent (record a { pending = pending }))
