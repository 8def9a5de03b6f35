-- Tests on states and on the record of a connection, and the names of states.
use Rattle.std.specs.Prelude.{ℕ, List, codes, Bool, true, false, not, ◌&&◌, ◌||◌, is_some}
use Rattle.acd_terms.specs.declared.state.AgentState.{AgentState}
use Rattle.acd_terms.specs.declared.state.AgentState.TheVariants.{Null, NotReady, Ready, Busy, WorkingAfterCall}
use Rattle.acd_terms.specs.declared.state.Pending.{Pending}
use Rattle.acd_terms.specs.declared.state.Pending.TheVariants as pending
use Rattle.acd_terms.specs.declared.state.ConnectionState.{ConnectionState}
use Rattle.acd_terms.specs.declared.state.ConnectionState.TheVariants.{Initiated, Alerting, Connected, Hold, Queued, Fail}
use Rattle.acd_terms.specs.declared.record.ConnectionRecord.{ConnectionRecord}

abbrev pub is_null : AgentState → Bool
is_null Null = true
is_null _ = false

abbrev pub is_ready : AgentState → Bool
is_ready Ready = true
is_ready _ = false

abbrev pub is_busy : AgentState → Bool
is_busy Busy = true
is_busy _ = false

abbrev pub is_working_after_call : AgentState → Bool
is_working_after_call WorkingAfterCall = true
is_working_after_call _ = false

-- the state to which a pending state leads
abbrev pub state_wanted : Pending → AgentState
state_wanted pending.LoggedOff = Null
state_wanted pending.NotReady = NotReady
state_wanted pending.Ready = Ready
state_wanted pending.WorkingAfterCall = WorkingAfterCall

-- the agent is in the state that is asked for
abbrev pub is_in : AgentState → Pending → Bool
is_in Null pending.LoggedOff = true
is_in NotReady pending.NotReady = true
is_in Ready pending.Ready = true
is_in WorkingAfterCall pending.WorkingAfterCall = true
is_in _ _ = false

abbrev pub agent_state_name : AgentState → List ℕ
agent_state_name Null = codes "null"
agent_state_name NotReady = codes "notReady"
agent_state_name Ready = codes "ready"
agent_state_name Busy = codes "busy"
agent_state_name WorkingAfterCall = codes "workingAfterCall"

abbrev pub pending_name : Pending → List ℕ
pending_name pending.LoggedOff = codes "loggedOff"
pending_name pending.NotReady = codes "notReady"
pending_name pending.Ready = codes "ready"
pending_name pending.WorkingAfterCall = codes "workingAfterCall"

abbrev pub is_initiated : ConnectionState → Bool
is_initiated Initiated = true
is_initiated _ = false

abbrev pub is_alerting : ConnectionState → Bool
is_alerting Alerting = true
is_alerting _ = false

abbrev pub is_connected : ConnectionState → Bool
is_connected Connected = true
is_connected _ = false

abbrev pub is_hold : ConnectionState → Bool
is_hold Hold = true
is_hold _ = false

abbrev pub is_queued : ConnectionState → Bool
is_queued Queued = true
is_queued _ = false

abbrev pub is_fail : ConnectionState → Bool
is_fail Fail = true
is_fail _ = false

-- connected or on hold
abbrev pub is_answered : ConnectionState → Bool
is_answered state = is_connected state || is_hold state

-- initiated, alerting or connected
abbrev pub is_live : ConnectionState → Bool
is_live state = is_initiated state || is_alerting state || is_connected state

-- with one of these a station isn't idle
abbrev pub is_occupying : ConnectionState → Bool
is_occupying state = is_live state || is_hold state

-- a connection that distribution offered, until it ends
abbrev pub is_distributed : ConnectionRecord → Bool
is_distributed x = is_some x.group && not (is_queued x.state)
