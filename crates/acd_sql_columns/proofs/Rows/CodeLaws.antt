-- The state, kind or cause under its code is that one.
use Rattle.std.proofs.Common.{◌≡◌, Some, refl}
use Rattle.acd_terms.specs.declared.event.EventKind.{EventKind}
use Rattle.acd_terms.specs.declared.event.EventKind.TheVariants as kind
use Rattle.acd_terms.specs.declared.event.Cause.{Cause}
use Rattle.acd_terms.specs.declared.event.Cause.TheVariants as cause
use Rattle.acd_terms.specs.declared.state.AgentState.{AgentState}
use Rattle.acd_terms.specs.declared.state.AgentState.TheVariants as agent
use Rattle.acd_terms.specs.declared.state.Pending.{Pending}
use Rattle.acd_terms.specs.declared.state.Pending.TheVariants as pending
use Rattle.acd_terms.specs.declared.state.ConnectionState.{ConnectionState}
use Rattle.acd_terms.specs.declared.state.ConnectionState.TheVariants as connection
use Rattle.acd_sql_columns.specs.Codes.{agent_state_of, pending_of, connection_state_of, event_kind_of, cause_of, agent_code, pending_code, connection_code, kind_code, cause_code}

pub agent_state_back : (s : AgentState) → agent_state_of (agent_code s) ≡ Some s
unfolding agent_state_of
agent_state_back agent.Null = refl
agent_state_back agent.NotReady = refl
agent_state_back agent.Ready = refl
agent_state_back agent.Busy = refl
agent_state_back agent.WorkingAfterCall = refl

pub pending_back : (p : Pending) → pending_of (pending_code p) ≡ Some p
unfolding pending_of
pending_back pending.LoggedOff = refl
pending_back pending.NotReady = refl
pending_back pending.Ready = refl
pending_back pending.WorkingAfterCall = refl

pub connection_state_back : (s : ConnectionState) → connection_state_of (connection_code s) ≡ Some s
unfolding connection_state_of
connection_state_back connection.Initiated = refl
connection_state_back connection.Alerting = refl
connection_state_back connection.Connected = refl
connection_state_back connection.Hold = refl
connection_state_back connection.Queued = refl
connection_state_back connection.Fail = refl

pub cause_back : (c : Cause) → cause_of (cause_code c) ≡ Some c
unfolding cause_of
cause_back cause.NewCall = refl
cause_back cause.Distributed = refl
cause_back cause.Deflected = refl
cause_back cause.Transferred = refl
cause_back cause.NoAnswer = refl
cause_back cause.Busy = refl

pub kind_back : (k : EventKind) → event_kind_of (kind_code k) ≡ Some k
unfolding event_kind_of
kind_back kind.ServiceInitiated = refl
kind_back kind.Originated = refl
kind_back kind.Queued = refl
kind_back kind.Delivered = refl
kind_back kind.Diverted = refl
kind_back kind.Established = refl
kind_back kind.Held = refl
kind_back kind.Retrieved = refl
kind_back kind.Transferred = refl
kind_back kind.Failed = refl
kind_back kind.ConnectionCleared = refl
kind_back kind.CallCleared = refl
kind_back kind.AgentLoggedOn = refl
kind_back kind.AgentLoggedOff = refl
kind_back kind.AgentNotReady = refl
kind_back kind.AgentReady = refl
kind_back kind.AgentBusy = refl
kind_back kind.AgentWorkingAfterCall = refl
