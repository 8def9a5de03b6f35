-- The numbers that represent states, kinds and causes, and the meaning of a number.
use Rattle.std.specs.Prelude.{ℕ, ◌==◌, List, [], ◌∷◌, Option, find}
use Rattle.acd_terms.specs.declared.state.AgentState.{AgentState}
use Rattle.acd_terms.specs.declared.state.AgentState.TheVariants as agent
use Rattle.acd_terms.specs.declared.state.Pending.{Pending}
use Rattle.acd_terms.specs.declared.state.Pending.TheVariants as pending
use Rattle.acd_terms.specs.declared.state.ConnectionState.{ConnectionState}
use Rattle.acd_terms.specs.declared.state.ConnectionState.TheVariants as connection
use Rattle.acd_terms.specs.declared.event.EventKind.{EventKind}
use Rattle.acd_terms.specs.declared.event.EventKind.TheVariants as kind
use Rattle.acd_terms.specs.declared.event.Cause.{Cause}
use Rattle.acd_terms.specs.declared.event.Cause.TheVariants as cause

abbrev pub agent_code : AgentState → ℕ
agent_code agent.Null = 0
agent_code agent.NotReady = 1
agent_code agent.Ready = 2
agent_code agent.Busy = 3
agent_code agent.WorkingAfterCall = 4

-- that of the state, where loggedOff leads to null
abbrev pub pending_code : Pending → ℕ
pending_code pending.LoggedOff = 0
pending_code pending.NotReady = 1
pending_code pending.Ready = 2
pending_code pending.WorkingAfterCall = 4

abbrev pub connection_code : ConnectionState → ℕ
connection_code connection.Initiated = 1
connection_code connection.Alerting = 2
connection_code connection.Connected = 3
connection_code connection.Hold = 4
connection_code connection.Queued = 5
connection_code connection.Fail = 6

abbrev pub cause_code : Cause → ℕ
cause_code cause.NewCall = 1
cause_code cause.Distributed = 2
cause_code cause.Deflected = 3
cause_code cause.Transferred = 4
cause_code cause.NoAnswer = 5
cause_code cause.Busy = 6

abbrev pub kind_code : EventKind → ℕ
kind_code kind.ServiceInitiated = 1
kind_code kind.Originated = 2
kind_code kind.Queued = 3
kind_code kind.Delivered = 4
kind_code kind.Diverted = 5
kind_code kind.Established = 6
kind_code kind.Held = 7
kind_code kind.Retrieved = 8
kind_code kind.Transferred = 9
kind_code kind.Failed = 10
kind_code kind.ConnectionCleared = 11
kind_code kind.CallCleared = 12
kind_code kind.AgentLoggedOn = 13
kind_code kind.AgentLoggedOff = 14
kind_code kind.AgentNotReady = 15
kind_code kind.AgentReady = 16
kind_code kind.AgentBusy = 17
kind_code kind.AgentWorkingAfterCall = 18

-- ---- the meaning of a number

-- the one with this code
abbrev pub with_code : {A : Type 0} → (A → ℕ) → List A → ℕ → Option A
with_code code all n = find (λ a. code a == n) all

abbrev pub agent_states : List AgentState
agent_states = agent.Null ∷ agent.NotReady ∷ agent.Ready ∷ agent.Busy ∷ agent.WorkingAfterCall ∷ []

abbrev pub pending_states : List Pending
pending_states = pending.LoggedOff ∷ pending.NotReady ∷ pending.Ready ∷ pending.WorkingAfterCall ∷ []

abbrev pub connection_states : List ConnectionState
connection_states = connection.Initiated ∷ connection.Alerting ∷ connection.Connected ∷ connection.Hold ∷ connection.Queued ∷ connection.Fail ∷ []

abbrev pub causes : List Cause
causes = cause.NewCall ∷ cause.Distributed ∷ cause.Deflected ∷ cause.Transferred ∷ cause.NoAnswer ∷ cause.Busy ∷ []

abbrev pub kinds : List EventKind
kinds =
    kind.ServiceInitiated ∷ kind.Originated ∷ kind.Queued ∷ kind.Delivered ∷ kind.Diverted ∷ kind.Established ∷ kind.Held ∷ kind.Retrieved ∷ kind.Transferred
    ∷ kind.Failed ∷ kind.ConnectionCleared ∷ kind.CallCleared ∷ kind.AgentLoggedOn ∷ kind.AgentLoggedOff ∷ kind.AgentNotReady ∷ kind.AgentReady ∷ kind.AgentBusy
    ∷ kind.AgentWorkingAfterCall ∷ []

unfoldable pub agent_state_of : ℕ → Option AgentState
agent_state_of n = with_code agent_code agent_states n

unfoldable pub pending_of : ℕ → Option Pending
pending_of n = with_code pending_code pending_states n

unfoldable pub connection_state_of : ℕ → Option ConnectionState
connection_state_of n = with_code connection_code connection_states n

unfoldable pub cause_of : ℕ → Option Cause
cause_of n = with_code cause_code causes n

unfoldable pub event_kind_of : ℕ → Option EventKind
event_kind_of n = with_code kind_code kinds n
