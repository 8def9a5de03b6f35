-- No agent has two distributed calls.
use Rattle.std.specs.Prelude.{◌≡◌, ◌≤◌, Bool, true, false, ◌&&◌, ◌==◌, Some}
use Rattle.acd_terms.specs.Lists.{Among, count}
use Rattle.acd_terms.specs.States.{is_distributed, is_null, is_alerting, is_answered}
use Rattle.acd_terms.specs.Numbers.{Device}
use Rattle.acd_terms.specs.declared.rows.Rows.{Rows}
use Rattle.acd_terms.specs.declared.record.AgentRecord.{AgentRecord}
use Rattle.acd_terms.specs.declared.record.ConnectionRecord.{ConnectionRecord}
use Rattle.acd_terms.specs.declared.state.AgentState.TheVariants.{Ready, Busy}
use Rattle.acd_model.specs.Scans.{agent_at, is_station}

abbrev pub is_distributed_at : Device → ConnectionRecord → Bool
is_distributed_at device x = is_distributed x && x.device == device

-- it is at a station, where an agent is logged on who is ready while it alerts and busy once it is answered
pub record IsAttended (s : Rows) (x : ConnectionRecord) : Type 0 where
  pub at_station : is_station s x.device ≡ true
  pub agent : AgentRecord
  pub there : agent_at s x.device ≡ Some agent
  pub logged_on : is_null agent.state ≡ false
  pub ready : is_alerting x.state ≡ true → agent.state ≡ Ready
  pub busy : is_answered x.state ≡ true → agent.state ≡ Busy

-- each distributed connection has its agent
abbrev pub EachIsAttended : Rows → Type 0
EachIsAttended s = (x : ConnectionRecord) → Among x s.connections → is_distributed x ≡ true → IsAttended s x

-- an answered distributed connection at the agent's station
pub record IsTalking (s : Rows) (a : AgentRecord) : Type 0 where
  pub connection : ConnectionRecord
  pub there : Among connection s.connections
  pub distributed : is_distributed connection ≡ true
  pub answered : is_answered connection.state ≡ true
  pub station : a.station ≡ Some connection.device

-- one distributed connection at a device at most, each with its agent, and no other agent is busy
pub record HasOneOffer (s : Rows) : Type 0 where
  pub one : (device : Device) → count (is_distributed_at device) s.connections ≤ 1
  pub attended : EachIsAttended s
  pub no_other : (a : AgentRecord) → Among a s.agents → a.state ≡ Busy → IsTalking s a
