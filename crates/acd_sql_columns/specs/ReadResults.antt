-- The result of a read between transactions.
use Rattle.std.specs.Prelude.{List, Result, IfOk, OnOk, IsTrue}
use Rattle.sqlite.specs.State.{State, HasCleanDisk}
use Rattle.acd_terms.specs.declared.rows.Rows.{Rows}
use Rattle.acd_terms.specs.declared.record.GroupRecord.{GroupRecord}
use Rattle.acd_terms.specs.declared.record.StationRecord.{StationRecord}
use Rattle.acd_terms.specs.declared.record.AgentRecord.{AgentRecord}
use Rattle.acd_terms.specs.declared.record.CallRecord.{CallRecord}
use Rattle.acd_terms.specs.declared.record.ConnectionRecord.{ConnectionRecord}
use Rattle.acd_terms.specs.declared.record.MonitorRecord.{MonitorRecord}
use Rattle.acd_book.specs.Content.{Content}
use Rattle.acd_sql_columns.specs.declared.meta.Meta.{Meta}
use Rattle.acd_sql_columns.specs.Transactions.{HoldsContent, Quiet, NoStop}

-- it changes nothing, but that a failure may shut the connection, and finds what `IsAnswer` says of the content
pub record Finds {A E : Type 0} (old new : State) (result : Result A E) (IsAnswer : Content → A → Type 0) : Type 0 where
  pub up : HasCleanDisk new → OnOk result (IsTrue new.is_open)
  pub quiet : Quiet old new
  pub stops : HasCleanDisk new → (c : Content) → HoldsContent old c → NoStop old new
  pub answer : HasCleanDisk new → IfOk result (λ (found : A). (c : Content) → HoldsContent old c → IsAnswer c found)

-- the state of these counters and lists
abbrev pub joined_rows : Meta → List GroupRecord → List StationRecord → List AgentRecord → List CallRecord → List ConnectionRecord → List MonitorRecord → Rows
joined_rows m groups stations agents calls connections monitors = record {
  limits = m.limits;
  groups = groups;
  stations = stations;
  agents = agents;
  calls = calls;
  connections = connections;
  monitors = monitors;
  last_stamp = m.last_stamp;
  last_moment = m.last_moment;
  last_call = m.last_call;
  last_monitor = m.last_monitor;
  last_event = m.last_event;
}
