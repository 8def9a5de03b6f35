-- The place of each call: cleared, in one queue, or at devices.
use Rattle.std.specs.Prelude.{◌≡◌, ◌⊎◌, ℕ, ◌<◌, ◌≤◌, Bool, true, false, ◌&&◌, ◌==◌, List, Some, None}
use Rattle.acd_terms.specs.Lists.{Among, count}
use Rattle.acd_terms.specs.States.{is_queued, is_alerting}
use Rattle.acd_terms.specs.Numbers.{CallId}
use Rattle.acd_terms.specs.declared.rows.Rows.{Rows}
use Rattle.acd_terms.specs.declared.record.CallRecord.{CallRecord}
use Rattle.acd_terms.specs.declared.record.ConnectionRecord.{ConnectionRecord}
use Rattle.acd_terms.specs.declared.event.Event.{Event}
use Rattle.acd_terms.specs.declared.event.Report.{Report}
use Rattle.acd_terms.specs.declared.event.Report.TheVariants.{CallCleared}
use Rattle.acd_model.specs.Scans.{call_of, is_group, is_station}

-- the callCleared event of the call
abbrev pub clears : CallId → Report → Bool
clears call (CallCleared c group) = c == call
clears call _ = false

-- how many callCleared events name the call
unfoldable pub cleared_by : CallId → List Event → ℕ
cleared_by call events = count (λ (e : Event). clears call e.report) events

abbrev pub is_queued_of : CallId → ConnectionRecord → Bool
is_queued_of call x = x.call == call && is_queued x.state

abbrev pub is_alerting_of : CallId → ConnectionRecord → Bool
is_alerting_of call x = x.call == call && is_alerting x.state

abbrev pub is_of : CallId → ConnectionRecord → Bool
is_of call x = x.call == call

-- not live, and cleared once
pub record IsCleared (s : Rows) (events : List Event) (call : CallId) : Type 0 where
  pub ended : call_of s call ≡ None
  pub once : cleared_by call events ≡ 1

-- live and never cleared, queued once, at a group, and alerting nowhere
pub record IsWaiting (s : Rows) (events : List Event) (call : CallId) : Type 0 where
  pub live : CallRecord
  pub there : call_of s call ≡ Some live
  pub never : cleared_by call events ≡ 0
  pub once : count (is_queued_of call) s.connections ≡ 1
  pub at_group : (x : ConnectionRecord) → Among x s.connections → is_queued_of call x ≡ true → is_group s x.device ≡ true
  pub silent : count (is_alerting_of call) s.connections ≡ 0

-- live and never cleared, with connections, none queued, each at the caller or a station
pub record IsAtDevices (s : Rows) (events : List Event) (call : CallId) : Type 0 where
  pub live : CallRecord
  pub there : call_of s call ≡ Some live
  pub never : cleared_by call events ≡ 0
  pub some : 0 < count (is_of call) s.connections
  pub none_queued : count (is_queued_of call) s.connections ≡ 0
  pub at_devices : (x : ConnectionRecord) → Among x s.connections → is_of call x ≡ true → (x.device ≡ live.caller) ⊎ (is_station s x.device ≡ true)

-- each call up to the last is in exactly one place: the three exclude one another by `ended`, `there`, `once` and `none_queued`
abbrev pub IsPlaced : Rows → List Event → Type 0
IsPlaced s events = (call : CallId) → 0 < call → call ≤ s.last_call → IsCleared s events call ⊎ IsWaiting s events call ⊎ IsAtDevices s events call
