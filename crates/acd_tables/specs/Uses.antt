-- How connections use a station.
use Rattle.std.specs.Prelude.{◌+◌, ◌-◌, ◌^◌, Bool, false, not, ◌&&◌, ◌||◌, ◌==◌, Option, Some, None, if◌then◌else◌}
use Rattle.std.specs.List.{list_any}
use Rattle.std.specs.declared.ops.Bound.{Bound}
use Rattle.std.specs.declared.ops.Bound.TheVariants.{Included, Excluded, Unbounded}
use Rattle.acd_terms.specs.States.{is_distributed, is_live, is_occupying}
use Rattle.acd_terms.specs.Numbers.{Agent, Device, CallId}
use Rattle.acd_terms.specs.declared.rows.Rows.{Rows}
use Rattle.acd_terms.specs.declared.record.AgentRecord.{AgentRecord}
use Rattle.acd_terms.specs.declared.record.ConnectionRecord.{ConnectionRecord}
use Rattle.acd_model.specs.Scans.{agent_of, connection_of, has}
use Rattle.acd_tables.specs.IndexedRows.{is_busying, is_ringing, is_working}
use Rattle.acd_tables.specs.declared.uses.Use.{Use}
use Rattle.acd_tables.specs.declared.uses.Use.TheVariants.{Live, Occupying, Distributed, Busying}

abbrev pub uses : Use → ConnectionRecord → Bool
uses Live c = is_live c.state
uses Occupying c = is_occupying c.state
uses Distributed c = is_distributed c
uses Busying c = is_busying c

-- a connection is there, and passes
abbrev pub is_there_and : (ConnectionRecord → Bool) → Option ConnectionRecord → Bool
is_there_and u None = false
is_there_and u (Some c) = u c

-- a connection at the device, but for one of the call, uses it so
abbrev pub is_in_use : Rows → Device → Option CallId → Use → Bool
is_in_use s device but kind = list_any (λ c. c.device == device && (not (has but c.call) && uses kind c)) s.connections

-- the same of one call
abbrev pub call_uses : Rows → Device → Option CallId → Use → CallId → Bool
call_uses s device but kind call = not (has but call) && is_there_and (uses kind) (connection_of s call device)

-- the new connection of the call keeps the station busy, or one of another call does
abbrev pub is_busy_with : Rows → Device → CallId → Option ConnectionRecord → Bool
is_busy_with s device call new = is_there_and is_busying new || is_in_use s device (Some call) Busying

-- at the calls of the device
unfoldable pub first_line : Device → Bound (Device × CallId)
first_line device = Included (device, 0)

-- after the calls of the device, where a number follows
unfoldable pub past_lines : Device → Bound (Device × CallId)
past_lines device = if device == 2 ^ 64 - 1 then Unbounded else Excluded (device + 1, 0)

-- an optional value, if it passes
abbrev pub if_passes : {T : Type 0} → (T → Bool) → Option T → Option T
if_passes p None = None
if_passes p (Some x) = if p x then Some x else None

-- the connection of these keys, if it is an offer that rings
abbrev pub ringing_of : Rows → CallId × Device → Option ConnectionRecord
ringing_of s keys = if_passes is_ringing (connection_of s keys.0 keys.1)

-- the agent, if in after-call work
abbrev pub working_of : Rows → Agent → Option AgentRecord
working_of s agent = if_passes is_working (agent_of s agent)
