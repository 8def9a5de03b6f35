-- The rules call, connection, parties and live.
use Rattle.std.specs.Prelude.{Bool, true, not, ◌&&◌, ◌||◌, ◌==◌, Option, Some, None, is_some, is_none, nat_le, if◌then◌else◌}
use Rattle.std.specs.List.{list_all}
use Rattle.acd_terms.specs.Lists.{count}
use Rattle.acd_terms.specs.States.{is_initiated, is_alerting, is_queued, is_fail, is_hold, is_live}
use Rattle.acd_terms.specs.Numbers.{Device, CallId}
use Rattle.acd_terms.specs.declared.rows.Rows.{Rows}
use Rattle.acd_terms.specs.declared.record.CallRecord.{CallRecord}
use Rattle.acd_terms.specs.declared.record.StationRecord.{StationRecord}
use Rattle.acd_terms.specs.declared.record.ConnectionRecord.{ConnectionRecord}
use Rattle.acd_terms.specs.declared.state.ConnectionState.{ConnectionState}
use Rattle.acd_terms.specs.declared.state.ConnectionState.TheVariants.{Initiated, Alerting, Connected, Hold, Queued, Fail}
use Rattle.acd_model.specs.Scans.{call_of, is_group, is_station, is_planned, has}
use Rattle.acd_model.specs.Watcher.{is_caller}

-- called is planned and not the caller, who is a station or not planned; the identifier isn't above the last
unfoldable pub keeps_call : Rows → Bool
keeps_call s = list_all (λ (c : CallRecord).
    is_planned s c.called && not (c.called == c.caller) && not (is_group s c.caller) && nat_le c.call s.last_call) s.calls

-- no place, queued moment and offer
abbrev pub is_bare : ConnectionRecord → Bool
is_bare x = is_none x.place && is_none x.queued && is_none x.offered

abbrev pub is_placed : ConnectionRecord → Bool
is_placed x = is_some x.place && is_some x.queued

-- the columns that a connection has in its state
abbrev pub has_members : ConnectionState → ConnectionRecord → Bool
has_members Queued x = has x.group x.device && is_placed x && is_none x.offered
has_members Alerting x = if is_some x.group then is_placed x && is_some x.offered else is_bare x
has_members Connected x = is_bare x
has_members Hold x = is_bare x
has_members Initiated x = is_none x.group && is_bare x
has_members Fail x = is_none x.group && is_bare x

abbrev pub is_group_or_none : Rows → Option Device → Bool
is_group_or_none s None = true
is_group_or_none s (Some g) = is_group s g

-- the device may have a connection in the state; an external caller's was never distributed
abbrev pub may_stand : Rows → ConnectionState → ConnectionRecord → Bool
may_stand s Queued x = is_group s x.device
may_stand s Connected x = is_station s x.device || (not (is_planned s x.device) && is_none x.group)
may_stand s _ x = is_station s x.device

-- of a live call, at its caller or a planned device
abbrev pub is_party : Rows → ConnectionRecord → Bool
is_party s x = is_some (call_of s x.call) && (is_caller (call_of s x.call) x.device || is_planned s x.device)

-- of such a call, with its columns, in a state that may be there
unfoldable pub keeps_connection : Rows → Bool
keeps_connection s = list_all (λ (x : ConnectionRecord).
    is_party s x && has_members x.state x && is_group_or_none s x.group && may_stand s x.state x) s.connections

-- alerting, queued or fail
abbrev pub is_open : ConnectionState → Bool
is_open state = is_alerting state || is_queued state || is_fail state

abbrev pub parties_of : CallId → ConnectionRecord → Bool
parties_of call x = x.call == call

abbrev pub initiated_of : CallId → ConnectionRecord → Bool
initiated_of call x = is_initiated x.state && x.call == call

abbrev pub initiated_at : CallId → Device → ConnectionRecord → Bool
initiated_at call device x = is_initiated x.state && x.call == call && x.device == device

abbrev pub open_of : CallId → ConnectionRecord → Bool
open_of call x = is_open x.state && x.call == call

-- one connection, initiated at the caller
abbrev pub is_being_made : Rows → CallRecord → Bool
is_being_made s c = count (parties_of c.call) s.connections == 1 && count (initiated_at c.call c.caller) s.connections == 1

-- two connections, none initiated, and one at most alerting, queued or fail
abbrev pub has_two_parties : Rows → CallRecord → Bool
has_two_parties s c =
    count (parties_of c.call) s.connections == 2 && count (initiated_of c.call) s.connections == 0
    && nat_le (count (open_of c.call) s.connections) 1

unfoldable pub keeps_parties : Rows → Bool
keeps_parties s = list_all (λ (c : CallRecord). is_being_made s c || has_two_parties s c) s.calls

abbrev pub live_at : Device → ConnectionRecord → Bool
live_at device x = is_live x.state && x.device == device

abbrev pub alerting_at : Device → ConnectionRecord → Bool
alerting_at device x = is_alerting x.state && x.device == device

abbrev pub hold_at : Device → ConnectionRecord → Bool
hold_at device x = is_hold x.state && x.device == device

-- at most one live connection at the station, and none on hold beside an alerting one
abbrev pub has_one_live : Rows → Device → Bool
has_one_live s station =
    nat_le (count (live_at station) s.connections) 1 && (count (alerting_at station) s.connections == 0 || count (hold_at station) s.connections == 0)

unfoldable pub keeps_live : Rows → Bool
keeps_live s = list_all (λ (t : StationRecord). has_one_live s t.device) s.stations
