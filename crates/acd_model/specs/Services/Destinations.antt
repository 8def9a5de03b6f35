-- Devices to which a call isn't given away.
use Rattle.std.specs.Prelude.{Bool, not, ◌&&◌, is_some}
use Rattle.acd_terms.specs.Numbers.{Device, CallId}
use Rattle.acd_terms.specs.declared.rows.Rows.{Rows}
use Rattle.acd_model.specs.Scans.{connection_of, is_station, is_idle}

-- the call has a connection at the device
abbrev pub is_in_call : Rows → CallId → Device → Bool
is_in_call s call device = is_some (connection_of s call device)

-- a station that isn't idle
abbrev pub is_busy_station : Rows → Device → Bool
is_busy_station s device = is_station s device && not (is_idle s device)
