-- The connections at a device.
use Rattle.std.specs.Prelude.{Bool, not, ◌&&◌, ◌==◌, List, filter, Option, None, if◌then◌else◌}
use Rattle.acd_terms.specs.Numbers.{Device, CallId}
use Rattle.acd_terms.specs.declared.rows.Rows.{Rows}
use Rattle.acd_terms.specs.declared.record.ConnectionRecord.{ConnectionRecord}
use Rattle.acd_model.specs.Scans.{connection_of}

-- a connection of the same call at another device
abbrev pub is_other_of : ConnectionRecord → ConnectionRecord → Bool
is_other_of x y = y.call == x.call && not (y.device == x.device)

abbrev pub is_at_device : Device → ConnectionRecord → Bool
is_at_device device c = c.device == device

unfoldable pub connections_at : Rows → Device → List ConnectionRecord
connections_at s device = filter (is_at_device device) s.connections

-- the connection there of a call that may be listed there
abbrev pub line_at : Rows → Device → Device × CallId → Option ConnectionRecord
line_at s device p = if p.0 == device then connection_of s p.1 device else None
