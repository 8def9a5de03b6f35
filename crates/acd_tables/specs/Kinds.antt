-- The kind of a planned device.
use Rattle.std.specs.Prelude.{Option, Some, None, if◌then◌else◌}
use Rattle.acd_terms.specs.Numbers.{Device}
use Rattle.acd_terms.specs.declared.rows.Rows.{Rows}
use Rattle.acd_model.specs.Scans.{is_group, is_station}
use Rattle.acd_tables.specs.declared.kind.DeviceKind.{DeviceKind}
use Rattle.acd_tables.specs.declared.kind.DeviceKind.TheVariants.{Group, Station}

-- a group, a station, or nothing
unfoldable pub kind_of : Rows → Device → Option DeviceKind
kind_of s device = if is_group s device then Some Group else (if is_station s device then Some Station else None)
