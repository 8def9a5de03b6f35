-- How much a desk may hold at most.
use Rattle.std.specs.Prelude.{ℕ, Bool, ◌&&◌, nat_le}
use Rattle.acd_terms.specs.declared.rows.Limits.{Limits}

-- the highest priority of a group
abbrev pub greatest_priority : ℕ
greatest_priority = 9

abbrev pub greatest_limits : Limits
greatest_limits = record { requests = 1000000000; calls = 2000; groups = 64; stations = 1000; agents = 1000; monitors = 256 }

-- no limit is above the greatest
unfoldable pub limits_fit : Limits → Bool
limits_fit l =
    nat_le l.requests 1000000000 && nat_le l.calls 2000 && nat_le l.groups 64
    && nat_le l.stations 1000 && nat_le l.agents 1000 && nat_le l.monitors 256
