-- A call that begins.
use Rattle.std.specs.Prelude.{◌+◌, Bool, length, nat_le}
use Rattle.acd_terms.specs.Numbers.{CallId}
use Rattle.acd_terms.specs.declared.rows.Rows.{Rows}

-- the live calls are as many as the limit
abbrev pub has_no_call_left : Rows → Bool
has_no_call_left s = nat_le s.limits.calls (length s.calls)

-- the identifier of a new call
abbrev pub next_call : Rows → CallId
next_call s = s.last_call + 1
