-- The groups as a report shows them, by the sets that the tables lend.
use Rattle.std.specs.Prelude.{ℕ, List, min, Option, Some, None}
use Rattle.std.specs.List.{filter_map, reduce}
use Rattle.acd_terms.specs.Numbers.{Device, CallId, Moment, Stamp}
use Rattle.acd_terms.specs.declared.rows.Rows.{Rows}
use Rattle.acd_terms.specs.declared.record.ConnectionRecord.{ConnectionRecord}
use Rattle.acd_model.specs.Scans.{connection_of}

-- the lesser of two numbers that may be there
abbrev pub lesser_number : Option ℕ → Option ℕ → Option ℕ
lesser_number None other = other
lesser_number (Some n) None = Some n
lesser_number (Some n) (Some m) = Some (min n m)

-- when the connection that may be there entered its queue
abbrev pub queued_of : Option ConnectionRecord → Option Moment
queued_of None = None
queued_of (Some x) = x.queued

-- the least moment at which one of the calls of these pairs entered the group
abbrev pub first_of : Rows → Device → List (Stamp × CallId) → Option Moment
first_of s group pairs = reduce min (filter_map (λ (p : Stamp × CallId). queued_of (connection_of s p.1 group)) pairs)
