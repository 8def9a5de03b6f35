-- The keys of connections, and those near a call.
use Rattle.std.specs.Prelude.{List, Option, None, is_some, ◌-◌, ◌+◌, ◌^◌, ◌==◌, if◌then◌else◌}
use Rattle.std.specs.BTreeSet.{BTreeSet}
use Rattle.std.specs.declared.ops.Bound.{Bound}
use Rattle.std.specs.declared.ops.Bound.TheVariants.{Excluded, Unbounded}
use Rattle.acd_terms.specs.Lists.{find_by, IsAscending}
use Rattle.acd_terms.specs.Numbers.{Device, CallId}
use Rattle.acd_terms.specs.declared.record.ConnectionRecord.{ConnectionRecord}
use Rattle.acd_model.specs.Rules.Plan.{connection_order}
use Rattle.acd_model.specs.Scans.{at_connection}
use Rattle.acd_tables.specs.IndexedRows.{pair_cmp}
use Rattle.acd_tables.specs.Sets.{HasExactly}

-- after the device at the call before, if there is one
unfoldable pub start : CallId → Device → Bound (CallId × Device)
start call device = if call == 0 then Unbounded else Excluded (call - 1, device)

-- before the device at the next call, if there is one
unfoldable pub end : CallId → Device → Bound (CallId × Device)
end call device = if call == 2 ^ 64 - 1 then Unbounded else Excluded (call + 1, device)

-- the connection at the key, if it is one of the call
abbrev pub of_key : List ConnectionRecord → CallId → CallId × Device → Option ConnectionRecord
of_key cs call p = if p.0 == call then find_by (at_connection call p.1) cs else None

-- the keys are exactly those of the connections
pub record HasKeys (cs : List ConnectionRecord) (keys : BTreeSet (CallId × Device)) : Type 0 where
  pub ascending : IsAscending connection_order cs
  pub index : HasExactly pair_cmp (λ p. is_some (find_by (at_connection p.0 p.1) cs)) keys
