use Rattle.std.proofs.Common.{◌≡◌, take}
use Rattle.acd_tables.proofs.table.Table.from_slice.Given as goal

abbrev pub invariant-loop-record : goal.invariant-loop-record
invariant-loop-record g l = l.table ≡ take l.record-index l.records
