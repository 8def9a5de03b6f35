use Rattle.std.proofs.Common.{◌≡◌}
use Rattle.std.specs.BTreeMap.{values}
use Rattle.acd_tables.specs.KeyedMaps.{keyed_entries, placed}
use Rattle.acd_tables.proofs.table.Table.copied.Given as goal

abbrev pub invariant-loop-record : goal.invariant-loop-record
invariant-loop-record g l = record {
  owned : l.sorted.entries ≡ keyed_entries g.R.Keyed.key_of (values l.sorted);
  rest : placed g.R.Key.Ord.cmp g.R.Keyed.key_of (values l.sorted) l.record-iterator ≡ l.self;
}
