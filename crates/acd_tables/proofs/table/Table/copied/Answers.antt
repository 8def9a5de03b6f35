use Rattle.std.proofs.Common.{◌∙◌, ap, sym}
use Rattle.std.specs.BTreeMap.{values}
use Rattle.acd_tables.specs.KeyedMaps.{placed}
use Rattle.acd_tables.proofs.MapLemmas.{keyed-after_insert, values-from_keyed, keyed-from_keyed}
use Rattle.acd_tables.proofs.table.Table.copied.Goals as goal

pub loop-record-preserved : goal.loop-record-preserved
loop-record-preserved g c =
    let held = values c.loop-record.sorted in
    let after =
    keyed-after_insert g.R.Key.Ord.cmp g.R.Keyed.key_of g.met.R.Keyed.exact c.loop-record.sorted.entries c.insert.new.self.entries held c.key.result
    c.in-Some.record.now c.loop-record.invariant.owned c.key.ensures c.in_ok-insert.ensures.entries in
    record {
      owned = keyed-from_keyed g.R.Key.Ord.cmp g.R.Keyed.key_of _ _ after;
      rest =
          ap (λ l. placed g.R.Key.Ord.cmp g.R.Keyed.key_of l c.next.new.self) (values-from_keyed g.R.Key.Ord.cmp g.R.Keyed.key_of _ _ after)
          ∙ sym (ap (placed g.R.Key.Ord.cmp g.R.Keyed.key_of held) c.in-Some.ensures.steps) ∙ c.loop-record.invariant.rest;
    }
