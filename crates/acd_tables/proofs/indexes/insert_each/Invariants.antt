use Rattle.std.proofs.Common.{◌≡◌, true, take}
use Rattle.std.specs.BTreeSet.{contains}
use Rattle.acd_tables.specs.IndexedRows.{OfferKey, offer_cmp}
use Rattle.acd_tables.specs.Swaps.{ListsGroups}
use Rattle.acd_tables.proofs.indexes.insert_each.Given as goal

abbrev pub invariant-loop-group : goal.invariant-loop-group
invariant-loop-group l = record {
  kept : (k : OfferKey) → contains offer_cmp l.initial.offering k ≡ true → contains offer_cmp l.offering k ≡ true;
  listed : ListsGroups l.records l.offering (take l.group-index l.groups);
}
