use Rattle.std.proofs.Common.{take}
use Rattle.acd_tables.specs.IndexedRows.{ListsOffers}
use Rattle.acd_tables.specs.Swaps.{GroupsJust, ListsNoMore}
use Rattle.acd_tables.proofs.indexes.prune_entry.Given as goal

abbrev pub invariant-loop-group : goal.invariant-loop-group
invariant-loop-group g l = record {
  offers : ListsOffers l.records l.queues l.ready l.offering;
  fewer : ListsNoMore l.initial.offering l.offering;
  pruned : GroupsJust l.records l.queues l.ready l.offering (take l.group-index l.group-items);
}
