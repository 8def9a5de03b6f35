use Rattle.std.proofs.Common.{ℕ, List, sym, subst, ◌∙◌}
use Rattle.std.proofs.lemmas.List.{take_all}
use Rattle.acd_tables.specs.Swaps.{GroupsJust, EntryJust}
use Rattle.acd_tables.proofs.indexes.prune_entry.Goals as goal

pub returns-after-loop-group-clause-pruned : goal.returns-after-loop-group-clause-pruned
returns-after-loop-group-clause-pruned g c =
    let items = c.as_slice-group-items.result.now in
    let all : GroupsJust c.args.records.now c.args.queues.now c.args.ready.now c.loop-group.offering c.in-Some.groups
    = subst (λ (l : List ℕ). GroupsJust c.args.records.now c.args.queues.now c.args.ready.now c.loop-group.offering l)
    (take_all c.loop-group.group-index items c.loop-group-test.false ∙ c.as_slice-group-items.ensures.value) c.loop-group.invariant.pruned in
    subst (λ o. EntryJust c.args.records.now c.args.queues.now c.args.ready.now c.loop-group.offering o) (sym c.in-Some.is) all
