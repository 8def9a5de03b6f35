use Rattle.acd_tables.proofs.OfferLemmas.{just_alone}
use Rattle.acd_tables.proofs.indexes.prune_alone.Goals as goal

pub returns-in-Some-clause-pruned : goal.returns-in-Some-clause-pruned
returns-in-Some-clause-pruned g c =
    just_alone c.args.records.now c.args.queues.now c.args.ready.now c.prune_group.new.offering c.args.entry.now c.in-Some.alone _ c.group.result c.in-Some.is
    c.group.ensures c.prune_group.ensures.pruned
