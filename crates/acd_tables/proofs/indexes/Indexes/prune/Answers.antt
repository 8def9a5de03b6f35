use Rattle.acd_tables.proofs.OfferLemmas.{just_left}
use Rattle.acd_tables.proofs.indexes.Indexes.prune.Goals as goal

pub returns-clause-pruned : goal.returns-clause-pruned
returns-clause-pruned c =
    let x = c.args.self.now in
    record {
      of_queue =
          just_left c.args.records.now x.queues x.ready c.prune_entry.new.offering c.prune_alone.new.offering c.args.entries.now.queue
          c.prune_alone.ensures.pruned c.prune_entry.ensures.fewer;
      of_ready = c.prune_entry.ensures.pruned;
    }
