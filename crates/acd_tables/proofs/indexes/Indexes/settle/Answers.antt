use Rattle.std.proofs.Common.{sym, subst}
use Rattle.acd_tables.specs.Swaps.{IsPruned, TakenOut}
use Rattle.acd_tables.proofs.OfferLemmas.{just_left}
use Rattle.acd_tables.proofs.indexes.Indexes.settle.Goals as goal

pub returns-clause-taken : goal.returns-clause-taken
returns-clause-taken c =
    let y = c.take_out.new.self in
    let out = c.take_out.ensures in
    let left = c.args.swap.now.leaving in
    subst (λ z. TakenOut c.args.records.now c.args.self.now z left) (sym c.prune.ensures.rest) (record {
      queues = out.queues;
      ready = out.ready;
      offers = c.prune.ensures.offers;
      pruned = record {
        of_queue = just_left c.args.records.now y.queues y.ready c.prune.new.self.offering y.offering left.queue out.pruned.of_queue c.prune.ensures.fewer;
        of_ready = just_left c.args.records.now y.queues y.ready c.prune.new.self.offering y.offering left.ready out.pruned.of_ready c.prune.ensures.fewer;
      };
      rest = record { seats = out.rest.seats; lines = out.rest.lines; ringing = out.rest.ringing; working = out.rest.working; queued = out.rest.queued };
    })

pub returns-clause-pruned : goal.returns-clause-pruned
returns-clause-pruned c =
    subst (λ z. IsPruned c.args.records.now z.queues z.ready z.offering c.args.swap.now.entering) (sym c.prune.ensures.rest) c.prune.ensures.pruned
