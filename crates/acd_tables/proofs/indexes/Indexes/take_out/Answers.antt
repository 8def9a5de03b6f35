use Rattle.std.proofs.Common.{refl, sym, subst}
use Rattle.acd_tables.specs.Swaps.{TakenOut}
use Rattle.acd_tables.proofs.OfferLemmas.{offers-left}
use Rattle.acd_tables.proofs.indexes.Indexes.take_out.Goals as goal

pub prune-requires : goal.prune-requires
prune-requires c =
    let x = c.args.self.now in
    offers-left c.args.records.now x.queues c.leave_alone.new.sets x.ready c.leave_entry.new.sets x.offering c.args.entries.now.queue c.args.entries.now.ready
    c.requires c.leave_alone.ensures c.leave_entry.ensures

pub returns : goal.returns
returns c = subst (λ z. TakenOut c.args.records.now c.args.self.now z c.args.entries.now) (sym c.prune.ensures.rest) (record {
  queues = c.leave_alone.ensures;
  ready = c.leave_entry.ensures;
  offers = c.prune.ensures.offers;
  pruned = c.prune.ensures.pruned;
  rest = record { seats = refl; lines = refl; ringing = refl; working = refl; queued = refl };
})
