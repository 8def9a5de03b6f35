use Rattle.acd_tables.proofs.SwapLemmas.{connection-swap}
use Rattle.acd_tables.proofs.swaps.connection_swap.Goals as goal

pub returns : goal.returns
returns c =
    let h = c.requires.indexed in
    connection-swap c.args.records.now c.args.indexes.now.seats c.args.call c.args.device c.args.old.now c.args.new.now
    (record {
      entering = record { queue = c.queue_entry-after.result; ready = c.only_not.result };
      leaving = record { queue = c.leaving_alone-leaving.result; ready = c.only.result };
    })
    h.connections h.agents h.seats c.requires.at c.requires.found
    (record {
      before = c.queue_entry-before.result;
      seat = c.swapped_seat-seat.result;
      busy = c.is_kept-busy.result;
      before_is = c.queue_entry-before.ensures;
      after_is = c.queue_entry-after.ensures;
      goes = c.leaving_alone-leaving.ensures;
      seat_is = c.swapped_seat-seat.ensures;
      busy_is = c.is_kept-busy.ensures;
      enters = c.only_not.ensures;
      leaves = c.only.ensures;
    })
