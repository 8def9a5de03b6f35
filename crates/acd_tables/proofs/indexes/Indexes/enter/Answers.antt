use Rattle.std.proofs.Common.{rules, refl, ◌∙◌}
use Rattle.acd_tables.specs.Swaps.{IndexesUntouched}
use Rattle.acd_tables.proofs.OfferLemmas.{offers-entered, offers-more, offers-same, undone}
use Rattle.acd_tables.proofs.indexes.Indexes.enter.Goals as goal

pub returns-in_err-insert_alone-clause-err : goal.returns-in_err-insert_alone-clause-err
returns-in_err-insert_alone-clause-err c =
    let x = c.args.self.now in
    let untouched : IndexesUntouched c.args.records.now x (record x { offering = c.insert_alone.new.offering }) = record {
      queues = record { sets = λ g. refl; members = λ g p. refl };
      ready = record { sets = λ g. refl; members = λ g p. refl };
      offers = offers-more c.args.records.now x.queues x.ready c.insert_alone.new.offering x.offering c.requires c.insert_alone.ensures.kept;
      rest = record { seats = refl; lines = refl; ringing = refl; working = refl; queued = refl };
    } in
    search (rules, untouched)

pub returns-in_err-insert_groups-clause-err : goal.returns-in_err-insert_groups-clause-err
returns-in_err-insert_groups-clause-err c =
    let x = c.args.self.now in
    let untouched : IndexesUntouched c.args.records.now x (record x { offering = c.insert_groups.new.offering }) = record {
      queues = record { sets = λ g. refl; members = λ g p. refl };
      ready = record { sets = λ g. refl; members = λ g p. refl };
      offers =
          offers-more c.args.records.now x.queues x.ready c.insert_groups.new.offering x.offering c.requires
          (λ k e. c.insert_groups.ensures.kept k (c.insert_alone.ensures.kept k e));
      rest = record { seats = refl; lines = refl; ringing = refl; working = refl; queued = refl };
    } in
    search (rules, untouched)

pub returns-in_err-queue-clause-err : goal.returns-in_err-queue-clause-err
returns-in_err-queue-clause-err c =
    let x = c.args.self.now in
    let untouched : IndexesUntouched c.args.records.now x (record x { queues = c.enter_alone.new.sets; offering = c.insert_groups.new.offering }) = record {
      queues = c.in_err-queue.ensures.err;
      ready = record { sets = λ g. refl; members = λ g p. refl };
      offers =
          offers-same c.args.records.now x.queues c.enter_alone.new.sets x.ready x.ready c.insert_groups.new.offering c.in_err-queue.ensures.err.members
          (λ g p. refl)
          (offers-more c.args.records.now x.queues x.ready c.insert_groups.new.offering x.offering c.requires
          (λ k e. c.insert_groups.ensures.kept k (c.insert_alone.ensures.kept k e)));
      rest = record { seats = refl; lines = refl; ringing = refl; working = refl; queued = refl };
    } in
    search (rules, untouched)

pub returns-in-Ok-clause-ok : goal.returns-in-Ok-clause-ok
returns-in-Ok-clause-ok c =
    let x = c.args.self.now in
    record {
      queues = c.in_ok-queue.ensures.ok;
      ready = c.in-Ok.ensures.ok;
      offers =
          offers-entered c.args.records.now x c.enter_alone.new.sets c.enter_entry.new.sets c.insert_groups.new.offering c.insert_alone.new.offering
          c.args.entries.now.queue c.args.entries.now.ready c.with_waiting-waiting.result c.requires c.in_ok-queue.ensures.ok c.in-Ok.ensures.ok
          c.insert_alone.ensures.kept c.in_ok-insert_alone.ensures.ok
          c.with_waiting-waiting.ensures (c.insert_groups.ensures.kept, c.in_ok-insert_groups.ensures.ok);
      rest = record { seats = refl; lines = refl; ringing = refl; working = refl; queued = refl };
    }

pub returns-in-Err-clause-err : goal.returns-in-Err-clause-err
returns-in-Err-clause-err c =
    let x = c.args.self.now in
    let back = undone x.queues c.enter_alone.new.sets c.leave_alone.new.sets c.in_ok-queue.queue c.in_ok-queue.ensures.undo c.leave_alone.ensures in
    record {
      queues = record { sets = λ g. c.leave_alone.ensures.sets g ∙ c.in_ok-queue.ensures.ok.sets g; members = back };
      ready = c.in-Err.ensures.err;
      offers =
          offers-same c.args.records.now x.queues c.leave_alone.new.sets x.ready c.enter_entry.new.sets c.insert_groups.new.offering back
          c.in-Err.ensures.err.members
          (offers-more c.args.records.now x.queues x.ready c.insert_groups.new.offering x.offering c.requires
          (λ k e. c.insert_groups.ensures.kept k (c.insert_alone.ensures.kept k e)));
      rest = record { seats = refl; lines = refl; ringing = refl; working = refl; queued = refl };
    }
