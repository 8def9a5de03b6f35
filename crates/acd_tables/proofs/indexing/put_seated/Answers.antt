use Rattle.std.proofs.Common.{ap, subst, sym, ◌∙◌}
use Rattle.acd_tables.specs.IndexedRows.{agent_station, Seats}
use Rattle.acd_tables.proofs.IndexingLemmas.{stands, Seats-put, Seats-back, Seats-same}
use Rattle.acd_tables.proofs.indexing.put_seated.Goals as goal

pub sit-requires : goal.sit-requires
sit-requires c =
    stands c.args.records.now c.args.item.now c.args.seats.now c.requires.seated c.agent_station-from.result
    (c.agent_station-from.ensures ∙ ap agent_station c.requires.found)

pub returns-in_err-sit-clause-seated : goal.returns-in_err-sit-clause-seated
returns-in_err-sit-clause-seated c = Seats-same c.args.records.now c.args.seats.now c.sit.new.seats c.in_err-sit.ensures.err c.requires.seated

pub returns-in-Ok-clause-seated : goal.returns-in-Ok-clause-seated
returns-in-Ok-clause-seated c =
    let of_agent = c.agent_station-from.ensures ∙ ap agent_station c.requires.found in
    subst (λ s. Seats s c.leave_seat.new.seats) (sym c.in-Ok.ensures.ok)
    (Seats-put c.args.records.now c.args.item.now c.args.seats.now c.requires.seated c.sit.new.seats c.leave_seat.new.seats c.agent_station-from.result of_agent
    c.in_ok-sit.ensures.free c.in_ok-sit.ensures.ok c.leave_seat.ensures)

pub returns-in-Err-clause-seated : goal.returns-in-Err-clause-seated
returns-in-Err-clause-seated c =
    let of_agent = c.agent_station-from.ensures ∙ ap agent_station c.requires.found in
    subst (λ s. Seats s c.leave_seat-in-Err.new.seats) (sym c.in-Err.ensures.err)
    (Seats-back c.args.records.now c.args.item.now c.args.seats.now c.requires.seated c.sit.new.seats c.leave_seat-in-Err.new.seats c.agent_station-from.result
    of_agent c.in_ok-sit.ensures.free c.in_ok-sit.ensures.ok c.leave_seat-in-Err.ensures)
