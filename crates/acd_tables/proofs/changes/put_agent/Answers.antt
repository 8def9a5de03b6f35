use Rattle.std.proofs.Common.{sym, subst}
use Rattle.acd_model.specs.Writes.{with_agent}
use Rattle.acd_tables.specs.IndexedRows.{Seats, Working}
use Rattle.acd_tables.specs.Swaps.{TakenOut, Offers}
use Rattle.acd_tables.proofs.OfferLemmas.{offers-of}
use Rattle.acd_tables.proofs.IndexLemmas.{IsIndexed-untouched, IsIndexed-agent, IsIndexed-no_agent, group_same, groups_seated}
use Rattle.acd_tables.proofs.changes.put_agent.Goals as goal

pub put_seated-requires-clause-seated : goal.put_seated-requires-clause-seated
put_seated-requires-clause-seated c = subst (Seats c.args.records.now) (sym c.in_ok-undo.ensures.ok.rest.seats) c.requires.seats

pub put_seated-requires-clause-index : goal.put_seated-requires-clause-index
put_seated-requires-clause-index c = subst (Working c.args.records.now) (sym c.in_ok-undo.ensures.ok.rest.working) c.requires.working

pub returns-in_err-undo-clause-indexed : goal.returns-in_err-undo-clause-indexed
returns-in_err-undo-clause-indexed c = IsIndexed-untouched c.args.records.now c.args.indexes.now c.enter.new.self c.requires c.in_err-undo.ensures.err

pub returns-in-Ok-clause-indexed : goal.returns-in-Ok-clause-indexed
returns-in-Ok-clause-indexed c =
    let s = c.args.records.now in
    let y = c.enter.new.self in
    let seats = c.put_seated.new.seats in
    let working = c.put_seated.new.working in
    let now = with_agent s c.args.item.now in
    let made = c.in-Ok.ensures.ok in
    rw made (IsIndexed-agent s c.args.item.now c.args.indexes.now y c.settle.new.self seats working c.agent_swap-swap.result c.requires c.in_ok-undo.ensures.ok
    (subst (λ t. TakenOut t (record y { seats = seats; working = working }) c.settle.new.self c.agent_swap-swap.result.leaving) made c.settle.ensures.taken)
    c.agent_swap-swap.ensures
    (subst (λ t. Seats t seats) made c.put_seated.ensures.seated) (subst (λ t. Working t working) made c.put_seated.ensures.index))

pub returns-in-Err-clause-indexed : goal.returns-in-Err-clause-indexed
returns-in-Err-clause-indexed c =
    let s = c.args.records.now in
    let y = c.enter.new.self in
    let seats = c.put_seated.new.seats in
    let working = c.put_seated.new.working in
    let same = c.in-Err.ensures.err in
    rw same (IsIndexed-no_agent s c.args.indexes.now y c.take_out.new.self seats working c.agent_swap-swap.result.entering c.in_ok-undo.undo c.requires
    c.in_ok-undo.ensures.ok c.in_ok-undo.ensures.undo
    (subst (λ t. TakenOut t (record y { seats = seats; working = working }) c.take_out.new.self c.in_ok-undo.undo) same c.take_out.ensures)
    (subst (λ t. Seats t seats) same c.put_seated.ensures.seated) (subst (λ t. Working t working) same c.put_seated.ensures.index))

pub settle-requires : goal.settle-requires
settle-requires c =
    let s = c.args.records.now in
    let y = c.enter.new.self in
    rw c.in-Ok.ensures.ok (offers-of s (with_agent s c.args.item.now) y.queues y.ready y.offering
    (group_same s (with_agent s c.args.item.now) (groups_seated s c.args.item.now)) c.in_ok-undo.ensures.ok.offers)

pub take_out-requires : goal.take_out-requires
take_out-requires c = subst (λ t. Offers t c.enter.new.self) (sym c.in-Err.ensures.err) c.in_ok-undo.ensures.ok.offers
