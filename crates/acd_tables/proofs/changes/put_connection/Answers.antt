use Rattle.std.proofs.Common.{sym, subst}
use Rattle.acd_model.specs.Writes.{with_connection}
use Rattle.acd_tables.specs.IndexedRows.{Lines, Ringing}
use Rattle.acd_tables.specs.Swaps.{TakenOut, Offers}
use Rattle.acd_tables.proofs.OfferLemmas.{offers-of}
use Rattle.acd_tables.proofs.IndexLemmas.{IsIndexed-untouched, IsIndexed-put, IsIndexed-no_put, group_same, groups_put}
use Rattle.acd_tables.proofs.changes.put_connection.Goals as goal

pub put_listed-requires-clause-listed : goal.put_listed-requires-clause-listed
put_listed-requires-clause-listed c = subst (Lines c.args.records.now) (sym c.in_ok-undo.ensures.ok.rest.lines) c.requires.lines

pub put_listed-requires-clause-index : goal.put_listed-requires-clause-index
put_listed-requires-clause-index c = subst (Ringing c.args.records.now) (sym c.in_ok-undo.ensures.ok.rest.ringing) c.requires.ringing

pub returns-in_err-undo-clause-indexed : goal.returns-in_err-undo-clause-indexed
returns-in_err-undo-clause-indexed c = IsIndexed-untouched c.args.records.now c.args.indexes.now c.enter.new.self c.requires c.in_err-undo.ensures.err

pub returns-in-Ok-clause-indexed : goal.returns-in-Ok-clause-indexed
returns-in-Ok-clause-indexed c =
    let s = c.args.records.now in
    let y = c.enter.new.self in
    let lines = c.put_listed.new.lines in
    let ringing = c.put_listed.new.ringing in
    let made = c.in-Ok.ensures.ok in
    rw made (IsIndexed-put s c.args.item.now c.args.indexes.now y c.settle.new.self lines ringing c.connection_swap-swap.result c.queued_after-queued.result
    c.requires c.in_ok-undo.ensures.ok
    (subst (λ t. TakenOut t (record y { lines = lines; ringing = ringing }) c.settle.new.self c.connection_swap-swap.result.leaving) made
    c.settle.ensures.taken)
    c.connection_swap-swap.ensures
    (subst (λ t. Lines t lines) made c.put_listed.ensures.listed, subst (λ t. Ringing t ringing) made c.put_listed.ensures.index)
    c.queued_after-queued.ensures)

pub returns-in-Err-clause-indexed : goal.returns-in-Err-clause-indexed
returns-in-Err-clause-indexed c =
    let s = c.args.records.now in
    let y = c.enter.new.self in
    let lines = c.put_listed.new.lines in
    let ringing = c.put_listed.new.ringing in
    let same = c.in-Err.ensures.err in
    rw same (IsIndexed-no_put s c.args.indexes.now y c.take_out.new.self lines ringing c.connection_swap-swap.result.entering c.in_ok-undo.undo c.requires
    c.in_ok-undo.ensures.ok c.in_ok-undo.ensures.undo
    (subst (λ t. TakenOut t (record y { lines = lines; ringing = ringing }) c.take_out.new.self c.in_ok-undo.undo) same c.take_out.ensures)
    (subst (λ t. Lines t lines) same c.put_listed.ensures.listed, subst (λ t. Ringing t ringing) same c.put_listed.ensures.index))

pub settle-requires : goal.settle-requires
settle-requires c =
    let s = c.args.records.now in
    let y = c.enter.new.self in
    rw c.in-Ok.ensures.ok (offers-of s (with_connection s c.args.item.now) y.queues y.ready y.offering
    (group_same s (with_connection s c.args.item.now) (groups_put s c.args.item.now)) c.in_ok-undo.ensures.ok.offers)

pub take_out-requires : goal.take_out-requires
take_out-requires c = subst (λ t. Offers t c.enter.new.self) (sym c.in-Err.ensures.err) c.in_ok-undo.ensures.ok.offers
