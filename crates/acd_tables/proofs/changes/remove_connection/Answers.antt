use Rattle.std.proofs.Common.{ap, subst, ◌∙◌}
use Rattle.acd_model.specs.Writes.{without_connection}
use Rattle.acd_tables.specs.Sets.{Removed}
use Rattle.acd_tables.specs.IndexedRows.{rings, pair_cmp}
use Rattle.acd_tables.specs.Swaps.{TakenOut}
use Rattle.acd_tables.proofs.OfferLemmas.{offers-of}
use Rattle.acd_tables.proofs.IndexLemmas.{IsIndexed-untouched, IsIndexed-removed, group_same, groups_less}
use Rattle.acd_tables.proofs.changes.remove_connection.Goals as goal

pub settle-requires : goal.settle-requires
settle-requires c =
    let s = c.args.records.now in
    let y = c.enter.new.self in
    rw c.remove_connection.ensures (offers-of s (without_connection s c.args.call c.args.device) y.queues y.ready y.offering
    (group_same s (without_connection s c.args.call c.args.device) (groups_less s c.args.call c.args.device)) c.in_ok-enter.ensures.ok.offers)

pub returns-in_err-enter-clause-indexed : goal.returns-in_err-enter-clause-indexed
returns-in_err-enter-clause-indexed c = IsIndexed-untouched c.args.records.now c.args.indexes.now c.enter.new.self c.requires c.in_err-enter.ensures.err

pub returns-clause-indexed : goal.returns-clause-indexed
returns-clause-indexed c =
    let y = c.enter.new.self in
    rw (c.remove_connection.ensures, c.queued_after-queued.ensures)
    (IsIndexed-removed c.args.records.now c.args.call c.args.device c.args.indexes.now y c.settle.new.self c.unlist.new.lines c.remove_if.new.index
    c.connection_swap-swap.result c.requires c.in_ok-enter.ensures.ok
    (subst (λ t. TakenOut t (record y { lines = c.unlist.new.lines; ringing = c.remove_if.new.index }) c.settle.new.self c.connection_swap-swap.result.leaving)
    c.remove_connection.ensures c.settle.ensures.taken)
    c.connection_swap-swap.ensures
    (subst (λ b. Removed pair_cmp y.ringing c.remove_if.new.index (c.args.call, c.args.device) b) (c.rings.ensures ∙ ap rings c.connection-old.ensures) c.remove_if.ensures)
    c.unlist.ensures)
