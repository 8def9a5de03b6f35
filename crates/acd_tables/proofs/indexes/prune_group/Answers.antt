use Rattle.std.proofs.Common.{not, sym, subst, ◌∙◌}
use Rattle.acd_tables.specs.Sets.{Removed}
use Rattle.acd_tables.specs.IndexedRows.{OfferKey, offer_cmp}
use Rattle.acd_tables.proofs.OfferLemmas.{offers-pruned, offers-just, offers-fewer}
use Rattle.acd_tables.proofs.indexes.prune_group.Goals as goal
use Rattle.std.proofs.lemmas.Bool.{not-true}

pub returns-in-Some-clause-offers : goal.returns-in-Some-clause-offers
returns-in-Some-clause-offers c =
    offers-pruned c.args.records.now c.args.queues.now c.args.ready.now c.remove_if.new.index c.args.offering.now c.args.group _ _ c.requires
    (sym c.group.ensures ∙ c.in-Some.is)
    (λ e. c.may_offer-gone.ensures.none (not-true c.may_offer-gone.result e))
    (subst (λ (k : OfferKey). Removed offer_cmp c.args.offering.now c.remove_if.new.index k (not c.may_offer-gone.result)) c.offer_key.ensures
    c.remove_if.ensures)

pub returns-in-Some-clause-pruned : goal.returns-in-Some-clause-pruned
returns-in-Some-clause-pruned c r there index =
    offers-just c.args.records.now c.args.queues.now c.args.ready.now c.remove_if.new.index c.args.offering.now c.args.group c.in-Some.record r
    c.may_offer-gone.result (sym c.group.ensures ∙ c.in-Some.is) there
    c.may_offer-gone.ensures.some
    (subst (λ (k : OfferKey). Removed offer_cmp c.args.offering.now c.remove_if.new.index k (not c.may_offer-gone.result)) c.offer_key.ensures
    c.remove_if.ensures)
    index

pub returns-in-Some-clause-fewer : goal.returns-in-Some-clause-fewer
returns-in-Some-clause-fewer c =
    offers-fewer c.args.records.now c.remove_if.new.index c.args.offering.now c.offer_key.result (not c.may_offer-gone.result) c.remove_if.ensures
