use Rattle.std.proofs.Common.{◌&&◌, subst, sym, ◌∙◌}
use Rattle.std.specs.Ordering.{is_eq}
use Rattle.std.specs.BTreeSet.{contains}
use Rattle.std.proofs.lemmas.Bool.{or_right}
use Rattle.acd_tables.specs.Sets.{Inserted}
use Rattle.acd_tables.specs.IndexedRows.{IsIndexed, OfferKey, offer_cmp}
use Rattle.acd_tables.proofs.Results.{either}
use Rattle.acd_tables.proofs.IndexLemmas.{IsIndexed-group, IsIndexed-sets, IsIndexed-both, IsIndexed-stays, IsIndexed-offering_more, IsIndexed-ranked}
use Rattle.acd_tables.proofs.changes.put_group.Goals as goal

pub returns-then-has_rank-clause-indexed : goal.returns-then-has_rank-clause-indexed
returns-then-has_rank-clause-indexed c =
    let s = c.args.records.now in
    let x = c.args.indexes.now in
    let now = IsIndexed-ranked s c.args.item x c.group-old.result c.group-old.ensures (sym c.has_rank.ensures ∙ c.if-has_rank.true) c.requires in
    either c.put_group.result c.put_group.ensures.ok c.put_group.ensures.err (λ e. subst (λ t. IsIndexed t x) (sym e) now)
    (λ e. subst (λ t. IsIndexed t x) (sym e) c.requires)

pub returns-in_err-add_set-clause-indexed : goal.returns-in_err-add_set-clause-indexed
returns-in_err-add_set-clause-indexed c = IsIndexed-stays c.args.records.now c.args.indexes.now c.add_set.new.sets c.requires c.in_err-add_set.ensures.err

pub returns-in_err-add_set-2-clause-indexed : goal.returns-in_err-add_set-2-clause-indexed
returns-in_err-add_set-2-clause-indexed c =
    IsIndexed-sets c.args.records.now c.args.indexes.now c.add_set.new.sets c.add_set-2.new.sets c.args.item.device c.requires c.in_ok-add_set.ensures.ok
    c.in_err-add_set-2.ensures.err

pub returns-in_err-insert_if-clause-indexed : goal.returns-in_err-insert_if-clause-indexed
returns-in_err-insert_if-clause-indexed c =
    let s = c.args.records.now in
    let x = c.args.indexes.now in
    let both =
    IsIndexed-both s x c.add_set.new.sets c.add_set-2.new.sets c.args.item.device c.requires c.in_ok-add_set.ensures.ok c.in_ok-add_set-2.ensures.ok in
    IsIndexed-offering_more s (record x { queues = c.add_set.new.sets; ready = c.add_set-2.new.sets }) c.insert_if.new.index both
    (λ k e. c.in_err-insert_if.ensures.err k ∙ e)

pub returns-in_err-put_group-clause-indexed : goal.returns-in_err-put_group-clause-indexed
returns-in_err-put_group-clause-indexed c =
    let s = c.args.records.now in
    let x = c.args.indexes.now in
    let both =
    IsIndexed-both s x c.add_set.new.sets c.add_set-2.new.sets c.args.item.device c.requires c.in_ok-add_set.ensures.ok c.in_ok-add_set-2.ensures.ok in
    rw c.in_err-put_group.ensures.err
    (IsIndexed-offering_more s (record x { queues = c.add_set.new.sets; ready = c.add_set-2.new.sets }) c.insert_if.new.index both
    (λ k e. c.in_ok-insert_if.ensures.ok k
    ∙ or_right (c.may_offer-offers.result && is_eq (offer_cmp c.offer_key.result k)) (contains offer_cmp x.offering k) e))

pub returns-clause-indexed : goal.returns-clause-indexed
returns-clause-indexed c =
    rw c.in_ok-put_group.ensures.ok (IsIndexed-group c.args.records.now c.args.item c.group-old.result c.args.indexes.now c.add_set.new.sets
    c.add_set-2.new.sets c.insert_if.new.index c.forget_rank.new.offering
    c.group-old.ensures c.requires c.in_ok-add_set.ensures.ok c.in_ok-add_set-2.ensures.ok
    (record {
      belongs = c.may_offer-offers.result;
      none = c.may_offer-offers.ensures.none;
      insertion =
          subst (λ (k : OfferKey). Inserted offer_cmp c.args.indexes.now.offering c.insert_if.new.index k c.may_offer-offers.result) c.offer_key.ensures
          c.in_ok-insert_if.ensures.ok;
    })
    c.forget_rank.ensures)
