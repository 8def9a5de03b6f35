use Rattle.std.proofs.Common.{true, ◌&&◌, ap, sym, ◌∙◌}
use Rattle.std.specs.Ordering.{is_eq}
use Rattle.std.specs.BTreeSet.{contains}
use Rattle.std.proofs.lemmas.Bool.{or_left, or_right}
use Rattle.acd_lemmas.proofs.Lists.{some_is}
use Rattle.acd_tables.specs.IndexedRows.{OfferKey, offer_cmp, offer_key}
use Rattle.acd_tables.proofs.OfferLemmas.{key_itself}
use Rattle.acd_tables.proofs.indexes.insert_group.Goals as goal

pub returns-in_err-insert_if-in-Some-clause-kept : goal.returns-in_err-insert_if-in-Some-clause-kept
returns-in_err-insert_if-in-Some-clause-kept c = λ k e. c.in_err-insert_if-in-Some.ensures.err k ∙ e

pub returns-in_ok-insert_if-in-Some-clause-kept : goal.returns-in_ok-insert_if-in-Some-clause-kept
returns-in_ok-insert_if-in-Some-clause-kept c = λ k e.
    c.in_ok-insert_if-in-Some.ensures.ok k ∙ or_right (true && is_eq (offer_cmp c.offer_key.result k)) (contains offer_cmp c.args.offering.now k) e

pub returns-in_ok-insert_if-in-Some-clause-ok : goal.returns-in_ok-insert_if-in-Some-clause-ok
returns-in_ok-insert_if-in-Some-clause-ok c = λ r f.
    let same = some_is c.in-Some.record r (sym c.in-Some.is ∙ c.group.ensures ∙ f) in
    c.in_ok-insert_if-in-Some.ensures.ok (offer_key r)
    ∙ or_left (true && is_eq (offer_cmp c.offer_key.result (offer_key r))) (contains offer_cmp c.args.offering.now (offer_key r))
    (ap (λ (k : OfferKey). is_eq (offer_cmp k (offer_key r))) (c.offer_key.ensures ∙ ap offer_key same) ∙ key_itself (offer_key r))
