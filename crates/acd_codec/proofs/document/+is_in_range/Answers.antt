use Rattle.std.proofs.Common.{◌≡◌, true, false, is_some, refl, sym, ap, ◌∙◌, arith}
use Rattle.std.proofs.Math.ListN.{drop_of_length-le}
use Rattle.json.specs.Value.{value_view}
use Rattle.serde_json.specs.Read.{of_json}
use Rattle.acd_codec.proofs.Documents.{items_fit, items_fit_more, members_fit, members_fit_more, members_fit_is, left_at}
use Rattle.acd_codec.proofs.document.+is_in_range.Goals as goal

pub are_items_in_range-loop-item-init : goal.are_items_in_range-loop-item-init
are_items_in_range-loop-item-init t c = ap items_fit c.deref-item-items.ensures.value

pub are_items_in_range-returns-then-not-is_in_range : goal.are_items_in_range-returns-then-not-is_in_range
are_items_in_range-returns-then-not-is_in_range t c = (
    let out : is_some (of_json (value_view c.item-item.result)) ≡ false = sym c.is_in_range.ensures ∙ c.if-not-is_in_range.true in
    sym (sym c.loop-item.invariant ∙ left_at items_fit (λ v. is_some (of_json (value_view v))) items_fit_more c.deref-item-items.result.now c.loop-item.item-index c.item-item.result c.item-item.is c.loop-item-test.true ∙ rw out refl))

pub are_items_in_range-loop-item-preserved : goal.are_items_in_range-loop-item-preserved
are_items_in_range-loop-item-preserved t c =
    let within : is_some (of_json (value_view c.item-item.result)) ≡ true = sym c.is_in_range.ensures ∙ c.if-not-is_in_range.false in
    sym (left_at items_fit (λ v. is_some (of_json (value_view v))) items_fit_more c.deref-item-items.result.now c.loop-item.item-index c.item-item.result c.item-item.is c.loop-item-test.true ∙ rw within refl) ∙ c.loop-item.invariant

pub are_items_in_range-returns : goal.are_items_in_range-returns
are_items_in_range-returns t c = (sym (sym c.loop-item.invariant ∙ ap items_fit (drop_of_length-le c.deref-item-items.result.now (omega (arith, c.loop-item-test.false)))))

pub are_members_in_range-loop-member-init : goal.are_members_in_range-loop-member-init
are_members_in_range-loop-member-init t c = ap members_fit c.deref-member-items.ensures.value

pub are_members_in_range-returns-then-not-is_in_range : goal.are_members_in_range-returns-then-not-is_in_range
are_members_in_range-returns-then-not-is_in_range t c = λ found. (
    let out : is_some (of_json (value_view c.member-item.result.1)) ≡ false = sym c.is_in_range.ensures ∙ c.if-not-is_in_range.true in
    sym (sym c.loop-member.invariant ∙ left_at members_fit (λ v. is_some (of_json (value_view v.1))) members_fit_more c.deref-member-items.result.now c.loop-member.member-index c.member-item.result c.member-item.is c.loop-member-test.true ∙ rw out refl) ∙ sym (members_fit_is c.args.members.now.items found))

pub are_members_in_range-loop-member-preserved : goal.are_members_in_range-loop-member-preserved
are_members_in_range-loop-member-preserved t c =
    let within : is_some (of_json (value_view c.member-item.result.1)) ≡ true = sym c.is_in_range.ensures ∙ c.if-not-is_in_range.false in
    sym (left_at members_fit (λ v. is_some (of_json (value_view v.1))) members_fit_more c.deref-member-items.result.now c.loop-member.member-index c.member-item.result c.member-item.is c.loop-member-test.true ∙ rw within refl) ∙ c.loop-member.invariant

pub are_members_in_range-returns : goal.are_members_in_range-returns
are_members_in_range-returns t c = λ found. (sym (sym c.loop-member.invariant ∙ ap members_fit (drop_of_length-le c.deref-member-items.result.now (omega (arith, c.loop-member-test.false)))) ∙ sym (members_fit_is c.args.members.now.items found))
