use Rattle.std.proofs.Common.{◌≡◌, drop}
use Rattle.acd_codec.proofs.Documents.{items_fit, members_fit}
use Rattle.acd_codec.proofs.document.+is_in_range.Given as goal

abbrev pub invariant-are_items_in_range-loop-item : goal.invariant-are_items_in_range-loop-item
invariant-are_items_in_range-loop-item l = items_fit (drop l.item-index l.item-items) ≡ items_fit l.items.items

abbrev pub invariant-are_members_in_range-loop-member : goal.invariant-are_members_in_range-loop-member
invariant-are_members_in_range-loop-member l = members_fit (drop l.member-index l.member-items) ≡ members_fit l.members.items
