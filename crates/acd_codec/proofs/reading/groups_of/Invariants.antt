use Rattle.std.proofs.Common.{◌≡◌, [], drop}
use Rattle.acd_codec.proofs.GroupChoices.{with_named}
use Rattle.acd_codec.proofs.reading.groups_of.Given as goal

abbrev pub invariant-loop-item : goal.invariant-loop-item
invariant-loop-item l = with_named l.groups (drop l.item-index l.items) ≡ with_named [] l.items
