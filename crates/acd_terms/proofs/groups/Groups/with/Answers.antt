use Rattle.std.proofs.Common.{ap, ◌∙◌}
use Rattle.std.specs.Ordering.{nat_cmp}
use Rattle.acd_terms.specs.Lists.{ascends}
use Rattle.acd_terms.proofs.NumbersInOrder.{put_ascends}
use Rattle.acd_terms.proofs.groups.Groups.with.Goals as goal

pub invariant_of-result : goal.invariant_of-result
invariant_of-result c =
    ap (ascends nat_cmp) c.put.ensures ∙ put_ascends c.args.group c.as_slice.result.now (ap (ascends nat_cmp) c.as_slice.ensures.value ∙ c.as_slice.ensures.ascending)
