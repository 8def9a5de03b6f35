use Rattle.std.proofs.Common.{◌≡◌, ◌++◌, ◌+◌, ◌≤◌, length, drop, cond}
use Rattle.std.specs.Ordering.{nat_cmp}
use Rattle.acd_terms.specs.Lists.{put_by}
use Rattle.acd_terms.proofs.groups.put.Given as goal

abbrev pub invariant-loop-other : goal.invariant-loop-other
invariant-loop-other l = record {
  left : l.list ++ cond l.placed (drop l.other-index l.others) (put_by (nat_cmp l.group) (drop l.other-index l.others) l.group)
      ≡ put_by (nat_cmp l.group) l.others l.group;
  size : length l.list ≤ l.other-index + cond l.placed 1 0;
}
