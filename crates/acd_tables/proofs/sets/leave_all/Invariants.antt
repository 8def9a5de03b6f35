use Rattle.std.proofs.Common.{Some, take}
use Rattle.acd_tables.specs.Swaps.{Leaves}
use Rattle.acd_tables.proofs.sets.leave_all.Given as goal

abbrev pub invariant-loop-group : goal.invariant-loop-group
invariant-loop-group g l = Leaves g.E.Ord.cmp l.initial.sets l.sets (Some (take l.group-index l.groups, l.member))
