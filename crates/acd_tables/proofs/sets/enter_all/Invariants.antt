use Rattle.std.proofs.Common.{Some, take, length, ◌≤◌}
use Rattle.acd_tables.specs.Swaps.{Enters, Undoes}
use Rattle.acd_tables.proofs.sets.enter_all.Given as goal

abbrev pub invariant-loop-group : goal.invariant-loop-group
invariant-loop-group g l = record {
  enters : Enters g.E.Ord.cmp l.initial.sets l.sets (Some (take l.group-index l.groups, l.member));
  undoes : Undoes g.E.Ord.cmp l.initial.sets l.sets (Some (l.entered, l.member));
  few : length l.entered ≤ l.group-index;
}
