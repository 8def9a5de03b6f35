use Rattle.std.proofs.Common.{◌↔◌, drop}
use Rattle.acd_sql_differences.specs.Transition.{AreWhole}
use Rattle.acd_sql_differences.proofs.transition.are_whole.Given as goal

abbrev pub invariant-loop-change : goal.invariant-loop-change
invariant-loop-change l = AreWhole (drop l.change-index l.changes) ↔ AreWhole l.changes
