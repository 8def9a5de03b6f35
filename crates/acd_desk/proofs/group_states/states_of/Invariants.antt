use Rattle.std.proofs.Common.{◌≡◌, ◌++◌, drop, map}
use Rattle.acd_reports.specs.QueueReport.{group_state}
use Rattle.acd_desk.proofs.group_states.states_of.Given as goal

abbrev pub invariant-loop-group : goal.invariant-loop-group
invariant-loop-group l = l.states.items ++ map (group_state l.tables) (drop l.group-index l.groups) ≡ map (group_state l.tables) l.groups
