use Rattle.std.proofs.Common.{◌≡◌, ◌++◌, drop, map}
use Rattle.acd_sql_differences.specs.ChangeOrder.{unseated}
use Rattle.acd_sql_differences.proofs.transition.all_unseated.Given as goal

abbrev pub invariant-loop-agent : goal.invariant-loop-agent
invariant-loop-agent l = l.agents.items ++ map (unseated l.new) (drop l.agent-index l.held) ≡ map (unseated l.new) l.held
