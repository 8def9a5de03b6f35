use Rattle.std.proofs.Common.{◌≡◌, ◌++◌, drop, filter}
use Rattle.acd_sql_differences.specs.ChangeOrder.{stays}
use Rattle.acd_sql_differences.proofs.transition.staying.Given as goal

abbrev pub invariant-loop-connection : goal.invariant-loop-connection
invariant-loop-connection l = l.connections.items ++ filter (stays l.new) (drop l.connection-index l.held) ≡ filter (stays l.new) l.held
