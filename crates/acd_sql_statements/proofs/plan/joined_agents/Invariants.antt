use Rattle.std.proofs.Common.{◌≡◌, map, take}
use Rattle.acd_sql_columns.specs.Relations.{joined_agent}
use Rattle.acd_sql_statements.proofs.plan.joined_agents.Given as goal

abbrev pub invariant-loop-part : goal.invariant-loop-part
invariant-loop-part l = l.agents.items ≡ map (joined_agent l.further) (take l.part-index l.parts)
