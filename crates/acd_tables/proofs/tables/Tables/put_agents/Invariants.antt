use Rattle.std.proofs.Common.{◌≡◌, take}
use Rattle.acd_tables.proofs.tables.Tables.put_agents.Given as goal

abbrev pub invariant-loop-agent : goal.invariant-loop-agent
invariant-loop-agent l = l.self ≡ record l.fn.self { agents = take l.agent-index l.agents }
