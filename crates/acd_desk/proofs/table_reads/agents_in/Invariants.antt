use Rattle.std.proofs.Common.{◌≡◌, ◌++◌, map}
use Rattle.acd_desk.proofs.table_reads.agents_in.Given as goal

abbrev pub invariant-loop-agent : goal.invariant-loop-agent
invariant-loop-agent l = l.agents.items ++ map (λ p. p.1) l.agent-iterator ≡ map (λ p. p.1) l.ready.keys
