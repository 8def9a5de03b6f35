use Rattle.std.proofs.Common.{◌≡◌, drop}
use Rattle.std.specs.Prelude.{find}
use Rattle.acd_terms.specs.declared.record.AgentRecord.{AgentRecord}
use Rattle.acd_model.specs.Scans.{has}
use Rattle.acd_rules.proofs.lookups.first_at.Given as goal

abbrev pub invariant-loop-a : goal.invariant-loop-a
invariant-loop-a l =
    find (λ (a : AgentRecord). has a.station l.station) (drop l.a-index l.agents) ≡ find (λ (a : AgentRecord). has a.station l.station) l.agents
