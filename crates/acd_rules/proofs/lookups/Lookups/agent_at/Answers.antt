use Rattle.std.proofs.Common.{◌==◌, ◌∙◌}
use Rattle.acd_terms.specs.declared.record.AgentRecord.{AgentRecord}
use Rattle.acd_model.specs.Scans.{agent_at, has}
use Rattle.acd_rules.specs.Groups.{seat_number}
use Rattle.acd_rules.proofs.RuleLists.{first_of_part, has_number}
use Rattle.acd_rules.proofs.lookups.Lookups.agent_at.Goals as goal

pub returns : goal.returns
unfolding agent_at
returns c =
    c.first_at.ensures
    ∙ first_of_part (λ (a : AgentRecord). has a.station c.args.station) (λ (a : AgentRecord). seat_number a == c.args.station)
    (λ a is. has_number a.station c.args.station is) _ _ c.agents_at.ensures
