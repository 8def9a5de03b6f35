use Rattle.std.proofs.Common.{◌==◌}
use Rattle.acd_terms.specs.declared.record.AgentRecord.{AgentRecord}
use Rattle.acd_model.specs.Scans.{has}
use Rattle.acd_rules.specs.Groups.{seat_number}
use Rattle.acd_rules.proofs.RuleLists.{tallied, has_number}
use Rattle.acd_rules.proofs.plan.agents_at.Goals as goal

pub returns : goal.returns
returns c =
    tallied (λ (b : AgentRecord). has b.station c.args.station) (λ (b : AgentRecord). seat_number b == c.args.station)
    (λ b is. has_number b.station c.args.station is) _ _ _ c.logged_on_among.ensures c.agents_at.ensures
