use Rattle.std.proofs.Common.{◌==◌, ◌&&◌}
use Rattle.acd_terms.specs.declared.record.ConnectionRecord.{ConnectionRecord}
use Rattle.acd_terms.specs.States.{is_distributed, is_answered}
use Rattle.acd_model.specs.Scans.{has}
use Rattle.acd_rules.proofs.RuleLists.{asked, asked_none, has_there, has_none_of, and_left}
use Rattle.acd_rules.proofs.occupied.is_talking.Goals as goal

pub returns-in_default : goal.returns-in_default
returns-in_default c =
    asked_none _ (λ x. has_none_of c.args.agent.now.station x.device (is_distributed x) (is_answered x.state) c.in_default.is)
    c.args.lookups.now.rows.now.connections

pub returns : goal.returns
returns c =
    asked (λ (x : ConnectionRecord). has c.args.agent.now.station x.device && is_distributed x && is_answered x.state)
    (λ (x : ConnectionRecord). x.device == c.in-Some.station)
    (λ x is. has_there c.args.agent.now.station c.in-Some.station x.device c.in-Some.is (and_left _ _ (and_left _ _ is))) _ _ _ c.is_talking_among.ensures
    c.at_device.ensures
