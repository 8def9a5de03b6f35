use Rattle.std.proofs.Common.{◌==◌, ◌&&◌}
use Rattle.acd_terms.specs.declared.record.ConnectionRecord.{ConnectionRecord}
use Rattle.acd_terms.specs.States.{is_occupying}
use Rattle.acd_rules.proofs.RuleLists.{asked, and_left}
use Rattle.acd_rules.proofs.occupied.has_occupying.Goals as goal

pub returns : goal.returns
returns c =
    asked (λ (x : ConnectionRecord). x.device == c.args.station && is_occupying x.state) (λ (x : ConnectionRecord). x.device == c.args.station)
    (λ x is. and_left _ _ is) _ _ _ c.has_occupying_among.ensures c.at_device.ensures
