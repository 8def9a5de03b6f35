use Rattle.std.proofs.Common.{◌==◌}
use Rattle.acd_terms.specs.declared.record.ConnectionRecord.{ConnectionRecord}
use Rattle.acd_model.specs.Rules.Occupied.{waits_in}
use Rattle.acd_rules.proofs.RuleLists.{asked, and_left}
use Rattle.acd_rules.proofs.occupied.has_waiting.Goals as goal

pub returns : goal.returns
returns c =
    asked (waits_in c.args.group) (λ (x : ConnectionRecord). x.device == c.args.group) (λ x is. and_left _ _ is) _ _ _ c.has_waiting_among.ensures
    c.at_device.ensures
