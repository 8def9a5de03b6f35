use Rattle.std.proofs.Common.{◌==◌}
use Rattle.acd_terms.specs.declared.record.ConnectionRecord.{ConnectionRecord}
use Rattle.acd_model.specs.Rules.Calls.{hold_at}
use Rattle.acd_rules.proofs.RuleLists.{tallied, and_right}
use Rattle.acd_rules.proofs.calls.hold_at.Goals as goal

pub returns : goal.returns
returns c =
    tallied (hold_at c.args.device) (λ (x : ConnectionRecord). x.device == c.args.device) (λ x is. and_right _ _ is) _ _ _ c.held_among.ensures
    c.at_device.ensures
