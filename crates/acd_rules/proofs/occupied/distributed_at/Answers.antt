use Rattle.std.proofs.Common.{◌==◌}
use Rattle.acd_terms.specs.declared.record.ConnectionRecord.{ConnectionRecord}
use Rattle.acd_model.specs.OneOffer.{is_distributed_at}
use Rattle.acd_rules.proofs.RuleLists.{tallied, and_right}
use Rattle.acd_rules.proofs.occupied.distributed_at.Goals as goal

pub returns : goal.returns
returns c =
    tallied (is_distributed_at c.args.device) (λ (x : ConnectionRecord). x.device == c.args.device) (λ x is. and_right _ _ is) _ _ _ c.distributed_among.ensures
    c.at_device.ensures
