use Rattle.std.proofs.Common.{◌==◌}
use Rattle.acd_terms.specs.declared.record.ConnectionRecord.{ConnectionRecord}
use Rattle.acd_model.specs.Rules.Calls.{initiated_at}
use Rattle.acd_rules.proofs.RuleLists.{tallied, and_left, and_right}
use Rattle.acd_rules.proofs.calls.initiated_at.Goals as goal

pub returns : goal.returns
returns c =
    tallied (initiated_at c.args.call c.args.device) (λ (x : ConnectionRecord). x.call == c.args.call) (λ x is. and_right _ _ (and_left _ _ is)) _ _ _
    c.initiated_at_among.ensures c.of_call.ensures
