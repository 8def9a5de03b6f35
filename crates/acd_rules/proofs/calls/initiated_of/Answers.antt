use Rattle.std.proofs.Common.{◌==◌}
use Rattle.acd_terms.specs.declared.record.ConnectionRecord.{ConnectionRecord}
use Rattle.acd_model.specs.Rules.Calls.{initiated_of}
use Rattle.acd_rules.proofs.RuleLists.{tallied, and_right}
use Rattle.acd_rules.proofs.calls.initiated_of.Goals as goal

pub returns : goal.returns
returns c =
    tallied (initiated_of c.args.call) (λ (x : ConnectionRecord). x.call == c.args.call) (λ x is. and_right _ _ is) _ _ _ c.initiated_among.ensures
    c.of_call.ensures
