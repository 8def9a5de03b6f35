use Rattle.std.proofs.Common.{◌==◌}
use Rattle.acd_terms.specs.declared.record.ConnectionRecord.{ConnectionRecord}
use Rattle.acd_model.specs.Rules.Calls.{parties_of}
use Rattle.acd_rules.proofs.RuleLists.{tallied}
use Rattle.acd_rules.proofs.calls.parties_of.Goals as goal

pub returns : goal.returns
returns c = tallied (parties_of c.args.call) (λ (x : ConnectionRecord). x.call == c.args.call) (λ x is. is) _ _ _ c.parties_among.ensures c.of_call.ensures
