use Rattle.std.proofs.Common.{◌==◌}
use Rattle.acd_terms.specs.declared.record.ConnectionRecord.{ConnectionRecord}
use Rattle.acd_model.specs.Rules.Occupied.{rings_from}
use Rattle.acd_rules.specs.Groups.{party_group}
use Rattle.acd_rules.proofs.RuleLists.{tallied, and_left, has_number}
use Rattle.acd_rules.proofs.occupied.ringing_count.Goals as goal

pub returns : goal.returns
returns c =
    tallied (rings_from c.args.group) (λ (x : ConnectionRecord). party_group x == c.args.group) (λ x is. has_number x.group c.args.group (and_left _ _ is)) _ _
    _ c.ringing_among.ensures c.of_group.ensures
