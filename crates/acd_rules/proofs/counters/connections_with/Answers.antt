use Rattle.std.proofs.Common.{◌==◌}
use Rattle.acd_terms.specs.declared.record.ConnectionRecord.{ConnectionRecord}
use Rattle.acd_model.specs.Scans.{has}
use Rattle.acd_rules.specs.Groups.{party_place}
use Rattle.acd_rules.proofs.RuleLists.{tallied, has_number}
use Rattle.acd_rules.proofs.counters.connections_with.Goals as goal

pub returns : goal.returns
returns c =
    tallied (λ (x : ConnectionRecord). has x.place c.args.place) (λ (x : ConnectionRecord). party_place x == c.args.place)
    (λ x is. has_number x.place c.args.place is) _ _ _ c.placed_among.ensures c.with_place.ensures
