use Rattle.std.proofs.Common.{◌==◌, ◌&&◌}
use Rattle.acd_terms.specs.declared.record.ConnectionRecord.{ConnectionRecord}
use Rattle.acd_terms.specs.States.{is_distributed}
use Rattle.acd_model.specs.Scans.{is_occupied, has}
use Rattle.acd_rules.proofs.RuleLists.{asked, asked_none, has_there, has_none, and_left}
use Rattle.acd_rules.proofs.occupied.is_occupied.Goals as goal

pub returns-in_default : goal.returns-in_default
unfolding is_occupied
returns-in_default c =
    asked_none _ (λ x. has_none c.args.agent.now.station x.device (is_distributed x) c.in_default.is) c.args.lookups.now.rows.now.connections

pub returns : goal.returns
unfolding is_occupied
returns c =
    asked (λ (x : ConnectionRecord). has c.args.agent.now.station x.device && is_distributed x) (λ (x : ConnectionRecord). x.device == c.in-Some.station)
    (λ x is. has_there c.args.agent.now.station c.in-Some.station x.device c.in-Some.is (and_left _ _ is)) _ _ _ c.is_occupied_among.ensures c.at_device.ensures
