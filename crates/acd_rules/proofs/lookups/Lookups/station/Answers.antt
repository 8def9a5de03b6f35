use Rattle.std.proofs.Common.{◌∙◌, rules}
use Rattle.acd_model.specs.Scans.{station_of}
use Rattle.acd_rules.specs.Groups.{station_number}
use Rattle.acd_rules.proofs.LookUpLemmas.{looked_up}
use Rattle.acd_rules.proofs.RuleLists.{found_of_part}
use Rattle.acd_rules.proofs.lookups.Lookups.station.Goals as goal

pub returns : goal.returns
unfolding station_of
returns c =
    c.find.ensures
    ∙ found_of_part station_number c.args.device _ _
    (looked_up _ _ station_number _ _ _ _ _ c.with.ensures c.number.ensures.value c.args.self.now.stations_are (λ a r f' k. search rules))
