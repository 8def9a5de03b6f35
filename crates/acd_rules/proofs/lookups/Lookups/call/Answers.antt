use Rattle.std.proofs.Common.{◌∙◌, rules, refl}
use Rattle.acd_model.specs.Scans.{call_of}
use Rattle.acd_rules.specs.Groups.{call_number}
use Rattle.acd_rules.proofs.LookUpLemmas.{looked_up}
use Rattle.acd_rules.proofs.RuleLists.{found_of_part}
use Rattle.acd_rules.proofs.lookups.Lookups.call.Goals as goal

pub returns : goal.returns
unfolding call_of
returns c =
    c.find.ensures
    ∙ found_of_part call_number c.args.call _ _ (looked_up _ _ call_number _ _ _ _ _ c.with.ensures refl c.args.self.now.calls_are (λ a r f' k. search rules))
