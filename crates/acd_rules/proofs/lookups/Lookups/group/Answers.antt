use Rattle.std.proofs.Common.{◌∙◌, rules}
use Rattle.acd_model.specs.Scans.{group_of}
use Rattle.acd_rules.specs.Groups.{group_number}
use Rattle.acd_rules.proofs.LookUpLemmas.{looked_up}
use Rattle.acd_rules.proofs.RuleLists.{found_of_part}
use Rattle.acd_rules.proofs.lookups.Lookups.group.Goals as goal

pub returns : goal.returns
unfolding group_of
returns c =
    c.find.ensures
    ∙ found_of_part group_number c.args.device _ _
    (looked_up _ _ group_number _ _ _ _ _ c.with.ensures c.number.ensures.value c.args.self.now.groups_are (λ a r f' k. search rules))
