use Rattle.std.proofs.Common.{Some, None, ◌∙◌}
use Rattle.acd_codec.specs.MemberReading.{devices_named}
use Rattle.acd_codec.proofs.GroupChoices.{chosen}
use Rattle.acd_codec.proofs.reading.choice_of.Goals as goal

pub returns-in-None : goal.returns-in-None
returns-in-None c = chosen (devices_named c.args.items.now) None c.in-None.ensures

pub returns-in-Some : goal.returns-in-Some
returns-in-Some c =
    c.of.ensures ∙ chosen (devices_named c.args.items.now) (Some c.in-Some.groups) c.in-Some.ensures
