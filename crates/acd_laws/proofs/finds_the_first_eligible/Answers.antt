use Rattle.std.proofs.Common.{map}
use Rattle.acd_model.specs.Choice.{first_eligible, ready_pair}
use Rattle.acd_model.specs.Scans.{eligible_in}
use Rattle.acd_lemmas.proofs.Least.{finds_least}
use Rattle.acd_laws.proofs.finds_the_first_eligible.Goals as goal

pub returns : goal.returns
unfolding first_eligible
returns c s group = finds_least (map ready_pair (eligible_in s group))
