use Rattle.std.proofs.Common.{map}
use Rattle.acd_model.specs.Choice.{first_waiting, waiting_pair}
use Rattle.acd_model.specs.Scans.{waiting_in}
use Rattle.acd_lemmas.proofs.Least.{finds_least}
use Rattle.acd_laws.proofs.finds_the_first_waiting.Goals as goal

pub returns : goal.returns
unfolding first_waiting
returns c s group = finds_least (map waiting_pair (waiting_in s group))
