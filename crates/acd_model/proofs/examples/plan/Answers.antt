use Rattle.std.proofs.Common.{refl}
use Rattle.acd_model.proofs.OnLiterals.{switch_on_literals}
use Rattle.acd_model.proofs.examples.plan.Goals as goal

pub returns-clause-numbers_of_digits : goal.returns-clause-numbers_of_digits
unfolding switch_on_literals
returns-clause-numbers_of_digits c = (refl, refl, refl, refl, refl, refl, refl, refl, refl, refl, refl)

pub returns-clause-records_of_the_empty_state : goal.returns-clause-records_of_the_empty_state
unfolding switch_on_literals
returns-clause-records_of_the_empty_state c = (refl, refl, refl, refl)

pub returns-clause-monitors : goal.returns-clause-monitors
unfolding switch_on_literals
returns-clause-monitors c = (refl, refl, refl, refl)
