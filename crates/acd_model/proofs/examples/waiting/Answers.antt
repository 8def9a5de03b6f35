use Rattle.std.proofs.Common.{refl}
use Rattle.acd_model.proofs.OnLiterals.{switch_on_literals}
use Rattle.acd_model.proofs.examples.waiting.Goals as goal

pub returns-clause-offers_go_back : goal.returns-clause-offers_go_back
unfolding switch_on_literals
returns-clause-offers_go_back c = (refl, refl, refl, refl, refl, refl)

pub returns-clause-ticks : goal.returns-clause-ticks
unfolding switch_on_literals
returns-clause-ticks c = (refl, refl, refl, refl, refl, refl)

pub returns-clause-never : goal.returns-clause-never
unfolding switch_on_literals
returns-clause-never c = (refl, refl, refl, refl, refl)

pub returns-clause-who_is_ready_longest : goal.returns-clause-who_is_ready_longest
unfolding switch_on_literals
returns-clause-who_is_ready_longest c = (refl, refl, refl, refl, refl)

pub returns-clause-two_groups_at_once : goal.returns-clause-two_groups_at_once
unfolding switch_on_literals
returns-clause-two_groups_at_once c = (refl, refl, refl, refl, refl, refl)
