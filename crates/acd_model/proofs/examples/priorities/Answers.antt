use Rattle.std.proofs.Common.{refl}
use Rattle.acd_model.proofs.OnLiterals.{switch_on_literals}
use Rattle.acd_model.proofs.examples.priorities.Goals as goal

pub returns-clause-higher_priority_first : goal.returns-clause-higher_priority_first
unfolding switch_on_literals
returns-clause-higher_priority_first c = (refl, refl, refl, refl, refl, refl)

pub returns-clause-equal_priorities : goal.returns-clause-equal_priorities
unfolding switch_on_literals
returns-clause-equal_priorities c = (refl, refl)

pub returns-clause-priority_changed : goal.returns-clause-priority_changed
unfolding switch_on_literals
returns-clause-priority_changed c = refl
