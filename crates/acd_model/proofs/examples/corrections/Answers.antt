use Rattle.std.proofs.Common.{refl}
use Rattle.acd_model.proofs.OnLiterals.{switch_on_literals}
use Rattle.acd_model.proofs.examples.corrections.Goals as goal

pub returns-clause-ring_shortened : goal.returns-clause-ring_shortened
unfolding switch_on_literals
returns-clause-ring_shortened c = (refl, refl, refl, refl, refl, refl, refl, refl)

pub returns-clause-ring_prolonged : goal.returns-clause-ring_prolonged
unfolding switch_on_literals
returns-clause-ring_prolonged c = (refl, refl, refl, refl, refl)

pub returns-clause-wrap_shortened : goal.returns-clause-wrap_shortened
unfolding switch_on_literals
returns-clause-wrap_shortened c = (refl, refl, refl, refl, refl)

pub returns-clause-wrap_prolonged : goal.returns-clause-wrap_prolonged
unfolding switch_on_literals
returns-clause-wrap_prolonged c = (refl, refl, refl, refl, refl)

pub returns-clause-wrap_of_the_least_group : goal.returns-clause-wrap_of_the_least_group
unfolding switch_on_literals
returns-clause-wrap_of_the_least_group c = (refl, refl, refl, refl)

pub returns-clause-changed_group : goal.returns-clause-changed_group
unfolding switch_on_literals
returns-clause-changed_group c = (refl, refl, (refl, refl, refl, refl, refl, refl, refl, refl))

pub returns-clause-changed_agent : goal.returns-clause-changed_agent
unfolding switch_on_literals
returns-clause-changed_agent c = (refl, refl, (refl, refl, refl, refl, refl, refl, refl, refl))

pub returns-clause-changed_agent_keeps_the_turn : goal.returns-clause-changed_agent_keeps_the_turn
unfolding switch_on_literals
returns-clause-changed_agent_keeps_the_turn c = (refl, refl, refl)

pub returns-clause-changed_to_the_same : goal.returns-clause-changed_to_the_same
unfolding switch_on_literals
returns-clause-changed_to_the_same c = (refl, refl, (refl, refl, refl, refl, refl, refl, refl, refl))

pub returns-clause-names_of_one_and_forty : goal.returns-clause-names_of_one_and_forty
unfolding switch_on_literals
returns-clause-names_of_one_and_forty c = (refl, refl, refl, refl, refl, refl, refl, refl)

pub returns-clause-refusals_of_corrections : goal.returns-clause-refusals_of_corrections
unfolding switch_on_literals
returns-clause-refusals_of_corrections c = refl
