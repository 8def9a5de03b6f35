use Rattle.std.proofs.Common.{refl}
use Rattle.acd_model.proofs.OnLiterals.{switch_on_literals}
use Rattle.acd_model.proofs.examples.refusals.Goals as goal

pub returns-clause-refusals_of_plan_and_calls : goal.returns-clause-refusals_of_plan_and_calls
unfolding switch_on_literals
returns-clause-refusals_of_plan_and_calls c = refl

pub returns-clause-refusals_of_an_answered_call : goal.returns-clause-refusals_of_an_answered_call
unfolding switch_on_literals
returns-clause-refusals_of_an_answered_call c = refl

pub returns-clause-refusals_of_a_held_call : goal.returns-clause-refusals_of_a_held_call
unfolding switch_on_literals
returns-clause-refusals_of_a_held_call c = refl

pub returns-clause-refusals_of_an_offered_call : goal.returns-clause-refusals_of_an_offered_call
unfolding switch_on_literals
returns-clause-refusals_of_an_offered_call c = refl

pub returns-clause-refusals_of_an_unanswered_call : goal.returns-clause-refusals_of_an_unanswered_call
unfolding switch_on_literals
returns-clause-refusals_of_an_unanswered_call c = (refl, refl, refl)

pub returns-clause-refusals_of_agents : goal.returns-clause-refusals_of_agents
unfolding switch_on_literals
returns-clause-refusals_of_agents c = refl
