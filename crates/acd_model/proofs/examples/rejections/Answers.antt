use Rattle.std.proofs.Common.{refl}
use Rattle.acd_model.proofs.OnLiterals.{switch_on_literals}
use Rattle.acd_model.proofs.examples.rejections.Goals as goal

pub returns-clause-rejected_to_the_second_agent : goal.returns-clause-rejected_to_the_second_agent
unfolding switch_on_literals
returns-clause-rejected_to_the_second_agent c = (refl, refl, refl, refl, refl, refl, refl, refl)

pub returns-clause-rejected_by_one_after_the_other : goal.returns-clause-rejected_by_one_after_the_other
unfolding switch_on_literals
returns-clause-rejected_by_one_after_the_other c = (refl, refl, refl, refl, refl, refl)

pub returns-clause-rejected_with_nobody_ready : goal.returns-clause-rejected_with_nobody_ready
unfolding switch_on_literals
returns-clause-rejected_with_nobody_ready c = (refl, refl, refl, refl, refl, refl, refl, refl)

pub returns-clause-rejected_after_an_older_call : goal.returns-clause-rejected_after_an_older_call
unfolding switch_on_literals
returns-clause-rejected_after_an_older_call c = (refl, refl, refl, refl, refl, refl)

pub returns-clause-released_by_a_rejection : goal.returns-clause-released_by_a_rejection
unfolding switch_on_literals
returns-clause-released_by_a_rejection c = ((refl, refl), (refl, refl), (refl, refl), (refl, refl), (refl, refl))

pub returns-clause-rejected_in_a_further_group : goal.returns-clause-rejected_in_a_further_group
unfolding switch_on_literals
returns-clause-rejected_in_a_further_group c = (refl, refl, refl, refl, refl, refl, refl)

pub returns-clause-rejected_without_a_ring_time : goal.returns-clause-rejected_without_a_ring_time
unfolding switch_on_literals
returns-clause-rejected_without_a_ring_time c = (refl, refl, refl, refl)

pub returns-clause-rejected_and_given_up : goal.returns-clause-rejected_and_given_up
unfolding switch_on_literals
returns-clause-rejected_and_given_up c = (refl, refl, refl, refl, refl, refl)

pub returns-clause-rejection_and_tick : goal.returns-clause-rejection_and_tick
unfolding switch_on_literals
returns-clause-rejection_and_tick c = (refl, refl, refl, refl, refl, refl, refl, refl, refl, refl, refl)

pub returns-clause-refusals_of_rejections : goal.returns-clause-refusals_of_rejections
unfolding switch_on_literals
returns-clause-refusals_of_rejections c = (refl, refl, refl, refl, refl, refl, refl, refl, refl, refl, refl, refl)
