use Rattle.std.proofs.Common.{refl}
use Rattle.acd_model.proofs.OnLiterals.{switch_on_literals}
use Rattle.acd_model.proofs.examples.queue.Goals as goal

pub returns-clause-call_waits : goal.returns-clause-call_waits
unfolding switch_on_literals
returns-clause-call_waits c = (refl, refl, refl, refl)

pub returns-clause-offered_to_the_ready_agent : goal.returns-clause-offered_to_the_ready_agent
unfolding switch_on_literals
returns-clause-offered_to_the_ready_agent c = (refl, refl, refl, refl, refl)

pub returns-clause-answered_call : goal.returns-clause-answered_call
unfolding switch_on_literals
returns-clause-answered_call c = (refl, refl, refl, refl, refl)

pub returns-clause-longest_ready_first : goal.returns-clause-longest_ready_first
unfolding switch_on_literals
returns-clause-longest_ready_first c = (refl, refl, refl, refl, refl)

pub returns-clause-wrap_up_and_tick : goal.returns-clause-wrap_up_and_tick
unfolding switch_on_literals
returns-clause-wrap_up_and_tick c = (refl, refl, refl, refl, refl, refl)

pub returns-clause-two_calls_answered : goal.returns-clause-two_calls_answered
unfolding switch_on_literals
returns-clause-two_calls_answered c = (refl, refl, refl, refl, refl, refl, refl)

pub returns-clause-no_answer_returns_to_its_place : goal.returns-clause-no_answer_returns_to_its_place
unfolding switch_on_literals
returns-clause-no_answer_returns_to_its_place c = (refl, refl, refl, refl, refl)

pub returns-clause-moment_never_goes_back : goal.returns-clause-moment_never_goes_back
unfolding switch_on_literals
returns-clause-moment_never_goes_back c = (refl, refl, refl, refl, refl)

pub returns-clause-refusal_takes_a_stamp : goal.returns-clause-refusal_takes_a_stamp
unfolding switch_on_literals
returns-clause-refusal_takes_a_stamp c = (refl, refl, refl, refl, refl)

pub returns-clause-caller_number_taken : goal.returns-clause-caller_number_taken
unfolding switch_on_literals
returns-clause-caller_number_taken c = (refl, refl, refl, refl, refl, refl)

pub returns-clause-caller_number_shared : goal.returns-clause-caller_number_shared
unfolding switch_on_literals
returns-clause-caller_number_shared c = (refl, refl, refl, refl)

pub returns-clause-least_place_first : goal.returns-clause-least_place_first
unfolding switch_on_literals
returns-clause-least_place_first c = (refl, refl, refl, refl, refl)

pub returns-clause-abandoned_in_queue : goal.returns-clause-abandoned_in_queue
unfolding switch_on_literals
returns-clause-abandoned_in_queue c = (refl, refl, refl, refl, refl)
