use Rattle.std.proofs.Common.{refl}
use Rattle.acd_model.proofs.OnLiterals.{switch_on_literals}
use Rattle.acd_model.proofs.examples.stations.Goals as goal

pub returns-clause-busy_station_fails : goal.returns-clause-busy_station_fails
unfolding switch_on_literals
returns-clause-busy_station_fails c = (refl, refl, refl, refl)

pub returns-clause-private_call_then_distribution : goal.returns-clause-private_call_then_distribution
unfolding switch_on_literals
returns-clause-private_call_then_distribution c = (refl, refl, refl, refl)

pub returns-clause-logged_off_with_a_private_call : goal.returns-clause-logged_off_with_a_private_call
unfolding switch_on_literals
returns-clause-logged_off_with_a_private_call c = (refl, refl, refl)

pub returns-clause-held_private_call : goal.returns-clause-held_private_call
unfolding switch_on_literals
returns-clause-held_private_call c = (refl, refl, refl, refl)

pub returns-clause-call_to_a_busy_agent_station : goal.returns-clause-call_to_a_busy_agent_station
unfolding switch_on_literals
returns-clause-call_to_a_busy_agent_station c = (refl, refl, refl, refl, refl)

pub returns-clause-private_calls : goal.returns-clause-private_calls
unfolding switch_on_literals
returns-clause-private_calls c = (refl, refl, refl, refl, refl, refl)
