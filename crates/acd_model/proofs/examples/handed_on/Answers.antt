use Rattle.std.proofs.Common.{refl}
use Rattle.acd_model.proofs.OnLiterals.{switch_on_literals}
use Rattle.acd_model.proofs.examples.handed_on.Goals as goal

pub returns-clause-deflected_to_another_queue : goal.returns-clause-deflected_to_another_queue
unfolding switch_on_literals
returns-clause-deflected_to_another_queue c = (refl, refl, refl, refl, refl)

pub returns-clause-deflected_from_queue_to_station_and_back : goal.returns-clause-deflected_from_queue_to_station_and_back
unfolding switch_on_literals
returns-clause-deflected_from_queue_to_station_and_back c = (refl, refl, refl, refl, refl, refl)

pub returns-clause-deflected_to_its_own_group : goal.returns-clause-deflected_to_its_own_group
unfolding switch_on_literals
returns-clause-deflected_to_its_own_group c = (refl, refl, refl, refl, refl)

pub returns-clause-deflected_with_a_state_pending : goal.returns-clause-deflected_with_a_state_pending
unfolding switch_on_literals
returns-clause-deflected_with_a_state_pending c = (refl, refl, refl, refl, refl)

pub returns-clause-transferred_while_held : goal.returns-clause-transferred_while_held
unfolding switch_on_literals
returns-clause-transferred_while_held c = (refl, refl, refl, refl, refl)

pub returns-clause-two_agents_released : goal.returns-clause-two_agents_released
unfolding switch_on_literals
returns-clause-two_agents_released c = (refl, refl, refl, refl, refl, refl, refl)

pub returns-clause-transferred_back : goal.returns-clause-transferred_back
unfolding switch_on_literals
returns-clause-transferred_back c = (refl, refl, refl, refl)
