use Rattle.std.proofs.Common.{refl}
use Rattle.acd_model.proofs.OnLiterals.{switch_on_literals}
use Rattle.acd_model.proofs.examples.agents.Goals as goal

pub returns-clause-pending_log_off : goal.returns-clause-pending_log_off
unfolding switch_on_literals
returns-clause-pending_log_off c = (refl, refl, refl, refl)

pub returns-clause-present_state_pending : goal.returns-clause-present_state_pending
unfolding switch_on_literals
returns-clause-present_state_pending c = (refl, refl, refl)

pub returns-clause-hold_and_pending : goal.returns-clause-hold_and_pending
unfolding switch_on_literals
returns-clause-hold_and_pending c = (refl, refl, refl, refl)

pub returns-clause-transfer_to_station : goal.returns-clause-transfer_to_station
unfolding switch_on_literals
returns-clause-transfer_to_station c = (refl, refl, refl, refl, refl, refl)

pub returns-clause-transfer_to_group : goal.returns-clause-transfer_to_group
unfolding switch_on_literals
returns-clause-transfer_to_group c = (refl, refl, refl, refl, refl)

pub returns-clause-deflected_to_station : goal.returns-clause-deflected_to_station
unfolding switch_on_literals
returns-clause-deflected_to_station c = (refl, refl, refl, refl, refl)

pub returns-clause-second_call_while_holding : goal.returns-clause-second_call_while_holding
unfolding switch_on_literals
returns-clause-second_call_while_holding c = (refl, refl, refl, refl, refl)
