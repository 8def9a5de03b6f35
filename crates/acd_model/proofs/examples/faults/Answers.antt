use Rattle.std.specs.Fmt.{digits}
use Rattle.std.proofs.Common.{refl}
use Rattle.acd_model.specs.Rules.First.{first_broken}
use Rattle.acd_model.specs.Rules.Plan.{keeps_limits, keeps_order, keeps_device, keeps_agent, keeps_monitor}
use Rattle.acd_model.specs.Rules.Calls.{keeps_call, keeps_connection, keeps_parties, keeps_live}
use Rattle.acd_model.specs.Rules.Counters.{keeps_counters}
use Rattle.acd_model.specs.Rules.Occupied.{keeps_occupied, keeps_offer, keeps_balance}
use Rattle.acd_model.proofs.OnLiterals.{switch_on_literals}
use Rattle.acd_model.proofs.examples.faults.Goals as goal

pub returns-clause-digits_that_were_read : goal.returns-clause-digits_that_were_read
unfolding switch_on_literals digits
returns-clause-digits_that_were_read c = (refl, refl, refl, refl, refl, refl)

pub returns-clause-faults_of_devices : goal.returns-clause-faults_of_devices
unfolding switch_on_literals
returns-clause-faults_of_devices c = (refl, refl, refl, refl, refl, refl)

pub returns-clause-faults_of_agents : goal.returns-clause-faults_of_agents
unfolding switch_on_literals
returns-clause-faults_of_agents c = (refl, refl, refl, refl, refl, refl, refl)

pub returns-clause-faults_of_names : goal.returns-clause-faults_of_names
unfolding switch_on_literals
returns-clause-faults_of_names c = (refl, refl, refl, refl, refl)

pub returns-clause-faults_of_requesters : goal.returns-clause-faults_of_requesters
unfolding switch_on_literals
returns-clause-faults_of_requesters c = (refl, refl, refl, refl, refl, refl, refl)

pub returns-clause-rows_that_break_a_rule : goal.returns-clause-rows_that_break_a_rule
unfolding switch_on_literals first_broken keeps_limits keeps_order keeps_device keeps_agent keeps_monitor
    keeps_call keeps_connection keeps_parties keeps_live keeps_counters keeps_occupied keeps_offer keeps_balance
returns-clause-rows_that_break_a_rule c = (refl, refl, refl, refl, refl)
