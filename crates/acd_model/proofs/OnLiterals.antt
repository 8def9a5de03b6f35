-- The definitions that an answer unfolds to compute the switch on literals.
use Rattle.std.specs.Prelude.{⊤}
use Rattle.acd_terms.specs.Forms.{read_id, read_text, number_between}
use Rattle.acd_terms.specs.Limits.{limits_fit}
use Rattle.acd_model.specs.Scans.{group_of, station_of, agent_of, call_of, connection_of, monitor_of, agent_at, connections_of, other_of, is_live_at, is_idle, is_occupied, waiting_in, is_eligible, eligible_in, is_calling, queued_in_all}
use Rattle.acd_model.specs.Writes.{with_group, with_station, with_agent, with_call, with_connection, with_monitor, without_call, without_connection, without_monitor, with_last, with_last_ids}
use Rattle.acd_model.specs.CallMoves.{arrive}
use Rattle.acd_model.specs.Release.{release}
use Rattle.acd_model.specs.ServiceAnswers.{refuse_if}
use Rattle.acd_model.specs.Services.{add_group, add_station, add_agent, arrive_call, make_call, phone_off_hook, occupy, answer_call, hold_call, retrieve_call, clear_connection, deflect_call, single_step_transfer, log_on, change_state, monitor_start, monitor_stop, set_group_priority, reject_call, change_group, change_agent}
use Rattle.acd_model.specs.Choice.{first_waiting, first_eligible, offer_of}
use Rattle.acd_model.specs.Distribution.{offer_moves, distribution}
use Rattle.acd_model.specs.Tick.{is_overdue, overdue_in, is_wrapped_up, wrapped_up_in, returns, wraps, tick}
use Rattle.acd_model.specs.Figures.{figures_of, with_figures}
use Rattle.acd_model.specs.Step.{step}
use Rattle.acd_model.specs.Run.{run}

unfoldable pub switch_on_literals : ⊤
unfolding read_id read_text number_between limits_fit
    group_of station_of agent_of call_of connection_of monitor_of agent_at connections_of other_of is_live_at is_idle is_occupied waiting_in is_eligible eligible_in is_calling queued_in_all
    with_group with_station with_agent with_call with_connection with_monitor without_call without_connection without_monitor with_last with_last_ids
    arrive release refuse_if
    add_group add_station add_agent arrive_call make_call phone_off_hook occupy answer_call hold_call retrieve_call clear_connection deflect_call single_step_transfer log_on change_state monitor_start monitor_stop set_group_priority reject_call change_group change_agent
    first_waiting first_eligible offer_of offer_moves distribution
    is_overdue overdue_in is_wrapped_up wrapped_up_in returns wraps tick figures_of with_figures step run
switch_on_literals = tt
