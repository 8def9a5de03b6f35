-- One executed request as it was while an agent was in one group and groups had no priority, over the records of today. The
-- parts that have not changed since are shared, and so are those that changed with the records' fields alone: an agent's new
-- state leaves it its group, or none in null; an agent is planned with none, and a group with priority 0; and after-call
-- work lasts as long as the wrap of the agent's group, which is the one of least number.
use Rattle.std.specs.Prelude.{not, List, [], ◌∷◌, ◌++◌, Some, None, is_some, Err}
use Rattle.std.specs.Option.{ok_or}
use Rattle.acd_terms.specs.Numbers.{Device, Agent, Moment}
use Rattle.acd_terms.specs.States.{is_null}
use Rattle.acd_terms.specs.declared.rows.Rows.{Rows}
use Rattle.acd_terms.specs.declared.command.Turn.{Turn}
use Rattle.acd_terms.specs.declared.record.AgentRecord.{AgentRecord}
use Rattle.acd_terms.specs.declared.state.AgentState.TheVariants.{NotReady}
use Rattle.acd_terms.specs.declared.event.Report.TheVariants.{AgentLoggedOn}
use Rattle.acd_terms.specs.declared.command.Requested.{Requested}
use Rattle.acd_terms.specs.declared.command.Requested.TheVariants as requested
use Rattle.acd_terms.specs.declared.command.Command.{Command}
use Rattle.acd_terms.specs.declared.command.Command.TheVariants.{AddGroup, AddStation, AddAgent, ArriveCall, MakeCall, PhoneOffHook, AnswerCall, HoldCall, RetrieveCall, ClearConnection, DeflectCall, SingleStepTransfer, SetAgentState, MonitorStart, MonitorStop, Tick, SetGroupPriority, RejectCall, ChangeGroup, ChangeAgent}
use Rattle.acd_terms.specs.declared.answer.Answer.TheVariants as answer
use Rattle.acd_terms.specs.declared.answer.Refusal.TheVariants.{UnknownAgent, WrongAgentState, UnknownDevice, NotStation, StationTaken, NotGroup}
use Rattle.acd_model.specs.Scans.{agent_of, agent_at, is_group, is_station, is_planned}
use Rattle.acd_model.specs.Moves.{reported, moved}
use Rattle.acd_terms.specs.Results.{◌>>=◌, ◌>>◌}
use Rattle.acd_model.specs.ServiceAnswers.{Served, refuse_if, gives, outcome_of, moves_of}
use Rattle.acd_model.specs.Services.AddGroup.{add_group}
use Rattle.acd_model.specs.Services.AddStation.{add_station}
use Rattle.acd_model.specs.Services.AddAgent.{add_agent}
use Rattle.acd_model.specs.Services.ArriveCall.{arrive_call}
use Rattle.acd_model.specs.Services.MakeCall.{make_call}
use Rattle.acd_model.specs.Services.PhoneOffHook.{phone_off_hook}
use Rattle.acd_model.specs.Services.AnswerCall.{answer_call}
use Rattle.acd_model.specs.Services.HoldCall.{hold_call}
use Rattle.acd_model.specs.Services.RetrieveCall.{retrieve_call}
use Rattle.acd_model.specs.Services.ClearConnection.{clear_connection}
use Rattle.acd_model.specs.Services.DeflectCall.{deflect_call}
use Rattle.acd_model.specs.Services.SingleStepTransfer.{single_step_transfer}
use Rattle.acd_model.specs.Services.SetAgentState.{change_state}
use Rattle.acd_model.specs.Services.MonitorStart.{monitor_start}
use Rattle.acd_model.specs.Services.MonitorStop.{monitor_stop}
use Rattle.acd_model.specs.Tick.{tick}
use Rattle.acd_model.specs.Step.{Stepped, step_by, next_turn}
use Rattle.acd_model.specs.declared.moves.Move.{Move}
use Rattle.acd_model.specs.declared.moves.Change.TheVariants.{PutAgent}
use Rattle.acd_desk_laws.specs.OldChoice.{old_distribution}

abbrev pub old_log_on_at : Turn → AgentRecord → Device → Device → Move
old_log_on_at turn a station group =
    reported (PutAgent (record a { state = NotReady; pending = None; station = Some station; groups = group ∷ []; stamp = turn.stamp; since = turn.moment }))
    (AgentLoggedOn a.agent station (Some group))

unfoldable pub old_log_on : Rows → Turn → Agent → Device → Device → Served
old_log_on s turn agent device group = do
  a ← ok_or (agent_of s agent) UnknownAgent
  refuse_if (not (is_null a.state)) WrongAgentState
  refuse_if (not (is_planned s device)) UnknownDevice
  refuse_if (not (is_station s device)) NotStation
  refuse_if (is_some (agent_at s device)) StationTaken
  refuse_if (not (is_planned s group)) UnknownDevice
  refuse_if (not (is_group s group)) NotGroup
  gives (answer.State NotReady) (old_log_on_at turn a device group ∷ [])

-- no request named more groups, or none
abbrev pub old_set_agent_state : Rows → Turn → Agent → Requested → Served
old_set_agent_state s turn agent (requested.LoggedOn device (group ∷ [])) = old_log_on s turn agent device group
old_set_agent_state s turn agent (requested.LoggedOn device _) = Err NotGroup
old_set_agent_state s turn agent (requested.State wanted) = change_state s turn agent wanted

-- sixteen services: those that came later were none
abbrev pub old_serve : Rows → Turn → Command → Served
old_serve s turn (AddGroup device name ring wrap) = add_group s device name ring wrap
old_serve s turn (AddStation device) = add_station s device
old_serve s turn (AddAgent agent name) = add_agent s turn agent name
old_serve s turn (ArriveCall caller called) = arrive_call s turn caller called
old_serve s turn (MakeCall device called) = make_call s turn.moment device called
old_serve s turn (PhoneOffHook call device) = phone_off_hook s turn call device
old_serve s turn (AnswerCall call device) = answer_call s turn call device
old_serve s turn (HoldCall call device) = hold_call s call device
old_serve s turn (RetrieveCall call device) = retrieve_call s call device
old_serve s turn (ClearConnection call device) = clear_connection s turn call device
old_serve s turn (DeflectCall call device to) = deflect_call s turn call device to
old_serve s turn (SingleStepTransfer call device to) = single_step_transfer s turn call device to
old_serve s turn (SetAgentState agent requested) = old_set_agent_state s turn agent requested
old_serve s turn (MonitorStart device) = monitor_start s device
old_serve s turn (MonitorStop monitor) = monitor_stop s monitor
old_serve s turn Tick = gives answer.Nothing (tick s turn)
old_serve s turn (SetGroupPriority device priority) = Err NotGroup
old_serve s turn (RejectCall call device) = Err NotGroup
old_serve s turn (ChangeGroup device name ring wrap) = Err NotGroup
old_serve s turn (ChangeAgent agent name) = Err NotGroup

-- the moves of a whole step: the service's, then the distribution's from the state that these leave
abbrev pub old_step_moves : Rows → Moment → Served → List Move
old_step_moves s moment v = moves_of v ++ old_distribution (moved s (moves_of v)) moment

abbrev pub old_step_at : Rows → Turn → Served → Stepped
old_step_at s turn v = step_by s turn (outcome_of v) (old_step_moves s turn.moment v)

-- the outcome, the state and the events of a request
unfoldable pub old_step : Rows → Moment → Command → Stepped
old_step s moment command = old_step_at s (next_turn s moment) (old_serve s (next_turn s moment) command)
