-- One service: the case of the command. tick is no service of the tables: it makes its moves in turn.
use Rattle.std.specs.Prelude.{}
use Rattle.acd_terms.specs.declared.command.Turn.{Turn}
use Rattle.acd_terms.specs.declared.rows.Rows.{Rows}
use Rattle.acd_terms.specs.declared.answer.Answer.TheVariants.{Nothing}
use Rattle.acd_terms.specs.declared.command.Command.{Command}
use Rattle.acd_terms.specs.declared.command.Command.TheVariants.{AddGroup, AddStation, AddAgent, ArriveCall, MakeCall, PhoneOffHook, AnswerCall, HoldCall, RetrieveCall, ClearConnection, DeflectCall, SingleStepTransfer, SetAgentState, MonitorStart, MonitorStop, Tick, SetGroupPriority, RejectCall, ChangeGroup, ChangeAgent}
use Rattle.acd_model.specs.Services.AddGroup.{add_group}
use Rattle.acd_model.specs.Services.AddStation.{add_station}
use Rattle.acd_model.specs.Services.AddAgent.{add_agent}
use Rattle.acd_model.specs.Services.ArriveCall.{arrive_call}
use Rattle.acd_model.specs.Services.MakeCall.{make_call}
use Rattle.acd_model.specs.Services.PhoneOffHook.{phone_off_hook}
use Rattle.acd_model.specs.Services.AnswerCall.{answer_call}
use Rattle.acd_model.specs.Services.HoldCall.{hold_call}
use Rattle.acd_model.specs.Services.RetrieveCall.{retrieve_call}
use Rattle.acd_model.specs.Services.ClearConnection.{clear_connection}
use Rattle.acd_model.specs.Services.DeflectCall.{deflect_call}
use Rattle.acd_model.specs.Services.SingleStepTransfer.{single_step_transfer}
use Rattle.acd_model.specs.Services.SetAgentState.{set_agent_state}
use Rattle.acd_model.specs.Services.MonitorStart.{monitor_start}
use Rattle.acd_model.specs.Services.MonitorStop.{monitor_stop}
use Rattle.acd_model.specs.Services.SetGroupPriority.{set_group_priority}
use Rattle.acd_model.specs.Services.RejectCall.{reject_call}
use Rattle.acd_model.specs.Services.ChangeGroup.{change_group}
use Rattle.acd_model.specs.Services.ChangeAgent.{change_agent}
use Rattle.acd_model.specs.Tick.{tick}
use Rattle.acd_model.specs.ServiceAnswers.{Served, gives}

abbrev pub serve : Rows → Turn → Command → Served
serve s turn (AddGroup device name ring wrap) = add_group s device name ring wrap
serve s turn (AddStation device) = add_station s device
serve s turn (AddAgent agent name) = add_agent s turn agent name
serve s turn (ArriveCall caller called) = arrive_call s turn caller called
serve s turn (MakeCall device called) = make_call s turn.moment device called
serve s turn (PhoneOffHook call device) = phone_off_hook s turn call device
serve s turn (AnswerCall call device) = answer_call s turn call device
serve s turn (HoldCall call device) = hold_call s call device
serve s turn (RetrieveCall call device) = retrieve_call s call device
serve s turn (ClearConnection call device) = clear_connection s turn call device
serve s turn (DeflectCall call device to) = deflect_call s turn call device to
serve s turn (SingleStepTransfer call device to) = single_step_transfer s turn call device to
serve s turn (SetAgentState agent requested) = set_agent_state s turn agent requested
serve s turn (MonitorStart device) = monitor_start s device
serve s turn (MonitorStop monitor) = monitor_stop s monitor
serve s turn Tick = gives Nothing (tick s turn)
serve s turn (SetGroupPriority device priority) = set_group_priority s device priority
serve s turn (RejectCall call device) = reject_call s turn call device
serve s turn (ChangeGroup device name ring wrap) = change_group s device name ring wrap
serve s turn (ChangeAgent agent name) = change_agent s agent name
