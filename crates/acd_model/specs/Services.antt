-- The services: each is defined in the file of its name, and all are passed on here.
pub mod AddGroup
pub mod AddStation
pub mod AddAgent
pub mod NewCall
pub mod ArriveCall
pub mod MakeCall
pub mod PhoneOffHook
pub mod AnswerCall
pub mod HoldCall
pub mod RetrieveCall
pub mod ClearConnection
pub mod Destinations
pub mod DeflectCall
pub mod SingleStepTransfer
pub mod SetAgentState
pub mod MonitorStart
pub mod MonitorStop
pub mod SetGroupPriority
pub mod RejectCall
pub mod ChangeGroup
pub mod ChangeAgent
pub mod Serve
unfoldable pub use Rattle.acd_model.specs.Services.AddGroup.{no_figures, new_group, add_group}
unfoldable pub use Rattle.acd_model.specs.Services.AddStation.{add_station}
unfoldable pub use Rattle.acd_model.specs.Services.AddAgent.{new_agent, add_agent}
unfoldable pub use Rattle.acd_model.specs.Services.NewCall.{has_no_call_left, next_call}
unfoldable pub use Rattle.acd_model.specs.Services.ArriveCall.{arrive_call}
unfoldable pub use Rattle.acd_model.specs.Services.MakeCall.{make_call}
unfoldable pub use Rattle.acd_model.specs.Services.PhoneOffHook.{phone_off_hook}
unfoldable pub use Rattle.acd_model.specs.Services.AnswerCall.{busy_agent, occupy, answer_call}
unfoldable pub use Rattle.acd_model.specs.Services.HoldCall.{hold_call}
unfoldable pub use Rattle.acd_model.specs.Services.RetrieveCall.{retrieve_call}
unfoldable pub use Rattle.acd_model.specs.Services.ClearConnection.{waiting_group, first_group, cleared_group, clear_other, release_other, clearing, clear_connection}
unfoldable pub use Rattle.acd_model.specs.Services.Destinations.{is_in_call, is_busy_station}
unfoldable pub use Rattle.acd_model.specs.Services.DeflectCall.{deflect_call}
unfoldable pub use Rattle.acd_model.specs.Services.SingleStepTransfer.{is_answered_by, single_step_transfer}
unfoldable pub use Rattle.acd_model.specs.Services.SetAgentState.{all_groups, log_on, go_or_wait, change_state, set_agent_state}
unfoldable pub use Rattle.acd_model.specs.Services.MonitorStart.{next_monitor, monitor_start}
unfoldable pub use Rattle.acd_model.specs.Services.MonitorStop.{monitor_stop}
unfoldable pub use Rattle.acd_model.specs.Services.SetGroupPriority.{set_group_priority}
unfoldable pub use Rattle.acd_model.specs.Services.RejectCall.{reject_call}
unfoldable pub use Rattle.acd_model.specs.Services.ChangeGroup.{change_group}
unfoldable pub use Rattle.acd_model.specs.Services.ChangeAgent.{change_agent}
