-- The words that most laws use: types, each declared in a separate module, and those of lists, states, scans, writes, moves and rules.
pub use Rattle.acd_terms.specs.declared.rows.Rows.{Rows}
pub use Rattle.acd_terms.specs.declared.rows.Limits.{Limits}
pub use Rattle.acd_terms.specs.declared.rows.Rule.{Rule}
pub use Rattle.acd_terms.specs.declared.record.GroupRecord.{GroupRecord}
pub use Rattle.acd_terms.specs.declared.record.StationRecord.{StationRecord}
pub use Rattle.acd_terms.specs.declared.record.AgentRecord.{AgentRecord}
pub use Rattle.acd_terms.specs.declared.record.CallRecord.{CallRecord}
pub use Rattle.acd_terms.specs.declared.record.ConnectionRecord.{ConnectionRecord}
pub use Rattle.acd_terms.specs.declared.record.MonitorRecord.{MonitorRecord}
pub use Rattle.acd_terms.specs.declared.record.Figures.{Figures}
pub use Rattle.acd_terms.specs.declared.state.ConnectionState.{ConnectionState}
pub use Rattle.acd_terms.specs.declared.state.AgentState.{AgentState}
pub use Rattle.acd_terms.specs.declared.state.Pending.{Pending}
pub use Rattle.acd_terms.specs.declared.event.Cause.{Cause}
pub use Rattle.acd_terms.specs.declared.event.Columns.{Columns}
pub use Rattle.acd_terms.specs.declared.command.Command.{Command}
pub use Rattle.acd_terms.specs.declared.event.Event.{Event}
pub use Rattle.acd_terms.specs.declared.answer.Refusal.{Refusal}
pub use Rattle.acd_terms.specs.declared.event.Report.{Report}
pub use Rattle.acd_terms.specs.declared.command.Requested.{Requested}
pub use Rattle.acd_terms.specs.Lists.{find_by, put_by, remove_by, count, total, Among, Every, AllAfter, IsAscending, ascends, is_less}
pub use Rattle.acd_terms.specs.States.{is_null, is_ready, is_busy, is_working_after_call, state_wanted, is_in, is_initiated, is_alerting, is_connected, is_hold, is_queued, is_answered, is_live, is_distributed}
pub use Rattle.acd_terms.specs.Rows.{empty_rows}
pub use Rattle.acd_model.specs.declared.moves.Change.{Change}
pub use Rattle.acd_model.specs.declared.moves.Ending.{Ending}
pub use Rattle.acd_model.specs.declared.moves.Move.{Move}
pub use Rattle.acd_model.specs.declared.moves.Offer.{Offer}
pub use Rattle.acd_model.specs.declared.moves.Release.{Release}
pub use Rattle.acd_model.specs.ServiceAnswers.{Served}
pub use Rattle.acd_model.specs.Scans.{at_group, at_station, at_agent, at_call, at_connection, at_monitor, is_group, is_station, is_planned, has, is_idle_there}
unfoldable pub use Rattle.acd_model.specs.Scans.{
  group_of,
  station_of,
  agent_of,
  call_of,
  connection_of,
  monitor_of,
  agent_at,
  other_of,
  is_live_at,
  is_idle,
  is_occupied,
  waiting_in,
  is_eligible,
  eligible_in,
  is_calling,
  queued_in_all,
}
unfoldable pub use Rattle.acd_model.specs.Writes.{
  with_group,
  with_station,
  with_agent,
  with_call,
  with_connection,
  with_monitor,
  without_call,
  without_connection,
  without_monitor,
  with_last,
}
pub use Rattle.acd_model.specs.Moves.{no_move, silent, reported, changed, moved, event_at, with_event, events_of}
pub use Rattle.acd_model.specs.Rules.Plan.{group_order, station_order, agent_order, call_order, connection_order, monitor_order, is_station_there, are_planned_groups, is_alone_at}
unfoldable pub use Rattle.acd_model.specs.Rules.Plan.{keeps_limits, keeps_order, keeps_device, keeps_agent, keeps_monitor}
pub use Rattle.acd_model.specs.Rules.Calls.{is_bare, is_placed, has_members, is_group_or_none, may_stand, is_open, parties_of, initiated_of, initiated_at, open_of, live_at, alerting_at, hold_at}
unfoldable pub use Rattle.acd_model.specs.Rules.Calls.{keeps_call, keeps_connection, keeps_parties, keeps_live}
pub use Rattle.acd_model.specs.OneOffer.{is_distributed_at, IsAttended, IsTalking, HasOneOffer}
