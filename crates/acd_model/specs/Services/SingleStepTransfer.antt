-- singleStepTransfer: a connected station gives its answered call away.
use Rattle.std.specs.Prelude.{Bool, false, not, ◌&&◌, [], ◌∷◌, Option, Some, None}
use Rattle.std.specs.Option.{ok_or}
use Rattle.acd_terms.specs.Results.{◌>>=◌, ◌>>◌}
use Rattle.acd_terms.specs.States.{is_connected, is_answered}
use Rattle.acd_terms.specs.Numbers.{Device, CallId}
use Rattle.acd_terms.specs.declared.command.Turn.{Turn}
use Rattle.acd_terms.specs.declared.rows.Rows.{Rows}
use Rattle.acd_terms.specs.declared.record.ConnectionRecord.{ConnectionRecord}
use Rattle.acd_terms.specs.declared.event.Cause.TheVariants.{Transferred}
use Rattle.acd_terms.specs.declared.answer.Answer.TheVariants.{Nothing}
use Rattle.acd_terms.specs.declared.answer.Refusal.TheVariants.{UnknownCall, UnknownConnection, NotStation, WrongConnectionState, UnknownDevice, SameDevice, DestinationBusy}
use Rattle.acd_model.specs.Scans.{call_of, connection_of, other_of, is_planned, is_station}
use Rattle.acd_model.specs.CallMoves.{transfer, arrive}
use Rattle.acd_model.specs.Release.{release, ending_of}
use Rattle.acd_model.specs.Services.Destinations.{is_in_call, is_busy_station}
use Rattle.acd_model.specs.ServiceAnswers.{Served, refuse_if, gives}

-- there is another party, connected or on hold
abbrev pub is_answered_by : Option ConnectionRecord → Bool
is_answered_by None = false
is_answered_by (Some y) = is_answered y.state

unfoldable pub single_step_transfer : Rows → Turn → CallId → Device → Device → Served
single_step_transfer s turn call device to = do
  ok_or (call_of s call) UnknownCall
  x ← ok_or (connection_of s call device) UnknownConnection
  refuse_if (not (is_station s device)) NotStation
  refuse_if (not (is_connected x.state && is_answered_by (other_of s x))) WrongConnectionState
  refuse_if (not (is_planned s to)) UnknownDevice
  refuse_if (is_in_call s call to) SameDevice
  refuse_if (is_busy_station s to) DestinationBusy
  gives Nothing (transfer x to ∷ arrive s turn call to Transferred ∷ release s turn x (ending_of x) ∷ [])
