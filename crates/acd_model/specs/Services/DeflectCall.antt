-- deflectCall: an alerting or queued connection ends, and its call is sent to another device.
use Rattle.std.specs.Prelude.{not, ◌||◌, [], ◌∷◌}
use Rattle.std.specs.Option.{ok_or}
use Rattle.acd_terms.specs.Results.{◌>>=◌, ◌>>◌}
use Rattle.acd_terms.specs.States.{is_alerting, is_queued}
use Rattle.acd_terms.specs.Numbers.{Device, CallId}
use Rattle.acd_terms.specs.declared.command.Turn.{Turn}
use Rattle.acd_terms.specs.declared.rows.Rows.{Rows}
use Rattle.acd_terms.specs.declared.event.Cause.TheVariants.{Deflected}
use Rattle.acd_terms.specs.declared.answer.Answer.TheVariants.{Nothing}
use Rattle.acd_terms.specs.declared.answer.Refusal.TheVariants.{UnknownCall, UnknownConnection, WrongConnectionState, UnknownDevice, SameDevice, DestinationBusy}
use Rattle.acd_model.specs.Scans.{call_of, connection_of, is_planned}
use Rattle.acd_model.specs.CallMoves.{divert, arrive}
use Rattle.acd_model.specs.Release.{release, ending_of}
use Rattle.acd_model.specs.Services.Destinations.{is_in_call, is_busy_station}
use Rattle.acd_model.specs.ServiceAnswers.{Served, refuse_if, gives}

unfoldable pub deflect_call : Rows → Turn → CallId → Device → Device → Served
deflect_call s turn call device to = do
  ok_or (call_of s call) UnknownCall
  x ← ok_or (connection_of s call device) UnknownConnection
  refuse_if (not (is_alerting x.state || is_queued x.state)) WrongConnectionState
  refuse_if (not (is_planned s to)) UnknownDevice
  refuse_if (is_in_call s call to) SameDevice
  refuse_if (is_busy_station s to) DestinationBusy
  gives Nothing (divert x to Deflected ∷ arrive s turn call to Deflected ∷ release s turn x (ending_of x) ∷ [])
