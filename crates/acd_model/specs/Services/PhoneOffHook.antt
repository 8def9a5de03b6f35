-- phoneOffHook: the station that began a call goes off hook, and the call is sent to the device that its makeCall
-- called.
use Rattle.std.specs.Prelude.{not, [], ◌∷◌}
use Rattle.std.specs.Option.{ok_or}
use Rattle.acd_terms.specs.Results.{◌>>=◌, ◌>>◌}
use Rattle.acd_terms.specs.States.{is_initiated}
use Rattle.acd_terms.specs.Numbers.{Device, CallId}
use Rattle.acd_terms.specs.declared.command.Turn.{Turn}
use Rattle.acd_terms.specs.declared.rows.Rows.{Rows}
use Rattle.acd_terms.specs.declared.event.Cause.TheVariants.{NewCall}
use Rattle.acd_terms.specs.declared.answer.Answer.TheVariants.{Nothing}
use Rattle.acd_terms.specs.declared.answer.Refusal.TheVariants.{UnknownCall, UnknownConnection, WrongConnectionState}
use Rattle.acd_model.specs.Scans.{call_of, connection_of}
use Rattle.acd_model.specs.CallMoves.{originate, arrive}
use Rattle.acd_model.specs.ServiceAnswers.{Served, refuse_if, gives}

unfoldable pub phone_off_hook : Rows → Turn → CallId → Device → Served
phone_off_hook s turn call device = do
  c ← ok_or (call_of s call) UnknownCall
  x ← ok_or (connection_of s call device) UnknownConnection
  refuse_if (not (is_initiated x.state)) WrongConnectionState
  gives Nothing (originate x c.called ∷ arrive s turn call c.called NewCall ∷ [])
