-- rejectCall: a call that distribution offered, and that rings, returns to its group's queue now, as a tick takes an offer back
-- that rang too long.
use Rattle.std.specs.Prelude.{not, ◌&&◌}
use Rattle.std.specs.Option.{ok_or}
use Rattle.acd_terms.specs.Results.{◌>>=◌, ◌>>◌}
use Rattle.acd_terms.specs.States.{is_alerting, is_distributed}
use Rattle.acd_terms.specs.Numbers.{Device, CallId}
use Rattle.acd_terms.specs.declared.command.Turn.{Turn}
use Rattle.acd_terms.specs.declared.rows.Rows.{Rows}
use Rattle.acd_terms.specs.declared.answer.Answer.TheVariants.{Nothing}
use Rattle.acd_terms.specs.declared.answer.Refusal.TheVariants.{UnknownCall, UnknownConnection, WrongConnectionState}
use Rattle.acd_model.specs.Scans.{call_of, connection_of}
use Rattle.acd_model.specs.Tick.{return_moves}
use Rattle.acd_model.specs.ServiceAnswers.{Served, refuse_if, gives}

unfoldable pub reject_call : Rows → Turn → CallId → Device → Served
reject_call s turn call device = do
  ok_or (call_of s call) UnknownCall
  x ← ok_or (connection_of s call device) UnknownConnection
  refuse_if (not (is_alerting x.state && is_distributed x)) WrongConnectionState
  gives Nothing (return_moves s turn x)
