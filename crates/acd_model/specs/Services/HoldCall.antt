-- holdCall: a connected station holds.
use Rattle.std.specs.Prelude.{not, [], ◌∷◌}
use Rattle.std.specs.Option.{ok_or}
use Rattle.acd_terms.specs.Results.{◌>>=◌, ◌>>◌}
use Rattle.acd_terms.specs.States.{is_connected}
use Rattle.acd_terms.specs.Numbers.{Device, CallId}
use Rattle.acd_terms.specs.declared.rows.Rows.{Rows}
use Rattle.acd_terms.specs.declared.answer.Answer.TheVariants.{Nothing}
use Rattle.acd_terms.specs.declared.answer.Refusal.TheVariants.{UnknownCall, UnknownConnection, NotStation, WrongConnectionState}
use Rattle.acd_model.specs.Scans.{call_of, connection_of, is_station}
use Rattle.acd_model.specs.CallMoves.{hold}
use Rattle.acd_model.specs.ServiceAnswers.{Served, refuse_if, gives}

unfoldable pub hold_call : Rows → CallId → Device → Served
hold_call s call device = do
  ok_or (call_of s call) UnknownCall
  x ← ok_or (connection_of s call device) UnknownConnection
  refuse_if (not (is_station s device)) NotStation
  refuse_if (not (is_connected x.state)) WrongConnectionState
  gives Nothing (hold x ∷ [])
