-- retrieveCall: a held connection is retrieved.
use Rattle.std.specs.Prelude.{not, [], ◌∷◌}
use Rattle.std.specs.Option.{ok_or}
use Rattle.acd_terms.specs.Results.{◌>>=◌, ◌>>◌}
use Rattle.acd_terms.specs.States.{is_hold}
use Rattle.acd_terms.specs.Numbers.{Device, CallId}
use Rattle.acd_terms.specs.declared.rows.Rows.{Rows}
use Rattle.acd_terms.specs.declared.answer.Answer.TheVariants.{Nothing}
use Rattle.acd_terms.specs.declared.answer.Refusal.TheVariants.{UnknownCall, UnknownConnection, WrongConnectionState, StationBusy}
use Rattle.acd_model.specs.Scans.{call_of, connection_of, is_live_at}
use Rattle.acd_model.specs.CallMoves.{retrieve}
use Rattle.acd_model.specs.ServiceAnswers.{Served, refuse_if, gives}

unfoldable pub retrieve_call : Rows → CallId → Device → Served
retrieve_call s call device = do
  ok_or (call_of s call) UnknownCall
  x ← ok_or (connection_of s call device) UnknownConnection
  refuse_if (not (is_hold x.state)) WrongConnectionState
  refuse_if (is_live_at s device) StationBusy
  gives Nothing (retrieve x ∷ [])
