-- answerCall: an alerting connection is answered.
use Rattle.std.specs.Prelude.{not, [], ◌∷◌, Option, Some, None, if◌then◌else◌}
use Rattle.std.specs.Option.{ok_or}
use Rattle.acd_terms.specs.Results.{◌>>=◌, ◌>>◌}
use Rattle.acd_terms.specs.States.{is_distributed, is_alerting}
use Rattle.acd_terms.specs.Numbers.{Device, CallId}
use Rattle.acd_terms.specs.declared.command.Turn.{Turn}
use Rattle.acd_terms.specs.declared.rows.Rows.{Rows}
use Rattle.acd_terms.specs.declared.record.AgentRecord.{AgentRecord}
use Rattle.acd_terms.specs.declared.record.ConnectionRecord.{ConnectionRecord}
use Rattle.acd_terms.specs.declared.answer.Answer.TheVariants.{Nothing}
use Rattle.acd_terms.specs.declared.answer.Refusal.TheVariants.{UnknownCall, UnknownConnection, WrongConnectionState}
use Rattle.acd_model.specs.Scans.{call_of, connection_of, agent_at}
use Rattle.acd_model.specs.Moves.{no_move}
use Rattle.acd_model.specs.CallMoves.{answer}
use Rattle.acd_model.specs.AgentMoves.{become_busy}
use Rattle.acd_model.specs.ServiceAnswers.{Served, refuse_if, gives}
use Rattle.acd_model.specs.declared.moves.Move.{Move}

abbrev pub busy_agent : Turn → Option AgentRecord → Device → Move
busy_agent turn None station = no_move
busy_agent turn (Some a) station = become_busy turn a station

-- where the connection was distributed, the agent at its station becomes busy
unfoldable pub occupy : Rows → Turn → ConnectionRecord → Move
occupy s turn x = if is_distributed x then busy_agent turn (agent_at s x.device) x.device else no_move

unfoldable pub answer_call : Rows → Turn → CallId → Device → Served
answer_call s turn call device = do
  ok_or (call_of s call) UnknownCall
  x ← ok_or (connection_of s call device) UnknownConnection
  refuse_if (not (is_alerting x.state)) WrongConnectionState
  gives Nothing (answer turn.moment x ∷ occupy s turn x ∷ [])
