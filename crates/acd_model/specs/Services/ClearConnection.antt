-- clearConnection: the call ends.
use Rattle.std.specs.Prelude.{◌||◌, List, [], ◌∷◌, Option, Some, None, if◌then◌else◌}
use Rattle.std.specs.Option.{ok_or}
use Rattle.acd_terms.specs.Results.{◌>>=◌, ◌>>◌}
use Rattle.acd_terms.specs.States.{is_queued, is_alerting}
use Rattle.acd_terms.specs.Numbers.{Device, CallId}
use Rattle.acd_terms.specs.declared.command.Turn.{Turn}
use Rattle.acd_terms.specs.declared.rows.Rows.{Rows}
use Rattle.acd_terms.specs.declared.record.ConnectionRecord.{ConnectionRecord}
use Rattle.acd_terms.specs.declared.answer.Answer.TheVariants.{Nothing}
use Rattle.acd_terms.specs.declared.answer.Refusal.TheVariants.{UnknownCall, UnknownConnection}
use Rattle.acd_model.specs.Scans.{call_of, connection_of, other_of}
use Rattle.acd_model.specs.Moves.{no_move}
use Rattle.acd_model.specs.CallMoves.{clear, end_call}
use Rattle.acd_model.specs.Release.{release, ending_of}
use Rattle.acd_model.specs.ServiceAnswers.{Served, gives}
use Rattle.acd_model.specs.declared.moves.Move.{Move}

-- the group in which the connection waits, or from which it rings
abbrev pub waiting_group : ConnectionRecord → Option Device
waiting_group x = if is_queued x.state || is_alerting x.state then x.group else None

abbrev pub first_group : Option Device → Option Device → Option Device
first_group None h = h
first_group (Some g) h = Some g

-- that group of either party
abbrev pub cleared_group : ConnectionRecord → Option ConnectionRecord → Option Device
cleared_group x None = waiting_group x
cleared_group x (Some y) = first_group (waiting_group x) (waiting_group y)

abbrev pub clear_other : Option ConnectionRecord → Move
clear_other None = no_move
clear_other (Some y) = clear y

abbrev pub release_other : Rows → Turn → Option ConnectionRecord → Move
release_other s turn None = no_move
release_other s turn (Some y) = release s turn y (ending_of y)

-- both parties are cleared, then the call; then the agents are released, the one at the named device first
abbrev pub clearing : Rows → Turn → ConnectionRecord → Option ConnectionRecord → List Move
clearing s turn x other =
    clear x
    ∷ clear_other other
    ∷ end_call x.call (cleared_group x other)
    ∷ release s turn x (ending_of x)
    ∷ release_other s turn other
    ∷ []

unfoldable pub clear_connection : Rows → Turn → CallId → Device → Served
clear_connection s turn call device = do
  ok_or (call_of s call) UnknownCall
  x ← ok_or (connection_of s call device) UnknownConnection
  gives Nothing (clearing s turn x (other_of s x))
