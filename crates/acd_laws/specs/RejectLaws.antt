-- rejectCall is what a tick does to an offer that rang too long.
use Rattle.std.specs.Prelude.{◌≡◌, [], ◌∷◌}
use Rattle.acd_terms.specs.declared.command.Turn.{Turn}
use Rattle.acd_terms.specs.declared.rows.Rows.{Rows}
use Rattle.acd_terms.specs.declared.record.ConnectionRecord.{ConnectionRecord}
use Rattle.acd_terms.specs.declared.command.Command.TheVariants.{Tick, RejectCall}
use Rattle.acd_model.specs.Tick.{overdue_in, wrapped_up_in}
use Rattle.acd_model.specs.Services.Serve.{serve}
use Rattle.acd_model.specs.Rules.First.{BreaksNoRule}

-- of rows that break no rule, where one offer is overdue and no after-call work is over: the same answer and the same moves, and so the same step
abbrev pub RejectsAsATick : Type 0
RejectsAsATick = (s : Rows) (turn : Turn) (x : ConnectionRecord) → BreaksNoRule s → overdue_in s turn.moment ≡ x ∷ [] → wrapped_up_in s turn.moment ≡ []
    → serve s turn (RejectCall x.call x.device) ≡ serve s turn Tick
