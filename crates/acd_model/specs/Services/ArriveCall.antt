-- arriveCall: a call comes in from outside the plan.
use Rattle.std.specs.Prelude.{not, [], ◌∷◌}
use Rattle.acd_terms.specs.Numbers.{Device}
use Rattle.acd_terms.specs.declared.command.Turn.{Turn}
use Rattle.acd_terms.specs.Results.{◌>>◌}
use Rattle.acd_terms.specs.declared.rows.Rows.{Rows}
use Rattle.acd_terms.specs.declared.event.Cause.TheVariants.{NewCall}
use Rattle.acd_terms.specs.declared.answer.Answer.TheVariants.{Call}
use Rattle.acd_terms.specs.declared.answer.Refusal.TheVariants.{CallerPlanned, UnknownDevice, TooManyCalls}
use Rattle.acd_model.specs.Scans.{is_planned}
use Rattle.acd_model.specs.CallMoves.{begin, connect_caller, arrive}
use Rattle.acd_model.specs.Services.NewCall.{has_no_call_left, next_call}
use Rattle.acd_model.specs.ServiceAnswers.{Served, refuse_if, gives}

unfoldable pub arrive_call : Rows → Turn → Device → Device → Served
arrive_call s turn caller called = do
  refuse_if (is_planned s caller) CallerPlanned
  refuse_if (not (is_planned s called)) UnknownDevice
  refuse_if (has_no_call_left s) TooManyCalls
  gives (Call (next_call s)) (
      begin (record { call = next_call s; caller = caller; called = called; since = turn.moment })
      ∷ connect_caller (next_call s) caller
      ∷ arrive s turn (next_call s) called NewCall
      ∷ [])
