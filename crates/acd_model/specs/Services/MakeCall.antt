-- makeCall: a station begins a call.
use Rattle.std.specs.Prelude.{not, [], ◌∷◌, ◌==◌}
use Rattle.acd_terms.specs.Numbers.{Device, Moment}
use Rattle.acd_terms.specs.Results.{◌>>◌}
use Rattle.acd_terms.specs.declared.rows.Rows.{Rows}
use Rattle.acd_terms.specs.declared.answer.Answer.TheVariants.{Call}
use Rattle.acd_terms.specs.declared.answer.Refusal.TheVariants.{UnknownDevice, NotStation, SameDevice, StationBusy, TooManyCalls}
use Rattle.acd_model.specs.Scans.{is_planned, is_station, is_live_at}
use Rattle.acd_model.specs.CallMoves.{begin, initiate}
use Rattle.acd_model.specs.Services.NewCall.{has_no_call_left, next_call}
use Rattle.acd_model.specs.ServiceAnswers.{Served, refuse_if, gives}

unfoldable pub make_call : Rows → Moment → Device → Device → Served
make_call s moment device called = do
  refuse_if (not (is_planned s device)) UnknownDevice
  refuse_if (not (is_station s device)) NotStation
  refuse_if (not (is_planned s called)) UnknownDevice
  refuse_if (called == device) SameDevice
  refuse_if (is_live_at s device) StationBusy
  refuse_if (has_no_call_left s) TooManyCalls
  gives (Call (next_call s)) (
      begin (record { call = next_call s; caller = device; called = called; since = moment })
      ∷ initiate (next_call s) device
      ∷ [])
