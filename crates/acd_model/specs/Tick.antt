-- tick: offers that rang too long go back, and after-call work that lasted long enough ends.
use Rattle.std.specs.Prelude.{◌+◌, Bool, false, not, ◌&&◌, ◌==◌, nat_le, List, [], ◌∷◌, ◌++◌, Option, Some, None, filter}
use Rattle.acd_terms.specs.States.{is_alerting, is_working_after_call}
use Rattle.acd_terms.specs.Groups.{least_group}
use Rattle.acd_terms.specs.Numbers.{Device, Moment, Seconds}
use Rattle.acd_terms.specs.declared.command.Turn.{Turn}
use Rattle.acd_terms.specs.declared.rows.Rows.{Rows}
use Rattle.acd_terms.specs.declared.record.GroupRecord.{GroupRecord}
use Rattle.acd_terms.specs.declared.record.AgentRecord.{AgentRecord}
use Rattle.acd_terms.specs.declared.record.ConnectionRecord.{ConnectionRecord}
use Rattle.acd_terms.specs.declared.state.AgentState.TheVariants.{Ready}
use Rattle.acd_terms.specs.declared.event.Cause.TheVariants as cause
use Rattle.acd_model.specs.Scans.{group_of}
use Rattle.acd_model.specs.Moves.{moved}
use Rattle.acd_model.specs.CallMoves.{divert, go_back}
use Rattle.acd_model.specs.AgentMoves.{go_from}
use Rattle.acd_model.specs.Release.{release}
use Rattle.acd_model.specs.declared.moves.Move.{Move}
use Rattle.acd_model.specs.declared.moves.Ending.TheVariants.{NoAnswer}

-- n seconds have passed since then, and n isn't 0, which means never
abbrev pub is_over : Seconds → Moment → Moment → Bool
is_over n since moment = not (n == 0) && nat_le (since + n) moment

abbrev pub ring_of : Option GroupRecord → Seconds
ring_of None = 0
ring_of (Some g) = g.ring

abbrev pub wrap_of : Option GroupRecord → Seconds
wrap_of None = 0
wrap_of (Some g) = g.wrap

abbrev pub is_overdue_offer : Rows → Moment → Option Device → Option Moment → Bool
is_overdue_offer s moment (Some group) (Some offered) = is_over (ring_of (group_of s group)) offered moment
is_overdue_offer s moment _ _ = false

-- offered by distribution at least its group's ring time ago, and not answered
unfoldable pub is_overdue : Rows → Moment → ConnectionRecord → Bool
is_overdue s moment x = is_alerting x.state && is_overdue_offer s moment x.group x.offered

-- in ascending call number
unfoldable pub overdue_in : Rows → Moment → List ConnectionRecord
overdue_in s moment = filter (is_overdue s moment) s.connections

-- the call returns to the group that offered it, and the agent is released
abbrev pub return_to : Rows → Turn → ConnectionRecord → Option Device → List Move
return_to s turn x None = []
return_to s turn x (Some group) = divert x group cause.NoAnswer ∷ go_back x group ∷ release s turn x NoAnswer ∷ []

abbrev pub return_moves : Rows → Turn → ConnectionRecord → List Move
return_moves s turn x = return_to s turn x x.group

abbrev pub is_over_in : Rows → Moment → AgentRecord → Option Device → Bool
is_over_in s moment a None = false
is_over_in s moment a (Some group) = is_over (wrap_of (group_of s group)) a.since moment

-- in after-call work for at least the wrap time of the agent's group of least number
unfoldable pub is_wrapped_up : Rows → Moment → AgentRecord → Bool
is_wrapped_up s moment a = is_working_after_call a.state && is_over_in s moment a (least_group a.groups)

-- in ascending agent number
unfoldable pub wrapped_up_in : Rows → Moment → List AgentRecord
wrapped_up_in s moment = filter (is_wrapped_up s moment) s.agents

abbrev pub wrap_up_moves : Turn → AgentRecord → List Move
wrap_up_moves turn a = go_from turn a a.station Ready ∷ []

-- the moves for each of a list in turn, each from the state that the moves before it leave
abbrev pub each : {T : Type 0} → (Rows → T → List Move) → Rows → List T → List Move
each f s [] = []
each f s (x ∷ xs) = f s x ++ each f (moved s (f s x)) xs

unfoldable pub returns : Rows → Turn → List Move
returns s turn = each (λ t x. return_moves t turn x) s (overdue_in s turn.moment)

unfoldable pub wraps : Rows → Turn → List Move
wraps s turn = each (λ t a. wrap_up_moves turn a) s (wrapped_up_in s turn.moment)

unfoldable pub tick : Rows → Turn → List Move
tick s turn = returns s turn ++ wraps (moved s (returns s turn)) turn
