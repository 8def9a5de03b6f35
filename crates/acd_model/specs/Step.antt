-- One executed request: the moves of the service, then those of the distribution, then the counters.
use Rattle.std.specs.Prelude.{◌+◌, max, List, [], ◌∷◌, ◌++◌, length}
use Rattle.acd_terms.specs.Numbers.{Moment, Stamp, EventNumber}
use Rattle.acd_terms.specs.declared.command.Turn.{Turn}
use Rattle.acd_terms.specs.declared.rows.Rows.{Rows}
use Rattle.acd_terms.specs.declared.command.Command.{Command}
use Rattle.acd_terms.specs.declared.event.Event.{Event}
use Rattle.acd_terms.specs.declared.answer.Outcome.{Outcome}
use Rattle.acd_model.specs.Writes.{with_last}
use Rattle.acd_model.specs.Moves.{moved, events_of}
use Rattle.acd_model.specs.ServiceAnswers.{Served, outcome_of, moves_of}
use Rattle.acd_model.specs.Distribution.{distribution}
use Rattle.acd_model.specs.Figures.{with_figures}
use Rattle.acd_model.specs.Services.Serve.{serve}
use Rattle.acd_model.specs.declared.moves.Move.{Move}

-- the events numbered on from a number
abbrev pub numbered : EventNumber → List Event → List Event
numbered last [] = []
numbered last (e ∷ es) = record e { number = last + 1 } ∷ numbered (last + 1) es

-- the greater of the moment handed in and the last one
abbrev pub executed_moment : Rows → Moment → Moment
executed_moment s moment = max moment s.last_moment

abbrev pub next_stamp : Rows → Stamp
next_stamp s = s.last_stamp + 1

abbrev pub turn_at : Moment → Stamp → Turn
turn_at moment stamp = record { moment = moment; stamp = stamp }

-- the turn at which a request is executed that is handed in at a moment
abbrev pub next_turn : Rows → Moment → Turn
next_turn s moment = turn_at (executed_moment s moment) (next_stamp s)

pub record Stepped : Type 0 where
  pub outcome : Outcome
  pub rows : Rows
  pub events : List Event

-- the moves of a whole step: the service's, then the distribution's from the state that these leave
abbrev pub step_moves : Rows → Moment → Served → List Move
step_moves s moment v = moves_of v ++ distribution (moved s (moves_of v)) moment

-- the state after the moves, with its figures and counters
abbrev pub counted : Rows → Turn → List Move → Rows
counted s turn moves = with_last (with_figures (moved s moves) (events_of turn.moment moves)) turn.stamp turn.moment (s.last_event + length (events_of turn.moment moves))

abbrev pub step_by : Rows → Turn → Outcome → List Move → Stepped
step_by s turn outcome moves = record { outcome = outcome; rows = counted s turn moves; events = numbered s.last_event (events_of turn.moment moves) }

abbrev pub step_at : Rows → Turn → Served → Stepped
step_at s turn v = step_by s turn (outcome_of v) (step_moves s turn.moment v)

-- the outcome, the state and the events of a request
unfoldable pub step : Rows → Moment → Command → Stepped
step s moment command = step_at s (next_turn s moment) (serve s (next_turn s moment) command)
