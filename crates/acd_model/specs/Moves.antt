-- A move: the change of one record at most, and the report of it, if there is one.
use Rattle.std.specs.Prelude.{List, [], ◌∷◌, Option, Some, None}
use Rattle.acd_terms.specs.Numbers.{Moment}
use Rattle.acd_terms.specs.declared.rows.Rows.{Rows}
use Rattle.acd_terms.specs.declared.event.Event.{Event}
use Rattle.acd_terms.specs.declared.event.Report.{Report}
use Rattle.acd_model.specs.Writes.{with_group, with_station, with_agent, with_call, with_connection, with_monitor, without_call, without_connection, without_monitor}
use Rattle.acd_model.specs.declared.moves.Move.{Move}
use Rattle.acd_model.specs.declared.moves.Change.{Change}
use Rattle.acd_model.specs.declared.moves.Change.TheVariants.{Nothing, PutGroup, PutStation, PutAgent, PutCall, PutConnection, PutMonitor, RemoveCall, RemoveConnection, RemoveMonitor}

-- where nothing is to be done
abbrev pub no_move : Move
no_move = record { change = Nothing; report = None }

abbrev pub silent : Change → Move
silent change = record { change = change; report = None }

abbrev pub reported : Change → Report → Move
reported change report = record { change = change; report = Some report }

abbrev pub changed : Rows → Change → Rows
changed s Nothing = s
changed s (PutGroup r) = with_group s r
changed s (PutStation r) = with_station s r
changed s (PutAgent r) = with_agent s r
changed s (PutCall r) = with_call s r
changed s (PutConnection r) = with_connection s r
changed s (PutMonitor r) = with_monitor s r
changed s (RemoveCall call) = without_call s call
changed s (RemoveConnection call device) = without_connection s call device
changed s (RemoveMonitor monitor) = without_monitor s monitor

-- the state after moves
abbrev pub moved : Rows → List Move → Rows
moved s [] = s
moved s (move ∷ moves) = moved (changed s move.change) moves

-- an event before it has a number
abbrev pub event_at : Moment → Report → Event
event_at moment report = record { number = 0; moment = moment; report = report }

abbrev pub with_event : Moment → Option Report → List Event → List Event
with_event moment None events = events
with_event moment (Some report) events = event_at moment report ∷ events

-- the events of moves
abbrev pub events_of : Moment → List Move → List Event
events_of moment [] = []
events_of moment (move ∷ moves) = with_event moment move.report (events_of moment moves)
