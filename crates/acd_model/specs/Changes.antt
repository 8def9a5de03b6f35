-- The changes of records that a step makes: those of its moves, then the groups whose figures grew.
use Rattle.std.specs.Prelude.{ℕ, ◌+◌, List, [], ◌∷◌, ◌++◌, Option, Some, None, if◌then◌else◌}
use Rattle.acd_terms.specs.Numbers.{Device, Moment, Stamp}
use Rattle.acd_terms.specs.declared.rows.Rows.{Rows}
use Rattle.acd_terms.specs.declared.record.GroupRecord.{GroupRecord}
use Rattle.acd_terms.specs.declared.command.Command.{Command}
use Rattle.acd_terms.specs.declared.event.Event.{Event}
use Rattle.acd_terms.specs.declared.event.Report.{Report}
use Rattle.acd_terms.specs.declared.event.Report.TheVariants.{Queued, Established, CallCleared, Diverted}
use Rattle.acd_model.specs.Scans.{group_of}
use Rattle.acd_model.specs.Writes.{with_last}
use Rattle.acd_model.specs.Moves.{changed, moved, events_of}
use Rattle.acd_model.specs.Figures.{is_no_answer, is_deflected, counting}
use Rattle.acd_model.specs.Step.{step_moves, executed_moment, next_turn}
use Rattle.acd_model.specs.Services.Serve.{serve}
use Rattle.acd_model.specs.declared.moves.Move.{Move}
use Rattle.acd_model.specs.declared.moves.Change.{Change}
use Rattle.acd_model.specs.declared.moves.Change.TheVariants.{Nothing, PutGroup}

abbrev pub with_change : Change → List Change → List Change
with_change Nothing changes = changes
with_change change changes = change ∷ changes

-- those of moves, in order
abbrev pub changes_of : List Move → List Change
changes_of [] = []
changes_of (move ∷ moves) = with_change move.change (changes_of moves)

-- the state after changes, one after the other
abbrev pub changed_by : Rows → List Change → Rows
changed_by s [] = s
changed_by s (change ∷ changes) = changed_by (changed s change) changes

-- the group whose figures a report adds to
abbrev pub counted_group : Report → Option Device
counted_group (Queued call group cause) = if is_no_answer cause then None else Some group
counted_group (Established call station (Some w)) = Some w.group
counted_group (CallCleared call group) = group
counted_group (Diverted call device to cause group) = if is_deflected cause then group else None
counted_group _ = None

-- the group with what an event adds, where it is planned
abbrev pub grown : Option GroupRecord → Event → List Change
grown None e = []
grown (Some g) e = PutGroup (counting (e ∷ []) g) ∷ []

abbrev pub growth_in : Rows → Option Device → Event → List Change
growth_in s None e = []
growth_in s (Some group) e = grown (group_of s group) e

abbrev pub growth_by : Rows → Event → List Change
growth_by s e = growth_in s (counted_group e.report) e

-- the groups whose figures grow by events, one event after the other
abbrev pub growth : Rows → List Event → List Change
growth s [] = []
growth s (e ∷ es) = growth_by s e ++ growth (changed_by s (growth_by s e)) es

-- the changes of a whole step: those of its moves, then the groups whose figures grew by its events
abbrev pub step_changes_by : Rows → Moment → List Move → List Change
step_changes_by s moment moves = changes_of moves ++ growth (moved s moves) (events_of moment moves)

unfoldable pub step_changes : Rows → Moment → Command → List Change
step_changes s moment command =
    step_changes_by s (executed_moment s moment) (step_moves s (executed_moment s moment) (serve s (next_turn s moment) command))

-- the state that changes make, with the counters of the executed request and so many events more
abbrev pub rows_made : Rows → List Change → Stamp → Moment → ℕ → Rows
rows_made s changes stamp moment events = with_last (changed_by s changes) stamp moment (s.last_event + events)
