-- A snapshot, followed by the events after it, gives a later content.
use Rattle.std.specs.Prelude.{◌≡◌, ◌⊎◌, ◌↔◌, ◌<◌, List, ◌++◌, Option, Some, None, if◌then◌else◌}
use Rattle.acd_terms.specs.Lists.{Among}
use Rattle.acd_terms.specs.Numbers.{Device, Agent, CallId, Stamp}
use Rattle.acd_terms.specs.declared.rows.Rows.{Rows}
use Rattle.acd_terms.specs.declared.record.Figures.{Figures}
use Rattle.acd_terms.specs.declared.record.GroupRecord.{GroupRecord}
use Rattle.acd_terms.specs.declared.state.ConnectionState.{ConnectionState}
use Rattle.acd_terms.specs.declared.command.Arrival.{Arrival}
use Rattle.acd_terms.specs.declared.event.Event.{Event}
use Rattle.acd_model.specs.Scans.{group_of, agent_of}
use Rattle.acd_model.specs.Figures.{figures_of, sum_of_figures}
use Rattle.acd_model.specs.EventReports.{known_after, connection_reported, seat_reported, last_entry}
use Rattle.acd_model.specs.Watcher.{is_external_caller, state_at, seat_of, HasPlace}
use Rattle.acd_model.specs.Services.{no_figures}
use Rattle.acd_book.specs.Content.{Content}
use Rattle.acd_desk.specs.Contents.SoundContent.{IsSound, ran_after}
use Rattle.acd_desk.specs.Reads.ReadAnswers.{above}

-- a snapshot shows a connection's state; it shows no external caller's, since no event reports one
abbrev pub shown_at : Rows → CallId → Device → Option ConnectionState
shown_at s call device = if is_external_caller s call device then None else state_at s call device

-- a group's figures as they are shown: 0 where it isn't there
abbrev pub figures_shown : Option GroupRecord → Figures
figures_shown None = no_figures
figures_shown (Some g) = g.figures

-- of two calls in a group the first entered there before the second, by these events; or these report an entry of neither, and its place in what is shown is the
-- lower
abbrev pub IsCallBefore : Rows → List Event → Device → CallId → CallId → Type 0
IsCallBefore s rest group first second =
    (last_entry group first 0 rest < last_entry group second 0 rest)
    ⊎ ((last_entry group first 0 rest ≡ 0) × (last_entry group second 0 rest ≡ 0) × (p q : Stamp) × HasPlace s group first p × HasPlace s group second q × (p < q))

-- one content is shown, and these events come after it: they make of what is shown what a later content shows
pub record LeadsBy (c d : Content) (rest : List Event) : Type 0 where
  -- none is missed, and none occurs twice
  pub whole : d.events ≡ c.events ++ rest
  pub connections : (call : CallId) (device : Device) → shown_at d.rows call device ≡ known_after (connection_reported call device) (shown_at c.rows call device) rest
  pub agents : (agent : Agent) → seat_of (agent_of d.rows agent) ≡ known_after (seat_reported agent) (seat_of (agent_of c.rows agent)) rest
  pub figures : (g : GroupRecord) → Among g d.rows.groups → g.figures ≡ sum_of_figures (figures_shown (group_of c.rows g.device)) (figures_of g.device rest)
  -- of the calls that wait in a group or ring from it
  pub queues : (group : Device) (first second : CallId) (p q : Stamp) → HasPlace d.rows group first p → HasPlace d.rows group second q → (p < q) ↔ IsCallBefore c.rows rest group first second

-- a sound content leads on to each later one by the events above its last number
abbrev pub SnapshotLeadsOn : Type 0
SnapshotLeadsOn = (c : Content) (list : List Arrival) → IsSound c → LeadsBy c (ran_after c list) (above (ran_after c list).events c.rows.last_event)
