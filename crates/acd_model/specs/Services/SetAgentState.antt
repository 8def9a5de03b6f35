-- setAgentState, for loggedOn and for the other values.
use Rattle.std.specs.Prelude.{not, List, [], ◌∷◌, is_some, Some, Result, Ok, if◌then◌else◌}
use Rattle.std.specs.Option.{ok_or}
use Rattle.acd_terms.specs.Results.{◌>>=◌, ◌>>◌}
use Rattle.acd_terms.specs.Groups.{is_choice}
use Rattle.acd_terms.specs.States.{is_null, is_in, state_wanted}
use Rattle.acd_terms.specs.Numbers.{Device, Agent}
use Rattle.acd_terms.specs.declared.command.Turn.{Turn}
use Rattle.acd_terms.specs.declared.rows.Rows.{Rows}
use Rattle.acd_terms.specs.declared.record.AgentRecord.{AgentRecord}
use Rattle.acd_terms.specs.declared.state.AgentState.TheVariants.{NotReady}
use Rattle.acd_terms.specs.declared.state.Pending.{Pending}
use Rattle.acd_terms.specs.declared.command.Requested.{Requested}
use Rattle.acd_terms.specs.declared.command.Requested.TheVariants as requested
use Rattle.acd_terms.specs.declared.answer.Answer.TheVariants as answer
use Rattle.acd_terms.specs.declared.answer.Refusal.{Refusal}
use Rattle.acd_terms.specs.declared.answer.Refusal.TheVariants.{UnknownAgent, WrongAgentState, UnknownDevice, NotStation, StationTaken, NotGroup}
use Rattle.acd_model.specs.Scans.{agent_of, agent_at, is_group, is_station, is_planned, is_occupied}
use Rattle.acd_model.specs.AgentMoves.{go_from, log_on_at, wait_for}
use Rattle.acd_model.specs.ServiceAnswers.{Served, refuse_if, gives}

-- each is a planned group: tested in their order, and of each first that it is planned
abbrev pub all_groups : Rows → List Device → Result (Unit {0}) Refusal
all_groups s [] = Ok tt
all_groups s (g ∷ gs) = do
  refuse_if (not (is_planned s g)) UnknownDevice
  refuse_if (not (is_group s g)) NotGroup
  all_groups s gs

-- the last refusal is never one of a request, whose groups are one to eight in ascending number: with it a log-on keeps the
-- rules for any numbers
unfoldable pub log_on : Rows → Turn → Agent → Device → List Device → Served
log_on s turn agent device groups = do
  a ← ok_or (agent_of s agent) UnknownAgent
  refuse_if (not (is_null a.state)) WrongAgentState
  refuse_if (not (is_planned s device)) UnknownDevice
  refuse_if (not (is_station s device)) NotStation
  refuse_if (is_some (agent_at s device)) StationTaken
  all_groups s groups
  refuse_if (not (is_choice groups)) NotGroup
  gives (answer.State NotReady) (log_on_at turn a device groups ∷ [])

-- an occupied agent waits for the state, any other changes to it; asking for the present state changes nothing
abbrev pub go_or_wait : Rows → Turn → AgentRecord → Pending → Served
go_or_wait s turn a wanted =
    if is_occupied s a then gives (answer.Pending a.state wanted) (wait_for a (Some wanted) ∷ [])
    else (if is_in a.state wanted then gives (answer.State a.state) []
    else gives (answer.State (state_wanted wanted)) (go_from turn a a.station (state_wanted wanted) ∷ []))

unfoldable pub change_state : Rows → Turn → Agent → Pending → Served
change_state s turn agent wanted = do
  a ← ok_or (agent_of s agent) UnknownAgent
  refuse_if (is_null a.state) WrongAgentState
  go_or_wait s turn a wanted

abbrev pub set_agent_state : Rows → Turn → Agent → Requested → Served
set_agent_state s turn agent (requested.LoggedOn device groups) = log_on s turn agent device groups
set_agent_state s turn agent (requested.State wanted) = change_state s turn agent wanted
