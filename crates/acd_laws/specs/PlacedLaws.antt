-- The place of each call, how often it was cleared, and which calls events name.
use Rattle.std.specs.Prelude.{◌≡◌, ℕ, ◌<◌, ◌≤◌, ◌&&◌, nat_le, List, Option, Some, None, is_none, if◌then◌else◌}
use Rattle.acd_terms.specs.Lists.{Every}
use Rattle.acd_terms.specs.Columns.{columns_of}
use Rattle.acd_terms.specs.Numbers.{CallId, Moment}
use Rattle.acd_terms.specs.declared.rows.Rows.{Rows}
use Rattle.acd_terms.specs.declared.command.Command.{Command}
use Rattle.acd_terms.specs.declared.event.Event.{Event}
use Rattle.acd_model.specs.Scans.{call_of}
use Rattle.acd_model.specs.CallPlaces.{cleared_by, IsCleared, IsWaiting, IsAtDevices, IsPlaced}
use Rattle.acd_model.specs.Rules.First.{BreaksNoRule}
use Rattle.acd_laws.specs.Forms.{AfterStep, StepLeads, StepKeeps, EachRunEnds}

-- the call that may be named isn't above the last
abbrev pub IsCallUpTo : CallId → Option CallId → Type 0
IsCallUpTo last None = Unit {0}
IsCallUpTo last (Some call) = call ≤ last

-- no event names a call above the last
abbrev pub NamesNoLaterCall : Rows → List Event → Type 0
NamesNoLaterCall s events = Every (λ (e : Event). IsCallUpTo s.last_call (columns_of e.report).call) events

-- a call up to the last that isn't live was cleared once, any other never
abbrev pub clearings : Rows → CallId → ℕ
clearings s call = if nat_le call s.last_call && is_none (call_of s call) then 1 else 0

-- the callCleared events of each call, counted from all events
abbrev pub KeepsClearings : Rows → List Event → Type 0
KeepsClearings s events = (call : CallId) → 0 < call → cleared_by call events ≡ clearings s call

abbrev pub StepNamesNoLaterCall : Type 0
StepNamesNoLaterCall = StepKeeps NamesNoLaterCall

abbrev pub RunNamesNoLaterCall : Type 0
RunNamesNoLaterCall = EachRunEnds NamesNoLaterCall

abbrev pub StepKeepsClearings : Type 0
StepKeepsClearings = StepKeeps KeepsClearings

-- from rows that break no rule, where each call was cleared as often as it has ended
abbrev pub StepPlaces : Type 0
StepPlaces = StepLeads KeepsClearings IsPlaced

-- where each call is in one of the three places, and no event names a later call, each is in one of them after a step, with its events added
abbrev pub StepKeepsPlaces : Type 0
StepKeepsPlaces = (s : Rows) (events : List Event) (moment : Moment) (command : Command) → BreaksNoRule s → NamesNoLaterCall s events → IsPlaced s events
    → AfterStep IsPlaced s events moment command

abbrev pub RunIsPlaced : Type 0
RunIsPlaced = EachRunEnds IsPlaced

-- no two of three facts hold together
abbrev pub ExcludeOneAnother : Type 0 → Type 0 → Type 0 → Type 0
ExcludeOneAnother P Q R = (P → Q → ⊥) × (P → R → ⊥) × (Q → R → ⊥)

-- the three places in which a call may be exclude one another, so that just one of them holds
abbrev pub PlacesExclude : Type 0
PlacesExclude =
    (s : Rows) (events : List Event) (call : CallId) → ExcludeOneAnother (IsCleared s events call) (IsWaiting s events call) (IsAtDevices s events call)
