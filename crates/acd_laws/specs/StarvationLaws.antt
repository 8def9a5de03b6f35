-- A call of low priority may wait for ever: for each number of rounds a run in which an agent of two groups answers a call of the other in each.
use Rattle.std.specs.Prelude.{◌≡◌, ◌≢◌, ℕ, zero, suc, ◌+◌, ◌*◌, Bool, false, ◌&&◌, ◌==◌, List, [], ◌∷◌, ◌++◌, length, Option, Some, None}
use Rattle.acd_terms.specs.Lists.{count, Every}
use Rattle.acd_terms.specs.Limits.{greatest_limits}
use Rattle.acd_terms.specs.Rows.{empty_rows}
use Rattle.acd_terms.specs.Numbers.{CallId, Stamp}
use Rattle.acd_terms.specs.Columns.{columns_of}
use Rattle.acd_terms.specs.declared.rows.Rows.{Rows}
use Rattle.acd_terms.specs.declared.record.AgentRecord.{AgentRecord}
use Rattle.acd_terms.specs.declared.event.Event.{Event}
use Rattle.acd_terms.specs.declared.event.Report.{Report}
use Rattle.acd_terms.specs.declared.event.Report.TheVariants.{Established}
use Rattle.acd_terms.specs.declared.answer.Outcome.{Outcome}
use Rattle.acd_terms.specs.declared.answer.Outcome.TheVariants.{Done, Refused}
use Rattle.acd_terms.specs.declared.command.Command.TheVariants.{ArriveCall, AnswerCall, ClearConnection, SetAgentState, SetGroupPriority}
use Rattle.acd_terms.specs.declared.command.Requested.TheVariants.{LoggedOn}
use Rattle.acd_terms.specs.declared.state.Pending.TheVariants as pending
use Rattle.acd_model.specs.Scans.{agent_of, connection_of}
use Rattle.acd_model.specs.CallMoves.{queueing}
use Rattle.acd_model.specs.Step.{step}
use Rattle.acd_model.specs.Run.{TimedCommand, run}
use Rattle.acd_model.specs.Examples.Words.{billing, claims, first_station, ana, caller, second_caller, at, asks_for}
use Rattle.acd_model.specs.Examples.Priorities.{two_groups}

-- claims precedes billing; call 1 comes in for billing, and Ana logs on in both groups
abbrev pub first_requests : List TimedCommand
first_requests =
    two_groups ++ at 0 (SetGroupPriority claims 5) ∷ at 10 (ArriveCall caller billing)
    ∷ at 15 (SetAgentState ana (LoggedOn first_station (billing ∷ claims ∷ []))) ∷ asks_for 18 ana pending.WorkingAfterCall ∷ []

-- a call for claims in the minute of its number: it comes in, Ana is ready for either group, answers it, and it ends
abbrev pub round_of : CallId → List TimedCommand
round_of call =
    at (60 * call) (ArriveCall second_caller claims) ∷ asks_for (60 * call) ana pending.Ready
    ∷ at (60 * call) (AnswerCall call first_station) ∷ at (60 * call) (ClearConnection call first_station) ∷ []

-- so many rounds, of calls from this one on
abbrev pub rounds_from : CallId → ℕ → List TimedCommand
rounds_from call zero = []
rounds_from call (suc n) = round_of call ++ rounds_from (call + 1) n

abbrev pub begun : Rows
begun = (run (empty_rows greatest_limits) first_requests).rows

-- call 1 waits for billing at its first place, and Ana is in both groups
pub record Waits (s : Rows) : Type 0 where
  pub place : Stamp
  pub waiting : connection_of s 1 billing ≡ Some (queueing 1 billing (Some place) (Some 10))
  pub agent : AgentRecord
  pub known : agent_of s ana ≡ Some agent
  pub groups : agent.groups ≡ billing ∷ claims ∷ []

-- it does so before and after each of the requests
abbrev pub WaitsThrough : Rows → List TimedCommand → Type 0
WaitsThrough s [] = Waits s
WaitsThrough s (q ∷ more) = Waits s × WaitsThrough (step s q.moment q.command).rows more

abbrev pub IsDone : Outcome → Type 0
IsDone (Refused why) = ⊥
IsDone (Done answer) = Unit {0}

-- no call, or another one than call 1
abbrev pub IsAnother : Option CallId → Type 0
IsAnother None = Unit {0}
IsAnother (Some call) = call ≢ 1

-- a call of claims was answered at Ana's station
abbrev pub is_answered_there : Report → Bool
is_answered_there (Established call station (Some w)) = station == first_station && w.group == claims
is_answered_there _ = false

-- so many rounds of four requests, none of them refused: in each a call of claims is answered, and call 1 waits all the time, with no report of it
pub record Starves (n : ℕ) : Type 0 where
  pub requests : length (rounds_from 2 n) ≡ 4 * n
  pub waits : WaitsThrough begun (rounds_from 2 n)
  pub done : Every IsDone (run begun (rounds_from 2 n)).outcomes
  pub answers : count (λ (e : Event). is_answered_there e.report) (run begun (rounds_from 2 n)).events ≡ n
  pub silent : Every (λ (e : Event). IsAnother (columns_of e.report).call) (run begun (rounds_from 2 n)).events

abbrev pub LowPriorityMayStarve : Type 0
LowPriorityMayStarve = (n : ℕ) → Starves n
