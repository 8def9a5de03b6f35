-- A service's answer numbers the next call or the next monitor alone.
use Rattle.std.proofs.Common.{ℕ, ◌<◌, Bool, true, false, cond, min, Option, Some, None, List, [], ◌∷◌, Result, Ok, Err, arith}
use Rattle.std.specs.Option.{ok_or}
use Rattle.acd_terms.specs.Results.{◌>>=◌, ◌>>◌}
use Rattle.acd_terms.specs.declared.rows.Rows.{Rows}
use Rattle.acd_terms.specs.States.{is_in, state_wanted}
use Rattle.acd_terms.specs.declared.record.AgentRecord.{AgentRecord}
use Rattle.acd_terms.specs.declared.record.CallRecord.{CallRecord}
use Rattle.acd_terms.specs.declared.record.ConnectionRecord.{ConnectionRecord}
use Rattle.acd_terms.specs.declared.state.AgentState.{AgentState}
use Rattle.acd_terms.specs.declared.state.Pending.{Pending}
use Rattle.acd_terms.specs.declared.answer.Answer.TheVariants as answer
use Rattle.acd_terms.specs.declared.answer.Outcome.{Outcome}
use Rattle.acd_terms.specs.declared.answer.Outcome.TheVariants.{Done, Refused}
use Rattle.acd_terms.specs.declared.answer.Refusal.{Refusal}
use Rattle.acd_terms.specs.declared.command.Turn.{Turn}
use Rattle.acd_terms.specs.declared.command.Requested.TheVariants as requested
use Rattle.acd_terms.specs.declared.command.Command.{Command}
use Rattle.acd_terms.specs.declared.command.Command.TheVariants.{AddGroup, AddStation, AddAgent, ArriveCall, MakeCall, PhoneOffHook, AnswerCall, HoldCall, RetrieveCall, ClearConnection, DeflectCall, SingleStepTransfer, SetAgentState, MonitorStart, MonitorStop, Tick, SetGroupPriority, RejectCall, ChangeGroup, ChangeAgent}
use Rattle.acd_terms.specs.Limits.{greatest_priority}
use Rattle.acd_terms.specs.declared.answer.Refusal.TheVariants.{UnknownMonitor, NotGroup, UnknownAgent}
use Rattle.acd_model.specs.Scans.{call_of, connection_of, is_occupied, monitor_of, group_of, agent_of}
use Rattle.acd_model.specs.Moves.{silent}
use Rattle.acd_model.specs.declared.moves.Change.TheVariants.{PutGroup, PutAgent, RemoveMonitor}
use Rattle.acd_model.specs.declared.moves.Move.{Move}
use Rattle.acd_model.specs.AgentMoves.{go_from, wait_for}
use Rattle.acd_model.specs.ServiceAnswers.{Served, refuse_if, gives, outcome_of}
use Rattle.acd_model.specs.Services.{add_group, add_station, add_agent, arrive_call, next_call, make_call, phone_off_hook, answer_call, hold_call, retrieve_call, clear_connection, deflect_call, single_step_transfer, all_groups, log_on, go_or_wait, change_state, next_monitor, monitor_start, monitor_stop, set_group_priority, reject_call, change_group, change_agent}
use Rattle.acd_model.specs.Services.Serve.{serve}
use Rattle.acd_model.specs.Step.{step, next_turn}
use Rattle.acd_laws.specs.RuleLaws.{IsWithinBounds}
use Rattle.acd_laws.proofs.Effects.{by_refusal, by_found}
use Rattle.acd_desk_laws.specs.PageSizes.{IsOutcome}

data IsNext (s : Rows) : Outcome → Type 0 where
  refused : (r : Refusal) → IsNext s (Refused r)
  nothing : IsNext s (Done answer.Nothing)
  call : IsNext s (Done (answer.Call (next_call s)))
  monitor : IsNext s (Done (answer.Monitor (next_monitor s)))
  state : (a : AgentState) → IsNext s (Done (answer.State a))
  pending : (a : AgentState) (p : Pending) → IsNext s (Done (answer.Pending a p))

abbrev NextBy : Rows → Served → Type 0
NextBy s v = IsNext s (outcome_of v)

unless : {s : Rows} (b : Bool) (r : Refusal) (rest : Served) → NextBy s rest → NextBy s (refuse_if b r >> rest)
unless {s} b r rest h = by_refusal (NextBy s) b r rest (λ q. refused q) (λ _. h)

with : {T : Type 0} {s : Rows} (o : Option T) (r : Refusal) (rest : T → Served) → ((x : T) → NextBy s (rest x)) → NextBy s (ok_or o r >>= rest)
with {T} {s} o r rest h = by_found (NextBy s) o r rest (λ q. refused q) (λ x _. h x)

-- at a connection of a live call
party : {s : Rows} (number device : ℕ) (r q : Refusal) (rest : CallRecord → ConnectionRecord → Served)
    → ((c : CallRecord) (x : ConnectionRecord) → NextBy s (rest c x)) → NextBy s (ok_or (call_of s number) r >>= (λ c. ok_or (connection_of s number device) q >>= rest c))
party {s} number device r q rest h =
    with (call_of s number) r (λ c. ok_or (connection_of s number device) q >>= rest c) (λ c. with (connection_of s number device) q (rest c) (λ x. h c x))

-- the record is put or removed, and nothing is answered
found : {T : Type 0} {s : Rows} (o : Option T) (r : Refusal) (moves : T → List Move) → NextBy s (ok_or o r >>= (λ x. gives answer.Nothing (moves x)))
found None r moves = refused r
found (Some x) r moves = nothing

passes : {s : Rows} (v : Result (Unit {0}) Refusal) (rest : Served) → NextBy s rest → NextBy s (v >> rest)
passes (Ok u) rest h = h
passes (Err r) rest h = refused r

either : {s : Rows} (b : Bool) (v w : Served) → NextBy s v → NextBy s w → NextBy s (cond b v w)
either true v w h g = h
either false v w h g = g

logs_on : (s : Rows) (turn : Turn) (agent device : ℕ) (groups : List ℕ) → NextBy s (log_on s turn agent device groups)
unfolding log_on
logs_on s turn agent device groups = with _ _ _ (λ a. unless _ _ _ (unless _ _ _ (unless _ _ _ (unless _ _ _ (passes (all_groups s groups) _ (unless _ _ _ (state _)))))))

goes_or_waits : (s : Rows) (turn : Turn) (a : AgentRecord) (wanted : Pending) → NextBy s (go_or_wait s turn a wanted)
goes_or_waits s turn a wanted =
    let stays : Served = gives (answer.State a.state) [] in
    let goes : Served = gives (answer.State (state_wanted wanted)) (go_from turn a a.station (state_wanted wanted) ∷ []) in
    either (is_occupied s a) (gives (answer.Pending a.state wanted) (wait_for a (Some wanted) ∷ [])) (cond (is_in a.state wanted) stays goes)
    (pending a.state wanted) (either (is_in a.state wanted) stays goes (state a.state) (state (state_wanted wanted)))

changes_state : (s : Rows) (turn : Turn) (agent : ℕ) (wanted : Pending) → NextBy s (change_state s turn agent wanted)
unfolding change_state
changes_state s turn agent wanted = with _ _ _ (λ a. unless _ _ _ (goes_or_waits s turn a wanted))

served_next : (s : Rows) (turn : Turn) (c : Command) → NextBy s (serve s turn c)
unfolding add_group add_station add_agent arrive_call make_call phone_off_hook answer_call hold_call retrieve_call clear_connection deflect_call single_step_transfer monitor_start monitor_stop set_group_priority reject_call change_group change_agent
served_next s turn (AddGroup device name ring wrap) = unless _ _ _ (unless _ _ _ nothing)
served_next s turn (AddStation device) = unless _ _ _ (unless _ _ _ nothing)
served_next s turn (AddAgent agent name) = unless _ _ _ (unless _ _ _ nothing)
served_next s turn (ArriveCall caller called) = unless _ _ _ (unless _ _ _ (unless _ _ _ call))
served_next s turn (MakeCall device called) = unless _ _ _ (unless _ _ _ (unless _ _ _ (unless _ _ _ (unless _ _ _ (unless _ _ _ call)))))
served_next s turn (PhoneOffHook number device) = party number device _ _ _ (λ c x. unless _ _ _ nothing)
served_next s turn (AnswerCall number device) = party number device _ _ _ (λ c x. unless _ _ _ nothing)
served_next s turn (HoldCall number device) = party number device _ _ _ (λ c x. unless _ _ _ (unless _ _ _ nothing))
served_next s turn (RetrieveCall number device) = party number device _ _ _ (λ c x. unless _ _ _ (unless _ _ _ nothing))
served_next s turn (ClearConnection number device) = party number device _ _ _ (λ c x. nothing)
served_next s turn (DeflectCall number device to) = party number device _ _ _ (λ c x. unless _ _ _ (unless _ _ _ (unless _ _ _ (unless _ _ _ nothing))))
served_next s turn (SingleStepTransfer number device to) = party number device _ _ _ (λ c x. unless _ _ _ (unless _ _ _ (unless _ _ _ (unless _ _ _ (unless _ _ _ nothing)))))
served_next s turn (SetAgentState agent (requested.LoggedOn device groups)) = logs_on s turn agent device groups
served_next s turn (SetAgentState agent (requested.State wanted)) = changes_state s turn agent wanted
served_next s turn (MonitorStart device) = unless _ _ _ (unless _ _ _ monitor)
served_next s turn (MonitorStop number) = found (monitor_of s number) UnknownMonitor (λ _. silent (RemoveMonitor number) ∷ [])
served_next s turn Tick = nothing
served_next s turn (SetGroupPriority device priority) = unless _ _ _ (found (group_of s device) NotGroup (λ g. silent (PutGroup (record g { priority = min priority greatest_priority })) ∷ []))
served_next s turn (RejectCall number device) = party number device _ _ _ (λ c x. unless _ _ _ nothing)
served_next s turn (ChangeGroup device name ring wrap) = unless _ _ _ (found (group_of s device) NotGroup (λ g. silent (PutGroup (record g { name = name; ring = ring; wrap = wrap })) ∷ []))
served_next s turn (ChangeAgent agent name) = found (agent_of s agent) UnknownAgent (λ a. silent (PutAgent (record a { name = name })) ∷ [])

outcome_next : (s : Rows) → IsWithinBounds s → s.last_stamp < s.limits.requests → (o : Outcome) → IsNext s o → IsOutcome o
outcome_next s b room _ (refused r) = tt
outcome_next s b room _ nothing = tt
outcome_next s b room _ call = let few = b.requests in let low = b.last_call in (omega arith, omega (arith, few, low, room))
outcome_next s b room _ monitor = let few = b.requests in let low = b.last_monitor in (omega arith, omega (arith, few, low, room))
outcome_next s b room _ (state a) = tt
outcome_next s b room _ (pending a p) = tt

pub step_outcome : (s : Rows) (moment : ℕ) (c : Command) → IsWithinBounds s → s.last_stamp < s.limits.requests → IsOutcome (step s moment c).outcome
unfolding step
step_outcome s moment c b room = outcome_next s b room _ (served_next s (next_turn s moment) c)
