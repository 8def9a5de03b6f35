-- Services over rows without their names: each answers as it does over the rows, with the same moves but for the names.
use Rattle.std.proofs.Common.{◌≡◌, ℕ, Bool, true, false, not, cond, List, [], ◌∷◌, Option, Some, None, refl, ap, map, Result, Ok, Err}
use Rattle.std.specs.Prelude.{option_map, nat_le}
use Rattle.std.specs.Option.{ok_or}
use Rattle.std.proofs.lemmas.List.{length-map}
use Rattle.acd_terms.specs.Results.{◌>>=◌, ◌>>◌}
use Rattle.acd_terms.specs.Numbers.{Device, Agent, CallId, MonitorId, Seconds, Priority}
use Rattle.acd_terms.specs.declared.command.Turn.{Turn}
use Rattle.acd_terms.specs.declared.command.Command.TheVariants.{AddGroup, AddStation, AddAgent, ArriveCall, MakeCall, PhoneOffHook, AnswerCall, HoldCall, RetrieveCall, ClearConnection, DeflectCall, SingleStepTransfer, SetAgentState, MonitorStart, MonitorStop, Tick, SetGroupPriority, RejectCall, ChangeGroup, ChangeAgent}
use Rattle.acd_terms.specs.declared.command.Requested.TheVariants as requested
use Rattle.acd_terms.specs.declared.answer.Answer.{Answer}
use Rattle.acd_terms.specs.declared.event.Cause.TheVariants.{NewCall, Deflected, Transferred}
use Rattle.acd_lemmas.proofs.Words.{Rows, AgentRecord, CallRecord, Command, ConnectionRecord, Move, Pending, Refusal, Requested, Served, is_in, state_wanted, group_of, station_of, agent_of, call_of, connection_of, monitor_of, other_of, is_live_at, is_idle, is_occupied}
use Rattle.acd_model.specs.ServiceAnswers.{refuse_if, gives, outcome_of, moves_of}
use Rattle.acd_model.specs.Release.{ending_of}
use Rattle.acd_model.specs.Services.{add_group, add_station, add_agent, next_call, arrive_call, make_call, phone_off_hook, answer_call, hold_call, retrieve_call, clearing, clear_connection, deflect_call, single_step_transfer, all_groups, log_on, go_or_wait, change_state, set_agent_state, monitor_start, monitor_stop, set_group_priority, reject_call, change_group, change_agent}
use Rattle.acd_model.specs.Services.Serve.{serve}
use Rattle.acd_laws.specs.NameLaws.{unnamed_group, unnamed_agent, unnamed, unnamed_command}
use Rattle.acd_laws.proofs.Names.UnnamedScans.{unnamed_group_of, unnamed_agent_of, unnamed_is_group, unnamed_is_planned, unnamed_is_used, unnamed_agent_is_there, unnamed_is_taken}
use Rattle.acd_laws.proofs.Names.UnnamedMoves.{unnamed_move, unnamed_arrive, unnamed_release, unnamed_occupy, unnamed_go_from, unnamed_return_moves, unnamed_tick}

-- the answer of a service over rows without their names, and over the rows: the same refusal, or the same answer with the same moves,
-- less the names that they put
pub record IsUnnamed (v w : Served) : Type 0 where
  pub outcome : outcome_of v ≡ outcome_of w
  pub moves : moves_of v ≡ map unnamed_move (moves_of w)

-- the walk over refusals

-- a check with the same result
checked : {o : Result (Unit {0}) Refusal} (p : Result (Unit {0}) Refusal) {v w : Served} → o ≡ p → IsUnnamed v w → IsUnnamed (o >> v) (p >> w)
checked (Err r) e h = rw e (record { outcome = refl; moves = refl })
checked (Ok x) e h = rw e h

-- a test of the same value
test : {b c : Bool} (r : Refusal) {v w : Served} → b ≡ c → IsUnnamed v w → IsUnnamed (refuse_if b r >> v) (refuse_if c r >> w)
test {c = c} r e h = checked (refuse_if c r) (ap (λ b. refuse_if b r) e) h

-- a record that is found, without its name
found : {T : Type 0} (f : T → T) {o : Option T} (p : Option T) (r : Refusal) (v : T → Served) {w : T → Served} → o ≡ option_map f p
    → ((x : T) → IsUnnamed (v (f x)) (w x))
    → IsUnnamed (ok_or o r >>= v) (ok_or p r >>= w)
found f None r v e h = rw e (record { outcome = refl; moves = refl })
found f (Some x) r v e h = rw e (h x)

-- a record that has no name
known : {T : Type 0} (o : Option T) (r : Refusal) {v w : T → Served} → ((x : T) → IsUnnamed (v x) (w x)) → IsUnnamed (ok_or o r >>= v) (ok_or o r >>= w)
known None r h = record { outcome = refl; moves = refl }
known (Some x) r h = h x

-- one way or another, by a test
either : (b : Bool) {v w x y : Served} → IsUnnamed v w → IsUnnamed x y → IsUnnamed (cond b v x) (cond b w y)
either true h g = h
either false h g = g

given : {a : Answer} {ms ns : List Move} → ms ≡ map unnamed_move ns → IsUnnamed (gives a ms) (gives a ns)
given e = record { outcome = refl; moves = e }

module _ (s : Rows) (turn : Turn) where
  unnamed_add_group : (device : Device) (name : List ℕ) (ring wrap : Seconds)
      → IsUnnamed (add_group (unnamed s) device [] ring wrap) (add_group s device name ring wrap)
  unfolding unnamed add_group
  unnamed_add_group device name ring wrap =
      test _ (unnamed_is_used s device) (test _ (ap (nat_le s.limits.groups) (length-map s.groups unnamed_group)) (given refl))

  unnamed_add_station : (device : Device) → IsUnnamed (add_station (unnamed s) device) (add_station s device)
  unfolding unnamed add_station
  unnamed_add_station device = test _ (unnamed_is_used s device) (test _ refl (given refl))

  unnamed_add_agent : (agent : Agent) (name : List ℕ) → IsUnnamed (add_agent (unnamed s) turn agent []) (add_agent s turn agent name)
  unfolding unnamed add_agent
  unnamed_add_agent agent name = test _ (unnamed_agent_is_there s agent) (test _ (ap (nat_le s.limits.agents) (length-map s.agents unnamed_agent)) (given refl))

  unnamed_arrive_call : (caller called : Device) → IsUnnamed (arrive_call (unnamed s) turn caller called) (arrive_call s turn caller called)
  unfolding unnamed arrive_call
  unnamed_arrive_call caller called =
      test _ (unnamed_is_planned s caller)
      (test _ (ap not (unnamed_is_planned s called)) (test _ refl (given (rw (unnamed_arrive s turn (next_call s) called NewCall) refl))))

  unnamed_make_call : (device called : Device) → IsUnnamed (make_call (unnamed s) turn.moment device called) (make_call s turn.moment device called)
  unfolding unnamed make_call station_of is_live_at
  unnamed_make_call device called =
      test _ (ap not (unnamed_is_planned s device))
      (test _ refl (test _ (ap not (unnamed_is_planned s called)) (test _ refl (test _ refl (test _ refl (given refl))))))

module _ (s : Rows) (turn : Turn) (call : CallId) (device : Device) where
  -- of a connection of a live call
  party : (r q : Refusal) {v w : CallRecord → ConnectionRecord → Served} → ((c : CallRecord) (x : ConnectionRecord) → IsUnnamed (v c x) (w c x))
      → IsUnnamed (ok_or (call_of (unnamed s) call) r >>= (λ c. ok_or (connection_of (unnamed s) call device) q >>= v c))
      (ok_or (call_of s call) r >>= (λ c. ok_or (connection_of s call device) q >>= w c))
  unfolding unnamed call_of connection_of
  party r q h = known (call_of s call) r (λ c. known (connection_of s call device) q (λ x. h c x))

  unnamed_phone_off_hook : IsUnnamed (phone_off_hook (unnamed s) turn call device) (phone_off_hook s turn call device)
  unfolding phone_off_hook
  unnamed_phone_off_hook = party _ _ (λ c x. test _ refl (given (rw (unnamed_arrive s turn call c.called NewCall) refl)))

  unnamed_answer_call : IsUnnamed (answer_call (unnamed s) turn call device) (answer_call s turn call device)
  unfolding answer_call
  unnamed_answer_call = party _ _ (λ c x. test _ refl (given (rw (unnamed_occupy s turn x) refl)))

  unnamed_hold_call : IsUnnamed (hold_call (unnamed s) call device) (hold_call s call device)
  unfolding unnamed hold_call station_of
  unnamed_hold_call = party _ _ (λ c x. test _ refl (test _ refl (given refl)))

  unnamed_retrieve_call : IsUnnamed (retrieve_call (unnamed s) call device) (retrieve_call s call device)
  unfolding unnamed retrieve_call is_live_at
  unnamed_retrieve_call = party _ _ (λ c x. test _ refl (test _ refl (given refl)))

  unnamed_clear_connection : IsUnnamed (clear_connection (unnamed s) turn call device) (clear_connection s turn call device)
  unfolding unnamed clear_connection other_of
  unnamed_clear_connection = party _ _ (λ c x. given (clears x (other_of s x)))
    where
      clears : (x : ConnectionRecord) (other : Option ConnectionRecord) → clearing (unnamed s) turn x other ≡ map unnamed_move (clearing s turn x other)
      clears x None = rw (unnamed_release s turn x (ending_of x)) refl
      clears x (Some y) = rw (unnamed_release s turn x (ending_of x), unnamed_release s turn y (ending_of y)) refl

  unnamed_deflect_call : (to : Device) → IsUnnamed (deflect_call (unnamed s) turn call device to) (deflect_call s turn call device to)
  unfolding unnamed deflect_call station_of connection_of is_idle
  unnamed_deflect_call to =
      party _ _ (λ c x. test _ refl (test _ (ap not (unnamed_is_planned s to)) (test _ refl (test _ refl
      (given (rw (unnamed_arrive s turn call to Deflected, unnamed_release s turn x (ending_of x)) refl))))))

  unnamed_single_step_transfer : (to : Device) → IsUnnamed (single_step_transfer (unnamed s) turn call device to) (single_step_transfer s turn call device to)
  unfolding unnamed single_step_transfer station_of connection_of other_of is_idle
  unnamed_single_step_transfer to =
      party _ _ (λ c x. test _ refl (test _ refl (test _ (ap not (unnamed_is_planned s to)) (test _ refl (test _ refl
      (given (rw (unnamed_arrive s turn call to Transferred, unnamed_release s turn x (ending_of x)) refl)))))))

  unnamed_reject_call : IsUnnamed (reject_call (unnamed s) turn call device) (reject_call s turn call device)
  unfolding reject_call
  unnamed_reject_call = party _ _ (λ c x. test _ refl (given (unnamed_return_moves turn s x)))

module _ (s : Rows) (turn : Turn) where
  unnamed_all_groups : (gs : List Device) → all_groups (unnamed s) gs ≡ all_groups s gs
  unnamed_all_groups [] = refl
  unnamed_all_groups (g ∷ gs) = rw (unnamed_is_planned s g, unnamed_is_group s g, unnamed_all_groups gs) refl

  unnamed_log_on : (agent : Agent) (device : Device) (groups : List Device)
      → IsUnnamed (log_on (unnamed s) turn agent device groups) (log_on s turn agent device groups)
  unfolding unnamed log_on station_of
  unnamed_log_on agent device groups =
      found unnamed_agent (agent_of s agent) _ _ (unnamed_agent_of s agent) (λ a. test _ refl (test _ (ap not (unnamed_is_planned s device)) (test _ refl
      (test _ (unnamed_is_taken s device) (checked (all_groups s groups) (unnamed_all_groups groups) (test _ refl (given refl)))))))

  unnamed_go_or_wait : (a : AgentRecord) (wanted : Pending) → IsUnnamed (go_or_wait (unnamed s) turn (unnamed_agent a) wanted) (go_or_wait s turn a wanted)
  unfolding unnamed is_occupied
  unnamed_go_or_wait a wanted =
      either (is_occupied s a) (given refl)
      (either (is_in a.state wanted) (given refl) (given (rw (unnamed_go_from turn a a.station (state_wanted wanted)) refl)))

  unnamed_change_state : (agent : Agent) (wanted : Pending) → IsUnnamed (change_state (unnamed s) turn agent wanted) (change_state s turn agent wanted)
  unfolding change_state
  unnamed_change_state agent wanted = found unnamed_agent (agent_of s agent) _ _ (unnamed_agent_of s agent) (λ a. test _ refl (unnamed_go_or_wait a wanted))

  unnamed_set_agent_state : (agent : Agent) (requested : Requested)
      → IsUnnamed (set_agent_state (unnamed s) turn agent requested) (set_agent_state s turn agent requested)
  unnamed_set_agent_state agent (requested.LoggedOn device groups) = unnamed_log_on agent device groups
  unnamed_set_agent_state agent (requested.State wanted) = unnamed_change_state agent wanted

  unnamed_monitor_start : (device : Device) → IsUnnamed (monitor_start (unnamed s) device) (monitor_start s device)
  unfolding unnamed monitor_start
  unnamed_monitor_start device = test _ (ap not (unnamed_is_planned s device)) (test _ refl (given refl))

  unnamed_monitor_stop : (monitor : MonitorId) → IsUnnamed (monitor_stop (unnamed s) monitor) (monitor_stop s monitor)
  unfolding unnamed monitor_stop monitor_of
  unnamed_monitor_stop monitor = known (monitor_of s monitor) _ (λ _. given refl)

  unnamed_set_group_priority : (device : Device) (priority : Priority)
      → IsUnnamed (set_group_priority (unnamed s) device priority) (set_group_priority s device priority)
  unfolding set_group_priority
  unnamed_set_group_priority device priority =
      test _ (ap not (unnamed_is_planned s device)) (found unnamed_group (group_of s device) _ _ (unnamed_group_of s device) (λ g. given refl))

  unnamed_change_group : (device : Device) (name : List ℕ) (ring wrap : Seconds)
      → IsUnnamed (change_group (unnamed s) device [] ring wrap) (change_group s device name ring wrap)
  unfolding change_group
  unnamed_change_group device name ring wrap =
      test _ (ap not (unnamed_is_planned s device)) (found unnamed_group (group_of s device) _ _ (unnamed_group_of s device) (λ g. given refl))

  unnamed_change_agent : (agent : Agent) (name : List ℕ) → IsUnnamed (change_agent (unnamed s) agent []) (change_agent s agent name)
  unfolding change_agent
  unnamed_change_agent agent name = found unnamed_agent (agent_of s agent) _ _ (unnamed_agent_of s agent) (λ a. given refl)

pub unnamed_serve : (s : Rows) (turn : Turn) (c : Command) → IsUnnamed (serve (unnamed s) turn (unnamed_command c)) (serve s turn c)
unnamed_serve s turn (AddGroup device name ring wrap) = unnamed_add_group s turn device name ring wrap
unnamed_serve s turn (AddStation device) = unnamed_add_station s turn device
unnamed_serve s turn (AddAgent agent name) = unnamed_add_agent s turn agent name
unnamed_serve s turn (ArriveCall caller called) = unnamed_arrive_call s turn caller called
unnamed_serve s turn (MakeCall device called) = unnamed_make_call s turn device called
unnamed_serve s turn (PhoneOffHook call device) = unnamed_phone_off_hook s turn call device
unnamed_serve s turn (AnswerCall call device) = unnamed_answer_call s turn call device
unnamed_serve s turn (HoldCall call device) = unnamed_hold_call s turn call device
unnamed_serve s turn (RetrieveCall call device) = unnamed_retrieve_call s turn call device
unnamed_serve s turn (ClearConnection call device) = unnamed_clear_connection s turn call device
unnamed_serve s turn (DeflectCall call device to) = unnamed_deflect_call s turn call device to
unnamed_serve s turn (SingleStepTransfer call device to) = unnamed_single_step_transfer s turn call device to
unnamed_serve s turn (SetAgentState agent requested) = unnamed_set_agent_state s turn agent requested
unnamed_serve s turn (MonitorStart device) = unnamed_monitor_start s turn device
unnamed_serve s turn (MonitorStop monitor) = unnamed_monitor_stop s turn monitor
unnamed_serve s turn Tick = given (unnamed_tick s turn)
unnamed_serve s turn (SetGroupPriority device priority) = unnamed_set_group_priority s turn device priority
unnamed_serve s turn (RejectCall call device) = unnamed_reject_call s turn call device
unnamed_serve s turn (ChangeGroup device name ring wrap) = unnamed_change_group s turn device name ring wrap
unnamed_serve s turn (ChangeAgent agent name) = unnamed_change_agent s turn agent name
