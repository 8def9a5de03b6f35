-- The effect of a service: the one walk over refusals; and the rounds of a step.
use Rattle.std.proofs.Common.{◌≡◌, ◌≤◌, arith, Bool, true, false, Option, Some, None, refl, ℕ, ◌⊎◌, inl, inr, not, ◌&&◌, ◌||◌, cond, List, [], ◌∷◌, length, ◌∙◌, ap, subst, sym, Err}
use Rattle.std.specs.Option.{ok_or}
use Rattle.acd_lemmas.proofs.Words.{Rows, AgentRecord, CallRecord, ConnectionRecord, Pending, Command, Move, Offer, Refusal, Requested, Served, is_null, is_working_after_call, state_wanted, is_in, is_initiated, is_alerting, is_connected, is_hold, is_queued, agent_of, call_of, connection_of, is_group, is_station, is_planned, agent_at, other_of, is_live_at, is_occupied, silent, group_of, Every, GroupRecord, is_distributed}
use Rattle.acd_model.specs.Scans.{is_used, monitor_of}
use Rattle.acd_terms.specs.declared.record.MonitorRecord.{MonitorRecord}
use Rattle.acd_terms.specs.Results.{◌>>=◌, ◌>>◌}
use Rattle.acd_model.specs.ServiceAnswers.{refuse_if, moves_of, gives}
use Rattle.std.specs.Prelude.{◌==◌, is_some, nat_le, Result, Ok}
use Rattle.acd_terms.specs.Limits.{greatest_priority}
use Rattle.acd_terms.specs.Groups.{is_choice}
use Rattle.acd_terms.specs.declared.answer.Refusal.TheVariants.{UnknownDevice, NotGroup, UnknownMonitor}
use Rattle.acd_terms.specs.declared.answer.Answer.TheVariants.{Nothing}
use Rattle.acd_lemmas.proofs.RuleFacts.{ArePlannedGroups}
use Rattle.std.proofs.lemmas.Bool.{not-false, and_parts}
use Rattle.acd_terms.specs.declared.command.Command.TheVariants.{AddGroup, AddStation, AddAgent, ArriveCall, MakeCall, PhoneOffHook, AnswerCall, HoldCall, RetrieveCall, ClearConnection, DeflectCall, SingleStepTransfer, SetAgentState, MonitorStart, MonitorStop, Tick, SetGroupPriority, RejectCall, ChangeGroup, ChangeAgent}
use Rattle.acd_terms.specs.declared.command.Requested.TheVariants as requested
use Rattle.acd_terms.specs.declared.event.Cause.TheVariants.{NewCall, Deflected, Transferred}
use Rattle.acd_model.specs.CallMoves.{begin, connect_caller, initiate, originate, arrive, answer, hold, retrieve, divert, transfer}
use Rattle.acd_model.specs.AgentMoves.{go_from, log_on_at, wait_for}
use Rattle.acd_model.specs.Release.{release, ending_of}
use Rattle.acd_model.specs.Services.{add_group, add_station, add_agent, new_group, new_agent, arrive_call, make_call, phone_off_hook, has_no_call_left, next_call, occupy, answer_call, hold_call, retrieve_call, clearing, clear_connection, is_in_call, is_answered_by, deflect_call, single_step_transfer, all_groups, log_on, change_state, set_agent_state, monitor_start, monitor_stop, set_group_priority, reject_call, change_group, change_agent, next_monitor}
use Rattle.acd_model.specs.Services.Serve.{serve}
use Rattle.acd_model.specs.Distribution.{offer_at}
use Rattle.acd_model.specs.Tick.{return_to, wrap_up_moves, tick}
use Rattle.acd_model.specs.declared.moves.Change.TheVariants.{PutGroup, PutStation, PutAgent, PutMonitor, RemoveMonitor}
use Rattle.acd_lemmas.proofs.Lists.{none_from, some_from}
use Rattle.acd_lemmas.proofs.State.{found_key, connection_itself, agent_itself, group_key}
use Rattle.acd_laws.specs.FigureLaws.{regroups, group_given}
use Rattle.acd_laws.proofs.Offers.DistributionSteps.{Offering}
use Rattle.acd_terms.specs.declared.command.Turn.{Turn}

pub by_refusal : (P : Served → Type 0) (b : Bool) (r : Refusal) (rest : Served) → ((r : Refusal) → P (Err r)) → (b ≡ false → P rest) → P (refuse_if b r >> rest)
unfolding refuse_if
by_refusal P true r rest f h = f r
by_refusal P false r rest f h = h refl

pub by_found : {T : Type 0} (P : Served → Type 0) (o : Option T) (r : Refusal) (rest : T → Served) → ((r : Refusal) → P (Err r))
    → ((x : T) → o ≡ Some x → P (rest x)) → P (ok_or o r >>= rest)
by_found P None r rest f h = f r
by_found P (Some x) r rest f h = h x refl

-- the call with the next identifier
abbrev pub new_call : Rows → ℕ → ℕ → ℕ → CallRecord
new_call s m caller called = record { call = next_call s; caller = caller; called = called; since = m }

-- a connection of a live call
pub record Party (s : Rows) : Type 0 where
  pub about : CallRecord
  pub x : ConnectionRecord
  pub live : call_of s x.call ≡ Some about
  pub found : connection_of s x.call x.device ≡ Some x

-- the connection's call can go to the device
pub record Free (s : Rows) (x : ConnectionRecord) (to : ℕ) : Type 0 where
  pub planned : is_planned s to ≡ true
  pub apart : connection_of s x.call to ≡ None

-- the effect of distribution and tick, once or more in a step
pub data Round (s : Rows) (turn : Turn) : List Move → Type 0 where
  offers : (o : Offer) (x : ConnectionRecord) (a : AgentRecord) (d : ℕ) → Offering s o x a d → Round s turn (offer_at turn.moment (Some x) (Some d))
  returns : (x : ConnectionRecord) (g : ℕ) → connection_of s x.call x.device ≡ Some x → is_alerting x.state ≡ true → x.group ≡ Some g
      → Round s turn (return_to s turn x (Some g))
  rests : (a : AgentRecord) → agent_of s a.agent ≡ Some a → is_working_after_call a.state ≡ true → Round s turn (wrap_up_moves turn a)

-- the effect of a service, with what its tests established
pub data Effect (s : Rows) (turn : Turn) : List Move → Type 0 where
  nothing : Effect s turn []
  adds_group : (device : ℕ) (name : List ℕ) (ring wrap : ℕ) → is_used s device ≡ false → nat_le s.limits.groups (length s.groups) ≡ false
      → Effect s turn (silent (PutGroup (new_group device name ring wrap)) ∷ [])
  adds_station : (device : ℕ) → is_used s device ≡ false → nat_le s.limits.stations (length s.stations) ≡ false
      → Effect s turn (silent (PutStation (record { device = device })) ∷ [])
  adds_agent : (agent : ℕ) (name : List ℕ) → agent_of s agent ≡ None → nat_le s.limits.agents (length s.agents) ≡ false
      → Effect s turn (silent (PutAgent (new_agent turn agent name)) ∷ [])
  watches : (device : ℕ) → is_planned s device ≡ true → nat_le s.limits.monitors (length s.monitors) ≡ false
      → Effect s turn (silent (PutMonitor (record { monitor = next_monitor s; device = device; after_event = s.last_event })) ∷ [])
  unwatches : (monitor : ℕ) → Effect s turn (silent (RemoveMonitor monitor) ∷ [])
  arrives : (caller called : ℕ) → is_planned s caller ≡ false → is_planned s called ≡ true → has_no_call_left s ≡ false
      → Effect s turn (begin (new_call s turn.moment caller called) ∷ connect_caller (next_call s) caller ∷ arrive s turn (next_call s) called NewCall ∷ [])
  makes : (device called : ℕ) → is_planned s device ≡ true → is_station s device ≡ true → is_planned s called ≡ true → (called == device) ≡ false
      → is_live_at s device ≡ false → has_no_call_left s ≡ false
      → Effect s turn (begin (new_call s turn.moment device called) ∷ initiate (next_call s) device ∷ [])
  goes_out : (p : Party s) → is_initiated p.x.state ≡ true → Effect s turn (originate p.x p.about.called ∷ arrive s turn p.x.call p.about.called NewCall ∷ [])
  answers : (p : Party s) → is_alerting p.x.state ≡ true → Effect s turn (answer turn.moment p.x ∷ occupy s turn p.x ∷ [])
  holds : (p : Party s) → is_station s p.x.device ≡ true → is_connected p.x.state ≡ true → Effect s turn (hold p.x ∷ [])
  retrieves : (p : Party s) → is_hold p.x.state ≡ true → is_live_at s p.x.device ≡ false → Effect s turn (retrieve p.x ∷ [])
  clears : (p : Party s) → Effect s turn (clearing s turn p.x (other_of s p.x))
  deflects : (p : Party s) (to : ℕ) → (is_alerting p.x.state || is_queued p.x.state) ≡ true → Free s p.x to
      → Effect s turn (divert p.x to Deflected ∷ arrive s turn p.x.call to Deflected ∷ release s turn p.x (ending_of p.x) ∷ [])
  transfers : (p : Party s) (to : ℕ) → is_connected p.x.state ≡ true → is_answered_by (other_of s p.x) ≡ true → Free s p.x to
      → Effect s turn (transfer p.x to ∷ arrive s turn p.x.call to Transferred ∷ release s turn p.x (ending_of p.x) ∷ [])
  logs_on : (a : AgentRecord) (device : ℕ) (groups : List ℕ) → agent_of s a.agent ≡ Some a → is_null a.state ≡ true → is_station s device ≡ true
      → agent_at s device ≡ None → ArePlannedGroups s groups
      → Effect s turn (log_on_at turn a device groups ∷ [])
  rejects : (p : Party s) (g : ℕ) → is_alerting p.x.state ≡ true → p.x.group ≡ Some g → Effect s turn (return_to s turn p.x (Some g))
  renames : (a : AgentRecord) (name : List ℕ) → agent_of s a.agent ≡ Some a → Effect s turn (silent (PutAgent (record a { name = name })) ∷ [])
  waits : (a : AgentRecord) (wanted : Pending) → agent_of s a.agent ≡ Some a → is_null a.state ≡ false → is_occupied s a ≡ true
      → Effect s turn (wait_for a (Some wanted) ∷ [])
  goes : (a : AgentRecord) (wanted : Pending) → agent_of s a.agent ≡ Some a → is_null a.state ≡ false → is_occupied s a ≡ false
      → Effect s turn (go_from turn a a.station (state_wanted wanted) ∷ [])

-- what setGroupPriority and changeGroup do: no effect, so that these commands alone change a planned group's
-- record
pub data ChangesGroup (s : Rows) (c : Command) : List Move → Type 0 where
  refuses : (device : ℕ) → regroups c ≡ Some device → group_of s device ≡ None → ChangesGroup s c []
  puts : (device : ℕ) (g : GroupRecord) → regroups c ≡ Some device → group_of s device ≡ Some g → ChangesGroup s c (silent (PutGroup (group_given c g)) ∷ [])

-- the record put is the same group, with the same figures

pub given_device : (c : Command) (g : GroupRecord) → (group_given c g).device ≡ g.device
given_device (SetGroupPriority device priority) g = refl
given_device (ChangeGroup device name ring wrap) g = refl
given_device _ g = refl

pub given_figures : (c : Command) (g : GroupRecord) → (group_given c g).figures ≡ g.figures
given_figures (SetGroupPriority device priority) g = refl
given_figures (ChangeGroup device name ring wrap) g = refl
given_figures _ g = refl

pub given_priority : (c : Command) (g : GroupRecord) → g.priority ≤ greatest_priority → (group_given c g).priority ≤ greatest_priority
given_priority (SetGroupPriority device priority) g l = omega arith
given_priority (ChangeGroup device name ring wrap) g l = l
given_priority _ g l = l

pub given_planned : (s : Rows) (c : Command) (device : ℕ) (g : GroupRecord) → group_of s device ≡ Some g → is_group s (group_given c g).device ≡ true
given_planned s c device g found = ap (is_group s) (given_device c g ∙ group_key s device g found) ∙ ap is_some found

-- the walk over refusals

abbrev pub EffectBy : Rows → Turn → Served → Type 0
EffectBy s turn v = Effect s turn (moves_of v)

unless : {s : Rows} {turn : Turn} {b : Bool} (r : Refusal) (rest : Served) → (b ≡ false → EffectBy s turn rest) → EffectBy s turn (refuse_if b r >> rest)
unless {s} {turn} {b} r rest h = by_refusal (EffectBy s turn) b r rest (λ _. nothing) h

with : {T : Type 0} {s : Rows} {turn : Turn} {o : Option T} (r : Refusal) (rest : T → Served) → ((x : T) → o ≡ Some x → EffectBy s turn (rest x))
    → EffectBy s turn (ok_or o r >>= rest)
with {T} {s} {turn} {o} r rest h = by_found (EffectBy s turn) o r rest (λ _. nothing) h

-- a connection of a live call
party : {s : Rows} {turn : Turn} {call device : ℕ} (r q : Refusal) (rest : CallRecord → ConnectionRecord → Served)
    → ((p : Party s) → p.x.call ≡ call → p.x.device ≡ device → EffectBy s turn (rest p.about p.x))
    → EffectBy s turn (ok_or (call_of s call) r >>= (λ c. ok_or (connection_of s call device) q >>= rest c))
party {s} {turn} {call} {device} r q rest h = with _ _ (λ c ec. with _ _ (λ x ex.
    let key = found_key s call device x ex in
    h (record { about = c; x = x; live = ap (call_of s) key.0 ∙ ec; found = connection_itself s call device x ex }) key.0 key.1))

apart_if : {T : Type 0} (o : Option T) → is_some o ≡ false → o ≡ None
apart_if o new = none_from o (λ z e. cc (new, ap is_some e))

effect_of_add_group : (s : Rows) (turn : Turn) (device : ℕ) (name : List ℕ) (ring wrap : ℕ) → EffectBy s turn (add_group s device name ring wrap)
unfolding add_group
effect_of_add_group s turn device name ring wrap = unless _ _ (λ free. unless _ _ (λ room. adds_group device name ring wrap free room))

effect_of_add_station : (s : Rows) (turn : Turn) (device : ℕ) → EffectBy s turn (add_station s device)
unfolding add_station
effect_of_add_station s turn device = unless _ _ (λ free. unless _ _ (λ room. adds_station device free room))

effect_of_add_agent : (s : Rows) (turn : Turn) (agent : ℕ) (name : List ℕ) → EffectBy s turn (add_agent s turn agent name)
unfolding add_agent
effect_of_add_agent s turn agent name = unless _ _ (λ new. unless _ _ (λ room. adds_agent agent name (apart_if (agent_of s agent) new) room))

effect_of_arrive_call : (s : Rows) (turn : Turn) (caller called : ℕ) → EffectBy s turn (arrive_call s turn caller called)
unfolding arrive_call
effect_of_arrive_call s turn caller called =
    unless _ _ (λ outside. unless _ _ (λ known. unless _ _ (λ room. arrives caller called outside (not-false (is_planned s called) known) room)))

effect_of_make_call : (s : Rows) (turn : Turn) (device called : ℕ) → EffectBy s turn (make_call s turn.moment device called)
unfolding make_call
effect_of_make_call s turn device called =
    unless _ _ (λ planned. unless _ _ (λ station. unless _ _ (λ known. unless _ _ (λ differ. unless _ _ (λ free. unless _ _ (λ room.
    makes device called (not-false (is_planned s device) planned) (not-false (is_station s device) station) (not-false (is_planned s called) known) differ free
    room))))))

effect_of_phone_off_hook : (s : Rows) (turn : Turn) (call device : ℕ) → EffectBy s turn (phone_off_hook s turn call device)
unfolding phone_off_hook
effect_of_phone_off_hook s turn call device = party _ _ _ (λ p same _. unless _ _ (λ state.
    subst (λ n. Effect s turn (originate p.x p.about.called ∷ arrive s turn n p.about.called NewCall ∷ [])) same
    (goes_out p (not-false (is_initiated p.x.state) state))))

effect_of_answer_call : (s : Rows) (turn : Turn) (call device : ℕ) → EffectBy s turn (answer_call s turn call device)
unfolding answer_call
effect_of_answer_call s turn call device = party _ _ _ (λ p _ _. unless _ _ (λ state. answers p (not-false (is_alerting p.x.state) state)))

effect_of_hold_call : (s : Rows) (turn : Turn) (call device : ℕ) → EffectBy s turn (hold_call s call device)
unfolding hold_call
effect_of_hold_call s turn call device =
    party _ _ _ (λ p _ at. unless _ _ (λ station. unless _ _ (λ state.
    holds p (ap (is_station s) at ∙ not-false (is_station s device) station) (not-false (is_connected p.x.state) state))))

effect_of_retrieve_call : (s : Rows) (turn : Turn) (call device : ℕ) → EffectBy s turn (retrieve_call s call device)
unfolding retrieve_call
effect_of_retrieve_call s turn call device =
    party _ _ _ (λ p _ at. unless _ _ (λ state. unless _ _ (λ free. retrieves p (not-false (is_hold p.x.state) state) (ap (is_live_at s) at ∙ free))))

effect_of_clear_connection : (s : Rows) (turn : Turn) (call device : ℕ) → EffectBy s turn (clear_connection s turn call device)
unfolding clear_connection
effect_of_clear_connection s turn call device = party _ _ _ (λ p _ _. clears p)

-- the call can go to a planned device at which it has no connection
free : (s : Rows) (call to : ℕ) (x : ConnectionRecord) → x.call ≡ call → not (is_planned s to) ≡ false → is_in_call s call to ≡ false → Free s x to
free s call to x same known new = record {
  planned = not-false (is_planned s to) known;
  apart = ap (λ n. connection_of s n to) same ∙ apart_if (connection_of s call to) new;
}

effect_of_deflect_call : (s : Rows) (turn : Turn) (call device to : ℕ) → EffectBy s turn (deflect_call s turn call device to)
unfolding deflect_call
effect_of_deflect_call s turn call device to =
    party _ _ _ (λ p same _. unless _ _ (λ state. unless _ _ (λ known. unless _ _ (λ new. unless _ _ (λ _.
    subst (λ n. Effect s turn (divert p.x to Deflected ∷ arrive s turn n to Deflected ∷ release s turn p.x (ending_of p.x) ∷ [])) same
    (deflects p to (not-false (is_alerting p.x.state || is_queued p.x.state) state) (free s call to p.x same known new)))))))

effect_of_single_step_transfer : (s : Rows) (turn : Turn) (call device to : ℕ) → EffectBy s turn (single_step_transfer s turn call device to)
unfolding single_step_transfer
effect_of_single_step_transfer s turn call device to =
    party _ _ _ (λ p same _. unless _ _ (λ _. unless _ _ (λ state. unless _ _ (λ known. unless _ _ (λ new. unless _ _ (λ _.
    let both =
    and_parts (is_connected p.x.state) (is_answered_by (other_of s p.x)) (not-false (is_connected p.x.state && is_answered_by (other_of s p.x)) state) in
    subst (λ n. Effect s turn (transfer p.x to ∷ arrive s turn n to Transferred ∷ release s turn p.x (ending_of p.x) ∷ [])) same
    (transfers p to both.0 both.1 (free s call to p.x same known new))))))))

-- each of the groups is one where none of them is refused
all_are_groups : (s : Rows) (gs : List ℕ) → all_groups s gs ≡ Ok tt → Every (λ (g : ℕ). is_group s g ≡ true) gs
unfolding refuse_if
all_are_groups s [] e = tt
all_are_groups s (g ∷ gs) e = by (is_planned s g) (is_group s g) refl e (all_are_groups s gs)
  where
    by : (p q : Bool) → is_group s g ≡ q → (refuse_if (not p) UnknownDevice >> (refuse_if (not q) NotGroup >> all_groups s gs)) ≡ Ok tt
        → (all_groups s gs ≡ Ok tt → Every (λ (x : ℕ). is_group s x ≡ true) gs) → Every (λ (x : ℕ). is_group s x ≡ true) (g ∷ gs)
    by true true h e more = (h, more e)
    by true false h e more = absurd (cc (e))
    by false q h e more = absurd (cc (e))

passes : {s : Rows} {turn : Turn} (v : Result (Unit {0}) Refusal) (rest : Served) → (v ≡ Ok tt → EffectBy s turn rest) → EffectBy s turn (v >> rest)
passes (Ok u) rest h = h refl
passes (Err r) rest h = nothing

effect_of_log_on : (s : Rows) (turn : Turn) (agent device : ℕ) (groups : List ℕ) → EffectBy s turn (log_on s turn agent device groups)
unfolding log_on
effect_of_log_on s turn agent device groups =
    with _ _
    (λ a ea. unless _ _ (λ null. unless _ _ (λ _. unless _ _ (λ station. unless _ _ (λ taken. passes (all_groups s groups) _ (λ all. unless _ _ (λ choice.
    logs_on a device groups (agent_itself s agent a ea) (not-false (is_null a.state) null) (not-false (is_station s device) station)
    (apart_if (agent_at s device) taken)
    (not-false (is_choice groups) choice, all_are_groups s groups all))))))))

either : {s : Rows} {turn : Turn} (b : Bool) (v w : Served) → (b ≡ true → EffectBy s turn v) → (b ≡ false → EffectBy s turn w) → EffectBy s turn (cond b v w)
either true v w h g = h refl
either false v w h g = g refl

effect_of_change_state : (s : Rows) (turn : Turn) (agent : ℕ) (wanted : Pending) → EffectBy s turn (change_state s turn agent wanted)
unfolding change_state
effect_of_change_state s turn agent wanted =
    with _ _ (λ a ea. unless _ _ (λ seated.
    either (is_occupied s a) _ _ (λ busy. waits a wanted (agent_itself s agent a ea) seated busy) (λ free.
    either (is_in a.state wanted) _ _ (λ _. nothing) (λ _. goes a wanted (agent_itself s agent a ea) seated free))))

effect_of_set_agent_state : (s : Rows) (turn : Turn) (agent : ℕ) (q : Requested) → EffectBy s turn (set_agent_state s turn agent q)
effect_of_set_agent_state s turn agent (requested.LoggedOn device groups) = effect_of_log_on s turn agent device groups
effect_of_set_agent_state s turn agent (requested.State wanted) = effect_of_change_state s turn agent wanted

effect_of_monitor_start : (s : Rows) (turn : Turn) (device : ℕ) → EffectBy s turn (monitor_start s device)
unfolding monitor_start
effect_of_monitor_start s turn device = unless _ _ (λ known. unless _ _ (λ room. watches device (not-false (is_planned s device) known) room))

effect_of_monitor_stop : (s : Rows) (turn : Turn) (monitor : ℕ) → EffectBy s turn (monitor_stop s monitor)
unfolding monitor_stop
effect_of_monitor_stop s turn monitor =
    with {T = MonitorRecord} {o = monitor_of s monitor} UnknownMonitor (λ _. gives Nothing (silent (RemoveMonitor monitor) ∷ [])) (λ w _. unwatches monitor)

effect_of_reject_call : (s : Rows) (turn : Turn) (call device : ℕ) → EffectBy s turn (reject_call s turn call device)
unfolding reject_call
effect_of_reject_call s turn call device = party _ _ _ (λ p _ _. unless _ _ (λ state.
    let rings = and_parts (is_alerting p.x.state) (is_distributed p.x) (not-false (is_alerting p.x.state && is_distributed p.x) state) in
    let g = some_from p.x.group (and_parts (is_some p.x.group) (not (is_queued p.x.state)) rings.1).0 in
    subst (λ o. Effect s turn (return_to s turn p.x o)) (sym g.1) (rejects p g.0 rings.0 g.1)))

effect_of_change_agent : (s : Rows) (turn : Turn) (agent : ℕ) (name : List ℕ) → EffectBy s turn (change_agent s agent name)
unfolding change_agent
effect_of_change_agent s turn agent name = with _ _ (λ a ea. renames a name (agent_itself s agent a ea))

-- a planned device that is a group gets what the command gives
regroups_of : (s : Rows) (c : Command) (device : ℕ) → regroups c ≡ Some device
    → ChangesGroup s c (moves_of (refuse_if (not (is_planned s device))
    UnknownDevice >> (ok_or (group_of s device) NotGroup >>= (λ g. gives Nothing (silent (PutGroup (group_given c g)) ∷ [])))))
unfolding refuse_if
regroups_of s c device it = by (group_of s device) refl
  where
    put : GroupRecord → Served
    put g = gives Nothing (silent (PutGroup (group_given c g)) ∷ [])

    by : (o : Option GroupRecord) → group_of s device ≡ o
        → ChangesGroup s c (moves_of (refuse_if (not (is_some o || is_station s device)) UnknownDevice >> (ok_or o NotGroup >>= put)))
    by None e =
        by_refusal (λ (v : Served). ChangesGroup s c (moves_of v)) (not (is_station s device)) UnknownDevice (ok_or None NotGroup >>= put)
        (λ _. refuses device it e) (λ _. refuses device it e)
    by (Some g) e = puts device g it e

-- the effect of a command: that of a service or a tick, or a change of a planned group's record
pub effect_of_serve : (s : Rows) (turn : Turn) (c : Command)
    → ((regroups c ≡ None) × (EffectBy s turn (serve s turn c) ⊎ (moves_of (serve s turn c) ≡ tick s turn))) ⊎ ChangesGroup s c (moves_of (serve s turn c))
unfolding set_group_priority change_group
effect_of_serve s turn (AddGroup device name ring wrap) = inl (refl, inl (effect_of_add_group s turn device name ring wrap))
effect_of_serve s turn (AddStation device) = inl (refl, inl (effect_of_add_station s turn device))
effect_of_serve s turn (AddAgent agent name) = inl (refl, inl (effect_of_add_agent s turn agent name))
effect_of_serve s turn (ArriveCall caller called) = inl (refl, inl (effect_of_arrive_call s turn caller called))
effect_of_serve s turn (MakeCall device called) = inl (refl, inl (effect_of_make_call s turn device called))
effect_of_serve s turn (PhoneOffHook call device) = inl (refl, inl (effect_of_phone_off_hook s turn call device))
effect_of_serve s turn (AnswerCall call device) = inl (refl, inl (effect_of_answer_call s turn call device))
effect_of_serve s turn (HoldCall call device) = inl (refl, inl (effect_of_hold_call s turn call device))
effect_of_serve s turn (RetrieveCall call device) = inl (refl, inl (effect_of_retrieve_call s turn call device))
effect_of_serve s turn (ClearConnection call device) = inl (refl, inl (effect_of_clear_connection s turn call device))
effect_of_serve s turn (DeflectCall call device to) = inl (refl, inl (effect_of_deflect_call s turn call device to))
effect_of_serve s turn (SingleStepTransfer call device to) = inl (refl, inl (effect_of_single_step_transfer s turn call device to))
effect_of_serve s turn (SetAgentState agent q) = inl (refl, inl (effect_of_set_agent_state s turn agent q))
effect_of_serve s turn (MonitorStart device) = inl (refl, inl (effect_of_monitor_start s turn device))
effect_of_serve s turn (MonitorStop monitor) = inl (refl, inl (effect_of_monitor_stop s turn monitor))
effect_of_serve s turn Tick = inl (refl, inr refl)
effect_of_serve s turn (SetGroupPriority device priority) = inr (regroups_of s (SetGroupPriority device priority) device refl)
effect_of_serve s turn (RejectCall call device) = inl (refl, inl (effect_of_reject_call s turn call device))
effect_of_serve s turn (ChangeGroup device name ring wrap) = inr (regroups_of s (ChangeGroup device name ring wrap) device refl)
effect_of_serve s turn (ChangeAgent agent name) = inl (refl, inl (effect_of_change_agent s turn agent name))
