-- States in which each agent is in one group at most and no group has a priority; the moves of a step keep a state so.
use Rattle.std.proofs.Common.{◌≡◌, ℕ, zero, suc, Bool, true, false, cond, List, [], ◌∷◌, ◌++◌, map, Option, Some, None, refl, sym, subst, length, arith, Err}
use Rattle.std.specs.Option.{ok_or}
use Rattle.std.specs.Prelude.{Result, Ok}
use Rattle.acd_terms.specs.Rows.{empty_rows}
use Rattle.acd_terms.specs.declared.state.AgentState.TheVariants as A
use Rattle.acd_terms.specs.declared.answer.Answer.{Answer}
use Rattle.acd_terms.specs.declared.answer.Answer.TheVariants as replied
use Rattle.acd_terms.specs.declared.answer.Refusal.{Refusal}
use Rattle.acd_terms.specs.declared.answer.Refusal.TheVariants.{UnknownAgent, UnknownMonitor}
use Rattle.acd_terms.specs.declared.record.MonitorRecord.{MonitorRecord}
use Rattle.acd_terms.specs.declared.command.Requested.TheVariants as requested
use Rattle.acd_terms.specs.declared.command.Command.TheVariants.{AddGroup, AddStation, AddAgent, ArriveCall, MakeCall, PhoneOffHook, AnswerCall, HoldCall, RetrieveCall, ClearConnection, DeflectCall, SingleStepTransfer, SetAgentState, MonitorStart, MonitorStop, Tick, SetGroupPriority, RejectCall, ChangeGroup, ChangeAgent}
use Rattle.acd_model.specs.Offers.{GroupsAscend}
use Rattle.acd_model.specs.Figures.{counting, with_figures}
use Rattle.acd_terms.specs.declared.record.CallRecord.{CallRecord}
use Rattle.acd_terms.specs.declared.event.Cause.TheVariants.{NewCall, Deflected, Transferred}
use Rattle.acd_model.specs.CallMoves.{originate, arrive, answer, hold, retrieve, divert, transfer}
use Rattle.acd_model.specs.AgentMoves.{in_state, go_from, log_on_at}
use Rattle.acd_model.specs.Release.{released, release_of, release_agent, release, ending_of}
use Rattle.acd_terms.specs.Results.{◌>>=◌, ◌>>◌}
use Rattle.acd_model.specs.Scans.{call_of, monitor_of}
use Rattle.acd_model.specs.Moves.{silent}
use Rattle.acd_model.specs.ServiceAnswers.{refuse_if, moves_of, gives}
use Rattle.acd_model.specs.Services.{add_group, add_station, add_agent, arrive_call, make_call, phone_off_hook, busy_agent, occupy, answer_call, hold_call, retrieve_call, clear_other, clearing, next_call, next_monitor, release_other, clear_connection, deflect_call, single_step_transfer, all_groups, log_on, change_state, set_agent_state, monitor_start, monitor_stop}
use Rattle.acd_model.specs.Services.Serve.{serve}
use Rattle.acd_model.specs.Distribution.{offer_at, offer_moves, with_offer, offers, distribution, station_of_agent}
use Rattle.acd_model.specs.Choice.{offer_of}
use Rattle.acd_model.specs.Tick.{return_to, return_moves, overdue_in, is_wrapped_up, wrapped_up_in, wrap_up_moves, each, returns, wraps, tick}
use Rattle.acd_model.specs.Step.{step, step_moves, next_turn}
use Rattle.acd_model.specs.declared.moves.Ending.TheVariants.{NoAnswer}
use Rattle.acd_model.specs.declared.moves.Change.TheVariants.{PutGroup, PutAgent, RemoveMonitor}
use Rattle.acd_model.specs.declared.moves.Release.TheVariants.{Stays, Goes}
use Rattle.acd_lemmas.proofs.Words.{Rows, Limits, GroupRecord, AgentRecord, ConnectionRecord, AgentState, Pending, Change, Command, Ending, Event, Move, Offer, Release, Requested, Served, Every, at_group, at_agent, has, agent_of, connection_of, agent_at, is_distributed, is_occupied, other_of, with_group, with_station, with_agent, with_call, with_connection, with_monitor, without_call, without_connection, without_monitor, with_last, changed, moved, events_of, group_order, is_in, state_wanted}
use Rattle.acd_lemmas.proofs.Lists.{every_among, every_from, every-append, every-put, filter_among, find_among, ascending-put}
use Rattle.acd_laws.proofs.Rules.StepEnds.{ascending_counting}
use Rattle.acd_laws.proofs.Effects.{by_refusal, by_found}
use Rattle.acd_lemmas.proofs.State.{groups_total, agent_among}
use Rattle.acd_desk_laws.specs.OldSound.{IsOldRequested, IsOldCommand}
use Rattle.acd_terms.specs.declared.command.Turn.{Turn}

abbrev pub IsOneAtMost : List ℕ → Type 0
IsOneAtMost [] = Unit {0}
IsOneAtMost (g ∷ []) = Unit {0}
IsOneAtMost (g ∷ h ∷ gs) = ⊥

-- the one of a list of one
pub just_one : (gs : List ℕ) → length gs ≡ 1 → (g : ℕ) × (gs ≡ g ∷ [])
just_one [] e = absurd (none e)
  where
    none : ◌≡◌ {A = ℕ} 0 1 → ⊥
    none e = cc (e)
just_one (g ∷ []) e = (g, refl)
just_one (g ∷ f ∷ gs) e = absurd (more (length gs) e)
  where
    more : (n : ℕ) → ◌≡◌ {A = ℕ} (suc (suc n)) 1 → ⊥
    more n e = omega (arith, e)

-- the agent is in one group at most
abbrev pub HasOneGroup : AgentRecord → Type 0
HasOneGroup a = IsOneAtMost a.groups

abbrev pub HasNoPriority : GroupRecord → Type 0
HasNoPriority g = g.priority ≡ 0

pub record IsOldState (s : Rows) : Type 0 where
  pub agents : Every HasOneGroup s.agents
  pub groups : Every HasNoPriority s.groups
  pub ascend : GroupsAscend s

pub empty_is_old : (limits : Limits) → IsOldState (empty_rows limits)
empty_is_old limits = record { agents = tt; groups = tt; ascend = tt }

-- the moves that keep a state so

abbrev pub IsOldChange : Change → Type 0
IsOldChange (PutGroup g) = HasNoPriority g
IsOldChange (PutAgent a) = HasOneGroup a
IsOldChange _ = Unit {0}

abbrev pub IsOldMove : Move → Type 0
IsOldMove x = IsOldChange x.change

changed_is_old : (s : Rows) (c : Change) → IsOldChange c → IsOldState s → IsOldState (changed s c)
unfolding with_group with_station with_agent with_call with_connection with_monitor without_call without_connection without_monitor
changed_is_old s (PutGroup g) h o = record {
  agents = o.agents;
  groups = every-put (at_group g.device) HasNoPriority g h s.groups o.groups;
  ascend = ascending-put group_order groups_total g s.groups o.ascend;
}
changed_is_old s (PutAgent a) h o = record { agents = every-put (at_agent a.agent) HasOneGroup a h s.agents o.agents; groups = o.groups; ascend = o.ascend }
changed_is_old s _ h o = record { agents = o.agents; groups = o.groups; ascend = o.ascend }

pub moved_is_old : (s : Rows) (ms : List Move) → Every IsOldMove ms → IsOldState s → IsOldState (moved s ms)
moved_is_old s [] h o = o
moved_is_old s (x ∷ ms) h o = moved_is_old (changed s x.change) ms h.1 (changed_is_old s x.change h.0 o)

-- the moves of agents

in_state_old : (state : AgentState) (turn : Turn) (a : AgentRecord) → HasOneGroup a → HasOneGroup (in_state state turn a)
in_state_old A.Null turn a h = tt
in_state_old _ turn a h = h

goes_old : (turn : Turn) (a : AgentRecord) (station : Option ℕ) (state : AgentState) → HasOneGroup a → IsOldMove (go_from turn a station state)
goes_old turn a None state h = tt
goes_old turn a (Some d) state h = in_state_old state turn a h

either : {T : Type 0} (P : T → Type 0) (b : Bool) (x y : T) → P x → P y → P (cond b x y)
either P true x y h g = h
either P false x y h g = g

-- the agent at a station
there_old : (s : Rows) (d : ℕ) → IsOldState s → (a : AgentRecord) → agent_at s d ≡ Some a → HasOneGroup a
unfolding agent_at
there_old s d o a e = every_among HasOneGroup s.agents a o.agents (find_among (λ (b : AgentRecord). has b.station d) s.agents a e)

released_old : (turn : Turn) (a : AgentRecord) (d : ℕ) (how : Release) → HasOneGroup a → IsOldMove (released turn a d how)
released_old turn a d Stays h = h
released_old turn a d (Goes state) h = in_state_old state turn a h

releases_agent : (turn : Turn) (d : ℕ) (found : Option AgentRecord) (how : Ending) → ((a : AgentRecord) → found ≡ Some a → HasOneGroup a) → IsOldMove (release_agent turn found d how)
releases_agent turn d None how h = tt
releases_agent turn d (Some a) how h = released_old turn a d (release_of how a.pending) (h a refl)

release_old : (s : Rows) (turn : Turn) (x : ConnectionRecord) (how : Ending) → IsOldState s → IsOldMove (release s turn x how)
unfolding release
release_old s turn x how o = either IsOldMove (is_distributed x) _ _ (releases_agent turn x.device (agent_at s x.device) how (there_old s x.device o)) tt

busy_old : (turn : Turn) (d : ℕ) (found : Option AgentRecord) → ((a : AgentRecord) → found ≡ Some a → HasOneGroup a) → IsOldMove (busy_agent turn found d)
busy_old turn d None h = tt
busy_old turn d (Some a) h = h a refl

occupy_old : (s : Rows) (turn : Turn) (x : ConnectionRecord) → IsOldState s → IsOldMove (occupy s turn x)
unfolding occupy
occupy_old s turn x o = either IsOldMove (is_distributed x) _ _ (busy_old turn x.device (agent_at s x.device) (there_old s x.device o)) tt

release_other_old : (s : Rows) (turn : Turn) (other : Option ConnectionRecord) → IsOldState s → IsOldMove (release_other s turn other)
release_other_old s turn None o = tt
release_other_old s turn (Some y) o = release_old s turn y (ending_of y) o

-- distribution and tick

offer_at_old : (m : ℕ) (x : Option ConnectionRecord) (station : Option ℕ) → Every IsOldMove (offer_at m x station)
offer_at_old m (Some x) (Some d) = (tt, (tt, tt))
offer_at_old m (Some x) None = tt
offer_at_old m None station = tt

pub offer_old : (s : Rows) (m : ℕ) (o : Offer) → Every IsOldMove (offer_moves s m o)
unfolding offer_moves
offer_old s m o = offer_at_old m (connection_of s o.call o.group) (station_of_agent (agent_of s o.agent))

offers_old : (n : ℕ) (s : Rows) (m : ℕ) → Every IsOldMove (offers n s m)
offers_old zero s m = tt
offers_old (suc n) s m = by (offer_of s) (λ o. offers_old n (moved s (offer_moves s m o)) m)
  where
    by : (found : Option Offer) → ((o : Offer) → Every IsOldMove (offers n (moved s (offer_moves s m o)) m))
        → Every IsOldMove (with_offer found [] (λ o. offer_moves s m o ++ offers n (moved s (offer_moves s m o)) m))
    by None more = tt
    by (Some o) more = every-append IsOldMove (offer_moves s m o) (offers n (moved s (offer_moves s m o)) m) (offer_old s m o) (more o)

distribution_old : (s : Rows) (m : ℕ) → Every IsOldMove (distribution s m)
unfolding distribution
distribution_old s m = offers_old _ s m

return_old : (s : Rows) (turn : Turn) (x : ConnectionRecord) (group : Option ℕ) → IsOldState s → Every IsOldMove (return_to s turn x group)
return_old s turn x None o = tt
return_old s turn x (Some g) o = (tt, (tt, (release_old s turn x NoAnswer o, tt)))

returns_old : (turn : Turn) (s : Rows) (xs : List ConnectionRecord) → IsOldState s → Every IsOldMove (each (λ t x. return_moves t turn x) s xs)
returns_old turn s [] o = tt
returns_old turn s (x ∷ xs) o =
    let first = return_old s turn x x.group o in
    let t : Rows = moved s (return_moves s turn x) in
    every-append IsOldMove (return_moves s turn x) (each (λ t x. return_moves t turn x) t xs) first
    (returns_old turn t xs (moved_is_old s (return_moves s turn x) first o))

rests_old : (turn : Turn) (s : Rows) (xs : List AgentRecord) → Every HasOneGroup xs → Every IsOldMove (each (λ t a. wrap_up_moves turn a) s xs)
rests_old turn s [] h = tt
rests_old turn s (a ∷ xs) h = (goes_old turn a a.station A.Ready h.0, rests_old turn (moved s (wrap_up_moves turn a)) xs h.1)

rested_old : (s : Rows) (m : ℕ) → IsOldState s → Every HasOneGroup (wrapped_up_in s m)
unfolding wrapped_up_in
rested_old s m o = every_from HasOneGroup (wrapped_up_in s m) (λ a i. every_among HasOneGroup s.agents a o.agents (filter_among (is_wrapped_up s m) s.agents a i).0)

tick_old : (s : Rows) (turn : Turn) → IsOldState s → Every IsOldMove (tick s turn)
unfolding tick returns wraps
tick_old s turn o =
    let back = returns_old turn s (overdue_in s turn.moment) o in
    let t : Rows = moved s (returns s turn) in
    every-append IsOldMove (returns s turn) (wraps t turn) back (rests_old turn t (wrapped_up_in t turn.moment) (rested_old t turn.moment (moved_is_old s (returns s turn) back o)))

-- the walk over refusals

record AreOldMoves (moves : List Move) : Type 0 where
  pub old : Every IsOldMove moves

abbrev IsOldServed : Served → Type 0
IsOldServed v = AreOldMoves (moves_of v)

refused : (r : Refusal) → IsOldServed (Err r)
refused r = record { old = tt }

given : (a : Answer) (ms : List Move) → Every IsOldMove ms → IsOldServed (gives a ms)
given a ms h = record { old = h }

unless : (b : Bool) (r : Refusal) (rest : Served) → IsOldServed rest → IsOldServed (refuse_if b r >> rest)
unless b r rest h = by_refusal IsOldServed b r rest refused (λ _. h)

with : {T : Type 0} {found : Option T} (r : Refusal) (rest : T → Served) → ((x : T) → found ≡ Some x → IsOldServed (rest x)) → IsOldServed (ok_or found r >>= rest)
with {T} {found} r rest h = by_found IsOldServed found r rest refused h

-- a connection of a live call
party : (s : Rows) (call device : ℕ) (r q : Refusal) (rest : CallRecord → ConnectionRecord → Served) → ((c : CallRecord) (x : ConnectionRecord) → IsOldServed (rest c x))
    → IsOldServed (ok_or (call_of s call) r >>= (λ c. ok_or (connection_of s call device) q >>= rest c))
party s call device r q rest h =
    with {found = call_of s call} r (λ c. ok_or (connection_of s call device) q >>= rest c) (λ c _. with {found = connection_of s call device} q (rest c) (λ x _. h c x))

passes : (v : Result (Unit {0}) Refusal) (rest : Served) → IsOldServed rest → IsOldServed (v >> rest)
passes (Ok u) rest h = h
passes (Err r) rest h = refused r

add_group_old : (s : Rows) (device : ℕ) (name : List ℕ) (ring wrap : ℕ) → IsOldServed (add_group s device name ring wrap)
unfolding add_group
add_group_old s device name ring wrap = unless _ _ _ (unless _ _ _ (given replied.Nothing _ (refl, tt)))

add_station_old : (s : Rows) (device : ℕ) → IsOldServed (add_station s device)
unfolding add_station
add_station_old s device = unless _ _ _ (unless _ _ _ (given replied.Nothing _ (tt, tt)))

add_agent_old : (s : Rows) (turn : Turn) (agent : ℕ) (name : List ℕ) → IsOldServed (add_agent s turn agent name)
unfolding add_agent
add_agent_old s turn agent name = unless _ _ _ (unless _ _ _ (given replied.Nothing _ (tt, tt)))

arrive_call_old : (s : Rows) (turn : Turn) (caller called : ℕ) → IsOldServed (arrive_call s turn caller called)
unfolding arrive_call arrive
arrive_call_old s turn caller called = unless _ _ _ (unless _ _ _ (unless _ _ _ (given (replied.Call (next_call s)) _ (tt, (tt, (tt, tt))))))

make_call_old : (s : Rows) (m device called : ℕ) → IsOldServed (make_call s m device called)
unfolding make_call
make_call_old s m device called = unless _ _ _ (unless _ _ _ (unless _ _ _ (unless _ _ _ (unless _ _ _ (unless _ _ _ (given (replied.Call (next_call s)) _ (tt, (tt, tt))))))))

phone_off_hook_old : (s : Rows) (turn : Turn) (call device : ℕ) → IsOldServed (phone_off_hook s turn call device)
unfolding phone_off_hook arrive
phone_off_hook_old s turn call device =
    party s call device _ _ _ (λ c x. unless _ _ _ (given replied.Nothing (originate x c.called ∷ arrive s turn call c.called NewCall ∷ []) (tt, (tt, tt))))

answer_call_old : (s : Rows) (turn : Turn) (call device : ℕ) → IsOldState s → IsOldServed (answer_call s turn call device)
unfolding answer_call
answer_call_old s turn call device o =
    party s call device _ _ _ (λ c x. unless _ _ _ (given replied.Nothing (answer turn.moment x ∷ occupy s turn x ∷ []) (tt, (occupy_old s turn x o, tt))))

hold_call_old : (s : Rows) (call device : ℕ) → IsOldServed (hold_call s call device)
unfolding hold_call
hold_call_old s call device =
    party s call device _ _ _ (λ c x. unless _ _ _ (unless _ _ _ (given replied.Nothing (hold x ∷ []) (tt, tt))))

retrieve_call_old : (s : Rows) (call device : ℕ) → IsOldServed (retrieve_call s call device)
unfolding retrieve_call
retrieve_call_old s call device =
    party s call device _ _ _ (λ c x. unless _ _ _ (unless _ _ _ (given replied.Nothing (retrieve x ∷ []) (tt, tt))))

clear_other_old : (other : Option ConnectionRecord) → IsOldMove (clear_other other)
clear_other_old None = tt
clear_other_old (Some y) = tt

clear_connection_old : (s : Rows) (turn : Turn) (call device : ℕ) → IsOldState s → IsOldServed (clear_connection s turn call device)
unfolding clear_connection
clear_connection_old s turn call device o =
    party s call device _ _ _ (λ c x. given replied.Nothing (clearing s turn x (other_of s x))
    (tt, (clear_other_old (other_of s x), (tt, (release_old s turn x (ending_of x) o, (release_other_old s turn (other_of s x) o, tt))))))

deflect_call_old : (s : Rows) (turn : Turn) (call device to : ℕ) → IsOldState s → IsOldServed (deflect_call s turn call device to)
unfolding deflect_call arrive
deflect_call_old s turn call device to o =
    party s call device _ _ _ (λ c x. unless _ _ _ (unless _ _ _ (unless _ _ _ (unless _ _ _ (given replied.Nothing (divert x to Deflected ∷ arrive s turn call to Deflected ∷ release s turn x (ending_of x) ∷ [])
    (tt, (tt, (release_old s turn x (ending_of x) o, tt))))))))

single_step_transfer_old : (s : Rows) (turn : Turn) (call device to : ℕ) → IsOldState s → IsOldServed (single_step_transfer s turn call device to)
unfolding single_step_transfer arrive
single_step_transfer_old s turn call device to o =
    party s call device _ _ _ (λ c x. unless _ _ _ (unless _ _ _ (unless _ _ _ (unless _ _ _ (unless _ _ _ (given replied.Nothing (transfer x to ∷ arrive s turn call to Transferred ∷ release s turn x (ending_of x) ∷ [])
    (tt, (tt, (release_old s turn x (ending_of x) o, tt)))))))))

log_on_old : (s : Rows) (turn : Turn) (agent device group : ℕ) → IsOldServed (log_on s turn agent device (group ∷ []))
unfolding log_on
log_on_old s turn agent device group =
    with {found = agent_of s agent} UnknownAgent _ (λ a _. unless _ _ _ (unless _ _ _ (unless _ _ _ (unless _ _ _ (passes (all_groups s (group ∷ [])) _ (unless _ _ _ (given (replied.State A.NotReady) (log_on_at turn a device (group ∷ []) ∷ []) (tt, tt))))))))

change_state_old : (s : Rows) (turn : Turn) (agent : ℕ) (wanted : Pending) → IsOldState s → IsOldServed (change_state s turn agent wanted)
unfolding change_state
change_state_old s turn agent wanted o =
    with _ _ (λ a e.
    let one : HasOneGroup a = every_among HasOneGroup s.agents a o.agents (agent_among s agent a e) in
    unless _ _ _ (either IsOldServed (is_occupied s a) _ _ (given (replied.Pending a.state wanted) _ (one, tt)) (either IsOldServed (is_in a.state wanted) _ _ (given (replied.State a.state) [] tt)
    (given (replied.State (state_wanted wanted)) _ (goes_old turn a a.station (state_wanted wanted) one, tt)))))

set_agent_state_old : (s : Rows) (turn : Turn) (agent : ℕ) (q : Requested) → IsOldRequested q → IsOldState s → IsOldServed (set_agent_state s turn agent q)
set_agent_state_old s turn agent (requested.LoggedOn device groups) h o =
    let one = just_one groups h in subst (λ (gs : List ℕ). IsOldServed (log_on s turn agent device gs)) (sym one.1) (log_on_old s turn agent device one.0)
set_agent_state_old s turn agent (requested.State wanted) h o = change_state_old s turn agent wanted o

monitor_start_old : (s : Rows) (device : ℕ) → IsOldServed (monitor_start s device)
unfolding monitor_start
monitor_start_old s device = unless _ _ _ (unless _ _ _ (given (replied.Monitor (next_monitor s)) _ (tt, tt)))

monitor_stop_old : (s : Rows) (monitor : ℕ) → IsOldServed (monitor_stop s monitor)
unfolding monitor_stop
monitor_stop_old s monitor =
    with {T = MonitorRecord} {found = monitor_of s monitor} UnknownMonitor (λ _. gives replied.Nothing (silent (RemoveMonitor monitor) ∷ [])) (λ _ _. given replied.Nothing _ (tt, tt))

pub serve_old : (s : Rows) (turn : Turn) (c : Command) → IsOldCommand c → IsOldState s → Every IsOldMove (moves_of (serve s turn c))
serve_old s turn (AddGroup device name ring wrap) h o = (add_group_old s device name ring wrap).old
serve_old s turn (AddStation device) h o = (add_station_old s device).old
serve_old s turn (AddAgent agent name) h o = (add_agent_old s turn agent name).old
serve_old s turn (ArriveCall caller called) h o = (arrive_call_old s turn caller called).old
serve_old s turn (MakeCall device called) h o = (make_call_old s turn.moment device called).old
serve_old s turn (PhoneOffHook call device) h o = (phone_off_hook_old s turn call device).old
serve_old s turn (AnswerCall call device) h o = (answer_call_old s turn call device o).old
serve_old s turn (HoldCall call device) h o = (hold_call_old s call device).old
serve_old s turn (RetrieveCall call device) h o = (retrieve_call_old s call device).old
serve_old s turn (ClearConnection call device) h o = (clear_connection_old s turn call device o).old
serve_old s turn (DeflectCall call device to) h o = (deflect_call_old s turn call device to o).old
serve_old s turn (SingleStepTransfer call device to) h o = (single_step_transfer_old s turn call device to o).old
serve_old s turn (SetAgentState agent q) h o = (set_agent_state_old s turn agent q h o).old
serve_old s turn (MonitorStart device) h o = (monitor_start_old s device).old
serve_old s turn (MonitorStop monitor) h o = (monitor_stop_old s monitor).old
serve_old s turn Tick h o = tick_old s turn o
serve_old s turn (SetGroupPriority device priority) h o = absurd h
serve_old s turn (RejectCall call device) h o = absurd h
serve_old s turn (ChangeGroup device name ring wrap) h o = absurd h
serve_old s turn (ChangeAgent agent name) h o = absurd h

-- a whole step

counted_old : (es : List Event) (gs : List GroupRecord) → Every HasNoPriority gs → Every HasNoPriority (map (counting es) gs)
counted_old es [] h = tt
counted_old es (g ∷ gs) h = (h.0, counted_old es gs h.1)

pub step_is_old : (s : Rows) (moment : ℕ) (c : Command) → IsOldCommand c → IsOldState s → IsOldState (step s moment c).rows
unfolding step with_last with_figures
step_is_old s moment c h o =
    let turn : Turn = next_turn s moment in
    let m : ℕ = turn.moment in
    let v : Served = serve s turn c in
    let ms : List Move = step_moves s m v in
    let first = serve_old s turn c h o in
    let t = moved_is_old s ms (every-append IsOldMove (moves_of v) (distribution (moved s (moves_of v)) m) first (distribution_old (moved s (moves_of v)) m)) o in
    record { agents = t.agents; groups = counted_old (events_of m ms) (moved s ms).groups t.groups; ascend = ascending_counting (events_of m ms) (moved s ms).groups t.ascend }
