-- Moves over rows without their names: those over the rows, less the names that they put.
use Rattle.std.proofs.Common.{◌≡◌, ℕ, zero, suc, Bool, true, false, ◌&&◌, cond, List, [], ◌∷◌, ◌++◌, Option, Some, None, refl, sym, ◌∙◌, ap, map, length}
use Rattle.std.specs.Prelude.{filter}
use Rattle.std.proofs.lemmas.List.{map-append, map-id}
use Rattle.std.proofs.lemmas.Simd.{map-map}
use Rattle.acd_terms.specs.Groups.{least_group}
use Rattle.acd_terms.specs.Numbers.{Device, CallId, Moment}
use Rattle.acd_terms.specs.declared.command.Turn.{Turn}
use Rattle.acd_terms.specs.declared.state.AgentState.{AgentState}
use Rattle.acd_terms.specs.declared.state.AgentState.TheVariants.{Ready}
use Rattle.acd_lemmas.proofs.Words.{Rows, AgentRecord, ConnectionRecord, Cause, Change, Ending, Event, Move, Offer, Release, is_alerting, is_distributed, is_working_after_call, at_group, at_agent, agent_of, agent_at, group_of, connection_of, is_idle, queued_in_all, with_group, with_station, with_agent, with_call, with_connection, with_monitor, without_call, without_connection, without_monitor, no_move, reported, changed, moved, with_event, events_of}
use Rattle.acd_model.specs.declared.moves.Change.TheVariants.{PutGroup, PutAgent, PutConnection}
use Rattle.acd_model.specs.declared.moves.Destination.{Destination}
use Rattle.acd_model.specs.declared.moves.Destination.TheVariants.{Queue, Idle, Busy}
use Rattle.acd_model.specs.declared.moves.Release.TheVariants.{Stays, Goes}
use Rattle.acd_model.specs.declared.moves.Ending.TheVariants.{NoAnswer}
use Rattle.acd_model.specs.Figures.{counting, with_figures}
use Rattle.acd_model.specs.CallMoves.{arriving, arrival, arrive, destination_of}
use Rattle.acd_model.specs.AgentMoves.{go_from}
use Rattle.acd_model.specs.Release.{release_of, released, release_agent, release}
use Rattle.acd_model.specs.Choice.{offer_of}
use Rattle.acd_model.specs.Distribution.{offer_at, station_of_agent, offer_moves, with_offer, offers, distribution}
use Rattle.acd_model.specs.Tick.{ring_of, wrap_of, is_over, is_overdue_offer, is_overdue, overdue_in, return_to, return_moves, is_over_in, is_wrapped_up, wrapped_up_in, wrap_up_moves, each, returns, wraps, tick}
use Rattle.acd_model.specs.Services.{busy_agent, occupy}
use Rattle.acd_laws.specs.NameLaws.{unnamed_group, unnamed_agent, unnamed}
use Rattle.acd_lemmas.proofs.MappedLists.{put_by-map, filter-map, of-option_map}
use Rattle.acd_laws.proofs.Names.UnnamedScans.{unnamed_group_of, unnamed_agent_of, unnamed_agent_at, unnamed_is_group, unnamed_offer_of}

-- the change less the name that it puts: two put one
abbrev pub unnamed_change : Change → Change
unnamed_change (PutGroup g) = PutGroup (unnamed_group g)
unnamed_change (PutAgent a) = PutAgent (unnamed_agent a)
unnamed_change change = change

abbrev pub unnamed_move : Move → Move
unnamed_move move = record move { change = unnamed_change move.change }

-- the effects and reports of moves

unnamed_changed : (s : Rows) (c : Change) → changed (unnamed s) (unnamed_change c) ≡ unnamed (changed s c)
unfolding unnamed with_group with_station with_agent with_call with_connection with_monitor without_call without_connection without_monitor
unnamed_changed s (PutGroup g) =
    ap (λ l. let t : Rows = record (unnamed s) { groups = l } in t) (put_by-map unnamed_group (at_group g.device) (at_group g.device) (λ x. refl) g s.groups)
unnamed_changed s (PutAgent a) =
    ap (λ l. let t : Rows = record (unnamed s) { agents = l } in t) (put_by-map unnamed_agent (at_agent a.agent) (at_agent a.agent) (λ x. refl) a s.agents)
unnamed_changed s _ = refl

pub unnamed_moved : (s : Rows) (ms : List Move) → moved (unnamed s) (map unnamed_move ms) ≡ unnamed (moved s ms)
unnamed_moved s [] = refl
unnamed_moved s (m ∷ ms) = ap (λ t. moved t (map unnamed_move ms)) (unnamed_changed s m.change) ∙ unnamed_moved (changed s m.change) ms

pub unnamed_events : (moment : Moment) (ms : List Move) → events_of moment (map unnamed_move ms) ≡ events_of moment ms
unnamed_events moment [] = refl
unnamed_events moment (m ∷ ms) = ap (with_event moment m.report) (unnamed_events moment ms)

pub unnamed_figures : (s : Rows) (es : List Event) → with_figures (unnamed s) es ≡ unnamed (with_figures s es)
unfolding unnamed with_figures
unnamed_figures s es =
    ap (λ l. let t : Rows = record (unnamed s) { groups = l } in t)
    (map-map (counting es) unnamed_group s.groups ∙ sym (map-map unnamed_group (counting es) s.groups))

-- moves that look at rows

module _ (s : Rows) (turn : Turn) where
  pub unnamed_arrive : (call : CallId) (to : Device) (cause : Cause) → arrive (unnamed s) turn call to cause ≡ unnamed_move (arrive s turn call to cause)
  unfolding unnamed arrive is_idle
  unnamed_arrive call to cause = rw (unnamed_is_group s to) (comes (destination_of s to))
    where
      comes : (d : Destination)
          → reported (PutConnection (arriving d turn call to)) (arrival d call to cause)
          ≡ unnamed_move (reported (PutConnection (arriving d turn call to)) (arrival d call to cause))
      comes Queue = refl
      comes Idle = refl
      comes Busy = refl

  -- the move of the agent at a station, where a test passes
  of_agent_at : (move : Option AgentRecord → Move) → move None ≡ unnamed_move (move None)
      → ((a : AgentRecord) → move (Some (unnamed_agent a)) ≡ unnamed_move (move (Some a))) → (b : Bool) (d : Device)
      → cond b (move (agent_at (unnamed s) d)) no_move ≡ unnamed_move (cond b (move (agent_at s d)) no_move)
  of_agent_at move none some true d = ap move (unnamed_agent_at s d) ∙ of-option_map unnamed_agent move (λ o. unnamed_move (move o)) none some (agent_at s d)
  of_agent_at move none some false d = refl

  pub unnamed_release : (x : ConnectionRecord) (how : Ending) → release (unnamed s) turn x how ≡ unnamed_move (release s turn x how)
  unfolding release
  unnamed_release x how = of_agent_at (λ o. release_agent turn o x.device how) refl (λ a. goes a (release_of how a.pending)) (is_distributed x) x.device
    where
      goes : (a : AgentRecord) (r : Release) → released turn (unnamed_agent a) x.device r ≡ unnamed_move (released turn a x.device r)
      goes a Stays = refl
      goes a (Goes state) = refl

  pub unnamed_occupy : (x : ConnectionRecord) → occupy (unnamed s) turn x ≡ unnamed_move (occupy s turn x)
  unfolding occupy
  unnamed_occupy x = of_agent_at (λ o. busy_agent turn o x.device) refl (λ a. refl) (is_distributed x) x.device

pub unnamed_go_from : (turn : Turn) (a : AgentRecord) (o : Option Device) (state : AgentState)
    → go_from turn (unnamed_agent a) o state ≡ unnamed_move (go_from turn a o state)
unnamed_go_from turn a None state = refl
unnamed_go_from turn a (Some station) state = refl

-- distribution

unnamed_offer_moves : (s : Rows) (moment : Moment) (o : Offer) → offer_moves (unnamed s) moment o ≡ map unnamed_move (offer_moves s moment o)
unfolding unnamed offer_moves connection_of
unnamed_offer_moves s moment o =
    ap (offer_at moment (connection_of s o.call o.group))
    (ap station_of_agent (unnamed_agent_of s o.agent) ∙ of-option_map unnamed_agent station_of_agent station_of_agent refl (λ _. refl) (agent_of s o.agent))
    ∙ rings (connection_of s o.call o.group) (station_of_agent (agent_of s o.agent))
  where
    rings : (x : Option ConnectionRecord) (d : Option Device) → offer_at moment x d ≡ map unnamed_move (offer_at moment x d)
    rings (Some x) (Some d) = refl
    rings (Some x) None = refl
    rings None d = refl

unnamed_offers : (n : ℕ) (s : Rows) (moment : Moment) → offers n (unnamed s) moment ≡ map unnamed_move (offers n s moment)
unnamed_offers zero s moment = refl
unnamed_offers (suc n) s moment = rw (unnamed_offer_of s) (goes_on (λ t. unnamed_offers n t moment) (offer_of s))
  where
    goes_on : ((t : Rows) → offers n (unnamed t) moment ≡ map unnamed_move (offers n t moment)) → (o : Option Offer)
        → with_offer o [] (λ (o : Offer). offer_moves (unnamed s) moment o ++ offers n (moved (unnamed s) (offer_moves (unnamed s) moment o)) moment)
        ≡ map unnamed_move (with_offer o [] (λ (o : Offer). offer_moves s moment o ++ offers n (moved s (offer_moves s moment o)) moment))
    goes_on more None = refl
    goes_on more (Some o) =
        let first : List Move = offer_moves s moment o in
        rw (unnamed_offer_moves s moment o, unnamed_moved s first, more (moved s first)) (sym (map-append unnamed_move first (offers n (moved s first) moment)))

pub unnamed_distribution : (s : Rows) (moment : Moment) → distribution (unnamed s) moment ≡ map unnamed_move (distribution s moment)
unfolding unnamed distribution queued_in_all
unnamed_distribution s moment = unnamed_offers (length (queued_in_all s)) s moment

-- a tick

unnamed_overdue_offer : (s : Rows) (moment : Moment) (g : Option Device) (offered : Option Moment)
    → is_overdue_offer (unnamed s) moment g offered ≡ is_overdue_offer s moment g offered
unnamed_overdue_offer s moment (Some g) (Some offered) =
    ap (λ n. is_over n offered moment) (ap ring_of (unnamed_group_of s g) ∙ of-option_map unnamed_group ring_of ring_of refl (λ _. refl) (group_of s g))
unnamed_overdue_offer s moment (Some g) None = refl
unnamed_overdue_offer s moment None offered = refl

unnamed_over_in : (s : Rows) (moment : Moment) (a : AgentRecord) (g : Option Device)
    → is_over_in (unnamed s) moment (unnamed_agent a) g ≡ is_over_in s moment a g
unnamed_over_in s moment a None = refl
unnamed_over_in s moment a (Some g) =
    ap (λ n. is_over n a.since moment) (ap wrap_of (unnamed_group_of s g) ∙ of-option_map unnamed_group wrap_of wrap_of refl (λ _. refl) (group_of s g))

unnamed_overdue_in : (s : Rows) (moment : Moment) → overdue_in (unnamed s) moment ≡ map (λ (x : ConnectionRecord). x) (overdue_in s moment)
unfolding unnamed overdue_in is_overdue
unnamed_overdue_in s moment =
    ap (filter (is_overdue (unnamed s) moment)) (sym (map-id s.connections))
    ∙ filter-map (λ x. x) (is_overdue (unnamed s) moment) (is_overdue s moment)
    (λ x. ap (λ b. is_alerting x.state && b) (unnamed_overdue_offer s moment x.group x.offered)) s.connections

unnamed_rested_in : (s : Rows) (moment : Moment) → wrapped_up_in (unnamed s) moment ≡ map unnamed_agent (wrapped_up_in s moment)
unfolding unnamed wrapped_up_in is_wrapped_up
unnamed_rested_in s moment =
    filter-map unnamed_agent (is_wrapped_up (unnamed s) moment) (is_wrapped_up s moment)
    (λ a. ap (λ b. is_working_after_call a.state && b) (unnamed_over_in s moment a (least_group a.groups))) s.agents

unnamed_each : {T : Type 0} (f : T → T) (moves : Rows → T → List Move) → ((s : Rows) (x : T) → moves (unnamed s) (f x) ≡ map unnamed_move (moves s x))
    → (s : Rows) (xs : List T)
    → each moves (unnamed s) (map f xs) ≡ map unnamed_move (each moves s xs)
unnamed_each f moves h s [] = refl
unnamed_each f moves h s (x ∷ xs) =
    rw (h s x, unnamed_moved s (moves s x), unnamed_each f moves h (moved s (moves s x)) xs)
    (sym (map-append unnamed_move (moves s x) (each moves (moved s (moves s x)) xs)))

pub unnamed_return_moves : (turn : Turn) (s : Rows) (x : ConnectionRecord) → return_moves (unnamed s) turn x ≡ map unnamed_move (return_moves s turn x)
unnamed_return_moves turn s x = go x.group
  where
    go : (g : Option Device) → return_to (unnamed s) turn x g ≡ map unnamed_move (return_to s turn x g)
    go None = refl
    go (Some g) = rw (unnamed_release s turn x NoAnswer) refl

unnamed_returns : (s : Rows) (turn : Turn) → returns (unnamed s) turn ≡ map unnamed_move (returns s turn)
unfolding returns
unnamed_returns s turn =
    ap (each (λ t x. return_moves t turn x) (unnamed s)) (unnamed_overdue_in s turn.moment)
    ∙ unnamed_each (λ x. x) (λ t x. return_moves t turn x) (unnamed_return_moves turn) s (overdue_in s turn.moment)

unnamed_rests : (s : Rows) (turn : Turn) → wraps (unnamed s) turn ≡ map unnamed_move (wraps s turn)
unfolding wraps
unnamed_rests s turn =
    ap (each (λ t a. wrap_up_moves turn a) (unnamed s)) (unnamed_rested_in s turn.moment)
    ∙ unnamed_each unnamed_agent (λ t a. wrap_up_moves turn a) (λ t a. rw (unnamed_go_from turn a a.station Ready) refl) s (wrapped_up_in s turn.moment)

pub unnamed_tick : (s : Rows) (turn : Turn) → tick (unnamed s) turn ≡ map unnamed_move (tick s turn)
unfolding tick
unnamed_tick s turn =
    let first : List Move = returns s turn in
    rw (unnamed_returns s turn, unnamed_moved s first, unnamed_rests (moved s first) turn) (sym (map-append unnamed_move first (wraps (moved s first) turn)))
