-- An agent's move and an arrival, and what each change leaves.
use Rattle.std.proofs.Common.{◌≡◌, ℕ, Bool, true, false, cond, Option, Some, None, refl, ◌∙◌, ap, List, [], ◌∷◌}
use Rattle.std.specs.Prelude.{◌==◌}
use Rattle.std.proofs.lemmas.Bool.{cond-false}
use Rattle.acd_lemmas.proofs.Words.{Rows, AgentRecord, ConnectionRecord, AgentState, Pending, Cause, Change, Ending, Move, Release, find_by, Every, IsAscending, at_connection, group_of, station_of, agent_of, connection_of, is_group, is_planned, agent_at, is_distributed, is_idle, with_group, with_station, with_agent, with_call, with_connection, with_monitor, without_call, without_connection, without_monitor, no_move, silent, reported, changed, moved, agent_order}
use Rattle.acd_terms.specs.declared.state.AgentState.TheVariants as A
use Rattle.acd_model.specs.AgentMoves.{while_logged_on, in_state, state_report, go_from}
use Rattle.acd_model.specs.Release.{release_of, released, release_agent, release}
use Rattle.acd_model.specs.Services.{busy_agent, occupy}
use Rattle.acd_model.specs.declared.moves.Change.TheVariants.{PutAgent, PutConnection, PutGroup, PutStation, RemoveConnection}
use Rattle.acd_model.specs.declared.moves.Release.TheVariants.{Stays, Goes}
use Rattle.acd_lemmas.proofs.State.{agent_put, agent_there}
use Rattle.acd_terms.specs.declared.state.ConnectionState.TheVariants.{Alerting, Fail}
use Rattle.acd_terms.specs.declared.event.Report.TheVariants.{Queued, Delivered, Failed}
use Rattle.acd_model.specs.CallMoves.{unqueued, queueing, met_at, arriving, arrival, arrive}
use Rattle.acd_terms.specs.declared.command.Turn.{Turn}

-- the agent in another state, at the same station unless it is null
pub record Reseated (turn : Turn) (a b : AgentRecord) : Type 0 where
  pub agent : b.agent ≡ a.agent
  pub station : b.station ≡ while_logged_on b.state a.station
  pub stamp : b.stamp ≡ turn.stamp
  pub since : b.since ≡ turn.moment

-- a move of an agent of whom K holds: none, one to another name or pending state, which nothing reports, or one to another
-- state
pub data AgentMove (K : AgentRecord → Type 0) (turn : Turn) : Move → Type 0 where
  stays : AgentMove K turn no_move
  remains : (a : AgentRecord) (name : List ℕ) (pending : Option Pending) → K a
      → AgentMove K turn (silent (PutAgent (record a { name = name; pending = pending })))
  reports : (a b : AgentRecord) (d : ℕ) → K a → Reseated turn a b → AgentMove K turn (reported (PutAgent b) (state_report b.state b.agent d))

pub goes_from : (K : AgentRecord → Type 0) (turn : Turn) (a : AgentRecord) (o : Option ℕ) (st : AgentState) → K a → AgentMove K turn (go_from turn a o st)
goes_from K turn a None st h = stays
goes_from K turn a (Some d) st h = reports a (in_state st turn a) d h (record { agent = refl; station = refl; stamp = refl; since = refl })

either : (K : AgentRecord → Type 0) (turn : Turn) (b : Bool) (x : Move) → AgentMove K turn x → AgentMove K turn (cond b x no_move)
either K turn true x h = h
either K turn false x h = stays

releases_agent : (K : AgentRecord → Type 0) (turn : Turn) (d : ℕ) (o : Option AgentRecord) (how : Ending) → ((a : AgentRecord) → o ≡ Some a → K a)
    → AgentMove K turn (release_agent turn o d how)
releases_agent K turn d None how h = stays
releases_agent K turn d (Some a) how h = by (release_of how a.pending)
  where
    by : (next : Release) → AgentMove K turn (released turn a d next)
    by Stays = remains a a.name None (h a refl)
    by (Goes st) = goes_from K turn a (Some d) st (h a refl)

pub releases : (K : AgentRecord → Type 0) (s : Rows) (turn : Turn) (x : ConnectionRecord) (how : Ending)
    → ((a : AgentRecord) → agent_at s x.device ≡ Some a → K a) → AgentMove K turn (release s turn x how)
unfolding release
releases K s turn x how h = either K turn (is_distributed x) _ (releases_agent K turn x.device (agent_at s x.device) how h)

occupies_agent : (K : AgentRecord → Type 0) (turn : Turn) (d : ℕ) (o : Option AgentRecord) → ((a : AgentRecord) → o ≡ Some a → K a)
    → AgentMove K turn (busy_agent turn o d)
occupies_agent K turn d None h = stays
occupies_agent K turn d (Some a) h =
    reports a (record a { state = A.Busy; stamp = turn.stamp; since = turn.moment }) d (h a refl)
    (record { agent = refl; station = refl; stamp = refl; since = refl })

pub occupies : (K : AgentRecord → Type 0) (s : Rows) (turn : Turn) (x : ConnectionRecord) → ((a : AgentRecord) → agent_at s x.device ≡ Some a → K a)
    → AgentMove K turn (occupy s turn x)
unfolding occupy
occupies K s turn x h = either K turn (is_distributed x) _ (occupies_agent K turn x.device (agent_at s x.device) h)

-- the agent is known with just this record
abbrev pub Recorded : Rows → AgentRecord → Type 0
Recorded t a = agent_of t a.agent ≡ Some a

pub releases_here : (s : Rows) (turn : Turn) (x : ConnectionRecord) (how : Ending) → IsAscending agent_order s.agents
    → AgentMove (Recorded s) turn (release s turn x how)
releases_here s turn x how h = releases (Recorded s) s turn x how (λ a e. agent_there s h x.device a e)

pub occupies_here : (s : Rows) (turn : Turn) (x : ConnectionRecord) → IsAscending agent_order s.agents → AgentMove (Recorded s) turn (occupy s turn x)
occupies_here s turn x h = occupies (Recorded s) s turn x (λ a e. agent_there s h x.device a e)

-- where nothing has to be known of the agent
abbrev pub Anyone : AgentRecord → Type 0
Anyone a = Unit {0}

pub released_by : (s : Rows) (turn : Turn) (x : ConnectionRecord) (how : Ending) → AgentMove Anyone turn (release s turn x how)
released_by s turn x how = releases Anyone s turn x how (λ _ _. tt)

pub occupied_by : (s : Rows) (turn : Turn) (x : ConnectionRecord) → AgentMove Anyone turn (occupy s turn x)
occupied_by s turn x = occupies Anyone s turn x (λ _ _. tt)

-- the part that it leaves

pub agent_connections : {K : AgentRecord → Type 0} (turn : Turn) (t : Rows) (x : Move) → AgentMove K turn x → (changed t x.change).connections ≡ t.connections
unfolding with_agent
agent_connections turn t x stays = refl
agent_connections turn t x (remains _ _ _ _) = refl
agent_connections turn t x (reports a b d _ _) = refl

pub agent_others : (turn : Turn) (n : ℕ) (t : Rows) (x : Move) → AgentMove (λ a. (a.agent == n) ≡ false) turn x → agent_of (changed t x.change) n ≡ agent_of t n
agent_others turn n t x stays = refl
agent_others turn n t x (remains a name pending h) = agent_put t (record a { name = name; pending = pending }) n ∙ cond-false (a.agent == n) _ _ h
agent_others turn n t x (reports a b d h r) = agent_put t b n ∙ cond-false (b.agent == n) _ _ (ap (λ v. v == n) r.agent ∙ h)

pub data Arrival (s : Rows) (turn : Turn) (call to : ℕ) (why : Cause) : Move → Type 0 where
  queues : is_group s to ≡ true
      → Arrival s turn call to why (reported (PutConnection (queueing call to (Some turn.stamp) (Some turn.moment))) (Queued call to why))
  alerts : Arrival s turn call to why (reported (PutConnection (unqueued call to Alerting)) (Delivered call to why None))
  fails : Arrival s turn call to why (reported (PutConnection (unqueued call to Fail)) (Failed call to))

pub arrival_of : (s : Rows) (turn : Turn) (call to : ℕ) (why : Cause) → Arrival s turn call to why (arrive s turn call to why)
unfolding arrive
arrival_of s turn call to why = at (is_group s to) (is_idle s to) refl
  where
    at : (q i : Bool) → is_group s to ≡ q
        → Arrival s turn call to why (reported (PutConnection (arriving (met_at q i) turn call to)) (arrival (met_at q i) call to why))
    at true i e = queues e
    at false true e = alerts
    at false false e = fails

-- the part that a change leaves as it is

abbrev pub LeavesConnections : Change → Type 0
LeavesConnections (PutConnection x) = ⊥
LeavesConnections (RemoveConnection c d) = ⊥
LeavesConnections _ = Unit {0}

pub left_connections : (s : Rows) (c : Change) → LeavesConnections c → (changed s c).connections ≡ s.connections
unfolding with_group with_station with_agent with_call with_monitor without_call without_monitor
left_connections s (PutConnection x) h = absurd h
left_connections s (RemoveConnection c d) h = absurd h
left_connections s _ h = refl

pub left_connection : (s : Rows) (c : Change) (a b : ℕ) → LeavesConnections c → connection_of (changed s c) a b ≡ connection_of s a b
unfolding connection_of
left_connection s c a b h = ap (λ xs. find_by (at_connection a b) xs) (left_connections s c h)

abbrev pub LeavesAgents : Change → Type 0
LeavesAgents (PutAgent a) = ⊥
LeavesAgents _ = Unit {0}

pub left_agent : (s : Rows) (c : Change) (n : ℕ) → LeavesAgents c → agent_of (changed s c) n ≡ agent_of s n
unfolding agent_of with_group with_station with_call with_connection with_monitor without_call without_connection without_monitor
left_agent s (PutAgent a) n h = absurd h
left_agent s _ n h = refl

pub left_agents : (s : Rows) (ms : List Move) (n : ℕ) → Every (λ (x : Move). LeavesAgents x.change) ms → agent_of (moved s ms) n ≡ agent_of s n
left_agents s [] n h = refl
left_agents s (x ∷ ms) n h = left_agents (changed s x.change) ms n h.1 ∙ left_agent s x.change n h.0

abbrev pub LeavesPlan : Change → Type 0
LeavesPlan (PutGroup g) = ⊥
LeavesPlan (PutStation t) = ⊥
LeavesPlan _ = Unit {0}

pub left_plan : (s : Rows) (c : Change) (d : ℕ) → LeavesPlan c → is_planned (changed s c) d ≡ is_planned s d
unfolding group_of station_of with_agent with_call with_connection with_monitor without_call without_connection without_monitor
left_plan s (PutGroup g) d h = absurd h
left_plan s (PutStation t) d h = absurd h
left_plan s _ d h = refl

abbrev pub LeavesGroups : Change → Type 0
LeavesGroups (PutGroup g) = ⊥
LeavesGroups _ = Unit {0}

pub left_groups : (s : Rows) (c : Change) → LeavesGroups c → (changed s c).groups ≡ s.groups
unfolding with_station with_agent with_call with_connection with_monitor without_call without_connection without_monitor
left_groups s (PutGroup g) h = absurd h
left_groups s _ h = refl
