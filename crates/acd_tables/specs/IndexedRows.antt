-- The indexes of the rows.
use Rattle.std.specs.Prelude.{◌≡◌, ℕ, Bool, true, false, not, ◌&&◌, ◌||◌, ◌==◌, List, map, Option, Some, None, is_some, length, unwrap_or}
use Rattle.std.specs.List.{list_any}
use Rattle.std.specs.declared.cmp.Ordering.{Ordering}
use Rattle.std.specs.Ordering.{nat_cmp, ordering_then, is_gt}
use Rattle.std.specs.BTreeMap.{BTreeMap}
use Rattle.std.specs.HashMap.{HashMap, get_by}
use Rattle.std.specs.declared.hash.FoldHasher.{FoldHasher}
use Rattle.std.specs.declared.hash.BuildHasherDefault.{BuildHasherDefault}
use Rattle.std.specs.BTreeSet.{BTreeSet, contains}
use Rattle.std.specs.declared.cmp.Reverse.{Reverse}
use Rattle.acd_terms.specs.Lists.{IsAscending}
use Rattle.acd_terms.specs.Groups.{is_one_of}
use Rattle.acd_terms.specs.States.{is_distributed, is_queued, is_alerting, is_ready, is_working_after_call, is_occupying}
use Rattle.acd_terms.specs.Numbers.{Device, Agent, CallId, Stamp, Priority}
use Rattle.acd_terms.specs.declared.rows.Rows.{Rows}
use Rattle.acd_terms.specs.declared.record.GroupRecord.{GroupRecord}
use Rattle.acd_terms.specs.declared.record.AgentRecord.{AgentRecord}
use Rattle.acd_terms.specs.declared.record.ConnectionRecord.{ConnectionRecord}
use Rattle.acd_model.specs.Rules.Plan.{group_order, agent_order, connection_order}
use Rattle.acd_model.specs.Scans.{is_group, group_of, agent_of, connection_of, waiting_in, eligible_in, queued_in_all, has}
use Rattle.acd_model.specs.Choice.{waiting_pair, ready_pair}
use Rattle.acd_tables.specs.Sets.{holds, has_set, HasExactly}
use Rattle.acd_tables.specs.declared.indexes.Indexes.{Indexes}

abbrev pub PairSets : Type 0
PairSets = BTreeMap Device (BTreeSet (ℕ × ℕ))

abbrev pub pair_cmp : ℕ × ℕ → ℕ × ℕ → Ordering
pair_cmp p q = ordering_then (nat_cmp p.0 q.0) (nat_cmp p.1 q.1)

-- the set of the group has the pair: a stamp, and a call or an agent
abbrev pub lists : PairSets → Device → ℕ × ℕ → Bool
lists m g p = holds nat_cmp pair_cmp m g p

-- the call is listed at the device
abbrev pub joins : BTreeSet (Device × CallId) → Device → CallId → Bool
joins lines device call = contains pair_cmp lines (device, call)

-- the first member of the set of the group, if there is one
abbrev pub IsFirstIn : {E : Type 0} → (E → E → Ordering) → BTreeMap Device (BTreeSet E) → Device → Option E → Type 0
IsFirstIn {E} cmp m g None = (e : E) → holds nat_cmp cmp m g e ≡ false
IsFirstIn {E} cmp m g (Some k) = (holds nat_cmp cmp m g k ≡ true) × ((e : E) → holds nat_cmp cmp m g e ≡ true → is_gt (cmp k e) ≡ false)

-- the connection waits at the place
abbrev pub waits_at : Stamp → Option ConnectionRecord → Bool
waits_at place None = false
waits_at place (Some c) = is_queued c.state && unwrap_or c.place 0 == place

-- with one of these a station takes no offer
abbrev pub is_busying : ConnectionRecord → Bool
is_busying c = is_occupying c.state || is_distributed c

unfoldable pub is_busy_at : Rows → Device → Bool
is_busy_at s device = list_any (λ c. c.device == device && is_busying c) s.connections

abbrev pub is_free : Rows → Option Device → Bool
is_free s None = false
is_free s (Some station) = not (is_busy_at s station)

-- of the group, ready, and at a station that takes an offer
abbrev pub is_able : Rows → Device → AgentRecord → Bool
is_able s group a = is_one_of a.groups group && (is_ready a.state && is_free s a.station)

-- the agent is able since the stamp
abbrev pub is_able_since : Rows → Device → Stamp → Option AgentRecord → Bool
is_able_since s group stamp None = false
is_able_since s group stamp (Some a) = a.stamp == stamp && is_able s group a

-- a group's place among those that may have an offer
abbrev pub OfferKey : Type 0
OfferKey = Reverse Priority × Device

-- by descending priority, and then by ascending number
abbrev pub offer_cmp : OfferKey → OfferKey → Ordering
offer_cmp x y = ordering_then (nat_cmp y.0.0 x.0.0) (nat_cmp x.1 y.1)

abbrev pub offer_key : GroupRecord → OfferKey
offer_key g = (record { 0 = g.priority }, g.device)

-- the group is indexed at its priority
abbrev pub ListsRecord : BTreeSet OfferKey → GroupRecord → Type 0
ListsRecord offering g = contains offer_cmp offering (offer_key g) ≡ true

-- a planned group with members in both is indexed
abbrev pub ListsOffers : Rows → PairSets → PairSets → BTreeSet OfferKey → Type 0
ListsOffers s queues ready offering =
    (g : Device) (r : GroupRecord) (p q : ℕ × ℕ) → group_of s g ≡ Some r → lists queues g p ≡ true → lists ready g q ≡ true → ListsRecord offering r

-- somebody waits in the group, and an agent is able to take an offer
abbrev pub HasOffer : PairSets → PairSets → Device → Type 0
HasOffer queues ready g = ((p : ℕ × ℕ) × (lists queues g p ≡ true)) × ((q : ℕ × ℕ) × (lists ready g q ≡ true))

-- where somebody waits in the group, no agent is able to
abbrev pub HasNoEntry : PairSets → PairSets → Device → Type 0
HasNoEntry queues ready g = (p q : ℕ × ℕ) → lists queues g p ≡ true → lists ready g q ≡ false

-- the calls that wait in the group, each by its time stamp and number
abbrev pub waiting_pairs : Rows → Device → List (Stamp × CallId)
waiting_pairs s group = map waiting_pair (waiting_in s group)

-- those who can take a call of the group, each by its time stamp and number
abbrev pub ready_pairs : Rows → Device → List (Stamp × Agent)
ready_pairs s group = map ready_pair (eligible_in s group)

-- stations and the agents there
abbrev pub SeatMap : Type 0
SeatMap = HashMap Device Agent (BuildHasherDefault FoldHasher)

-- the agent at the station
abbrev pub agent_seated : SeatMap → Device → Option Agent
agent_seated seats d = get_by (λ e. d == e) seats

-- the station of the agent that may be there
abbrev pub agent_station : Option AgentRecord → Option Device
agent_station None = None
agent_station (Some a) = a.station

-- an agent is at a station exactly where that is the agent's station
abbrev pub Seats : Rows → SeatMap → Type 0
Seats s seats = (n : Agent) (d : Device) → has (agent_seated seats d) n ≡ has (agent_station (agent_of s n)) d

-- the calls at a device are exactly those of its connections
abbrev pub Lines : Rows → BTreeSet (Device × CallId) → Type 0
Lines s = HasExactly pair_cmp (λ p. is_some (connection_of s p.1 p.0))

-- offered by distribution, and not answered
abbrev pub is_ringing : ConnectionRecord → Bool
is_ringing c = is_alerting c.state && (is_some c.group && is_some c.offered)

-- the connection that may be there rings
abbrev pub rings : Option ConnectionRecord → Bool
rings None = false
rings (Some c) = is_ringing c

abbrev pub is_working : AgentRecord → Bool
is_working a = is_working_after_call a.state

-- the agent that may be there is in after-call work
abbrev pub works : Option AgentRecord → Bool
works None = false
works (Some a) = is_working a

-- exactly the offers that ring are indexed
abbrev pub Ringing : Rows → BTreeSet (CallId × Device) → Type 0
Ringing s = HasExactly pair_cmp (λ p. rings (connection_of s p.0 p.1))

-- exactly the agents in after-call work are indexed
abbrev pub Working : Rows → BTreeSet Agent → Type 0
Working s = HasExactly nat_cmp (λ n. works (agent_of s n))

-- the rows with the records of others, where these have indexes
abbrev pub with_indexed : Rows → Rows → Rows
with_indexed s t = record s { groups = t.groups; agents = t.agents; connections = t.connections }

-- the indexes are those of the rows
pub record IsIndexed (s : Rows) (x : Indexes) : Type 0 where
  pub groups : IsAscending group_order s.groups
  pub agents : IsAscending agent_order s.agents
  pub connections : IsAscending connection_order s.connections
  -- each group has its two sets
  pub queues : (g : Device) → is_group s g ≡ true → has_set nat_cmp pair_cmp x.queues g ≡ true
  pub readies : (g : Device) → is_group s g ≡ true → has_set nat_cmp pair_cmp x.ready g ≡ true
  -- who waits, and who is able
  pub waiting : (g : Device) (p : ℕ × ℕ) → lists x.queues g p ≡ waits_at p.0 (connection_of s p.1 g)
  pub able : (g : Device) (p : ℕ × ℕ) → lists x.ready g p ≡ is_able_since s g p.0 (agent_of s p.1)
  pub offers : ListsOffers s x.queues x.ready x.offering
  -- who is at a station, and the calls at a device
  pub seats : Seats s x.seats
  pub lines : Lines s x.lines
  -- the records that tick may end
  pub ringing : Ringing s x.ringing
  pub working : Working s x.working
  pub queued : x.queued ≡ length (queued_in_all s)
