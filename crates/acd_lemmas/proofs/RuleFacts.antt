-- The rules of rows as facts: of each record, counts over the plain lists, and bounds. Rows that break no rule are these (`AllRuleTests`).
use Rattle.std.specs.Prelude.{◌≡◌, ◌≢◌, ◌⊎◌, ℕ, ◌+◌, ◌≤◌, Bool, true, false, ◌&&◌, ◌==◌, Option, Some, None, is_some, if◌then◌else◌, ◌*◌, List, [], length}
use Rattle.acd_lemmas.proofs.Words.{Rows, GroupRecord, AgentRecord, CallRecord, ConnectionRecord, MonitorRecord, ConnectionState, AgentState, count, Among, Every, is_ready, is_busy, is_alerting, is_answered, call_of, is_group, is_station, is_planned, has, parties_of, initiated_of, open_of, live_at, alerting_at, hold_at, is_distributed_at}
use Rattle.acd_terms.specs.declared.state.AgentState.TheVariants as agent
use Rattle.acd_terms.specs.declared.state.ConnectionState.TheVariants.{Initiated, Alerting, Connected, Hold, Queued}
use Rattle.acd_terms.specs.Limits.{limits_fit, greatest_priority}
use Rattle.acd_terms.specs.Groups.{is_choice}
use Rattle.acd_model.specs.Offers.{HasNoOffer}
use Rattle.acd_model.specs.Rules.Occupied.{waits_in, rings_from}
use Rattle.acd_lemmas.specs.Orders.{Orders}

-- each agent: one in null has no seat, any other a planned station and planned groups
abbrev pub IsUnseated : AgentRecord → Type 0
IsUnseated a = (a.station ≡ None) × (a.groups ≡ []) × (a.pending ≡ None)

abbrev pub IsPlannedStation : Rows → Option ℕ → Type 0
IsPlannedStation s None = ⊥
IsPlannedStation s (Some d) = is_station s d ≡ true

abbrev pub ArePlannedGroups : Rows → List ℕ → Type 0
ArePlannedGroups s gs = (is_choice gs ≡ true) × Every (λ (g : ℕ). is_group s g ≡ true) gs

abbrev pub SeatedAs : Rows → AgentRecord → AgentState → Type 0
SeatedAs s a agent.Null = IsUnseated a
SeatedAs s a _ = IsPlannedStation s a.station × ArePlannedGroups s a.groups

abbrev pub AgentRule : Rows → AgentRecord → Type 0
AgentRule s a = SeatedAs s a a.state

-- each call
abbrev pub CallRule : Rows → CallRecord → Type 0
CallRule s c = (c.call ≤ s.last_call) × (is_planned s c.called ≡ true) × (c.called ≢ c.caller) × (is_group s c.caller ≡ false)

-- the columns of a connection by its state
pub record Bare (x : ConnectionRecord) : Type 0 where
  pub place : x.place ≡ None
  pub queued : x.queued ≡ None
  pub offered : x.offered ≡ None

pub record InQueue (x : ConnectionRecord) : Type 0 where
  pub group : x.group ≡ Some x.device
  pub place : is_some x.place ≡ true
  pub queued : is_some x.queued ≡ true
  pub offered : x.offered ≡ None

pub record Offered (x : ConnectionRecord) : Type 0 where
  pub place : is_some x.place ≡ true
  pub queued : is_some x.queued ≡ true
  pub offered : is_some x.offered ≡ true

abbrev pub AlertingColumns : ConnectionRecord → Option ℕ → Type 0
AlertingColumns x None = Bare x
AlertingColumns x (Some g) = Offered x

abbrev pub HasColumns : ConnectionRecord → ConnectionState → Type 0
HasColumns x Queued = InQueue x
HasColumns x Alerting = AlertingColumns x x.group
HasColumns x Connected = Bare x
HasColumns x Hold = Bare x
HasColumns x _ = Bare x × (x.group ≡ None)

abbrev pub GroupColumn : Rows → Option ℕ → Type 0
GroupColumn s None = Unit {0}
GroupColumn s (Some g) = is_group s g ≡ true

-- the device is the caller of the live call
abbrev pub IsCaller : Option CallRecord → ℕ → Type 0
IsCaller None device = ⊥
IsCaller (Some c) device = c.caller ≡ device

-- the devices at which a connection in a state may be
abbrev pub StandsAt : Rows → ConnectionRecord → ConnectionState → Type 0
StandsAt s x Queued = is_group s x.device ≡ true
StandsAt s x Initiated = (is_station s x.device ≡ true) × IsCaller (call_of s x.call) x.device
StandsAt s x Connected = (is_station s x.device ≡ true) ⊎ ((is_planned s x.device ≡ false) × IsCaller (call_of s x.call) x.device)
StandsAt s x _ = is_station s x.device ≡ true

-- each connection
abbrev pub ConnectionRule : Rows → ConnectionRecord → Type 0
ConnectionRule s x = HasColumns x x.state × GroupColumn s x.group × StandsAt s x x.state

-- the counts beside those of the rules
abbrev pub ringing_at : ℕ → ConnectionRecord → Bool
ringing_at device x = is_alerting x.state && is_some x.group && x.device == device

abbrev pub talking_at : ℕ → ConnectionRecord → Bool
talking_at device x = is_answered x.state && is_some x.group && x.device == device

abbrev pub seated_at : ℕ → AgentRecord → Bool
seated_at device a = has a.station device

abbrev pub ready_at : ℕ → AgentRecord → Bool
ready_at device a = is_ready a.state && has a.station device

abbrev pub busy_at : ℕ → AgentRecord → Bool
busy_at device a = is_busy a.state && has a.station device

abbrev pub pending_at : ℕ → AgentRecord → Bool
pending_at device a = is_some a.pending && has a.station device

abbrev pub two_if : Bool → ℕ
two_if live = if live then 2 else 0

-- the rules, but at the stations that are loose: there no connection is distributed, and the agent may be in any state
pub record RulesBut (loose : ℕ → Bool) (s : Rows) : Type 0 where
  pub orders : Orders s
  pub kinds : (d : ℕ) → is_group s d ≡ true → is_station s d ≡ false
  pub agents : Every (AgentRule s) s.agents
  pub calls : Every (CallRule s) s.calls
  pub connections : Every (ConnectionRule s) s.connections
  -- a live call has one connection, initiated, or two, none initiated; at most one is open
  pub parties : (c : ℕ) → count (parties_of c) s.connections + count (initiated_of c) s.connections ≡ two_if (is_some (call_of s c))
  pub one_open : (c : ℕ) → count (open_of c) s.connections ≤ 1
  -- at a station at most one is live, and none on hold beside an alerting one
  pub one_live : (d : ℕ) → is_station s d ≡ true → count (live_at d) s.connections ≤ 1
  pub no_hold : (d : ℕ) → is_station s d ≡ true → 1 ≤ count (alerting_at d) s.connections → count (hold_at d) s.connections ≡ 0
  -- at a station at most one is distributed; its agent is ready where it alerts, busy where it is answered, and no other is busy
  pub one_offer : (d : ℕ) → count (is_distributed_at d) s.connections ≤ 1
  pub one_agent : (d : ℕ) → count (seated_at d) s.agents ≤ 1
  pub ready : (d : ℕ) → loose d ≡ false → count (ringing_at d) s.connections ≤ count (ready_at d) s.agents
  pub busy : (d : ℕ) → loose d ≡ false → count (talking_at d) s.connections ≡ count (busy_at d) s.agents
  -- an agent waits for a state only while it is occupied
  pub pending : (d : ℕ) → loose d ≡ false → count (pending_at d) s.agents ≤ count (is_distributed_at d) s.connections
  pub free : (d : ℕ) → loose d ≡ true → count (is_distributed_at d) s.connections ≡ 0

abbrev pub Rules : Rows → Type 0
Rules s = RulesBut (λ _. false) s

-- bounds

-- no limit above its greatest, and no list above its limit
pub record Sizes (s : Rows) : Type 0 where
  pub limits : limits_fit s.limits ≡ true
  pub groups : length s.groups ≤ s.limits.groups
  pub stations : length s.stations ≤ s.limits.stations
  pub agents : length s.agents ≤ s.limits.agents
  pub calls : length s.calls ≤ s.limits.calls
  pub monitors : length s.monitors ≤ s.limits.monitors

-- a stamp from 1 to k, a moment up to m
pub record AgentTimed (k m : ℕ) (a : AgentRecord) : Type 0 where
  pub above : 1 ≤ a.stamp
  pub stamp : a.stamp ≤ k
  pub since : a.since ≤ m

abbrev pub CallTimed : ℕ → CallRecord → Type 0
CallTimed m c = c.since ≤ m

abbrev pub IsPlace : ℕ → Option ℕ → Type 0
IsPlace k None = Unit {0}
IsPlace k (Some p) = (1 ≤ p) × (p ≤ k)

abbrev pub IsMoment : ℕ → Option ℕ → Type 0
IsMoment m None = Unit {0}
IsMoment m (Some n) = n ≤ m

abbrev pub IsAfter : Option ℕ → Option ℕ → Type 0
IsAfter (Some queued) (Some offered) = queued ≤ offered
IsAfter _ _ = Unit {0}

pub record ConnectionTimed (k m : ℕ) (x : ConnectionRecord) : Type 0 where
  pub place : IsPlace k x.place
  pub queued : IsMoment m x.queued
  pub offered : IsMoment m x.offered
  pub order : IsAfter x.queued x.offered

abbrev pub at_place : ℕ → ConnectionRecord → Bool
at_place p x = has x.place p

-- stamps and places from 1 to k, moments up to m
pub record Timed (k m : ℕ) (s : Rows) : Type 0 where
  pub agents : Every (AgentTimed k m) s.agents
  pub calls : Every (CallTimed m) s.calls
  pub connections : Every (ConnectionTimed k m) s.connections

-- no two connections have one place
abbrev pub OnePlace : Rows → Type 0
OnePlace s = (p : ℕ) → count (at_place p) s.connections ≤ 1

-- a monitor's device is planned, and its identifier and event aren't above the last
abbrev pub MonitorRule : Rows → MonitorRecord → Type 0
MonitorRule s w = (is_planned s w.device ≡ true) × (w.monitor ≤ s.last_monitor) × (w.after_event ≤ s.last_event)

abbrev pub Monitored : Rows → Type 0
Monitored s = Every (MonitorRule s) s.monitors

-- no more entries than k, and no call waited longer than m
abbrev pub IsCountedUpTo : ℕ → ℕ → GroupRecord → Type 0
IsCountedUpTo k m g = (g.figures.entered ≤ k) × (g.figures.waited ≤ g.figures.answered * m)

-- entered is what waits, rings, was answered, was abandoned and was moved
abbrev pub AddsUp : Rows → GroupRecord → Type 0
AddsUp s g = g.figures.entered ≡ count (waits_in g.device) s.connections + count (rings_from g.device) s.connections
    + g.figures.answered + g.figures.abandoned + g.figures.moved

-- all rules but that the last stamp is within the limit of requests
pub record KeepsRules (s : Rows) : Type 0 where
  pub rules : Rules s
  pub sizes : Sizes s
  pub last_call : s.last_call ≤ s.last_stamp
  pub last_monitor : s.last_monitor ≤ s.last_stamp
  pub timed : Timed s.last_stamp s.last_moment s
  pub places : OnePlace s
  pub figures : Every (IsCountedUpTo s.last_stamp s.last_moment) s.groups
  pub last_event : s.last_event ≤ 100000 * s.last_stamp
  pub offers : (g : GroupRecord) → Among g s.groups → HasNoOffer s g.device
  pub monitors : Monitored s
  pub balance : Every (AddsUp s) s.groups
  pub priorities : Every (λ (g : GroupRecord). g.priority ≤ greatest_priority) s.groups
