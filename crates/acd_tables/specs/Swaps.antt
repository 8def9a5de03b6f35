-- A change of the exact sets: what it adds, and what it removes.
use Rattle.std.specs.Prelude.{◌≡◌, ⊤, ℕ, Bool, false, not, ◌&&◌, ◌||◌, ◌==◌, true, List, [], ◌∷◌, filter, Option, Some, None, if◌then◌else◌}
use Rattle.std.specs.declared.cmp.Ordering.{Ordering}
use Rattle.std.specs.Ordering.{nat_cmp, is_eq}
use Rattle.std.specs.BTreeMap.{BTreeMap}
use Rattle.std.specs.BTreeSet.{BTreeSet, contains}
use Rattle.acd_terms.specs.Groups.{is_one_of}
use Rattle.acd_terms.specs.States.{is_queued, is_ready}
use Rattle.acd_terms.specs.Numbers.{Device, Agent, CallId, Stamp, Priority}
use Rattle.acd_terms.specs.declared.rows.Rows.{Rows}
use Rattle.acd_terms.specs.declared.record.GroupRecord.{GroupRecord}
use Rattle.acd_terms.specs.declared.record.AgentRecord.{AgentRecord}
use Rattle.acd_terms.specs.declared.record.ConnectionRecord.{ConnectionRecord}
use Rattle.acd_model.specs.Scans.{group_of, agent_of, agent_at, connection_of, has}
use Rattle.acd_model.specs.Choice.{waiting_pair, ready_pair}
use Rattle.acd_model.specs.Writes.{with_connection, without_connection}
use Rattle.acd_tables.specs.Sets.{holds, has_set, Stays}
use Rattle.acd_tables.specs.IndexedRows.{PairSets, HasOffer, lists, ListsRecord, is_busying, pair_cmp, waits_at, is_able_since, OfferKey, offer_cmp, offer_key, ListsOffers, SeatMap, agent_seated}
use Rattle.acd_tables.specs.Uses.{is_there_and}
use Rattle.acd_tables.specs.declared.indexes.Indexes.{Indexes}
use Rattle.acd_tables.specs.declared.indexes.Entries.{Entries}
use Rattle.acd_tables.specs.declared.indexes.Swap.{Swap}

-- the entry is of the group
abbrev pub is_of_group : {E : Type 0} → Option (List Device × E) → Device → Bool
is_of_group None g = false
is_of_group (Some k) g = is_one_of k.0 g

module _ {E : Type 0} (cmp : E → E → Ordering) where
  -- the entry is this member, in the set of one of its groups
  abbrev pub is_swap_entry : Option (List Device × E) → Device → E → Bool
  is_swap_entry None g e = false
  is_swap_entry (Some k) g e = is_one_of k.0 g && is_eq (cmp k.1 e)

  -- the member is in the set of the group, once one entry has left and another has entered; it was there before, or not
  abbrev pub is_in_after : Option (List Device × E) → Option (List Device × E) → Device → E → Bool → Bool
  is_in_after leaving entering g e before = not (is_swap_entry leaving g e) && (is_swap_entry entering g e || before)

  -- the sets with the entry
  pub record Enters (old new : BTreeMap Device (BTreeSet E)) (entry : Option (List Device × E)) : Type 0 where
    pub sets : (g : Device) → has_set nat_cmp cmp new g ≡ has_set nat_cmp cmp old g
    pub members : (g : Device) (e : E) → holds nat_cmp cmp new g e ≡ (is_swap_entry entry g e || holds nat_cmp cmp old g e)

  -- the sets without the entry
  pub record Leaves (old new : BTreeMap Device (BTreeSet E)) (entry : Option (List Device × E)) : Type 0 where
    pub sets : (g : Device) → has_set nat_cmp cmp new g ≡ has_set nat_cmp cmp old g
    pub members : (g : Device) (e : E) → holds nat_cmp cmp new g e ≡ (not (is_swap_entry entry g e) && holds nat_cmp cmp old g e)

  -- removing the entry gives the sets of before
  abbrev pub Undoes : BTreeMap Device (BTreeSet E) → BTreeMap Device (BTreeSet E) → Option (List Device × E) → Type 0
  Undoes old new entry = (g : Device) (e : E) → holds nat_cmp cmp old g e ≡ (not (is_swap_entry entry g e) && holds nat_cmp cmp new g e)

  -- the groups of the member, but for those of the other entry where it is the same member's
  abbrev pub left_of : List Device → E → Option (List Device × E) → List Device
  left_of gs k None = gs
  left_of gs k (Some other) = if is_eq (cmp k other.1) then filter (λ (g : Device). not (is_one_of other.0 g)) gs else gs

  -- the first entry, but where it is the second too
  abbrev pub LeavesBut : Option (List Device × E) → Option (List Device × E) → Option (List Device × E) → Type 0
  LeavesBut before after leaving = (g : Device) (e : E) → is_swap_entry leaving g e ≡ (is_swap_entry before g e && not (is_swap_entry after g e))

-- the place of a queued connection
abbrev pub queue_entry : Option ConnectionRecord → Option (List Device × (Stamp × CallId))
queue_entry None = None
queue_entry (Some c) = if is_queued c.state then Some (c.device ∷ [], waiting_pair c) else None

-- the place of a ready agent in each of its groups
abbrev pub ready_entry : Option AgentRecord → Option (List Device × (Stamp × Agent))
ready_entry None = None
ready_entry (Some a) = if is_ready a.state then Some (a.groups, ready_pair a) else None

-- all but the exact sets and the offers is as before
pub record KeepsRest (old new : Indexes) : Type 0 where
  pub seats : new.seats ≡ old.seats
  pub lines : new.lines ≡ old.lines
  pub ringing : new.ringing ≡ old.ringing
  pub working : new.working ≡ old.working
  pub queued : new.queued ≡ old.queued

abbrev pub Offers : Rows → Indexes → Type 0
Offers s x = ListsOffers s x.queues x.ready x.offering

-- the group is indexed, if it is planned
abbrev pub ListsGroup : Rows → BTreeSet OfferKey → Device → Type 0
ListsGroup s offering g = (r : GroupRecord) → group_of s g ≡ Some r → ListsRecord offering r

-- the groups that pass are indexed
abbrev pub ListsEach : Rows → BTreeSet OfferKey → (Device → Bool) → Type 0
ListsEach s offering passes = (g : Device) (r : GroupRecord) → passes g ≡ true → group_of s g ≡ Some r → ListsRecord offering r

-- these groups are indexed
abbrev pub ListsGroups : Rows → BTreeSet OfferKey → List Device → Type 0
ListsGroups s offering gs = ListsEach s offering (is_one_of gs)

-- of the groups that pass, those in which somebody waits pass another test
abbrev pub KeepsWaiting : PairSets → (Device → Bool) → (Device → Bool) → Type 0
KeepsWaiting queues all some = (g : Device) (p : ℕ × ℕ) → all g ≡ true → lists queues g p ≡ true → some g ≡ true

-- no group was added to those that are indexed
abbrev pub ListsNoMore : BTreeSet OfferKey → BTreeSet OfferKey → Type 0
ListsNoMore old new = (k : OfferKey) → contains offer_cmp new k ≡ true → contains offer_cmp old k ≡ true

-- the group has an offer, if it is indexed
abbrev pub GroupJust : Rows → PairSets → PairSets → BTreeSet OfferKey → Device → Type 0
GroupJust s queues ready offering g = (r : GroupRecord) → group_of s g ≡ Some r → ListsRecord offering r → HasOffer queues ready g

-- each of these groups that is indexed has an offer
abbrev pub GroupsJust : Rows → PairSets → PairSets → BTreeSet OfferKey → List Device → Type 0
GroupsJust s queues ready offering gs = (g : Device) (r : GroupRecord) → is_one_of gs g ≡ true → group_of s g ≡ Some r → ListsRecord offering r → HasOffer queues ready g

-- the same of the groups of an entry
abbrev pub EntryJust : {E : Type 0} → Rows → PairSets → PairSets → BTreeSet OfferKey → Option (List Device × E) → Type 0
EntryJust s queues ready offering None = ⊤
EntryJust s queues ready offering (Some k) = GroupsJust s queues ready offering k.0

-- and of both entries
pub record IsPruned (s : Rows) (queues ready : PairSets) (offering : BTreeSet OfferKey) (entries : Entries) : Type 0 where
  pub of_queue : EntryJust s queues ready offering entries.queue
  pub of_ready : EntryJust s queues ready offering entries.ready

-- the same of these indexes
abbrev pub Pruned : Rows → Indexes → Entries → Type 0
Pruned s x entries = IsPruned s x.queues x.ready x.offering entries

-- the indexes with the entries
pub record Entered (s : Rows) (old new : Indexes) (entries : Entries) : Type 0 where
  pub queues : Enters pair_cmp old.queues new.queues entries.queue
  pub ready : Enters pair_cmp old.ready new.ready entries.ready
  pub offers : Offers s new
  pub rest : KeepsRest old new

-- removing the entries gives the indexes of before
pub record Undone (old new : Indexes) (entries : Entries) : Type 0 where
  pub queues : Undoes pair_cmp old.queues new.queues entries.queue
  pub ready : Undoes pair_cmp old.ready new.ready entries.ready

-- nothing but the offers may have changed
pub record IndexesUntouched (s : Rows) (old new : Indexes) : Type 0 where
  pub queues : Stays nat_cmp pair_cmp old.queues new.queues
  pub ready : Stays nat_cmp pair_cmp old.ready new.ready
  pub offers : Offers s new
  pub rest : KeepsRest old new

-- the indexes without the entries
pub record TakenOut (s : Rows) (old new : Indexes) (entries : Entries) : Type 0 where
  pub queues : Leaves pair_cmp old.queues new.queues entries.queue
  pub ready : Leaves pair_cmp old.ready new.ready entries.ready
  pub offers : Offers s new
  pub pruned : Pruned s new entries
  pub rest : KeepsRest old new

-- one of the two
abbrev pub differ : Bool → Bool → Bool
differ a b = if a then not b else b

-- the place of the ready agent at the device, where its connection makes the station busy or free
abbrev pub swapped_seat : Rows → Device → Option ConnectionRecord → Option ConnectionRecord → Option (List Device × (Stamp × Agent))
swapped_seat s device old new = if differ (is_there_and is_busying old) (is_there_and is_busying new) then ready_entry (agent_at s device) else None

-- the connection that may be at a key
abbrev pub IsAt : CallId → Device → Option ConnectionRecord → Type 0
IsAt call device None = Unit {0}
IsAt call device (Some c) = (c.call ≡ call) × (c.device ≡ device)

-- the rows with the connection, or without one
abbrev pub with_or_without : Rows → CallId → Device → Option ConnectionRecord → Rows
with_or_without s call device None = without_connection s call device
with_or_without s call device (Some c) = with_connection s c

-- the entries added and removed make the sets of t from those of s
pub record SwapsTo (s t : Rows) (swap : Swap) : Type 0 where
  pub waiting : (g : Device) (p : ℕ × ℕ) → waits_at p.0 (connection_of t p.1 g) ≡ is_in_after pair_cmp swap.leaving.queue swap.entering.queue g p (waits_at p.0 (connection_of s p.1 g))
  pub able : (g : Device) (p : ℕ × ℕ) → is_able_since t g p.0 (agent_of t p.1) ≡ is_in_after pair_cmp swap.leaving.ready swap.entering.ready g p (is_able_since s g p.0 (agent_of s p.1))

-- one where the connection that may be there is queued
abbrev pub one_queued : Option ConnectionRecord → ℕ
one_queued None = 0
one_queued (Some c) = if is_queued c.state then 1 else 0

-- whoever is at the agent's station is that agent
abbrev pub IsFreeFor : SeatMap → AgentRecord → Type 0
IsFreeFor seats item = (d : Device) (n : Agent) → has item.station d ≡ true → has (agent_seated seats d) n ≡ true → item.agent ≡ n

-- the agent is at the station, if it has one
abbrev pub Sits : SeatMap → SeatMap → Option Device → Agent → Type 0
Sits old new station agent = (d : Device) → agent_seated new d ≡ (if has station d then Some agent else agent_seated old d)

-- the first station, and not the second
abbrev pub quits : Option Device → Option Device → Device → Bool
quits one other d = has one d && not (has other d)

-- nobody is at the first station, but where it is the second
abbrev pub GetsUp : SeatMap → SeatMap → Option Device → Option Device → Type 0
GetsUp old new one other = (d : Device) → agent_seated new d ≡ (if quits one other d then None else agent_seated old d)

-- nothing is in the indexes
pub record IsBlank (x : Indexes) : Type 0 where
  pub queues : x.queues.entries ≡ []
  pub ready : x.ready.entries ≡ []
  pub seats : x.seats.entries ≡ []
  pub lines : x.lines.keys ≡ []
  pub ringing : x.ringing.keys ≡ []
  pub working : x.working.keys ≡ []
  pub queued : x.queued ≡ 0

-- the group that may be there has the priority
abbrev pub has_rank : Option GroupRecord → Priority → Bool
has_rank None priority = false
has_rank (Some g) priority = g.priority == priority

-- the key is that of the group before, and it has another priority now
abbrev pub loses_rank : Option GroupRecord → Priority → OfferKey → Bool
loses_rank None priority k = false
loses_rank (Some g) priority k = not (g.priority == priority) && is_eq (offer_cmp (offer_key g) k)
