-- The indexes through a change.
use Rattle.std.proofs.Common.{◌≡◌, ℕ, ◌+◌, ◌≤◌, Bool, true, false, cond, ◌&&◌, ◌||◌, not, Option, Some, None, is_some, refl, ap, sym, ◌∙◌, subst, length, arith, List, [], ◌∷◌}
use Rattle.std.specs.Prelude.{◌==◌, filter}
use Rattle.std.specs.List.{list_any}
use Rattle.std.specs.declared.cmp.Ordering.{Ordering}
use Rattle.std.specs.Ordering.{is_eq, nat_cmp}
use Rattle.std.specs.BTreeMap.{is_at}
use Rattle.std.specs.Map.{lookup}
use Rattle.std.specs.BTreeSet.{BTreeSet, contains}
use Rattle.std.proofs.lemmas.Bool.{and_parts, or_right, eqb-true, eq-eqb, not-true, false_from_ne_true}
use Rattle.acd_terms.specs.Groups.{is_one_of}
use Rattle.acd_terms.specs.Lists.{IsAscending, find_by, put_by, remove_by}
use Rattle.acd_terms.specs.States.{is_queued, is_ready}
use Rattle.acd_terms.specs.Rows.{empty_rows}
use Rattle.acd_terms.specs.declared.rows.Rows.{Rows}
use Rattle.acd_terms.specs.declared.rows.Limits.{Limits}
use Rattle.acd_terms.specs.declared.record.GroupRecord.{GroupRecord}
use Rattle.acd_terms.specs.declared.record.StationRecord.{StationRecord}
use Rattle.acd_terms.specs.declared.record.AgentRecord.{AgentRecord}
use Rattle.acd_terms.specs.declared.record.CallRecord.{CallRecord}
use Rattle.acd_terms.specs.declared.record.MonitorRecord.{MonitorRecord}
use Rattle.acd_terms.specs.declared.record.ConnectionRecord.{ConnectionRecord}
use Rattle.acd_model.specs.Rules.Plan.{group_order, agent_order, connection_order}
use Rattle.acd_model.specs.Scans.{is_group, group_of, agent_of, connection_of, at_group, at_agent, at_connection, queued_in_all, has}
use Rattle.acd_model.specs.Writes.{with_group, with_station, with_agent, with_call, with_connection, with_monitor, without_call, without_connection, without_monitor, with_last, with_last_ids}
use Rattle.acd_tables.specs.Sets.{holds, holds_in, has_set, Stays, SameMembers, SameKeysBut, HasSet, Inserted, Removed}
use Rattle.acd_tables.specs.IndexedRows.{PairSets, pair_cmp, lists, waits_at, is_busying, is_busy_at, is_free, is_able_since, rings, works, agent_station, Seats, Lines, Ringing, Working, IsIndexed, SeatMap, OfferKey, offer_cmp, offer_key, HasNoEntry, ListsOffers}
use Rattle.acd_tables.specs.Swaps.{is_swap_entry, Enters, Offers, Entered, Undone, IndexesUntouched, TakenOut, SwapsTo, IsAt, with_or_without, one_queued, IsBlank, has_rank, loses_rank}
use Rattle.acd_tables.specs.declared.indexes.Indexes.{Indexes}
use Rattle.acd_tables.specs.declared.indexes.Entries.{Entries}
use Rattle.acd_tables.specs.declared.indexes.Swap.{Swap}
use Rattle.acd_lemmas.proofs.Lists.{some_is, count_length, ascending-put, filter_length}
use Rattle.acd_lemmas.proofs.State.{agents_total, groups_total, group_put, group_put_found, group_key, count_new, count_old, count_less}
use Rattle.acd_tables.proofs.OfferLemmas.{undone, offers-same, offers-of, offers-more, key_itself, key_number, key_priority}
use Rattle.acd_tables.proofs.SwapLemmas.{Replaces-put, Replaces-removed}
use Rattle.acd_tables.proofs.IndexingLemmas.{Ringing-put, Lines-removed, Working-kept, Seats-kept}
use Rattle.acd_lemmas.proofs.KeyedLists.{eq_key}

-- where only the offers may have changed
pub IsIndexed-untouched : (s : Rows) (x y : Indexes) → IsIndexed s x → IndexesUntouched s x y → IsIndexed s y
IsIndexed-untouched s x y h u = record {
  groups = h.groups;
  agents = h.agents;
  connections = h.connections;
  queues = λ g e. u.queues.sets g ∙ h.queues g e;
  readies = λ g e. u.ready.sets g ∙ h.readies g e;
  waiting = λ g p. u.queues.members g p ∙ h.waiting g p;
  able = λ g p. u.ready.members g p ∙ h.able g p;
  offers = u.offers;
  seats = subst (Seats s) (sym u.rest.seats) h.seats;
  lines = subst (Lines s) (sym u.rest.lines) h.lines;
  ringing = subst (Ringing s) (sym u.rest.ringing) h.ringing;
  working = subst (Working s) (sym u.rest.working) h.working;
  queued = u.rest.queued ∙ h.queued;
}

-- v has the entries, and the rest of it fits the rows
record Fits (t : Rows) (x v : Indexes) (entries : Entries) : Type 0 where
  queues : Enters pair_cmp x.queues v.queues entries.queue
  ready : Enters pair_cmp x.ready v.ready entries.ready
  seats : Seats t v.seats
  lines : Lines t v.lines
  ringing : Ringing t v.ringing
  working : Working t v.working

-- the entry was removed again
IsIndexed-undone : (s : Rows) (x v z : Indexes) (entries undo : Entries) → IsIndexed s x → Fits s x v entries → Undone x v undo → TakenOut s v z undo
    → v.queued ≡ x.queued → IsIndexed s z
IsIndexed-undone s x v z entries undo h e u o same = record {
  groups = h.groups;
  agents = h.agents;
  connections = h.connections;
  queues = λ g f. o.queues.sets g ∙ e.queues.sets g ∙ h.queues g f;
  readies = λ g f. o.ready.sets g ∙ e.ready.sets g ∙ h.readies g f;
  waiting = λ g p. undone x.queues v.queues z.queues undo.queue u.queues o.queues g p ∙ h.waiting g p;
  able = λ g p. undone x.ready v.ready z.ready undo.ready u.ready o.ready g p ∙ h.able g p;
  offers = o.offers;
  seats = subst (Seats s) (sym o.rest.seats) e.seats;
  lines = subst (Lines s) (sym o.rest.lines) e.lines;
  ringing = subst (Ringing s) (sym o.rest.ringing) e.ringing;
  working = subst (Working s) (sym o.rest.working) e.working;
  queued = o.rest.queued ∙ same ∙ h.queued;
}

pub group_same : (s t : Rows) → t.groups ≡ s.groups → (g : ℕ) → group_of t g ≡ group_of s g
unfolding group_of
group_same s t groups g = ap (λ (l : List GroupRecord). find_by (at_group g) l) groups

groups_same : (s t : Rows) → t.groups ≡ s.groups → (g : ℕ) → is_group t g ≡ is_group s g
unfolding group_of
groups_same s t groups g = ap (λ (l : List GroupRecord). is_some (find_by (at_group g) l)) groups

-- the entries added and removed make the sets of the new rows
IsIndexed-swapped : (s t : Rows) (x v z : Indexes) (swap : Swap) (n : ℕ) → IsIndexed s x → Fits t x v swap.entering → TakenOut t v z swap.leaving
    → SwapsTo s t swap → t.groups ≡ s.groups → IsAscending agent_order t.agents → IsAscending connection_order t.connections
    → n ≡ length (queued_in_all t) → IsIndexed t (record z { queued = n })
IsIndexed-swapped s t x v z swap n h e o w groups agents connections queued = record {
  groups = subst (IsAscending group_order) (sym groups) h.groups;
  agents = agents;
  connections = connections;
  queues = λ g f. o.queues.sets g ∙ e.queues.sets g ∙ h.queues g (sym (groups_same s t groups g) ∙ f);
  readies = λ g f. o.ready.sets g ∙ e.ready.sets g ∙ h.readies g (sym (groups_same s t groups g) ∙ f);
  waiting = λ g p. o.queues.members g p
      ∙ ap (λ b. not (is_swap_entry pair_cmp swap.leaving.queue g p) && b)
      (e.queues.members g p ∙ ap (λ b. is_swap_entry pair_cmp swap.entering.queue g p || b) (h.waiting g p))
      ∙ sym (w.waiting g p);
  able = λ g p. o.ready.members g p
      ∙ ap (λ b. not (is_swap_entry pair_cmp swap.leaving.ready g p) && b)
      (e.ready.members g p ∙ ap (λ b. is_swap_entry pair_cmp swap.entering.ready g p || b) (h.able g p))
      ∙ sym (w.able g p);
  offers = o.offers;
  seats = subst (Seats t) (sym o.rest.seats) e.seats;
  lines = subst (Lines t) (sym o.rest.lines) e.lines;
  ringing = subst (Ringing t) (sym o.rest.ringing) e.ringing;
  working = subst (Working t) (sym o.rest.working) e.working;
  queued = queued;
}

-- how many are queued after a change of one connection
removed_none : {X : Type 0} (at : X → Ordering) (xs : List X) → find_by at xs ≡ None → remove_by at xs ≡ xs
removed_none at [] e = refl
removed_none at (x ∷ xs) e = by (is_eq (at x)) e (removed_none at xs)
  where
    by : (b : Bool) → cond b (Some x) (find_by at xs) ≡ None → (find_by at xs ≡ None → remove_by at xs ≡ xs) → cond b xs (x ∷ remove_by at xs) ≡ x ∷ xs
    by true f more = absurd (cc f)
    by false f more = ap (λ l. x ∷ l) (more f)

pub queued-swapped : (s : Rows) (call device : ℕ) (new : Option ConnectionRecord) → IsAscending connection_order s.connections → IsAt call device new
    → length (queued_in_all (with_or_without s call device new)) + one_queued (connection_of s call device) ≡ one_queued new + length (queued_in_all s)
unfolding queued_in_all with_connection without_connection connection_of
queued-swapped s call device None ascending at = by (connection_of s call device) refl
  where
    by : (o : Option ConnectionRecord) → connection_of s call device ≡ o
        → length (filter (λ (c : ConnectionRecord). is_queued c.state) (remove_by (at_connection call device) s.connections)) + one_queued o
        ≡ 0 + length (filter (λ (c : ConnectionRecord). is_queued c.state) s.connections)
    by None e =
        ap (λ (l : List ConnectionRecord). length (filter (λ (c : ConnectionRecord). is_queued c.state) l) + 0)
        (removed_none (at_connection call device) s.connections e)
        ∙ omega arith
    by (Some z) e =
        let f : ConnectionRecord → Bool = λ c. is_queued c.state in
        let less = count_less f s call device z e in
        let a = count_length f (remove_by (at_connection call device) s.connections) in
        let b = count_length f s.connections in
        omega (arith, less, a, b)
queued-swapped s call device (Some c) ascending at = by (connection_of s call device) refl
  where
    by : (o : Option ConnectionRecord) → connection_of s call device ≡ o
        → length (filter (λ (c : ConnectionRecord). is_queued c.state) (put_by (connection_order c) s.connections c)) + one_queued o
        ≡ one_queued (Some c) + length (filter (λ (c : ConnectionRecord). is_queued c.state) s.connections)
    by None e =
        let f : ConnectionRecord → Bool = λ z. is_queued z.state in
        let here : connection_of s c.call c.device ≡ None = ap (λ k. connection_of s k c.device) at.0 ∙ ap (connection_of s call) at.1 ∙ e in
        let more = count_new f s c here in
        let a = count_length f (put_by (connection_order c) s.connections c) in
        let b = count_length f s.connections in
        omega (arith, more, a, b)
    by (Some z) e =
        let f : ConnectionRecord → Bool = λ z. is_queued z.state in
        let here : connection_of s c.call c.device ≡ Some z = ap (λ k. connection_of s k c.device) at.0 ∙ ap (connection_of s call) at.1 ∙ e in
        let more = count_old f s c z ascending here in
        let a = count_length f (put_by (connection_order c) s.connections c) in
        let b = count_length f s.connections in
        omega (arith, more, a, b)

pub queued_most : (s : Rows) → length (queued_in_all s) ≤ length s.connections
unfolding queued_in_all
queued_most s = filter_length (λ (c : ConnectionRecord). is_queued c.state) s.connections

pub queued_least : (s : Rows) (call device : ℕ) → IsAscending connection_order s.connections
    → one_queued (connection_of s call device) ≤ length (queued_in_all s)
queued_least s call device ascending = let e = queued-swapped s call device None ascending tt in omega (arith, e)

-- other rows with the same agents and connections
module _ (s t : Rows) (agents : t.agents ≡ s.agents) (connections : t.connections ≡ s.connections) where
  found_same : (k d : ℕ) → connection_of t k d ≡ connection_of s k d
  unfolding connection_of
  found_same k d = ap (λ (l : List ConnectionRecord). find_by (at_connection k d) l) connections

  agent_same : (n : ℕ) → agent_of t n ≡ agent_of s n
  unfolding agent_of
  agent_same n = ap (λ (l : List AgentRecord). find_by (at_agent n) l) agents

  free_same : (o : Option ℕ) → is_free t o ≡ is_free s o
  unfolding is_busy_at
  free_same None = refl
  free_same (Some d) = ap (λ (l : List ConnectionRecord). not (list_any (λ (c : ConnectionRecord). c.device == d && is_busying c) l)) connections

  able_same : (g n : ℕ) (o : Option AgentRecord) → is_able_since t g n o ≡ is_able_since s g n o
  able_same g n None = refl
  able_same g n (Some a) = ap (λ b. (a.stamp == n) && (is_one_of a.groups g && (is_ready a.state && b))) (free_same a.station)

  pub IsIndexed-lists : (x : Indexes) (queues ready : PairSets) → IsIndexed s x → IsAscending group_order t.groups
      → SameMembers nat_cmp pair_cmp x.queues queues → SameMembers nat_cmp pair_cmp x.ready ready
      → ((g : ℕ) → is_group t g ≡ true → has_set nat_cmp pair_cmp queues g ≡ true) → ((g : ℕ) → is_group t g ≡ true → has_set nat_cmp pair_cmp ready g ≡ true)
      → (offering : BTreeSet OfferKey) → ListsOffers t queues ready offering
      → IsIndexed t (record x { queues = queues; ready = ready; offering = offering })
  unfolding queued_in_all
  IsIndexed-lists x queues ready h groups mq mr q r offering offers = record {
    groups = groups;
    agents = subst (IsAscending agent_order) (sym agents) h.agents;
    connections = subst (IsAscending connection_order) (sym connections) h.connections;
    queues = q;
    readies = r;
    waiting = λ g p. mq g p ∙ h.waiting g p ∙ ap (waits_at p.0) (sym (found_same p.1 g));
    able = λ g p. mr g p ∙ h.able g p ∙ ap (is_able_since s g p.0) (sym (agent_same p.1)) ∙ sym (able_same g p.0 (agent_of t p.1));
    offers = offers;
    seats = Seats-kept s t x.seats agent_same h.seats;
    lines = λ p. h.lines p ∙ sym (ap is_some (found_same p.1 p.0));
    ringing = λ p. h.ringing p ∙ sym (ap rings (found_same p.0 p.1));
    working = Working-kept s t x.working agent_same h.working;
    queued = h.queued ∙ ap (λ (l : List ConnectionRecord). length (filter (λ (c : ConnectionRecord). is_queued c.state) l)) (sym connections);
  }

  pub IsIndexed-kept : (x : Indexes) → t.groups ≡ s.groups → IsIndexed s x → IsIndexed t x
  IsIndexed-kept x groups h = IsIndexed-lists x x.queues x.ready h (subst (IsAscending group_order) (sym groups) h.groups) (λ g p. refl) (λ g p. refl)
      (λ g e. h.queues g (sym (groups_same s t groups g) ∙ e))
      (λ g e. h.readies g (sym (groups_same s t groups g) ∙ e))
      x.offering (offers-of s t x.queues x.ready x.offering (group_same s t groups) h.offers)

pub kept-station : (s : Rows) (r : StationRecord) (x : Indexes) → IsIndexed s x → IsIndexed (with_station s r) x
unfolding with_station
kept-station s r x h = IsIndexed-kept s (with_station s r) refl refl x refl h

pub kept-call : (s : Rows) (r : CallRecord) (x : Indexes) → IsIndexed s x → IsIndexed (with_call s r) x
unfolding with_call
kept-call s r x h = IsIndexed-kept s (with_call s r) refl refl x refl h

pub kept-monitor : (s : Rows) (r : MonitorRecord) (x : Indexes) → IsIndexed s x → IsIndexed (with_monitor s r) x
unfolding with_monitor
kept-monitor s r x h = IsIndexed-kept s (with_monitor s r) refl refl x refl h

pub kept-no_call : (s : Rows) (c : ℕ) (x : Indexes) → IsIndexed s x → IsIndexed (without_call s c) x
unfolding without_call
kept-no_call s c x h = IsIndexed-kept s (without_call s c) refl refl x refl h

pub kept-no_monitor : (s : Rows) (m : ℕ) (x : Indexes) → IsIndexed s x → IsIndexed (without_monitor s m) x
unfolding without_monitor
kept-no_monitor s m x h = IsIndexed-kept s (without_monitor s m) refl refl x refl h

pub kept-last : (s : Rows) (k m e : ℕ) (x : Indexes) → IsIndexed s x → IsIndexed (with_last s k m e) x
unfolding with_last
kept-last s k m e x h = IsIndexed-kept s (with_last s k m e) refl refl x refl h

pub kept-last_ids : (s : Rows) (c m : ℕ) (x : Indexes) → IsIndexed s x → IsIndexed (with_last_ids s c m) x
unfolding with_last_ids
kept-last_ids s c m x h = IsIndexed-kept s (with_last_ids s c m) refl refl x refl h

-- a group's key is indexed where it may have an offer
pub record MayBeIndexed (x : Indexes) (item : GroupRecord) (inserted : BTreeSet OfferKey) : Type 0 where
  pub belongs : Bool
  pub none : belongs ≡ false → HasNoEntry x.queues x.ready item.device
  pub insertion : Inserted offer_cmp x.offering inserted (offer_key item) belongs

-- a group's record is put: its key is indexed before, and the one of its old priority is removed after
ranked-offers : (s : Rows) (item : GroupRecord) (old : Option GroupRecord) (x : Indexes) (inserted ranked : BTreeSet OfferKey)
    → old ≡ group_of s item.device → Offers s x → MayBeIndexed x item inserted → SameKeysBut offer_cmp (loses_rank old item.priority) inserted ranked
    → ListsOffers (with_group s item) x.queues x.ready ranked
ranked-offers s item old x inserted ranked found offers m removal g r p q there h l = by (item.device == g) refl
  where
    at : (b : Bool) → (item.device == g) ≡ b → cond b (Some item) (group_of s g) ≡ Some r
    at b e = ap (λ v. cond v (Some item) (group_of s g)) (sym e) ∙ sym (group_put_found s item g) ∙ there

    -- the key of the group isn't the one that is removed
    keeps : (o : Option GroupRecord) → loses_rank o item.priority (offer_key item) ≡ false
    keeps None = refl
    keeps (Some z) = false_from_ne_true _ (λ e.
        let parts = and_parts (not (z.priority == item.priority)) (is_eq (offer_cmp (offer_key z) (offer_key item))) e in
        let differ = not-true (z.priority == item.priority) parts.0 in
        let same = eq-eqb z.priority item.priority (sym (key_priority (offer_key z) (offer_key item) parts.1)) in cc (differ, same))

    -- and another group's isn't either
    others : (o : Option GroupRecord) → o ≡ group_of s item.device → (item.device == g) ≡ false → group_of s g ≡ Some r
        → loses_rank o item.priority (offer_key r) ≡ false
    others None w e f = refl
    others (Some z) w e f = false_from_ne_true _ (λ k.
        let parts = and_parts (not (z.priority == item.priority)) (is_eq (offer_cmp (offer_key z) (offer_key r))) k in
        let same : item.device ≡ g = sym (group_key s item.device z (sym w)) ∙ key_number (offer_key z) (offer_key r) parts.1 ∙ group_key s g r f in
        let yes = eq-eqb item.device g same in cc (e, yes))

    belonging : (b : Bool) → m.belongs ≡ b → (item.device == g) ≡ true → contains offer_cmp inserted (offer_key item) ≡ true
    belonging true e f =
        m.insertion (offer_key item) ∙ ap (λ v. (v && is_eq (offer_cmp (offer_key item) (offer_key item))) || contains offer_cmp x.offering (offer_key item)) e
        ∙ ap (λ v. v || contains offer_cmp x.offering (offer_key item)) (key_itself (offer_key item))
    belonging false e f =
        let same : item.device ≡ g = eqb-true item.device g f in
        let no = m.none e p q (ap (λ v. lists x.queues v p) same ∙ h) in
        let yes : lists x.ready item.device q ≡ true = ap (λ v. lists x.ready v q) same ∙ l in absurd (cc (no, yes))

    by : (b : Bool) → (item.device == g) ≡ b → contains offer_cmp ranked (offer_key r) ≡ true
    by true e =
        let same : item ≡ r = some_is item r (at true e) in
        ap (λ (z : GroupRecord). contains offer_cmp ranked (offer_key z)) (sym same) ∙ removal (offer_key item) (keeps old) ∙ belonging m.belongs refl e
    by false e =
        let f : group_of s g ≡ Some r = at false e in
        removal (offer_key r) (others old found e f) ∙ m.insertion (offer_key r)
        ∙ or_right (m.belongs && is_eq (offer_cmp (offer_key item) (offer_key r))) (contains offer_cmp x.offering (offer_key r)) (offers g r p q f h l)

-- a group with its two sets
pub IsIndexed-group : (s : Rows) (item : GroupRecord) (old : Option GroupRecord) (x : Indexes) (queues ready : PairSets) (inserted ranked : BTreeSet OfferKey)
    → old ≡ group_of s item.device → IsIndexed s x
    → HasSet nat_cmp pair_cmp x.queues queues item.device → HasSet nat_cmp pair_cmp x.ready ready item.device
    → MayBeIndexed (record x { queues = queues; ready = ready }) item inserted → SameKeysBut offer_cmp (loses_rank old item.priority) inserted ranked
    → IsIndexed (with_group s item) (record x { queues = queues; ready = ready; offering = ranked })
unfolding with_group
IsIndexed-group s item old x queues ready inserted ranked found h hq hr m removal =
    IsIndexed-lists s (with_group s item) refl refl x queues ready h (ascending-put group_order groups_total item s.groups h.groups) hq.members hr.members
    (λ g e. hq.sets g ∙ there g (is_eq (nat_cmp item.device g)) (has_set nat_cmp pair_cmp x.queues g) (eq_key item.device g) (h.queues g) e)
    (λ g e. hr.sets g ∙ there g (is_eq (nat_cmp item.device g)) (has_set nat_cmp pair_cmp x.ready g) (eq_key item.device g) (h.readies g) e)
    ranked (ranked-offers s item old (record x { queues = queues; ready = ready }) inserted ranked found
    (offers-same s x.queues queues x.ready ready x.offering hq.members hr.members h.offers) m removal)
  where
    there : (g : ℕ) (a b : Bool) → a ≡ (item.device == g) → (is_group s g ≡ true → b ≡ true) → is_group (with_group s item) g ≡ true → (a || b) ≡ true
    there g true b k f e = refl
    there g false b k f e = f (sym (group_put s item g ∙ ap (λ v. v || is_group s g) (sym k)) ∙ e)

-- a group's record is put at the priority that it has
pub IsIndexed-ranked : (s : Rows) (item : GroupRecord) (x : Indexes) (old : Option GroupRecord) → old ≡ group_of s item.device
    → has_rank old item.priority ≡ true → IsIndexed s x → IsIndexed (with_group s item) x
unfolding with_group
IsIndexed-ranked s item x None f e h = absurd (cc (e))
IsIndexed-ranked s item x (Some z) f e h =
    IsIndexed-lists s (with_group s item) refl refl x x.queues x.ready h (ascending-put group_order groups_total item s.groups h.groups) (λ g p. refl)
    (λ g p. refl)
    (λ g k. h.queues g (planned g k)) (λ g k. h.readies g (planned g k)) x.offering offers
  where
    there : is_group s item.device ≡ true
    there = ap (λ (o : Option GroupRecord). is_some o) (sym f)

    planned : (g : ℕ) → is_group (with_group s item) g ≡ true → is_group s g ≡ true
    planned g k = by (item.device == g) refl
      where
        by : (b : Bool) → (item.device == g) ≡ b → is_group s g ≡ true
        by true i = ap (is_group s) (sym (eqb-true item.device g i)) ∙ there
        by false i = ap (λ b. b || is_group s g) (sym i) ∙ sym (group_put s item g) ∙ k

    same_key : offer_key z ≡ offer_key item
    same_key =
        ap (λ (n : ℕ). offer_key (record z { priority = n })) (eqb-true z.priority item.priority e)
        ∙ ap (λ (n : ℕ). offer_key (record item { device = n })) (group_key s item.device z (sym f))

    offers : ListsOffers (with_group s item) x.queues x.ready x.offering
    offers g r p q found k l = by (item.device == g) refl
      where
        at : (b : Bool) → (item.device == g) ≡ b → cond b (Some item) (group_of s g) ≡ Some r
        at b i = ap (λ v. cond v (Some item) (group_of s g)) (sym i) ∙ sym (group_put_found s item g) ∙ found

        by : (b : Bool) → (item.device == g) ≡ b → contains offer_cmp x.offering (offer_key r) ≡ true
        by true i =
            let same : item.device ≡ g = eqb-true item.device g i in
            ap (λ (y : GroupRecord). contains offer_cmp x.offering (offer_key y)) (sym (some_is item r (at true i)))
            ∙ ap (contains offer_cmp x.offering) (sym same_key)
            ∙ h.offers item.device z p q (sym f) (ap (λ v. lists x.queues v p) same ∙ k) (ap (λ v. lists x.ready v q) same ∙ l)
        by false i = h.offers g r p q (at false i) k l

-- sets may come for what is no group
pub IsIndexed-sets : (s : Rows) (x : Indexes) (queues ready : PairSets) (k : ℕ) → IsIndexed s x → HasSet nat_cmp pair_cmp x.queues queues k
    → Stays nat_cmp pair_cmp x.ready ready → IsIndexed s (record x { queues = queues; ready = ready })
IsIndexed-sets s x queues ready k h hq hr = IsIndexed-lists s s refl refl x queues ready h h.groups hq.members hr.members
    (λ g e. hq.sets g ∙ there (is_eq (nat_cmp k g)) (has_set nat_cmp pair_cmp x.queues g) (h.queues g e)) (λ g e. hr.sets g ∙ h.readies g e)
    x.offering (offers-same s x.queues queues x.ready ready x.offering hq.members hr.members h.offers)
  where
    there : (a b : Bool) → b ≡ true → (a || b) ≡ true
    there true b e = refl
    there false b e = e

pub IsIndexed-both : (s : Rows) (x : Indexes) (queues ready : PairSets) (k : ℕ) → IsIndexed s x → HasSet nat_cmp pair_cmp x.queues queues k
    → HasSet nat_cmp pair_cmp x.ready ready k → IsIndexed s (record x { queues = queues; ready = ready })
IsIndexed-both s x queues ready k h hq hr = IsIndexed-lists s s refl refl x queues ready h h.groups hq.members hr.members
    (λ g e. hq.sets g ∙ there (is_eq (nat_cmp k g)) (has_set nat_cmp pair_cmp x.queues g) (h.queues g e))
    (λ g e. hr.sets g ∙ there (is_eq (nat_cmp k g)) (has_set nat_cmp pair_cmp x.ready g) (h.readies g e))
    x.offering (offers-same s x.queues queues x.ready ready x.offering hq.members hr.members h.offers)
  where
    there : (a b : Bool) → b ≡ true → (a || b) ≡ true
    there true b e = refl
    there false b e = e

pub IsIndexed-stays : (s : Rows) (x : Indexes) (queues : PairSets) → IsIndexed s x → Stays nat_cmp pair_cmp x.queues queues
    → IsIndexed s (record x { queues = queues })
IsIndexed-stays s x queues h hq = IsIndexed-lists s s refl refl x queues x.ready h h.groups hq.members (λ g p. refl) (λ g e. hq.sets g ∙ h.queues g e) h.readies
    x.offering (offers-same s x.queues queues x.ready x.ready x.offering hq.members (λ g p. refl) h.offers)

-- other groups are indexed
pub IsIndexed-offering : (s : Rows) (x : Indexes) (offering : BTreeSet OfferKey) → IsIndexed s x → ListsOffers s x.queues x.ready offering
    → IsIndexed s (record x { offering = offering })
IsIndexed-offering s x offering h offers =
    IsIndexed-lists s s refl refl x x.queues x.ready h h.groups (λ g p. refl) (λ g p. refl) h.queues h.readies offering offers

pub IsIndexed-offering_more : (s : Rows) (x : Indexes) (offering : BTreeSet OfferKey) → IsIndexed s x
    → ((k : OfferKey) → contains offer_cmp x.offering k ≡ true → contains offer_cmp offering k ≡ true) → IsIndexed s (record x { offering = offering })
IsIndexed-offering_more s x offering h more = IsIndexed-offering s x offering h (offers-more s x.queues x.ready offering x.offering h.offers more)

-- an agent's record is put
pub IsIndexed-agent : (s : Rows) (item : AgentRecord) (x y z : Indexes) (seats : SeatMap) (working : BTreeSet ℕ) (swap : Swap) → IsIndexed s x
    → Entered s x y swap.entering
    → TakenOut (with_agent s item) (record y { seats = seats; working = working }) z swap.leaving → SwapsTo s (with_agent s item) swap
    → Seats (with_agent s item) seats → Working (with_agent s item) working → IsIndexed (with_agent s item) z
unfolding with_agent group_of connection_of queued_in_all
IsIndexed-agent s item x y z at_seats worked swap h e o w seats working =
    let v : Indexes = record y { seats = at_seats; working = worked } in
    let fits : Fits (with_agent s item) x v swap.entering = record {
      queues = e.queues;
      ready = e.ready;
      seats = seats;
      lines = subst (Lines s) (sym e.rest.lines) h.lines;
      ringing = subst (Ringing s) (sym e.rest.ringing) h.ringing;
      working = working;
    } in
    IsIndexed-swapped s (with_agent s item) x v z swap z.queued h fits o w refl
    (ascending-put agent_order agents_total item s.agents h.agents) h.connections (o.rest.queued ∙ e.rest.queued ∙ h.queued)

-- and one that wasn't put
pub IsIndexed-no_agent : (s : Rows) (x y z : Indexes) (seats : SeatMap) (working : BTreeSet ℕ) (entries undo : Entries) → IsIndexed s x → Entered s x y entries
    → Undone x y undo → TakenOut s (record y { seats = seats; working = working }) z undo
    → Seats s seats → Working s working → IsIndexed s z
IsIndexed-no_agent s x y z at_seats worked entries undo h e u o seats working =
    let v : Indexes = record y { seats = at_seats; working = worked } in
    let fits : Fits s x v entries = record {
      queues = e.queues;
      ready = e.ready;
      seats = seats;
      lines = subst (Lines s) (sym e.rest.lines) h.lines;
      ringing = subst (Ringing s) (sym e.rest.ringing) h.ringing;
      working = working;
    } in
    IsIndexed-undone s x v z entries undo h fits (record { queues = u.queues; ready = u.ready }) o e.rest.queued

agents_put : (s : Rows) (c : ConnectionRecord) → IsAscending agent_order s.agents → IsAscending agent_order (with_connection s c).agents
unfolding with_connection
agents_put s c h = h

pub groups_seated : (s : Rows) (a : AgentRecord) → (with_agent s a).groups ≡ s.groups
unfolding with_agent
groups_seated s a = refl

pub groups_put : (s : Rows) (c : ConnectionRecord) → (with_connection s c).groups ≡ s.groups
unfolding with_connection
groups_put s c = refl

agents_less : (s : Rows) (c d : ℕ) → IsAscending agent_order s.agents → IsAscending agent_order (without_connection s c d).agents
unfolding without_connection
agents_less s c d h = h

pub groups_less : (s : Rows) (c d : ℕ) → (without_connection s c d).groups ≡ s.groups
unfolding without_connection
groups_less s c d = refl

-- a connection is put
pub IsIndexed-put : (s : Rows) (c : ConnectionRecord) (x y z : Indexes) (lines : BTreeSet (ℕ × ℕ)) (ringing : BTreeSet (ℕ × ℕ)) (swap : Swap) (n : ℕ)
    → IsIndexed s x → Entered s x y swap.entering
    → TakenOut (with_connection s c) (record y { lines = lines; ringing = ringing }) z swap.leaving → SwapsTo s (with_connection s c) swap
    → Lines (with_connection s c) lines × Ringing (with_connection s c) ringing → n ≡ length (queued_in_all (with_connection s c))
    → IsIndexed (with_connection s c) (record z { queued = n })
IsIndexed-put s c x y z listed rung swap n h e o w both queued =
    let t : Rows = with_connection s c in
    let r = Replaces-put s c h.connections in
    let v : Indexes = record y { lines = listed; ringing = rung } in
    let fits : Fits t x v swap.entering = record {
      queues = e.queues;
      ready = e.ready;
      seats = subst (Seats t) (sym e.rest.seats) (Seats-kept s t x.seats r.agents h.seats);
      lines = both.0;
      ringing = both.1;
      working = subst (Working t) (sym e.rest.working) (Working-kept s t x.working r.agents h.working);
    } in
    IsIndexed-swapped s t x v z swap n h fits o w (groups_put s c) (agents_put s c h.agents) r.ascending queued

-- and one that wasn't put
pub IsIndexed-no_put : (s : Rows) (x y z : Indexes) (lines : BTreeSet (ℕ × ℕ)) (ringing : BTreeSet (ℕ × ℕ)) (entries undo : Entries) → IsIndexed s x
    → Entered s x y entries → Undone x y undo → TakenOut s (record y { lines = lines; ringing = ringing }) z undo
    → Lines s lines × Ringing s ringing → IsIndexed s z
IsIndexed-no_put s x y z listed rung entries undo h e u o both =
    let v : Indexes = record y { lines = listed; ringing = rung } in
    let fits : Fits s x v entries = record {
      queues = e.queues;
      ready = e.ready;
      seats = subst (Seats s) (sym e.rest.seats) h.seats;
      lines = both.0;
      ringing = both.1;
      working = subst (Working s) (sym e.rest.working) h.working;
    } in
    IsIndexed-undone s x v z entries undo h fits (record { queues = u.queues; ready = u.ready }) o e.rest.queued

-- a connection is removed
pub IsIndexed-removed : (s : Rows) (call device : ℕ) (x y z : Indexes) (lines : BTreeSet (ℕ × ℕ)) (ringing : BTreeSet (ℕ × ℕ)) (swap : Swap)
    → IsIndexed s x → Entered s x y swap.entering
    → TakenOut (without_connection s call device) (record y { lines = lines; ringing = ringing }) z swap.leaving
    → SwapsTo s (without_connection s call device) swap
    → Removed pair_cmp y.ringing ringing (call, device) (rings (connection_of s call device)) → Removed pair_cmp y.lines lines (device, call) true
    → IsIndexed (without_connection s call device) (record z { queued = length (queued_in_all (without_connection s call device)) })
IsIndexed-removed s call device x y z listed rung swap h e o w forgotten unlisted =
    let t : Rows = without_connection s call device in
    let r = Replaces-removed s call device h.connections in
    let v : Indexes = record y { lines = listed; ringing = rung } in
    let gone : Bool = rings (connection_of s call device) in
    let fits : Fits t x v swap.entering = record {
      queues = e.queues;
      ready = e.ready;
      seats = subst (Seats t) (sym e.rest.seats) (Seats-kept s t x.seats r.agents h.seats);
      lines = Lines-removed s t call device None r y.lines listed refl (subst (Lines s) (sym e.rest.lines) h.lines) unlisted;
      ringing =
          Ringing-put s t call device None r y.ringing y.ringing rung false gone refl (still gone) (subst (Ringing s) (sym e.rest.ringing) h.ringing)
          (λ p. refl) forgotten;
      working = subst (Working t) (sym e.rest.working) (Working-kept s t x.working r.agents h.working);
    } in
    IsIndexed-swapped s t x v z swap (length (queued_in_all t)) h fits o w (groups_less s call device) (agents_less s call device h.agents) r.ascending refl
  where
    still : (b : Bool) → b ≡ (b && not false)
    still true = refl
    still false = refl

no_key : {K : Type 0} (cmp : K → K → Ordering) (set : BTreeSet K) → set.keys ≡ [] → (k : K) → contains cmp set k ≡ false
no_key cmp set e k = ap (list_any (λ j. is_eq (cmp k j))) e

-- no group, agent and connection, and nothing in the indexes
module _ (s : Rows) (x : Indexes) (no_groups : s.groups ≡ []) (no_agents : s.agents ≡ []) (no_connections : s.connections ≡ []) (blank : IsBlank x) where
  no_group : (g : ℕ) → is_group s g ≡ false
  unfolding group_of
  no_group g = ap (λ (l : List GroupRecord). is_some (find_by (at_group g) l)) no_groups

  no_agent : (n : ℕ) → agent_of s n ≡ None
  unfolding agent_of
  no_agent n = ap (λ (l : List AgentRecord). find_by (at_agent n) l) no_agents

  no_connection : (c d : ℕ) → connection_of s c d ≡ None
  unfolding connection_of
  no_connection c d = ap (λ (l : List ConnectionRecord). find_by (at_connection c d) l) no_connections

  no_member : (m : PairSets) → m.entries ≡ [] → (g : ℕ) (p : ℕ × ℕ) → lists m g p ≡ false
  unfolding holds
  no_member m e g p = ap (λ es. holds_in nat_cmp pair_cmp (lookup (is_at (nat_cmp g)) es) p) e

  none_queued : 0 ≡ length (queued_in_all s)
  unfolding queued_in_all
  none_queued = ap (λ (l : List ConnectionRecord). length (filter (λ (c : ConnectionRecord). is_queued c.state) l)) (sym no_connections)

  pub IsIndexed-blank : IsIndexed s x
  IsIndexed-blank = record {
    groups = subst (IsAscending group_order) (sym no_groups) tt;
    agents = subst (IsAscending agent_order) (sym no_agents) tt;
    connections = subst (IsAscending connection_order) (sym no_connections) tt;
    queues = λ g e. absurd (cc (e, no_group g));
    readies = λ g e. absurd (cc (e, no_group g));
    waiting = λ g p. no_member x.queues blank.queues g p ∙ sym (ap (waits_at p.0) (no_connection p.1 g));
    able = λ g p. no_member x.ready blank.ready g p ∙ sym (ap (is_able_since s g p.0) (no_agent p.1));
    offers = λ g r p q there h k. absurd (cc (h, no_member x.queues blank.queues g p));
    seats = λ n d. ap (λ es. has (lookup (λ e. d == e) es) n) blank.seats ∙ sym (ap (λ o. has (agent_station o) d) (no_agent n));
    lines = λ p. no_key pair_cmp x.lines blank.lines p ∙ sym (ap is_some (no_connection p.1 p.0));
    ringing = λ p. no_key pair_cmp x.ringing blank.ringing p ∙ sym (ap rings (no_connection p.0 p.1));
    working = λ n. no_key nat_cmp x.working blank.working n ∙ sym (ap works (no_agent n));
    queued = blank.queued ∙ none_queued;
  }

pub IsIndexed-new : (limits : Limits) (x : Indexes) → IsBlank x → IsIndexed (empty_rows limits) x
IsIndexed-new limits x blank = IsIndexed-blank (empty_rows limits) x refl refl refl blank
