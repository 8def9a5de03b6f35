-- Rows represent the records that were written.
use Rattle.std.proofs.Common.{◌≡◌, inl, inr, ℕ, ◌==◌, cond, ℤ, List, [], ◌∷◌, map, drop, refl, sym, ap, subst, ◌∙◌}
use Rattle.std.specs.declared.cmp.Ordering.TheVariants.{Less, Equal, Greater}
use Rattle.std.specs.declared.cmp.Ordering.{Ordering}
use Rattle.std.specs.Cmp.{IsTotalOrder}
use Rattle.std.specs.Ordering.{nat_cmp, ordering_reverse}
use Rattle.std.proofs.lemmas.Cmp.{nat_cmp_total, on_total, then_total}
use Rattle.sqlite_value.specs.Order.{Row}
use Rattle.sqlite_trees.specs.Tree.{Trees}
use Rattle.sqlite_rules.specs.Lists.{Has}
use Rattle.acd_terms.specs.Lists.{Among, AllAfter, Every, IsAscending, put_by}
use Rattle.acd_terms.specs.declared.event.Event.{Event}
use Rattle.acd_terms.specs.declared.record.GroupRecord.{GroupRecord}
use Rattle.acd_terms.specs.declared.record.StationRecord.{StationRecord}
use Rattle.acd_terms.specs.declared.record.AgentRecord.{AgentRecord}
use Rattle.acd_terms.specs.declared.record.CallRecord.{CallRecord}
use Rattle.acd_terms.specs.declared.record.ConnectionRecord.{ConnectionRecord}
use Rattle.acd_terms.specs.declared.record.MonitorRecord.{MonitorRecord}
use Rattle.acd_model.specs.Rules.Plan.{group_order, agent_order, connection_order}
use Rattle.acd_book.specs.Content.{Content}
use Rattle.acd_book.specs.declared.kept.Kept.{Kept}
use Rattle.acd_lemmas.proofs.Lists.{after_among, among-put, among-put_other, ascending-put, among_put}
use Rattle.acd_lemmas.proofs.State.{connections_total}
use Rattle.acd_sql_columns.specs.declared.tables.Table.TheVariants as table
use Rattle.acd_sql_columns.specs.declared.meta.Meta.{Meta}
use Rattle.acd_sql_columns.specs.declared.tables.Table.{Table}
use Rattle.acd_sql_columns.specs.declared.tables.Version.{Version}
use Rattle.acd_sql_columns.specs.declared.tables.Version.TheVariants as version
use Rattle.acd_sql_columns.specs.declared.relations.GroupRow.{GroupRow}
use Rattle.acd_sql_columns.specs.declared.relations.AgentRow.{AgentRow}
use Rattle.acd_sql_columns.specs.Relations.{pair_order, meta_of, relations_of, group_part, agent_part, further_in, priorities_in, joined_group, joined_agent}
use Rattle.acd_sql_columns.specs.Content.{AreRows, AreHeaped, AreConnections, Encodes, EncodesAs, StoresAs, IsIn, version_number, part, tree_of}
use Rattle.acd_sql_columns.specs.Rows.{IsReadable, meta_row_as, further_row, priority_row, group_row, station_row, agent_row, call_row, connection_row, monitor_row, event_row, kept_row}
use Rattle.acd_sql_columns.specs.Decoding.{as_priority, as_further, as_group, as_station, as_agent, as_call, as_connection, as_monitor, as_event, as_kept}
use Rattle.acd_sql_columns.proofs.Rows.Records.{priority_back, further_back, group_back, station_back, agent_back, call_back, connection_back, monitor_back, meta_back}
use Rattle.acd_sql_columns.proofs.Rows.EventRows.{event_back, kept_back}
use Rattle.acd_sql_columns.specs.InTables.{version_in, pairs_in, ranks_in, unkeyed, records_in, in_order, connections_in, meta_stored, content_of}
use Rattle.acd_sql_columns.proofs.Rows.JoinedRecords.{groups_joined, agents_joined}
use Rattle.acd_tables.proofs.ScansByIndex.{ascending-same}

-- ---- tables

-- where each row is that of a record
module _ {R : Type 0} (read : Row → R) (row : R → Row) where
  each_back : ((r : R) → read (unkeyed (row r)) ≡ r) → (rs : List R) → records_in read (map row rs) ≡ rs
  each_back back [] = refl
  each_back back (r ∷ rs) = rw (back r) (ap (λ l. r ∷ l) (each_back back rs))

  pub rows_back : (key : R → ℕ) (rows : List Row) (records : List R) → AreRows key row rows records → ((r : R) → read (unkeyed (row r)) ≡ r)
      → records_in read rows ≡ records
  rows_back key rows records are back = ap (records_in read) are.rows_are ∙ each_back back records

kept_each_back : (ks : List Kept) → Every IsReadable ks → records_in as_kept (map kept_row ks) ≡ ks
kept_each_back [] h = refl
kept_each_back (k ∷ ks) h = rw (kept_back k h.0) (ap (λ l. k ∷ l) (kept_each_back ks h.1))

-- ---- rows with rowids apart from their keys

-- of an ascending list, two that compare as equal are one
pub one_of : {X : Type 0} (cmp : X → X → Ordering) (o : IsTotalOrder cmp) (xs : List X) (x y : X) → IsAscending cmp xs → Among x xs → Among y xs
    → cmp x y ≡ Equal → x ≡ y
one_of cmp o [] x y up a b e = absurd a
one_of cmp o (z ∷ zs) x y up (inl p) (inl q) e = p ∙ sym q
one_of cmp o (z ∷ zs) x y up (inl p) (inr b) e =
    absurd (let low : cmp x y ≡ Less = subst (λ k. cmp k y ≡ Less) (sym p) (after_among cmp z zs y up.0 b) in cc (low, e))
one_of cmp o (z ∷ zs) x y up (inr a) (inl q) e =
    absurd (let low : cmp y x ≡ Less = subst (λ k. cmp k x ≡ Less) (sym q) (after_among cmp z zs x up.0 a) in
    let turned = o.antisymm x y ∙ ap ordering_reverse low in cc (turned, e))
one_of cmp o (z ∷ zs) x y up (inr a) (inr b) e = one_of cmp o zs x y up.1 a b e

module _ {R : Type 0} (order : R → R → Ordering) where
  pub ordered : IsTotalOrder order → (xs : List R) → IsAscending order (in_order order xs)
  ordered total [] = tt
  ordered total (x ∷ xs) = ascending-put order total x (in_order order xs) (ordered total xs)

  pub from_order : (xs : List R) (z : R) → Among z (in_order order xs) → Among z xs
  from_order [] z a = a
  from_order (x ∷ xs) z a = elim (among_put (order x) x (in_order order xs) z a) [ inl e ↦ inl e | inr b ↦ inr (from_order xs z b) ]

  -- none is lost where two that compare as equal are one
  pub to_order : (xs : List R) → ((x y : R) → Among x xs → Among y xs → order x y ≡ Equal → x ≡ y) → (z : R) → Among z xs → Among z (in_order order xs)
  to_order [] one z a = a
  to_order (x ∷ xs) one z (inl e) = subst (λ k. Among k (put_by (order x) (in_order order xs) x)) (sym e) (among-put (order x) x (in_order order xs))
  to_order (x ∷ xs) one z (inr a) =
      let rest = to_order xs (λ u v p q. one u v (inr p) (inr q)) z a in
      (elim (order x z) as (λ o. order x z ≡ o → Among z (put_by (order x) (in_order order xs) x)) [
        | Less ↦ λ e. among-put_other (order x) x (in_order order xs) z rest (λ q. cc (e, q))
        | Equal ↦ λ e. subst (λ k. Among k (put_by (order x) (in_order order xs) x)) (one x z (inl refl) (inr a) e) (among-put (order x) x (in_order order xs))
        | Greater ↦ λ e. among-put_other (order x) x (in_order order xs) z rest (λ q. cc (e, q))
      ]) refl

module _ {X Y : Type 0} (f : X → Y) where
  to_map : (xs : List X) (x : X) → Has xs x → Among (f x) (map f xs)
  to_map [] x h = absurd h
  to_map (y ∷ ys) x (inl e) = inl (ap f e)
  to_map (y ∷ ys) x (inr h) = inr (to_map ys x h)

  from_map : (xs : List X) (z : Y) → Among z (map f xs) → (x : X) × Has xs x × (z ≡ f x)
  from_map [] z a = absurd a
  from_map (x ∷ xs) z (inl e) = (x, inl refl, e)
  from_map (x ∷ xs) z (inr a) = let m = from_map xs z a in (m.0, inr m.1, m.2)

module _ {R : Type 0} (order : R → R → Ordering) (total : IsTotalOrder order) (row : ℤ → R → Row) (read : Row → R)
    (back : (id : ℤ) (x : R) → read (drop 1 (row id x)) ≡ x) (rows : List Row) (records : List R) (are : AreHeaped order row rows records) where
  abbrev of_row : Row → R
  of_row r = read (drop 1 r)

  into : (z : R) → Among z (map of_row rows) → Among z records
  into z a =
      let at = from_map of_row rows z a in
      let from = are.known at.0 at.1 in
      subst (λ k. Among k records) (sym (at.2 ∙ ap of_row from.2 ∙ back from.0 from.1)) from.3

  out : (z : R) → Among z records → Among z (map of_row rows)
  out z a = let from = are.stored z a in subst (λ k. Among k (map of_row rows)) (back from.0 z) (to_map of_row rows (row from.0 z) from.1)

  pub heap_back : in_order order (map (λ r. read (drop 1 r)) rows) ≡ records
  heap_back = ascending-same order total (in_order order (map of_row rows)) records (ordered order total (map of_row rows)) are.ascending
      (λ z a. into z (from_order order (map of_row rows) z a))
      (λ z a. to_order order (map of_row rows) (λ x y p q e. one_of order total records x y are.ascending (into x p) (into y q) e) z (out z a))

pub connections_back : (rows : List Row) (records : List ConnectionRecord) → AreConnections rows records → connections_in rows ≡ records
connections_back rows records are = heap_back connection_order connections_total connection_row as_connection (λ id x. connection_back x) rows records are

pairs_total : IsTotalOrder pair_order
pairs_total = then_total (on_total (λ (p : ℕ × ℕ). p.0) nat_cmp_total) (on_total (λ (p : ℕ × ℕ). p.1) nat_cmp_total)

-- ---- the whole

-- each version has the nine tables
pub old_in : (v : Version) (t : Table) → IsIn version.First t → IsIn v t
old_in version.First t h = h
old_in version.Second table.AgentGroups h = absurd h
old_in version.Second table.GroupPriority h = absurd h
old_in version.Second table.Meta h = tt
old_in version.Second table.Groups h = tt
old_in version.Second table.Stations h = tt
old_in version.Second table.Agents h = tt
old_in version.Second table.Calls h = tt
old_in version.Second table.Connections h = tt
old_in version.Second table.Monitors h = tt
old_in version.Second table.Events h = tt
old_in version.Second table.Kept h = tt

abbrev pub with_all : Meta → List GroupRecord → List StationRecord → List AgentRecord → List CallRecord → List ConnectionRecord → List MonitorRecord
    → List Event → List Kept → Content
with_all m groups stations agents calls connections monitors events kept = record {
  rows = record {
    limits = m.limits;
    groups = groups;
    stations = stations;
    agents = agents;
    calls = calls;
    connections = connections;
    monitors = monitors;
    last_stamp = m.last_stamp;
    last_moment = m.last_moment;
    last_call = m.last_call;
    last_monitor = m.last_monitor;
    last_event = m.last_event;
  };
  events = events;
  kept = kept;
}

-- groups and agents that ascend by what the tables have of them ascend
pub groups_rise : (groups : List GroupRecord) → IsAscending (λ (g h : GroupRow). nat_cmp g.device h.device) (map group_part groups)
    → IsAscending group_order groups
groups_rise [] up = tt
groups_rise (g ∷ groups) up = (after groups up.0, groups_rise groups up.1)
  where
    after : (hs : List GroupRecord) → AllAfter (λ (x y : GroupRow). nat_cmp x.device y.device) (group_part g) (map group_part hs) → AllAfter group_order g hs
    after [] h = tt
    after (x ∷ hs) h = (h.0, after hs h.1)

pub agents_rise : (agents : List AgentRecord) → IsAscending (λ (a b : AgentRow). nat_cmp a.agent b.agent) (map agent_part agents)
    → IsAscending agent_order agents
agents_rise [] up = tt
agents_rise (a ∷ agents) up = (after agents up.0, agents_rise agents up.1)
  where
    after : (bs : List AgentRecord) → AllAfter (λ (x y : AgentRow). nat_cmp x.agent y.agent) (agent_part a) (map agent_part bs) → AllAfter agent_order a bs
    after [] h = tt
    after (x ∷ bs) h = (h.0, after bs h.1)

version_is : (n : ℕ) (m : Meta) (rows : List Row) → rows ≡ meta_row_as n m ∷ [] → version_in rows ≡ n
version_is n m rows e = ap version_in e

-- the further groups and the priorities
pairs_back : (v : Version) (db : Trees) (c : Content) → EncodesAs v db c → pairs_in db ≡ further_in c.rows.agents
pairs_back version.First db c h =
    ap (λ n. cond (n == 1) [] (in_order pair_order (map (λ row. as_further (drop 1 row)) (db (tree_of table.AgentGroups)))))
    (version_is 1 (meta_of c.rows) (db (tree_of table.Meta)) (h.tables table.Meta tt))
    ∙ sym h.fits.0
pairs_back version.Second db c h =
    ap (λ n. cond (n == 1) [] (in_order pair_order (map (λ row. as_further (drop 1 row)) (db (tree_of table.AgentGroups)))))
    (version_is 2 (meta_of c.rows) (db (tree_of table.Meta)) (h.tables table.Meta tt))
    ∙ heap_back pair_order pairs_total further_row as_further (λ id p. further_back p) (db (tree_of table.AgentGroups)) (further_in c.rows.agents)
    (h.tables table.AgentGroups tt)

ranks_back : (v : Version) (db : Trees) (c : Content) → EncodesAs v db c → ranks_in db ≡ priorities_in c.rows.groups
ranks_back version.First db c h =
    ap (λ n. cond (n == 1) [] (records_in as_priority (db (tree_of table.GroupPriority))))
    (version_is 1 (meta_of c.rows) (db (tree_of table.Meta)) (h.tables table.Meta tt))
    ∙ sym h.fits.1
ranks_back version.Second db c h =
    ap (λ n. cond (n == 1) [] (records_in as_priority (db (tree_of table.GroupPriority))))
    (version_is 2 (meta_of c.rows) (db (tree_of table.Meta)) (h.tables table.Meta tt))
    ∙ rows_back as_priority priority_row _ (db (tree_of table.GroupPriority)) (priorities_in c.rows.groups) (h.tables table.GroupPriority tt) priority_back

-- the stored content is the one that the tables represent, in either version
pub decoded_as : (v : Version) (db : Trees) (c : Content) → EncodesAs v db c → content_of db ≡ c
unfolding content_of
decoded_as v db c h =
    let is : (t : Table) → IsIn version.First t → StoresAs (version_number v) t (db (tree_of t)) (part t (relations_of c)) = λ t old. h.tables t (old_in v t old) in
    let groups =
    ap (map (joined_group (ranks_in db)))
    (rows_back as_group group_row _ (db (tree_of table.Groups)) (map group_part c.rows.groups) (is table.Groups tt) group_back)
    ∙ ap (λ ps. map (joined_group ps) (map group_part c.rows.groups)) (ranks_back v db c h)
    ∙ groups_joined c.rows.groups (groups_rise c.rows.groups (is table.Groups tt).ascending)
    in
    let stations = rows_back as_station station_row _ (db (tree_of table.Stations)) c.rows.stations (is table.Stations tt) station_back in
    let agents =
    ap (map (joined_agent (pairs_in db)))
    (rows_back as_agent agent_row _ (db (tree_of table.Agents)) (map agent_part c.rows.agents) (is table.Agents tt) agent_back)
    ∙ ap (λ ps. map (joined_agent ps) (map agent_part c.rows.agents)) (pairs_back v db c h)
    ∙ agents_joined c.rows.agents (agents_rise c.rows.agents (is table.Agents tt).ascending)
    in
    let calls = rows_back as_call call_row _ (db (tree_of table.Calls)) c.rows.calls (is table.Calls tt) call_back in
    let connections = connections_back (db (tree_of table.Connections)) c.rows.connections (is table.Connections tt) in
    let monitors = rows_back as_monitor monitor_row _ (db (tree_of table.Monitors)) c.rows.monitors (is table.Monitors tt) monitor_back in
    let events = rows_back as_event event_row _ (db (tree_of table.Events)) c.events (is table.Events tt) event_back in
    let kept = ap (records_in as_kept) (is table.Kept tt).0.rows_are ∙ kept_each_back c.kept (is table.Kept tt).1 in
    let m : meta_stored (db (tree_of table.Meta)) ≡ meta_of c.rows = ap meta_stored (is table.Meta tt) ∙ meta_back (meta_of c.rows) in
    let g-0 = map (joined_group (ranks_in db)) (records_in as_group (db (tree_of table.Groups))) in
    let s-0 = records_in as_station (db (tree_of table.Stations)) in
    let a-0 = map (joined_agent (pairs_in db)) (records_in as_agent (db (tree_of table.Agents))) in
    let k-0 = records_in as_call (db (tree_of table.Calls)) in
    let x-0 = connections_in (db (tree_of table.Connections)) in
    let w-0 = records_in as_monitor (db (tree_of table.Monitors)) in
    let e-0 = records_in as_event (db (tree_of table.Events)) in
    let r-0 = records_in as_kept (db (tree_of table.Kept)) in
    let n = meta_of c.rows in
    ap (λ v. with_all v g-0 s-0 a-0 k-0 x-0 w-0 e-0 r-0) m
    ∙ ap (λ v. with_all n v s-0 a-0 k-0 x-0 w-0 e-0 r-0) groups
    ∙ ap (λ v. with_all n c.rows.groups v a-0 k-0 x-0 w-0 e-0 r-0) stations
    ∙ ap (λ v. with_all n c.rows.groups c.rows.stations v k-0 x-0 w-0 e-0 r-0) agents
    ∙ ap (λ v. with_all n c.rows.groups c.rows.stations c.rows.agents v x-0 w-0 e-0 r-0) calls
    ∙ ap (λ v. with_all n c.rows.groups c.rows.stations c.rows.agents c.rows.calls v w-0 e-0 r-0) connections
    ∙ ap (λ v. with_all n c.rows.groups c.rows.stations c.rows.agents c.rows.calls c.rows.connections v e-0 r-0) monitors
    ∙ ap (λ v. with_all n c.rows.groups c.rows.stations c.rows.agents c.rows.calls c.rows.connections c.rows.monitors v r-0) events
    ∙ ap (λ v. with_all n c.rows.groups c.rows.stations c.rows.agents c.rows.calls c.rows.connections c.rows.monitors c.events v) kept

pub decoded : (db : Trees) (c : Content) → Encodes db c → content_of db ≡ c
decoded db c is = decoded_as version.Second db c (record { fits = tt; tables = λ t here. is t })
