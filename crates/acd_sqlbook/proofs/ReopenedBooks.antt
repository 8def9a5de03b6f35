-- A look at a book finds a book of version 2 with its content, and no fault; so `adopt` takes it, where memory and the store allow.
use Rattle.std.proofs.Common.{◌≡◌, ◌⊎◌, inl, inr, ◌==◌, ℕ, suc, ℤ, List, [], ◌∷◌, ◌++◌, map, length, nat_lt, nat_le, cond, true, false, Option, None, Some, Ok, Err, refl, sym, ap, ap₂, subst, ◌∙◌, arith, eq-eqb}
use Rattle.std.specs.List.{list_any}
use Rattle.std.specs.List.Sorted.{IsPermutation}
use Rattle.std.specs.Ordering.{nat_cmp}
use Rattle.std.specs.declared.cmp.Ordering.{Ordering}
use Rattle.std.specs.declared.cmp.Ordering.TheVariants.{Less, Equal}
use Rattle.std.proofs.lemmas.Bool.{and_parts, and_from}
use Rattle.std.proofs.lemmas.Bool.Decides.{nat_tests}
use Rattle.std.proofs.lemmas.Cmp.{nat_cmp_total, tied_itself}
use Rattle.std.proofs.lemmas.List.Sorted.{IsPermutation-map, length_permutation}
use Rattle.sqlite_value.specs.Order.{Row, column, value_cmp}
use Rattle.sqlite_value.proofs.OrderLemmas.{value_cmp_total}
use Rattle.sqlite_trees.specs.Tree.{Trees, rowid}
use Rattle.sqlite_trees.specs.declared.store.Store.{Ghosts}
use Rattle.sqlite_trees.specs.Objects.{catalog_tree}
use Rattle.sqlite_trees.proofs.ListLemmas.{IsPermutation-filter}
use Rattle.sqlite_rules.specs.Lists.{Has}
use Rattle.sqlite_rules.proofs.ListLemmas.{all_has, all_from as each_from}
use Rattle.sqlite_rules.proofs.ProbeLemmas.{has_mapped, mapped_has}
use Rattle.sqlite_catalog.proofs.ReadLemmas.{lists_once}
use Rattle.sqlite_schema.specs.declared.schema.Schema.{Schema}
use Rattle.sqlite.specs.Effect.{Database, IsDatabase}
use Rattle.sqlite.specs.Held.{Held, state}
use Rattle.sqlite.specs.State.{State, IsLive, Opens}
use Rattle.acd_terms.specs.Groups.{are_groups, least_group, further_groups}
use Rattle.acd_terms.specs.Lists.{Among, Every, IsAscending, ascends}
use Rattle.acd_terms.specs.declared.record.AgentRecord.{AgentRecord}
use Rattle.acd_terms.specs.declared.record.GroupRecord.{GroupRecord}
use Rattle.acd_model.specs.Rules.Plan.{agent_order}
use Rattle.acd_lemmas.proofs.RuleTests.{ascending_from}
use Rattle.acd_lemmas.proofs.Lists.{after_among, all_from, all_true, any_some, every_among, some_is}
use Rattle.acd_book.specs.Content.{Content}
use Rattle.acd_sql_columns.specs.declared.relations.AgentRow.{AgentRow}
use Rattle.acd_sql_columns.specs.declared.relations.GroupRow.{GroupRow}
use Rattle.acd_sql_columns.specs.declared.relations.GroupPriority.{GroupPriority}
use Rattle.acd_sql_columns.specs.declared.tables.Table.{Table}
use Rattle.acd_sql_columns.specs.declared.tables.Table.TheVariants as table
use Rattle.acd_sql_columns.specs.declared.tables.Version.{Version}
use Rattle.acd_sql_columns.specs.declared.tables.Version.TheVariants as version
use Rattle.acd_sql_columns.specs.AnyRows.{is_good, are_good, is_good_in, values_in, rows_in, is_beside, is_ranked, has_meta, BeginsAsBook, schema_of}
use Rattle.acd_sql_columns.specs.Content.{AreRows, AreHeaped, Encodes, version_number, tree_of}
use Rattle.acd_sql_columns.specs.Decoding.{as_group, as_priority, as_agent, as_further}
use Rattle.acd_sql_columns.specs.InTables.{content_of}
use Rattle.acd_sql_columns.specs.Relations.{pair_order, meta_of, group_part, agent_part, priority_part, further_of, further_in, priorities_in, groups_beside, is_above, is_after, are_after, are_of_groups}
use Rattle.acd_sql_columns.specs.Rows.{meta_row_as, meta_shown, group_row, group_values, station_row, station_values, agent_row, agent_values, call_row, call_values, connection_row, connection_values, monitor_row, monitor_values, event_row, event_values, kept_row, kept_values, further_row, further_values, priority_row, priority_values}
use Rattle.acd_sql_columns.specs.Schema.{book_schema}
use Rattle.acd_sql_columns.specs.Tables.{agent_groups}
use Rattle.acd_sql_columns.specs.Transactions.{IsBook}
use Rattle.acd_sql_columns.specs.Values.{id_value, whole_at}
use Rattle.acd_sql_columns.proofs.Rows.RowsOfRecords.{agents_rise, decoded}
use Rattle.acd_sql_columns.proofs.OneTable.CompositeKeys.{by_both_total}
use Rattle.acd_sql_columns.proofs.Rows.JoinedRecords.{beside_each}
use Rattle.acd_sql_columns.proofs.OneTable.Members.{Differ, AreApart, apart_under, same_members}
use Rattle.acd_sql_columns.proofs.Rows.Records.{group_back, priority_back, agent_back, further_back}
use Rattle.acd_sql_schema.specs.declared.fault.AdoptFault.{AdoptFault}
use Rattle.acd_sql_schema.specs.declared.fault.AdoptFault.TheVariants.{WrongVersion, BadRow, NoMemory, Store}
use Rattle.acd_sql_schema.specs.declared.fault.Found.{Found}
use Rattle.acd_sql_schema.specs.declared.fault.Found.TheVariants.{Book, Fault}
use Rattle.acd_sql_schema.specs.Inspection.{IsAdoptFaultOf, IsBadIn, IsFound, IsFoundFaultOf, IsMisplaced, IsOfBook, IsUnlike, IsVersion, IsVersionIn, other, none as unheld, apart as unlike}
use Rattle.acd_sql_schema.proofs.Contents.{each_good, of_mapped}
use Rattle.acd_sql_columns.specs.InRange.{values_of, is_good_table, IsInRange}
use Rattle.acd_sqlbook.proofs.AdoptedBooks.{apart_schemas, second_canonical}
use Rattle.acd_sql_statements.specs.StoreFailures.{StoreHasFailed}
use Rattle.acd_sqlbook.specs.Adoption.{AdoptCause, IsAdopted, IsHandedBack, failed, shut, unlike as other_tables, refused}
use Rattle.acd_sqlbook.specs.Opening.{HasAdoptCause}
use Rattle.acd_sqlbook.specs.State.{book_state}
use Rattle.acd_sqlbook.specs.StoreLaws.{AdoptResult, Adopts, FailsToAdopt, IsAdoptAnswer, IsOverBook, Reopens}

-- ---- lists

mapped_twice : {X Y Z : Type 0} (g : Y → Z) (f : X → Y) (xs : List X) → map g (map f xs) ≡ map (λ x. g (f x)) xs
mapped_twice g f [] = refl
mapped_twice g f (x ∷ xs) = ap (λ l. g (f x) ∷ l) (mapped_twice g f xs)

mapped_back : {X Y : Type 0} (g : Y → X) (f : X → Y) → ((x : X) → g (f x) ≡ x) → (xs : List X) → map g (map f xs) ≡ xs
mapped_back g f back [] = refl
mapped_back g f back (x ∷ xs) = ap₂ (λ y l. y ∷ l) (back x) (mapped_back g f back xs)

has_among : {X : Type 0} (xs : List X) (x : X) → Among x xs → Has xs x
has_among [] x a = absurd a
has_among (y ∷ xs) x (inl e) = inl e
has_among (y ∷ xs) x (inr a) = inr (has_among xs x a)

among_has : {X : Type 0} (xs : List X) (x : X) → Has xs x → Among x xs
among_has [] x a = absurd a
among_has (y ∷ xs) x (inl e) = inl e
among_has (y ∷ xs) x (inr a) = inr (among_has xs x a)

among_map : {X Y : Type 0} (f : X → Y) (xs : List X) (x : X) → Among x xs → Among (f x) (map f xs)
among_map f xs x a = among_has (map f xs) (f x) (mapped_has f xs x (has_among xs x a))

map_among : {X Y : Type 0} (f : X → Y) (xs : List X) (y : Y) → Among y (map f xs) → (x : X) × Among x xs × (y ≡ f x)
map_among f xs y a = let from = has_mapped f xs y (has_among (map f xs) y a) in (from.0, among_has xs from.0 from.1, from.2)

append_among : {X : Type 0} (xs ys : List X) (z : X) → Among z (xs ++ ys) → Among z xs ⊎ Among z ys
append_among [] ys z h = inr h
append_among (x ∷ xs) ys z (inl e) = inl (inl e)
append_among (x ∷ xs) ys z (inr h) = elim (append_among xs ys z h) [ inl k ↦ inl (inr k) | inr k ↦ inr k ]

-- ---- the rows of a table show the values of its records

module _ {R : Type 0} (t : Table) (values : R → Row) (db : Trees) (records : List R) where
  keyed : (key : R → ℕ) (row : R → Row) → ((x : R) → values_in t (row x) ≡ values x) → AreRows key row (db (tree_of t)) records
      → rows_in t db ≡ map values records
  keyed key row shows are = ap (map (values_in t)) are.rows_are ∙ go records
    where
      go : (xs : List R) → map (values_in t) (map row xs) ≡ map values xs
      go [] = refl
      go (x ∷ xs) = ap₂ (λ v l. v ∷ l) (shows x) (go xs)

  heaped : (order : R → R → Ordering) (row : ℤ → R → Row) → ((id : ℤ) (x : R) → values_in t (row id x) ≡ values x)
      → AreHeaped order row (db (tree_of t)) records → are_good t (map values records) ≡ true → is_good_in t db ≡ true
  unfolding is_good_in are_good
  heaped order row shows are good = go (db (tree_of t)) (λ r k.
      let from = are.known r k in
      ap (λ s. is_good t (values_in t s)) from.2 ∙ ap (is_good t) (shows from.0 from.1)
      ∙ all_has (λ x. is_good t (values x) ≡ true) records from.1 (of_mapped (λ v. is_good t v ≡ true) values records (each_good t (map values records) good))
      (has_among records from.1 from.3))
    where
      go : (rows : List Row) → ((r : Row) → Has rows r → is_good t (values_in t r) ≡ true) → are_good t (map (values_in t) rows) ≡ true
      go [] h = refl
      go (r ∷ rows) h = and_from (is_good t (values_in t r)) _ (h r (inl refl)) (go rows (λ s k. h s (inr k)))

good_as : (t : Table) (db : Trees) (vs : List Row) → rows_in t db ≡ vs → are_good t vs ≡ true → is_good_in t db ≡ true
unfolding is_good_in
good_as t db vs is good = ap (are_good t) is ∙ good

right : (t : Table) (c : Content) → IsInRange c → are_good t (values_of t c) ≡ true
unfolding is_good_table
right t c range = range.tables t

module _ (db : Trees) (c : Content) (is : Encodes db c) where
  groups_seen : rows_in table.Groups db ≡ map group_values (map group_part c.rows.groups)
  groups_seen = keyed table.Groups group_values db (map group_part c.rows.groups) (λ (g : GroupRow). g.device) group_row (λ g. refl) (is table.Groups)

  agents_seen : rows_in table.Agents db ≡ map agent_values (map agent_part c.rows.agents)
  agents_seen = keyed table.Agents agent_values db (map agent_part c.rows.agents) (λ (a : AgentRow). a.agent) agent_row (λ a. refl) (is table.Agents)

  priorities_seen : rows_in table.GroupPriority db ≡ map priority_values (priorities_in c.rows.groups)
  priorities_seen =
      keyed table.GroupPriority priority_values db (priorities_in c.rows.groups) (λ (p : GroupPriority). p.device) priority_row (λ p. refl)
      (is table.GroupPriority)

  good : IsInRange c → (t : Table) → is_good_in t db ≡ true
  good range table.Meta = good_as table.Meta db (meta_shown (meta_of c.rows) ∷ []) (ap (map (values_in table.Meta)) (is table.Meta)) (right table.Meta c range)
  good range table.Groups = good_as table.Groups db _ (groups_seen ∙ mapped_twice group_values group_part c.rows.groups) (right table.Groups c range)
  good range table.Stations =
      good_as table.Stations db _ (keyed table.Stations station_values db c.rows.stations (λ s. s.device) station_row (λ s. refl) (is table.Stations))
      (right table.Stations c range)
  good range table.Agents = good_as table.Agents db _ (agents_seen ∙ mapped_twice agent_values agent_part c.rows.agents) (right table.Agents c range)
  good range table.Calls =
      good_as table.Calls db _ (keyed table.Calls call_values db c.rows.calls (λ k. k.call) call_row (λ k. refl) (is table.Calls)) (right table.Calls c range)
  good range table.Connections =
      heaped table.Connections connection_values db c.rows.connections _ connection_row (λ id x. refl) (is table.Connections) (right table.Connections c range)
  good range table.Monitors =
      good_as table.Monitors db _ (keyed table.Monitors monitor_values db c.rows.monitors (λ w. w.monitor) monitor_row (λ w. refl) (is table.Monitors))
      (right table.Monitors c range)
  good range table.Events =
      good_as table.Events db _ (keyed table.Events event_values db c.events (λ e. e.number) event_row (λ e. refl) (is table.Events))
      (right table.Events c range)
  good range table.Kept =
      good_as table.Kept db _ (keyed table.Kept kept_values db c.kept (λ k. k.stamp) kept_row (λ k. refl) (is table.Kept).0) (right table.Kept c range)
  good range table.AgentGroups =
      heaped table.AgentGroups further_values db (further_in c.rows.agents) pair_order further_row (λ id p. refl) (is table.AgentGroups)
      (right table.AgentGroups c range)
  good range table.GroupPriority = good_as table.GroupPriority db _ priorities_seen (right table.GroupPriority c range)

-- ---- priorities belong to their groups

rank_of : (groups : List GroupRecord) (p : GroupPriority) → Among p (priorities_in groups) → (g : GroupRecord) × Among g groups × (p.device ≡ g.device)
rank_of [] p h = absurd h
rank_of (g ∷ groups) p h =
    (elim (g.priority == 0) as (λ b. Among p (cond b (priorities_in groups) (priority_part g ∷ priorities_in groups))
    → (x : GroupRecord) × Among x (g ∷ groups) × (p.device ≡ x.device)) [
      | true ↦ λ k. let more = rank_of groups p k in (more.0, inr more.1, more.2)
      | false ↦ λ k. elim k [
        | inl e ↦ (g, inl refl, ap (λ (q : GroupPriority). q.device) e)
        | inr m ↦ let more = rank_of groups p m in (more.0, inr more.1, more.2)
      ]
    ]) h

ranks_known : (groups : List GroupRecord) → are_of_groups (map group_part groups) (priorities_in groups) ≡ true
ranks_known groups =
    all_from (λ (p : GroupPriority). list_any (λ (g : GroupRow). g.device == p.device) (map group_part groups)) (priorities_in groups) (λ p h.
    let from = rank_of groups p h in
    any_some (λ (g : GroupRow). g.device == p.device) (map group_part groups) (group_part from.0) (among_map group_part groups from.0 from.1)
    (eq-eqb from.0.device p.device (sym from.2)))

ranked : (db : Trees) (c : Content) → Encodes db c → is_ranked db ≡ true
unfolding is_ranked
ranked db c is =
    ap₂ are_of_groups (ap (map as_group) (groups_seen db c is) ∙ mapped_back as_group group_values group_back (map group_part c.rows.groups))
    (ap (map as_priority) (priorities_seen db c is) ∙ mapped_back as_priority priority_values priority_back (priorities_in c.rows.groups))
    ∙ ranks_known c.rows.groups

-- ---- further groups come after the first ones of their agents

less_lt : (m n : ℕ) → nat_cmp m n ≡ Less → nat_lt m n ≡ true
less_lt m n h = grind (arith, nat_tests)

above_first : (gs : List ℕ) (g : ℕ) → IsAscending nat_cmp gs → Among g (further_groups gs) → is_above (least_group gs) g ≡ true
above_first [] g up h = absurd h
above_first (f ∷ gs) g up h = less_lt f g (after_among nat_cmp f gs g up.0 h)

one_fewer : (gs : List ℕ) → nat_le (length gs) 8 ≡ true → nat_le (length (further_groups gs)) 7 ≡ true
one_fewer [] h = refl
one_fewer (g ∷ gs) h = fewer (length gs) h
  where
    fewer : (n : ℕ) → nat_le (suc n) 8 ≡ true → nat_le n 7 ≡ true
    fewer n h = grind (arith, nat_tests)

-- the agent of a pair
seat_of : (agents : List AgentRecord) (p : ℕ × ℕ) → Among p (further_in agents)
    → (a : AgentRecord) × Among a agents × (p.0 ≡ a.agent) × Among p.1 (further_groups a.groups)
seat_of [] p h = absurd h
seat_of (a ∷ agents) p h = elim (append_among (further_of a) (further_in agents) p h) [
  | inl k ↦ let from = map_among (λ (g : ℕ). (a.agent, g)) (further_groups a.groups) p k in
      (a, inl refl, ap (λ (q : ℕ × ℕ). q.0) from.2, subst (λ n. Among n (further_groups a.groups)) (sym (ap (λ (q : ℕ × ℕ). q.1) from.2)) from.1)
  | inr k ↦ let more = seat_of agents p k in (more.0, inr more.1, more.2, more.3)
]

module _ (agents : List AgentRecord) (up : IsAscending agent_order agents) (grouped : Every (λ (a : AgentRecord). are_groups a.groups ≡ true) agents) where
  groups_of : (a : AgentRecord) → Among a agents → (nat_le (length a.groups) 8 ≡ true) × (ascends nat_cmp a.groups ≡ true)
  groups_of a h =
      and_parts (nat_le (length a.groups) 8) (ascends nat_cmp a.groups) (every_among (λ (x : AgentRecord). are_groups x.groups ≡ true) agents a grouped h)

  parts_after : are_after (map agent_part agents) (further_in agents) ≡ true
  parts_after = and_from _ _
      (all_from (λ (p : ℕ × ℕ). list_any (λ (a : AgentRow). is_after a p) (map agent_part agents)) (further_in agents) (λ p h.
      let from = seat_of agents p h in
      let a = from.0 in
      any_some (λ (x : AgentRow). is_after x p) (map agent_part agents) (agent_part a) (among_map agent_part agents a from.1)
      (and_from (a.agent == p.0) (is_above (least_group a.groups) p.1) (eq-eqb a.agent p.0 (sym from.2))
      (above_first a.groups p.1 (ascending_from nat_cmp nat_cmp_total a.groups (groups_of a from.1).1) from.3))))
      (all_from (λ (x : AgentRow). nat_le (length (groups_beside (further_in agents) x.agent)) 7) (map agent_part agents) (λ x h.
      let from = map_among agent_part agents x h in
      let a = from.0 in
      ap (λ (y : AgentRow). nat_le (length (groups_beside (further_in agents) y.agent)) 7) from.2
      ∙ ap (λ (gs : List ℕ). nat_le (length gs) 7) (beside_each agents up a from.1)
      ∙ one_fewer a.groups (groups_of a from.1).0))

-- ---- in whatever order their rows are

-- pairs that are in another order come after them too
after_moved : (agents : List AgentRow) (ps qs : List (ℕ × ℕ)) → ((q : ℕ × ℕ) → Has qs q → Has ps q) → IsPermutation ps qs → are_after agents ps ≡ true
    → are_after agents qs ≡ true
after_moved agents ps qs within same h =
    let parts = and_parts _ _ h in
    and_from _ _
    (all_from (λ (p : ℕ × ℕ). list_any (λ (a : AgentRow). is_after a p) agents) qs
    (λ p k. all_true (λ (q : ℕ × ℕ). list_any (λ (a : AgentRow). is_after a q) agents) ps parts.0 p (among_has ps p (within p (has_among qs p k)))))
    (all_from (λ (a : AgentRow). nat_le (length (groups_beside qs a.agent)) 7) agents (λ a k.
    ap (λ n. nat_le n 7) (length_permutation (groups_beside ps a.agent) (groups_beside qs a.agent)
    (IsPermutation-map (λ (p : ℕ × ℕ). p.1) _ _ (IsPermutation-filter (λ (p : ℕ × ℕ). p.0 == a.agent) ps qs same)))
    ∙ all_true (λ (x : AgentRow). nat_le (length (groups_beside ps x.agent)) 7) agents parts.1 a k))

tied_less : {X : Type 0} (o : Ordering) → o ≡ Less → o ≡ Equal → X
tied_less o low tied = absurd (let never : Equal ≡ Less = sym tied ∙ low in cc never)

pairs_apart : (ps : List (ℕ × ℕ)) → IsAscending pair_order ps → AreApart ps
pairs_apart [] up = tt
pairs_apart (p ∷ ps) up = (
  each_from (Differ p) ps (λ q h e. tied_less (pair_order p p) (ap (pair_order p) e ∙ after_among pair_order p ps q up.0 (among_has ps q h))
      (tied_itself (by_both_total agent_groups) p)),
  pairs_apart ps up.1,
)

module _ (rows : List Row) (pairs : List (ℕ × ℕ)) (are : AreHeaped pair_order further_row rows pairs) where
  abbrev pair_in : Row → ℕ × ℕ
  pair_in r = as_further (values_in table.AgentGroups r)

  pair_is : (r : Row) (k : Has rows r) → pair_in r ≡ (are.known r k).1
  pair_is r k = let from = are.known r k in ap pair_in from.2 ∙ further_back from.1

  -- one pair has one row
  same_row : (r s : Row) → Has rows r → Has rows s → pair_in r ≡ pair_in s → r ≡ s
  same_row r s h k e =
      let x = are.known r h in
      let y = are.known s k in
      let same = sym (pair_is r h) ∙ e ∙ pair_is s k in
      are.apart r s h k (ap (λ v. column v 1) x.2 ∙ ap (λ (p : ℕ × ℕ). id_value p.0) same ∙ ap (λ v. column v 1) (sym y.2))
      (ap (λ v. column v 2) x.2 ∙ ap (λ (p : ℕ × ℕ). id_value p.1) same ∙ ap (λ v. column v 2) (sym y.2))

  seen_apart : AreApart (map pair_in rows)
  seen_apart = apart_under pair_in rows (λ r s h k low e.
      tied_less (value_cmp (rowid r) (rowid r)) (ap (λ v. value_cmp (rowid r) (rowid v)) (same_row r s h k e) ∙ low) (tied_itself value_cmp_total (rowid r)))
      are.rising

  pair_there : (p : ℕ × ℕ) → Has pairs p → Has (map pair_in rows) p
  pair_there p h = let at = are.stored p (among_has pairs p h) in
      subst (Has (map pair_in rows)) (further_back p) (mapped_has pair_in rows (further_row at.0 p) at.1)

  pair_known : (p : ℕ × ℕ) → Has (map pair_in rows) p → Has pairs p
  pair_known p h =
      let from = has_mapped pair_in rows p h in
      let x = are.known from.0 from.1 in
      subst (Has pairs) (sym (from.2 ∙ pair_is from.0 from.1)) (has_among pairs x.1 x.3)

  pairs_after : (agents : List AgentRow) → are_after agents pairs ≡ true → are_after agents (map pair_in rows) ≡ true
  pairs_after agents =
      after_moved agents pairs (map pair_in rows) pair_known
      (same_members pairs (map pair_in rows) (pairs_apart pairs are.ascending) seen_apart pair_there pair_known)

beside : (db : Trees) (c : Content) → Encodes db c → IsInRange c → is_beside db ≡ true
unfolding is_beside
beside db c is range =
    let agents = map agent_part c.rows.agents in
    let rows = db (tree_of table.AgentGroups) in
    ap₂ are_after (ap (map as_agent) (agents_seen db c is) ∙ mapped_back as_agent agent_values agent_back agents)
    (mapped_twice as_further (values_in table.AgentGroups) rows)
    ∙ pairs_after rows (further_in c.rows.agents) (is table.AgentGroups) agents
    (parts_after c.rows.agents (agents_rise c.rows.agents (is table.Agents).ascending) range.groups)

-- ---- the version

module _ (db : Trees) (c : Content) (is : Encodes db c) where
  version_there : IsVersionIn db (Some 2)
  version_there = let row = meta_row_as 2 (meta_of c.rows) in (row, subst (λ (rows : List Row). Has rows row) (sym (is table.Meta)) (inl refl), refl)

  only_version : (read : Option ℕ) → IsVersionIn db read → read ≡ Some 2
  only_version read h =
      (elim (subst (λ (rows : List Row). Has rows h.0) (is table.Meta) h.1) [
        | inl e ↦ sym h.2 ∙ ap (λ r. whole_at r 2) e
        | inr never ↦ absurd never
      ])

-- ---- what is found

meta_there : has_meta book_schema.tables ≡ true
unfolding has_meta
meta_there = refl

module _ (d : Database) (c : Content) (lists : d.schema ≡ book_schema) (is : Encodes d.trees c) (range : IsInRange c) where
  begins : BeginsAsBook d.schema
  begins = subst BeginsAsBook (sym lists) (_, refl)

  second : (v : Version) → d.schema ≡ schema_of v → v ≡ version.Second
  second version.First e = absurd (apart_schemas (sym lists ∙ e))
  second version.Second e = refl

  is_second : (v : Version) → IsVersionIn d.trees (Some (version_number v)) → v ≡ version.Second
  is_second version.First h = absurd (let no = only_version d.trees c is (Some 1) h in cc no)
  is_second version.Second h = refl

  never_wrong : (n : ℕ) → (n ≡ 2 → ⊥) → IsVersion d n → ⊥
  never_wrong n differs (inl without) =
      absurd (let there = ap (λ (s : Schema). has_meta s.tables) lists ∙ meta_there in let not_there = without.0 in cc (there, not_there))
  never_wrong n differs (inr (_, inl empty)) = absurd (let no = sym empty.0 ∙ is table.Meta in cc no)
  never_wrong n differs (inr (_, inr read)) = differs (some_is n 2 (only_version d.trees c is (Some n) read))

  misplaced_never : (t : Table) → IsMisplaced t d.trees → ⊥
  misplaced_never table.AgentGroups h = absurd (let yes = beside d.trees c is range in cc (h, yes))
  misplaced_never table.GroupPriority h = absurd (let yes = ranked d.trees c is in cc (h, yes))
  misplaced_never table.Meta h = h
  misplaced_never table.Groups h = h
  misplaced_never table.Stations h = h
  misplaced_never table.Agents h = h
  misplaced_never table.Calls h = h
  misplaced_never table.Connections h = h
  misplaced_never table.Monitors h = h
  misplaced_never table.Events h = h
  misplaced_never table.Kept h = h

  never_bad : (t : Table) → IsBadIn t d → ⊥
  never_bad t (inl out) = absurd (let no = out.1 in let yes = good d.trees c is range t in cc (no, yes))
  never_bad t (inr (inl unread)) = absurd (let no = only_version d.trees c is None unread.2 in cc no)
  never_bad t (inr (inr at)) = misplaced_never t at.1

  never_unlike : IsUnlike d → ⊥
  never_unlike (other named not_begun) = not_begun begins
  never_unlike (unheld v read begun no_book) = no_book version.Second lists
  never_unlike (unlike v read at differs there) = differs (is_second read there ∙ sym (second v at))

  never_fault : (f : AdoptFault) → IsFoundFaultOf d f → ⊥
  never_fault (WrongVersion n) h = never_wrong n h.1 h.2
  never_fault (BadRow t) h = never_bad t h
  never_fault NoMemory h = h
  never_fault Store h = never_unlike h

  of_book : IsOfBook version.Second d
  of_book = record {
    schema_is = lists;
    in_range = λ canonical t here. good d.trees c is range t;
    version = version_there d.trees c is;
    placed = (beside d.trees c is range, ranked d.trees c is);
  }

  only : (found : Found) → IsFound d found → found ≡ Book version.Second
  only (Book v) h = ap Book (second v h.schema_is)
  only (Fault f) h = absurd (never_fault f h)

pub books_reopen : (d : Database) (c : Content) → IsDatabase d → IsBook d.trees c → Reopens d c
books_reopen d c obeys book =
    let schema = lists_once (d.trees catalog_tree) d.schema book_schema obeys.lists book.sound.lists in record {
      schema = schema;
      canonical = second_canonical d c schema book.encodes;
      content = decoded d.trees c book.encodes;
      of_book = of_book d c schema book.encodes book.range;
      only = only d c schema book.encodes book.range;
    }

-- ---- what `adopt` answers

-- of a connection that was opened over a book
pub over_book : (s : State) (c : Content) → Opens s → IsLive s → IsBook s.now.trees c → IsOverBook s c
over_book s c opened live book = record { idle = opened.clean; reopens = books_reopen s.now c (live opened.is_open).0 book }

module _ (old : State) (c : Content) (over : IsOverBook old c) where
  adopts_content : (new : State) (failures : ℕ) → IsAdopted old.now (book_state old 0) (book_state new failures) → content_of new.committed.trees ≡ c
  adopts_content new failures h = h.content over.reopens.canonical ∙ ap (λ (d : Database). content_of d.trees) (sym over.idle) ∙ over.reopens.content

  found_never : (f : AdoptFault) → IsFoundFaultOf old.now f → ⊥
  found_never f h = let no = over.reopens.only (Fault f) h in absurd (cc no)

  store_cause : (new : State) → AdoptCause old new → StoreHasFailed old new
  store_cause new (failed more) = inl more
  store_cause new (shut down) = inr down
  store_cause new (other_tables found) = absurd (found_never Store found)
  store_cause new (refused first unread) = absurd (apart_schemas (sym over.reopens.schema ∙ first))

  fails : (new : State) (f : AdoptFault) → IsAdoptFaultOf old.now f → HasAdoptCause f old new → FailsToAdopt f old new
  fails new (WrongVersion n) fault cause = found_never (WrongVersion n) fault
  fails new (BadRow t) fault cause = found_never (BadRow t) fault
  fails new NoMemory fault cause = tt
  fails new Store fault cause = store_cause new (cause over.reopens.canonical refl)

  hands_back_failed : (new : State) (f : AdoptFault) → IsHandedBack old.now (book_state old 0) (book_state new 0) f → HasAdoptCause f old new
      → FailsToAdopt f old new
  hands_back_failed new f h cause = fails new f h.cause cause

module _ {S : Type 0} (g : Ghosts S) (conn : Held S) (c : Content) (over : IsOverBook (state g conn) c) where
  pub books_are_adopted : (result : AdoptResult S) → IsAdoptAnswer g conn result → Adopts g conn result c
  books_are_adopted (Ok b) h = record { content = λ clean. adopts_content (state g conn) c over (state g b.conn) b.failures (h.adopted clean); failed = tt }
  books_are_adopted (Err e) h = record {
    content = tt;
    failed = λ clean. hands_back_failed (state g conn) c over (state g e.1) e.0 (h.handed_back clean) (h.caused clean);
  }
