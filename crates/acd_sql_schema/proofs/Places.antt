-- The rows beside those of agents and of groups: none in version 1.
use Rattle.std.proofs.Common.{◌≡◌, ◌==◌, ◌≤◌, ℕ, ℤ, suc, Bool, true, false, cond, List, [], ◌∷◌, length, map, filter, drop, nat_le, inl, inr, Option, Some, None, refl, sym, ap, ap₂, subst, ◌∙◌, arith}
use Rattle.std.specs.List.{list_all, list_any}
use Rattle.std.specs.Option.{is_some}
use Rattle.std.specs.Ordering.{match_ordering}
use Rattle.std.specs.declared.cmp.Ordering.{Ordering}
use Rattle.std.specs.declared.cmp.Ordering.TheVariants.{Less, Equal, Greater}
use Rattle.std.proofs.lemmas.Bool.{eqb-true, and_parts, and_from}
use Rattle.std.proofs.lemmas.Bool.Decides.{nat_tests}
use Rattle.sqlite_value.specs.Order.{Row}
use Rattle.sqlite_trees.specs.Tree.{Trees}
use Rattle.sqlite_rules.specs.Lists.{Has}
use Rattle.acd_terms.specs.Forms.{number_between}
use Rattle.acd_terms.specs.Lists.{Among, IsAscending, put_by}
use Rattle.acd_lemmas.proofs.Lists.{all_true, all_from}
use Rattle.acd_sql_columns.specs.declared.relations.AgentRow.{AgentRow}
use Rattle.acd_sql_columns.specs.declared.relations.GroupRow.{GroupRow}
use Rattle.acd_sql_columns.specs.declared.relations.GroupPriority.{GroupPriority}
use Rattle.acd_sql_columns.specs.declared.tables.Table.TheVariants as table
use Rattle.acd_sql_columns.specs.declared.tables.Version.{Version}
use Rattle.acd_sql_columns.specs.declared.tables.Version.TheVariants as version
use Rattle.acd_sql_columns.specs.AnyRows.{is_good, are_good, values_in, rows_in, is_beside, is_ranked}
use Rattle.acd_sql_columns.specs.Content.{AreRows, AreHeaped, IsIn, tree_of}
use Rattle.acd_sql_columns.specs.Decoding.{as_group, as_priority, as_agent, as_further}
use Rattle.acd_sql_columns.specs.InTables.{in_order}
use Rattle.acd_sql_columns.specs.Relations.{pair_order, groups_beside, is_after, are_after, are_of_groups}
use Rattle.acd_sql_columns.specs.Rows.{agent_row, group_row, priority_row, priority_values, further_row, further_values}
use Rattle.acd_sql_columns.specs.Ranges.{priority_of_row}
use Rattle.acd_sql_columns.specs.Tables.{agent_groups}
use Rattle.acd_sql_columns.specs.Values.{◌>>=◌, id_value, device_at, priority_at}
use Rattle.acd_sql_columns.proofs.Rows.RowsOfRecords.{from_order, heap_back}
use Rattle.acd_sql_columns.proofs.OneTable.CompositeKeys.{by_both_total}
use Rattle.acd_sql_columns.proofs.Rows.RejoinedRows.{by_rank}
use Rattle.acd_sql_columns.proofs.Rows.Records.{group_back, priority_back, agent_back, further_back}
use Rattle.acd_sql_schema.specs.Inspection.{ArePlaced}

-- ---- pairs in their order

pub longer : (m n : ℕ) → m ≤ n → suc m ≤ suc n
longer m n h = omega arith

longer_by : (b : Bool) (m n : ℕ) → m ≤ n → cond b (suc m) m ≤ cond b (suc n) n
longer_by true m n h = longer m n h
longer_by false m n h = h

few : (m n : ℕ) → m ≤ n → nat_le n 7 ≡ true → nat_le m 7 ≡ true
few m n h k = grind (arith, nat_tests)

module _ (n : ℕ) where
  abbrev of_one : ℕ × ℕ → Bool
  of_one p = p.0 == n

  abbrev count : List (ℕ × ℕ) → ℕ
  count ps = length (groups_beside ps n)

  one_more : (p : ℕ × ℕ) (ps : List (ℕ × ℕ)) → count (p ∷ ps) ≡ cond (p.0 == n) (suc (count ps)) (count ps)
  one_more p ps = by (p.0 == n)
    where
      by : (b : Bool) → length (map (λ (q : ℕ × ℕ). q.1) (cond b (p ∷ filter of_one ps) (filter of_one ps))) ≡ cond b (suc (count ps)) (count ps)
      by true = refl
      by false = refl

  at_most : (b : Bool) (m : ℕ) → m ≤ cond b (suc m) m
  at_most true m = omega arith
  at_most false m = omega arith

  swapped : (b c : Bool) (m : ℕ) → cond b (suc (cond c (suc m) m)) (cond c (suc m) m) ≡ cond c (suc (cond b (suc m) m)) (cond b (suc m) m)
  swapped true true m = refl
  swapped true false m = refl
  swapped false true m = refl
  swapped false false m = refl

  -- one that is put adds one at most
  put_adds : (p : ℕ × ℕ) (ps : List (ℕ × ℕ)) → count (put_by (pair_order p) ps p) ≤ count (p ∷ ps)
  put_adds p [] = omega arith
  put_adds p (q ∷ ps) = by (pair_order p q) (put_adds p ps)
    where
      by : (o : Ordering) → count (put_by (pair_order p) ps p) ≤ count (p ∷ ps)
          → count (match_ordering o (p ∷ q ∷ ps) (p ∷ ps) (q ∷ put_by (pair_order p) ps p)) ≤ count (p ∷ q ∷ ps)
      by Less more = omega arith
      by Equal more =
          subst (λ k. count (p ∷ ps) ≤ k) (sym (one_more p (q ∷ ps)))
          (subst (λ k. k ≤ cond (p.0 == n) (suc (count (q ∷ ps))) (count (q ∷ ps))) (sym (one_more p ps))
          (longer_by (p.0 == n) (count ps) (count (q ∷ ps)) (subst (λ k. count ps ≤ k) (sym (one_more q ps)) (at_most (q.0 == n) (count ps)))))
      by Greater more =
          subst (λ k. count (q ∷ put_by (pair_order p) ps p) ≤ k)
          (sym (one_more p (q ∷ ps) ∙ ap (λ k. cond (p.0 == n) (suc k) k) (one_more q ps) ∙ swapped (p.0 == n) (q.0 == n) (count ps)
          ∙ ap (λ k. cond (q.0 == n) (suc k) k) (sym (one_more p ps))))
          (subst (λ k. k ≤ cond (q.0 == n) (suc (count (p ∷ ps))) (count (p ∷ ps))) (sym (one_more q (put_by (pair_order p) ps p)))
          (longer_by (q.0 == n) (count (put_by (pair_order p) ps p)) (count (p ∷ ps)) more))

  both_at_most : (m k l : ℕ) → m ≤ k → k ≤ l → m ≤ l
  both_at_most m k l h i = omega (arith, h, i)

  in_order_at_most : (ps : List (ℕ × ℕ)) → count (in_order pair_order ps) ≤ count ps
  in_order_at_most [] = omega arith
  in_order_at_most (p ∷ ps) =
      both_at_most _ (count (p ∷ in_order pair_order ps)) _ (put_adds p (in_order pair_order ps))
      (subst (λ k. k ≤ count (p ∷ ps)) (sym (one_more p (in_order pair_order ps)))
      (subst (λ k. cond (p.0 == n) (suc (count (in_order pair_order ps))) (count (in_order pair_order ps)) ≤ k) (sym (one_more p ps))
      (longer_by (p.0 == n) (count (in_order pair_order ps)) (count ps) (in_order_at_most ps))))

-- they come after the first groups of their agents in whatever order they come
after_in_order : (agents : List AgentRow) (pairs : List (ℕ × ℕ)) → are_after agents pairs ≡ true → are_after agents (in_order pair_order pairs) ≡ true
after_in_order agents pairs h =
    let parts =
    and_parts (list_all (λ (p : ℕ × ℕ). list_any (λ (a : AgentRow). is_after a p) agents) pairs)
    (list_all (λ (a : AgentRow). nat_le (length (groups_beside pairs a.agent)) 7) agents) h in
    and_from _ _
    (all_from (λ (p : ℕ × ℕ). list_any (λ (a : AgentRow). is_after a p) agents) (in_order pair_order pairs)
    (λ p k. all_true (λ (q : ℕ × ℕ). list_any (λ (a : AgentRow). is_after a q) agents) pairs parts.0 p (from_order pair_order pairs p k)))
    (all_from (λ (a : AgentRow). nat_le (length (groups_beside (in_order pair_order pairs) a.agent)) 7) agents
    (λ a k. few _ _ (in_order_at_most a.agent pairs) (all_true (λ (x : AgentRow). nat_le (length (groups_beside pairs x.agent)) 7) agents parts.1 a k)))

-- ---- what the rows show

shown : {R : Type 0} (show : Row → R) (see : Row → Row) (row : R → Row) → ((x : R) → show (see (row x)) ≡ x) → (xs : List R)
    → map show (map see (map row xs)) ≡ xs
shown show see row back [] = refl
shown show see row back (x ∷ xs) = ap₂ (λ y l. y ∷ l) (back x) (shown show see row back xs)

pairs_seen : (rows : List Row) → ((r : Row) → Has rows r → (id : ℤ) × (p : ℕ × ℕ) × (r ≡ further_row id p))
    → map as_further (map (values_in table.AgentGroups) rows) ≡ map (λ r. as_further (drop 1 r)) rows
pairs_seen [] h = refl
pairs_seen (r ∷ rows) h =
    let from = h r (inl refl) in
    ap₂ (λ p ps. p ∷ ps) (subst (λ s. as_further (values_in table.AgentGroups s) ≡ as_further (drop 1 s)) (sym from.2) refl)
    (pairs_seen rows (λ s k. h s (inr k)))

-- a priority in its range isn't 0
none_read : (o : Option ℕ) (next : ℕ → Option GroupPriority) → ((x : ℕ) → next x ≡ None) → is_some (o >>= next) ≡ false
none_read None next none = refl
none_read (Some x) next none = ap is_some (none x)

no_rank : (d n : ℕ) → n ≡ 0 → is_some (priority_of_row (priority_values (record { device = d; priority = n }))) ≡ false
unfolding priority_at number_between
no_rank d n e =
    subst (λ k. is_some (priority_of_row (priority_values (record { device = d; priority = k }))) ≡ false) (sym e)
    (none_read (device_at (id_value d ∷ id_value 0 ∷ []) 0) _ (λ x. refl))

one_ranked : (p : GroupPriority) → is_some (priority_of_row (priority_values p)) ≡ true → (p.priority == 0) ≡ false
one_ranked p h = by (p.priority == 0) refl
  where
    by : (b : Bool) → (p.priority == 0) ≡ b → b ≡ false
    by true e = absurd (let no = no_rank p.device p.priority (eqb-true p.priority 0 e) in cc (no, h))
    by false e = refl

all_ranked : (ps : List GroupPriority) → are_good table.GroupPriority (map priority_values ps) ≡ true → (p : GroupPriority) → Among p ps
    → (p.priority == 0) ≡ false
unfolding are_good
all_ranked ps h p k = one_ranked p (go ps h k)
  where
    go : (ps : List GroupPriority) → list_all (is_good table.GroupPriority) (map priority_values ps) ≡ true → Among p ps
        → is_good table.GroupPriority (priority_values p) ≡ true
    go [] h k = absurd k
    go (q ∷ ps) h (inl e) =
        subst (λ (x : GroupPriority). is_good table.GroupPriority (priority_values x) ≡ true) (sym e)
        (and_parts (is_good table.GroupPriority (priority_values q)) (list_all (is_good table.GroupPriority) (map priority_values ps)) h).0
    go (q ∷ ps) h (inr k) =
        go ps (and_parts (is_good table.GroupPriority (priority_values q)) (list_all (is_good table.GroupPriority) (map priority_values ps)) h).1 k

-- ---- in a version

abbrev pub NoneBefore : Version → List (ℕ × ℕ) → List GroupPriority → Type 0
NoneBefore version.First further priorities = (further ≡ []) × (priorities ≡ [])
NoneBefore version.Second further priorities = Unit {0}

-- further groups after the first ones of these agents, and priorities of these groups
pub record Beside (v : Version) (db : Trees) (agents : List AgentRow) (groups : List GroupRow) : Type 0 where
  pub further : List (ℕ × ℕ)
  pub priorities : List GroupPriority
  pub none_before : NoneBefore v further priorities
  pub further_are : IsIn v table.AgentGroups → AreHeaped pair_order further_row (db (tree_of table.AgentGroups)) further
  pub priorities_are : IsIn v table.GroupPriority → AreRows (λ (p : GroupPriority). p.device) priority_row (db (tree_of table.GroupPriority)) priorities
  pub further_rise : IsAscending pair_order further
  pub priorities_rise : IsAscending by_rank priorities
  pub after : are_after agents further ≡ true
  pub known : are_of_groups groups priorities ≡ true
  pub ranked : (p : GroupPriority) → Among p priorities → (p.priority == 0) ≡ false
  pub further_good : are_good table.AgentGroups (map further_values further) ≡ true
  pub priorities_good : are_good table.GroupPriority (map priority_values priorities) ≡ true

all_few : (agents : List AgentRow) → list_all (λ (a : AgentRow). nat_le (length (groups_beside [] a.agent)) 7) agents ≡ true
all_few [] = refl
all_few (a ∷ agents) = all_few agents

pub none_beside : (db : Trees) (agents : List AgentRow) (groups : List GroupRow) → Beside version.First db agents groups
unfolding are_good
none_beside db agents groups = record {
  further = [];
  priorities = [];
  none_before = (refl, refl);
  further_are = λ here. absurd here;
  priorities_are = λ here. absurd here;
  further_rise = tt;
  priorities_rise = tt;
  after = all_few agents;
  known = refl;
  ranked = λ p h. absurd h;
  further_good = refl;
  priorities_good = refl;
}

module _ (db : Trees) (agents : List AgentRow) (groups : List GroupRow) (further : List (ℕ × ℕ)) (priorities : List GroupPriority)
    (agents_are : AreRows (λ (a : AgentRow). a.agent) agent_row (db (tree_of table.Agents)) agents)
    (groups_are : AreRows (λ (g : GroupRow). g.device) group_row (db (tree_of table.Groups)) groups)
    (further_are : AreHeaped pair_order further_row (db (tree_of table.AgentGroups)) further)
    (priorities_are : AreRows (λ (p : GroupPriority). p.device) priority_row (db (tree_of table.GroupPriority)) priorities) where
  agents_seen : map as_agent (rows_in table.Agents db) ≡ agents
  agents_seen =
      ap (λ rows. map as_agent (map (values_in table.Agents) rows)) agents_are.rows_are ∙ shown as_agent (values_in table.Agents) agent_row agent_back agents

  groups_seen : map as_group (rows_in table.Groups db) ≡ groups
  groups_seen =
      ap (λ rows. map as_group (map (values_in table.Groups) rows)) groups_are.rows_are ∙ shown as_group (values_in table.Groups) group_row group_back groups

  priorities_seen : map as_priority (rows_in table.GroupPriority db) ≡ priorities
  priorities_seen =
      ap (λ rows. map as_priority (map (values_in table.GroupPriority) rows)) priorities_are.rows_are
      ∙ shown as_priority (values_in table.GroupPriority) priority_row priority_back priorities

  further_seen : in_order pair_order (map as_further (rows_in table.AgentGroups db)) ≡ further
  further_seen =
      ap (in_order pair_order) (pairs_seen (db (tree_of table.AgentGroups)) (λ r k. let from = further_are.known r k in (from.0, from.1, from.2)))
      ∙ heap_back pair_order (by_both_total agent_groups) further_row as_further (λ id p. further_back p) (db (tree_of table.AgentGroups)) further further_are

  are_all_after : is_beside db ≡ true → are_after agents further ≡ true
  unfolding is_beside
  are_all_after h =
      subst (λ ps. are_after agents ps ≡ true) further_seen
      (after_in_order agents (map as_further (rows_in table.AgentGroups db))
      (subst (λ rows. are_after rows (map as_further (rows_in table.AgentGroups db)) ≡ true) agents_seen h))

  are_all_known : is_ranked db ≡ true → are_of_groups groups priorities ≡ true
  unfolding is_ranked
  are_all_known h =
      subst (λ ps. are_of_groups groups ps ≡ true) priorities_seen
      (subst (λ rows. are_of_groups rows (map as_priority (rows_in table.GroupPriority db)) ≡ true) groups_seen h)

  pub all_beside : ArePlaced version.Second db → are_good table.AgentGroups (map further_values further) ≡ true
      → are_good table.GroupPriority (map priority_values priorities) ≡ true → Beside version.Second db agents groups
  all_beside placed right ranks = record {
    further = further;
    priorities = priorities;
    none_before = tt;
    further_are = λ here. further_are;
    priorities_are = λ here. priorities_are;
    further_rise = further_are.ascending;
    priorities_rise = priorities_are.ascending;
    after = are_all_after placed.0;
    known = are_all_known placed.1;
    ranked = all_ranked priorities ranks;
    further_good = right;
    priorities_good = ranks;
  }
