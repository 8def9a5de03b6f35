-- A row belongs to others in whatever order they are seen.
use Rattle.std.proofs.Common.{◌≡◌, ◌==◌, ◌&&◌, ◌||◌, ℕ, Bool, true, false, not, List, [], ◌∷◌, length, map, filter, nat_le, Some, Result, Ok, Err, IfOk, refl, sym, ap, ap₂, subst, ◌∙◌}
use Rattle.std.specs.Prelude.{Vec, IsPermutation}
use Rattle.std.specs.declared.alloc.Global.{Global}
use Rattle.std.specs.List.{list_any, list_all}
use Rattle.std.proofs.lemmas.List.Sorted.{IsPermutation-map, IsPermutation-refl, list_any-IsPermutation, length_permutation}
use Rattle.sqlite_trees.proofs.ListLemmas.{IsPermutation-filter}
use Rattle.sqlite_value.specs.Order.{Row}
use Rattle.sqlite.specs.Effect.{Database}
use Rattle.sqlite.specs.State.{State}
use Rattle.sqlite.specs.declared.error.Error.{Error}
use Rattle.acd_sql_columns.specs.declared.relations.AgentRow.{AgentRow}
use Rattle.acd_sql_columns.specs.declared.relations.GroupRow.{GroupRow}
use Rattle.acd_sql_columns.specs.declared.relations.GroupPriority.{GroupPriority}
use Rattle.acd_sql_columns.specs.declared.tables.Table.TheVariants as table
use Rattle.acd_sql_columns.specs.AnyRows.{rows_in, is_beside, is_ranked}
use Rattle.acd_sql_columns.specs.Decoding.{as_group, as_priority, as_agent, as_further}
use Rattle.acd_sql_columns.specs.Ranges.{further_of_row}
use Rattle.acd_sql_columns.specs.Relations.{groups_beside, is_after, are_after, are_of_groups}
use Rattle.acd_sql_columns.specs.Rows.{group_values, priority_values, agent_values, further_values}
use Rattle.acd_sql_columns.specs.DatabaseView.{Sees}
use Rattle.acd_sql_columns.proofs.Rows.Records.{group_back, priority_back, agent_back, further_back, further_stored}
use Rattle.acd_sql_columns.proofs.Results.SnapshotReads.{sees_on, sees_then}
use Rattle.acd_lemmas.proofs.Lists.{head_is, tail_is}

-- ---- lists in another order

all_is : {X : Type 0} (p : X → Bool) (xs : List X) → list_all p xs ≡ not (list_any (λ x. not (p x)) xs)
all_is p [] = refl
all_is p (x ∷ xs) = by (p x) (list_all p xs) (list_any (λ y. not (p y)) xs) (all_is p xs)
  where
    by : (a b c : Bool) → b ≡ not c → (a && b) ≡ not (not a || c)
    by true b c e = e
    by false b c e = refl

all_moved : {X : Type 0} (p : X → Bool) (xs ys : List X) → IsPermutation xs ys → list_all p xs ≡ list_all p ys
all_moved p xs ys same = all_is p xs ∙ ap not (list_any-IsPermutation (λ x. not (p x)) xs ys same) ∙ sym (all_is p ys)

all_like : {X : Type 0} (p q : X → Bool) → ((x : X) → p x ≡ q x) → (xs : List X) → list_all p xs ≡ list_all q xs
all_like p q like [] = refl
all_like p q like (x ∷ xs) = ap₂ ◌&&◌ (like x) (all_like p q like xs)

beside_moved : (ps qs : List (ℕ × ℕ)) (n : ℕ) → IsPermutation ps qs → length (groups_beside ps n) ≡ length (groups_beside qs n)
beside_moved ps qs n same =
    sym (length_permutation (groups_beside ps n) (groups_beside qs n)
    (IsPermutation-map (λ (p : ℕ × ℕ). p.1) (filter (λ (p : ℕ × ℕ). p.0 == n) ps) (filter (λ (p : ℕ × ℕ). p.0 == n) qs)
    (IsPermutation-filter (λ (p : ℕ × ℕ). p.0 == n) ps qs same)))

pub after_moved : (xs ys : List AgentRow) (ps qs : List (ℕ × ℕ)) → IsPermutation xs ys → IsPermutation ps qs → are_after xs ps ≡ are_after ys qs
after_moved xs ys ps qs agents pairs =
    ap₂ ◌&&◌
    (all_like (λ (p : ℕ × ℕ). list_any (λ (a : AgentRow). is_after a p) xs) (λ (p : ℕ × ℕ). list_any (λ (a : AgentRow). is_after a p) ys)
    (λ p. list_any-IsPermutation (λ (a : AgentRow). is_after a p) xs ys agents) ps
    ∙ all_moved (λ (p : ℕ × ℕ). list_any (λ (a : AgentRow). is_after a p) ys) ps qs pairs)
    (all_like (λ (a : AgentRow). nat_le (length (groups_beside ps a.agent)) 7) (λ (a : AgentRow). nat_le (length (groups_beside qs a.agent)) 7)
    (λ a. ap (λ n. nat_le n 7) (beside_moved ps qs a.agent pairs)) xs
    ∙ all_moved (λ (a : AgentRow). nat_le (length (groups_beside qs a.agent)) 7) xs ys agents)

pub of_groups_moved : (xs ys : List GroupRow) (ps qs : List GroupPriority) → IsPermutation xs ys → IsPermutation ps qs
    → are_of_groups xs ps ≡ are_of_groups ys qs
of_groups_moved xs ys ps qs groups priorities =
    all_like (λ (p : GroupPriority). list_any (λ (g : GroupRow). g.device == p.device) xs)
    (λ (p : GroupPriority). list_any (λ (g : GroupRow). g.device == p.device) ys)
    (λ p. list_any-IsPermutation (λ (g : GroupRow). g.device == p.device) xs ys groups) ps
    ∙ all_moved (λ (p : GroupPriority). list_any (λ (g : GroupRow). g.device == p.device) ys) ps qs priorities

-- ---- rows and their records

shown_all : {R : Type 0} (show : Row → R) (values : R → Row) → ((r : R) → show (values r) ≡ r) → (rs : List R) → map show (map values rs) ≡ rs
shown_all show values back [] = refl
shown_all show values back (r ∷ rs) = ap₂ (λ x l. x ∷ l) (back r) (shown_all show values back rs)

pub shown_moved : {R : Type 0} (show : Row → R) (values : R → Row) → ((r : R) → show (values r) ≡ r) → (rows : List Row) (rs : List R)
    → IsPermutation rows (map values rs) → IsPermutation (map show rows) rs
shown_moved show values back rows rs same =
    subst (IsPermutation (map show rows)) (shown_all show values back rs) (IsPermutation-map show rows (map values rs) same)

pairs_read : (rows : List Row) (found : List (ℕ × ℕ)) → map Some found ≡ map further_of_row rows → rows ≡ map further_values found
pairs_read [] [] e = refl
pairs_read [] (x ∷ found) e = absurd (cc e)
pairs_read (row ∷ rows) [] e = absurd (cc e)
pairs_read (row ∷ rows) (x ∷ found) e =
    ap₂ (λ r rs. r ∷ rs) (further_stored row x (sym (head_is (Some x) (further_of_row row) (map Some found) (map further_of_row rows) e)))
    (pairs_read rows found (tail_is (Some x) (further_of_row row) (map Some found) (map further_of_row rows) e))

-- ---- what is seen

pub pairs_seen : (d : Database) (old new : State) (rows : Vec Row Global) (r : Result (Vec (ℕ × ℕ) Global) Error)
    → IfOk r (λ found. map Some found.items ≡ map further_of_row rows.items)
    → Sees d old new (Ok rows) (λ rows. IsPermutation (rows_in table.AgentGroups d.trees) rows.items)
    → Sees d old new r (λ pairs. IsPermutation (map as_further (rows_in table.AgentGroups d.trees)) pairs.items)
pairs_seen d old new rows (Ok found) read h =
    sees_on d old new rows (λ rows. IsPermutation (rows_in table.AgentGroups d.trees) rows.items)
    (λ pairs. IsPermutation (map as_further (rows_in table.AgentGroups d.trees)) pairs.items) (Ok found) h
    (λ old_database same. shown_moved as_further further_values further_back (rows_in table.AgentGroups d.trees) found.items
    (subst (IsPermutation (rows_in table.AgentGroups d.trees)) (pairs_read rows.items found.items read) same))
pairs_seen d old new rows (Err e) read h =
    sees_on d old new rows (λ rows. IsPermutation (rows_in table.AgentGroups d.trees) rows.items)
    (λ pairs. IsPermutation (map as_further (rows_in table.AgentGroups d.trees)) pairs.items) (Err e) h (λ old_database same. tt)

pub agents_seen : (d : Database) (old new : State) (agents : Vec AgentRow Global) (pairs : List (ℕ × ℕ)) (placed : Bool) → placed ≡ are_after agents.items pairs
    → Sees d old new (Ok agents) (λ found. IsPermutation (rows_in table.Agents d.trees) (map agent_values found.items))
    → Sees d old new (Ok placed) (λ placed. placed ≡ are_after (map as_agent (rows_in table.Agents d.trees)) pairs)
agents_seen d old new agents pairs placed is h =
    sees_on d old new agents (λ found. IsPermutation (rows_in table.Agents d.trees) (map agent_values found.items))
    (λ placed. placed ≡ are_after (map as_agent (rows_in table.Agents d.trees)) pairs) (Ok placed) h
    (λ old_database same. is
    ∙ sym (after_moved (map as_agent (rows_in table.Agents d.trees)) agents.items pairs pairs
    (shown_moved as_agent agent_values agent_back (rows_in table.Agents d.trees) agents.items same) (IsPermutation-refl pairs)))

pub further_seen : (d : Database) (old mid new : State) (pairs : Vec (ℕ × ℕ) Global) (qs : List (ℕ × ℕ)) (r : Result Bool Error) → qs ≡ pairs.items
    → Sees d old mid (Ok pairs) (λ pairs. IsPermutation (map as_further (rows_in table.AgentGroups d.trees)) pairs.items)
    → Sees d mid new r (λ placed. placed ≡ are_after (map as_agent (rows_in table.Agents d.trees)) qs) → Sees d old new r (λ placed. placed ≡ is_beside d.trees)
unfolding is_beside
further_seen d old mid new pairs qs r at first next =
    sees_then d old mid new pairs (λ pairs. IsPermutation (map as_further (rows_in table.AgentGroups d.trees)) pairs.items) first
    (λ placed. placed ≡ are_after (map as_agent (rows_in table.Agents d.trees)) qs)
    (λ placed. placed ≡ are_after (map as_agent (rows_in table.Agents d.trees)) (map as_further (rows_in table.AgentGroups d.trees))) r
    (λ same placed is.
    is ∙ ap (are_after (map as_agent (rows_in table.Agents d.trees))) at
    ∙ sym (after_moved (map as_agent (rows_in table.Agents d.trees)) (map as_agent (rows_in table.Agents d.trees))
    (map as_further (rows_in table.AgentGroups d.trees)) pairs.items (IsPermutation-refl _) same))
    next

pub groups_seen : (d : Database) (old new : State) (groups : Vec GroupRow Global) (ps : List GroupPriority) (placed : Bool)
    → placed ≡ are_of_groups groups.items ps
    → Sees d old new (Ok groups) (λ found. IsPermutation (rows_in table.Groups d.trees) (map group_values found.items))
    → Sees d old new (Ok placed) (λ placed. placed ≡ are_of_groups (map as_group (rows_in table.Groups d.trees)) ps)
groups_seen d old new groups ps placed is h =
    sees_on d old new groups (λ found. IsPermutation (rows_in table.Groups d.trees) (map group_values found.items))
    (λ placed. placed ≡ are_of_groups (map as_group (rows_in table.Groups d.trees)) ps) (Ok placed) h
    (λ old_database same. is
    ∙ sym (of_groups_moved (map as_group (rows_in table.Groups d.trees)) groups.items ps ps
    (shown_moved as_group group_values group_back (rows_in table.Groups d.trees) groups.items same) (IsPermutation-refl ps)))

pub priorities_seen : (d : Database) (old mid new : State) (ps : Vec GroupPriority Global) (qs : List GroupPriority) (r : Result Bool Error) → qs ≡ ps.items
    → Sees d old mid (Ok ps) (λ found. IsPermutation (rows_in table.GroupPriority d.trees) (map priority_values found.items))
    → Sees d mid new r (λ placed. placed ≡ are_of_groups (map as_group (rows_in table.Groups d.trees)) qs)
    → Sees d old new r (λ placed. placed ≡ is_ranked d.trees)
unfolding is_ranked
priorities_seen d old mid new ps qs r at first next =
    sees_then d old mid new ps (λ found. IsPermutation (rows_in table.GroupPriority d.trees) (map priority_values found.items)) first
    (λ placed. placed ≡ are_of_groups (map as_group (rows_in table.Groups d.trees)) qs)
    (λ placed. placed ≡ are_of_groups (map as_group (rows_in table.Groups d.trees)) (map as_priority (rows_in table.GroupPriority d.trees))) r
    (λ same placed is.
    is ∙ ap (are_of_groups (map as_group (rows_in table.Groups d.trees))) at
    ∙ sym (of_groups_moved (map as_group (rows_in table.Groups d.trees)) (map as_group (rows_in table.Groups d.trees))
    (map as_priority (rows_in table.GroupPriority d.trees)) ps.items (IsPermutation-refl _)
    (shown_moved as_priority priority_values priority_back (rows_in table.GroupPriority d.trees) ps.items same)))
    next
