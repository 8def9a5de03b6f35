-- A statement on one table: what it leaves of the content.
use Rattle.std.proofs.Common.{◌≡◌, ◌≢◌, ℕ, ℤ, List, [], ◌∷◌, true, false, ◌==◌, slice_index_or, inl, inr, refl, sym, ap, subst, subst₂, ◌∙◌}
use Rattle.std.proofs.lemmas.Bool.{cases_Bool}
use Rattle.std.specs.List.{AllByRecursion}
use Rattle.std.specs.declared.cmp.Ordering.{Ordering}
use Rattle.sqlite_value.specs.Order.{Row}
use Rattle.sqlite_trees.specs.Tree.{Trees, IsTable}
use Rattle.sqlite.specs.State.{State}
use Rattle.sqlite_rules.specs.Lists.{Has}
use Rattle.acd_terms.specs.declared.rows.Limits.{Limits}
use Rattle.acd_model.specs.Rules.Plan.{connection_order}
use Rattle.acd_book.specs.Content.{empty_content}
use Rattle.acd_sql_columns.specs.declared.tables.Table.{Table}
use Rattle.acd_sql_columns.specs.declared.tables.Table.TheVariants as table
use Rattle.acd_sql_columns.specs.declared.meta.Meta.{Meta}
use Rattle.acd_sql_columns.specs.Rows.{meta_row, connection_row, further_row}
use Rattle.acd_sql_columns.specs.Schema.{book_schema}
use Rattle.acd_sql_columns.specs.Relations.{pair_order, Relations, relations_of}
use Rattle.acd_sql_columns.specs.Content.{tree_of, TableContent, part, with_part, Stores, AreTables, AreHeaped}
use Rattle.acd_sql_columns.specs.Transactions.{HoldsUncommitted}
use Rattle.acd_sql_columns.proofs.OneTable.KeyedRows.{apart}
use Rattle.acd_sql_columns.proofs.Writes.Statements.{Replaces}
use Rattle.acd_lemmas.proofs.Numbers.{same_number}

apart_from : true ≡ false → ⊥
apart_from e = cc (e)

-- of eleven facts, one a table, that of a table
at_table : (P : ℕ → Type 0) → AllByRecursion (λ t. P t.tree) book_schema.tables → (t : Table) → P (tree_of t)
at_table P all table.Meta = all.0
at_table P all table.Groups = all.1.0
at_table P all table.Stations = all.1.1.0
at_table P all table.Agents = all.1.1.1.0
at_table P all table.Calls = all.1.1.1.1.0
at_table P all table.Connections = all.1.1.1.1.1.0
at_table P all table.Monitors = all.1.1.1.1.1.1.0
at_table P all table.Events = all.1.1.1.1.1.1.1.0
at_table P all table.Kept = all.1.1.1.1.1.1.1.1.0
at_table P all table.AgentGroups = all.1.1.1.1.1.1.1.1.1.0
at_table P all table.GroupPriority = all.1.1.1.1.1.1.1.1.1.1.0

-- each table has a separate tree
tables : List Table
tables =
    table.Meta ∷ table.Groups ∷ table.Stations ∷ table.Agents ∷ table.Agents ∷ table.Calls ∷ table.Connections ∷ table.Connections ∷ table.Monitors
    ∷ table.Events ∷ table.Kept ∷ table.Kept
    ∷ table.AgentGroups ∷ table.AgentGroups ∷ table.GroupPriority ∷ []

table_back : (t : Table) → slice_index_or tables (tree_of t) table.Meta ≡ t
unfolding tables
table_back table.Meta = refl
table_back table.Groups = refl
table_back table.Stations = refl
table_back table.Agents = refl
table_back table.Calls = refl
table_back table.Connections = refl
table_back table.Monitors = refl
table_back table.Events = refl
table_back table.Kept = refl
table_back table.AgentGroups = refl
table_back table.GroupPriority = refl

one_table : (t u : Table) → tree_of t ≡ tree_of u → t ≡ u
one_table t u e = sym (table_back t) ∙ ap (λ n. slice_index_or tables n table.Meta) e ∙ table_back u

pub part_put : (t : Table) (x : TableContent t) (r : Relations) → part t (with_part t x r) ≡ x
part_put table.Meta x r = refl
part_put table.Groups x r = refl
part_put table.Stations x r = refl
part_put table.Agents x r = refl
part_put table.Calls x r = refl
part_put table.Connections x r = refl
part_put table.Monitors x r = refl
part_put table.Events x r = refl
part_put table.Kept x r = refl
part_put table.AgentGroups x r = refl
part_put table.GroupPriority x r = refl

pub part_kept : (t u : Table) (x : TableContent t) (r : Relations) → (tree_of u == tree_of t) ≡ false → part u (with_part t x r) ≡ part u r
part_kept table.Meta table.Meta x r e = absurd (apart_from e)
part_kept table.Groups table.Groups x r e = absurd (apart_from e)
part_kept table.Stations table.Stations x r e = absurd (apart_from e)
part_kept table.Agents table.Agents x r e = absurd (apart_from e)
part_kept table.Calls table.Calls x r e = absurd (apart_from e)
part_kept table.Connections table.Connections x r e = absurd (apart_from e)
part_kept table.Monitors table.Monitors x r e = absurd (apart_from e)
part_kept table.Events table.Events x r e = absurd (apart_from e)
part_kept table.Kept table.Kept x r e = absurd (apart_from e)
part_kept table.AgentGroups table.AgentGroups x r e = absurd (apart_from e)
part_kept table.GroupPriority table.GroupPriority x r e = absurd (apart_from e)
part_kept _ _ x r e = refl

-- the table that is written has its new rows, and each other its old ones
pub framed : (t : Table) (x : TableContent t) (rows : List Row) (old new : Trees) (r : Relations) → Stores t rows x → new (tree_of t) ≡ rows
    → AllByRecursion (λ u. u.tree ≢ tree_of t → new u.tree ≡ old u.tree) book_schema.tables → AreTables old r → AreTables new (with_part t x r)
framed t x rows old new r stores is others was u = elim (cases_Bool (tree_of u == tree_of t)) [
  | inl same ↦
      subst (λ v. Stores v (new (tree_of v)) (part v (with_part t x r))) (one_table t u (same_number (tree_of u) (tree_of t) same))
      (subst₂ (Stores t) (sym is) (sym (part_put t x r)) stores)
  | inr other ↦
      subst₂ (Stores u) (sym (at_table (λ n. n ≢ tree_of t → new n ≡ old n) others u (apart (tree_of u) (tree_of t) other))) (sym (part_kept t u x r other))
      (was u)
]

pub holds_replaced : (t : Table) (x : TableContent t) (rows : List Row) (old new : State) (r : Relations) → Stores t rows x
    → Replaces book_schema (tree_of t) rows old new → HoldsUncommitted old r → HoldsUncommitted new (with_part t x r)
holds_replaced t x rows old new r stores made d = record {
  inside = made.mode ∙ d.inside;
  schema = made.schema_is;
  sound = made.sound;
  tables = framed t x rows old.now.trees new.now.trees r stores made.rows_are made.others d.tables;
}

-- ---- a database with nothing but the limits and the counters

pub none_heaped : {R : Type 0} (order : R → R → Ordering) (row : ℤ → R → Row) (rows : List Row) → rows ≡ [] → AreHeaped order row rows []
none_heaped order row rows e = record {
  rising = subst IsTable (sym e) tt;
  known = λ r h. absurd (subst (λ l. Has l r) e h);
  stored = λ x a. absurd a;
  apart = λ a b h k p q. absurd (subst (λ l. Has l a) e h);
  ascending = tt;
}

stores_none : (t : Table) (rows : List Row) (limits : Limits) → (tree_of t == tree_of table.Meta) ≡ false → rows ≡ []
    → Stores t rows (part t (relations_of (empty_content limits)))
stores_none table.Meta rows limits other e = absurd (apart_from other)
stores_none table.Groups rows limits other e = record { rows_are = e; ascending = tt }
stores_none table.Stations rows limits other e = record { rows_are = e; ascending = tt }
stores_none table.Agents rows limits other e = record { rows_are = e; ascending = tt }
stores_none table.Calls rows limits other e = record { rows_are = e; ascending = tt }
stores_none table.Connections rows limits other e = none_heaped connection_order connection_row rows e
stores_none table.Monitors rows limits other e = record { rows_are = e; ascending = tt }
stores_none table.Events rows limits other e = record { rows_are = e; ascending = tt }
stores_none table.Kept rows limits other e = (record { rows_are = e; ascending = tt }, tt)
stores_none table.AgentGroups rows limits other e = none_heaped pair_order further_row rows e
stores_none table.GroupPriority rows limits other e = record { rows_are = e; ascending = tt }

abbrev begun : Meta → Relations
begun m = with_part table.Meta m (relations_of (empty_content m.limits))

pub only_meta : (m : Meta) (old new : Trees) → AllByRecursion (λ t. old t.tree ≡ []) book_schema.tables → new (tree_of table.Meta) ≡ meta_row m ∷ []
    → AllByRecursion (λ u. u.tree ≢ tree_of table.Meta → new u.tree ≡ old u.tree) book_schema.tables → AreTables new (begun m)
only_meta m old new empty is others u = elim (cases_Bool (tree_of u == tree_of table.Meta)) [
  | inl same ↦ subst (λ v. Stores v (new (tree_of v)) (part v (begun m))) (one_table table.Meta u (same_number (tree_of u) (tree_of table.Meta) same)) is
  | inr other ↦
      let kept = at_table (λ n. n ≢ tree_of table.Meta → new n ≡ old n) others u (apart (tree_of u) (tree_of table.Meta) other) in
      subst (Stores u (new (tree_of u))) (sym (part_kept table.Meta u m (relations_of (empty_content m.limits)) other))
      (stores_none u (new (tree_of u)) m.limits other (kept ∙ at_table (λ n. old n ≡ []) empty u))
]
