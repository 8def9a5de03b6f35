-- Rows that are canonical, and in their ranges, are those of a content.
use Rattle.std.proofs.Common.{◌≡◌, ◌==◌, ◌&&◌, ◌||◌, ℕ, ℤ, pos, negsuc, zero, suc, length, drop, map, not, slice_get, List, [], ◌∷◌, ◌++◌, inl, inr, Option, Some, Bool, true, false, IsTrue, refl, sym, ap, ap₂, subst, subst₂, ◌∙◌, arith, ◌+◌, ◌<◌, ◌≤◌}
use Rattle.std.specs.List.{AllByRecursion}
use Rattle.std.specs.Option.{is_some}
use Rattle.std.specs.Ordering.{int_cmp, is_eq, is_ne}
use Rattle.std.specs.declared.cmp.Ordering.{Ordering}
use Rattle.std.specs.declared.cmp.Ordering.TheVariants.{Less, Equal, Greater}
use Rattle.std.proofs.lemmas.Bool.{and_parts, and_from, false_from_ne_true}
use Rattle.std.proofs.lemmas.Bool.Decides.{nat_tests}
use Rattle.std.proofs.lemmas.Int.{ints}
use Rattle.sqlite_value.specs.declared.value.Value.{Value}
use Rattle.sqlite_value.specs.declared.value.Value.TheVariants.{Null, Int, Real, Text, Blob}
use Rattle.sqlite_value.specs.Keys.{plain}
use Rattle.sqlite_value.specs.Order.{Row, column, value_cmp}
use Rattle.sqlite_value.proofs.OrderLemmas.{value_cmp-Int}
use Rattle.sqlite_trees.specs.Tree.{Trees, IsTable, rowid}
use Rattle.sqlite_trees.specs.View.{View, is_int, IsShaped, IsOrdered}
use Rattle.sqlite_trees.specs.Objects.{catalog_tree, IsListed}
use Rattle.sqlite_trees.specs.declared.store.Shape.{Shape}
use Rattle.sqlite_trees.specs.declared.store.Shape.TheVariants as shape
use Rattle.sqlite_keyed.proofs.ListLemmas.{map-map}
use Rattle.sqlite_catalog.proofs.LayoutLemmas.{laid_out, objects_rise}
use Rattle.sqlite_rules.specs.Edit.{id_in}
use Rattle.sqlite_rules.specs.Lists.{Has}
use Rattle.sqlite_rules.proofs.ListLemmas.{all_has, all_from, some_from, has_got, has_left}
use Rattle.sqlite_rules.proofs.TableLemmas.{int_is}
use Rattle.sqlite_sql.specs.Ops.{binary, is_false, is_true, is_null, from_truth}
use Rattle.sqlite_schema.specs.declared.schema.Column.{Column}
use Rattle.sqlite_schema.specs.declared.schema.Table.{Table as Made}
use Rattle.sqlite_schema.specs.declared.schema.Schema.{Schema}
use Rattle.sqlite_schema.specs.declared.schema.Constraint.{Constraint}
use Rattle.sqlite_schema.specs.declared.schema.Constraint.TheVariants as rule
use Rattle.sqlite_schema.specs.Rules.{Keeps, passes, passes_checks, are_typed, are_present, has_computed, agree, differ}
use Rattle.sqlite.specs.Effect.{Database, IsDatabase}
use Rattle.acd_terms.specs.Lists.{Among, Every}
use Rattle.acd_book.specs.Content.{Content}
use Rattle.acd_sql_columns.specs.declared.meta.Meta.{Meta}
use Rattle.acd_sql_columns.specs.declared.tables.Table.{Table}
use Rattle.acd_sql_columns.specs.declared.tables.Table.TheVariants as table
use Rattle.acd_sql_columns.specs.declared.tables.Version.{Version}
use Rattle.acd_sql_columns.specs.declared.tables.Version.TheVariants as version
use Rattle.acd_sql_columns.specs.AnyRows.{is_good, are_good, is_good_in, values_in, rows_in, schema_of, IsCanonicalAs, HaveAllColumns}
use Rattle.acd_sql_schema.specs.Inspection.{IsOfBook}
use Rattle.acd_sql_columns.specs.InRange.{is_good_table, IsInRange}
use Rattle.acd_sql_columns.specs.declared.relations.AgentRow.{AgentRow}
use Rattle.acd_sql_columns.specs.declared.relations.GroupRow.{GroupRow}
use Rattle.acd_sql_columns.specs.declared.relations.GroupPriority.{GroupPriority}
use Rattle.acd_sql_columns.specs.Content.{AreRows, AreHeaped, Encodes, EncodesAs, FitsIn, StoresAs, IsIn, version_number, part, tree_of}
use Rattle.acd_sql_columns.specs.Descriptions.{Description, Heap, after_key, after_both, row_of, numbered_row, by_both}
use Rattle.acd_sql_columns.specs.InTables.{in_order}
use Rattle.acd_sql_columns.specs.Ranges.{counters_in}
use Rattle.acd_sql_columns.specs.Relations.{Relations, pair_order, relations_of, group_part, agent_part, further_in, priorities_in, joined_group, joined_agent}
use Rattle.acd_sql_columns.specs.Rows.{keyed_row, meta_row_as, meta_shown, group_row, agent_row, further_row, priority_row, group_values, agent_values, further_values, priority_values}
use Rattle.acd_sql_columns.specs.Schema.{Layout, further_columns, table_of, tables_1, with_later, book_schema, BeginsSchema}
use Rattle.acd_sql_columns.specs.Schema as schema
use Rattle.acd_sql_columns.specs.Tables.{groups, stations, agents, calls, connections, monitors, events, kept, group_priority, agent_groups}
use Rattle.acd_sql_columns.specs.Values.{id_value, cells}
use Rattle.acd_sql_columns.proofs.FileTables.AgentGroups.{groups_heaped}
use Rattle.acd_sql_columns.proofs.Results.QueryAnswers.{columns}
use Rattle.acd_sql_columns.proofs.FileTables.Connections.{connections_heaped}
use Rattle.acd_sql_columns.proofs.Rows.RowsOfRecords.{old_in, with_all, ordered, from_order, to_order}
use Rattle.acd_sql_columns.proofs.FileTables.DescribedTable.{Described, tree_is, good, headed, shows_values}
use Rattle.acd_sql_columns.proofs.FileTables.CompositeKeyed.{Heaped, key_columns, has_twin, no_twin, starts, agreed, heap_tree}
use Rattle.acd_sql_columns.proofs.OneTable.CompositeKeys.{one_number, by_both_total, like_tied, key_met, met_key}
use Rattle.acd_sql_columns.proofs.OneTable.KeyedRows.{id_cmp, id_tied}
use Rattle.acd_sql_columns.proofs.OneTable.Listings.{begun, version_begins}
use Rattle.acd_sql_columns.proofs.FileTables.QueryResults.{mapped_all, ascending_of, rising_of}
use Rattle.acd_sql_columns.proofs.Rows.ValuesInRange.{row_is, null_is, whole_stored}
use Rattle.acd_sql_columns.proofs.Rows.Records.{counters_stored}
use Rattle.acd_sql_columns.proofs.Rows.RejoinedRows.{parts_rejoined, further_rejoined, groups_right, group_parts_rejoined, priorities_rejoined}
use Rattle.acd_sql_columns.proofs.OneTable.Scans.{showing, each}
use Rattle.acd_sql_columns.proofs.FileTables.TablesDescribed.{priorities_described, groups_described, stations_described, agents_described, calls_described, monitors_described, events_described, kept_described}
use Rattle.acd_sql_schema.proofs.Places.{Beside, NoneBefore, none_beside, all_beside, longer}
use Rattle.acd_lemmas.proofs.Numbers.{same_number}
use Rattle.acd_lemmas.proofs.KeyedLists.{eqb_self}
use Rattle.acd_lemmas.proofs.Lists.{some_is, some_from as there}

-- ---- lists of rows

pub each_good : (t : Table) (rows : List Row) → are_good t rows ≡ true → AllByRecursion (λ r. is_good t r ≡ true) rows
unfolding are_good
each_good t [] h = tt
each_good t (row ∷ rows) h = let both = and_parts (is_good t row) (are_good t rows) h in (both.0, each_good t rows both.1)

one_more : (t : Table) (row : Row) (rows : List Row) → is_good t row ≡ true → are_good t rows ≡ true → are_good t (row ∷ rows) ≡ true
unfolding are_good
one_more t row rows h more = and_from _ _ h more

none_good : (t : Table) → are_good t [] ≡ true
unfolding are_good
none_good t = refl

pub of_mapped : {X Y : Type 0} (P : Y → Type 0) (f : X → Y) (xs : List X) → AllByRecursion P (map f xs) → AllByRecursion (λ x. P (f x)) xs
of_mapped P f [] h = tt
of_mapped P f (x ∷ xs) h = (h.0, of_mapped P f xs h.1)

-- ---- the column that is the number

-- the row has values of the types of the columns
abbrev is_typed : Layout → Row → Bool
is_typed l r = are_typed l.key 0 l.columns (drop 1 r) && has_computed (table_of l) r

key_null : (l : Layout) (n : ℕ) (r : Row) → l.key ≡ Some 0 → length r ≡ suc (suc n) → is_typed l r ≡ true → column r 1 ≡ Null
key_null l n r key w typed = go l.columns r w (subst (λ k. (are_typed k 0 l.columns (drop 1 r) && true) ≡ true) key typed)
  where
    go : (columns : List Column) (r : Row) → length r ≡ suc (suc n) → (are_typed (Some 0) 0 columns (drop 1 r) && true) ≡ true → column r 1 ≡ Null
    go columns [] w h = absurd (omega (arith, w))
    go columns (v ∷ []) w h = absurd (omega (arith, w))
    go [] (v ∷ k ∷ vs) w h = absurd (cc h)
    go (c ∷ cs) (v ∷ k ∷ vs) w h = null_is k (and_parts _ _ (and_parts _ _ h).0).0

pub of_width : (n : ℕ) (r : Row) → length r ≡ n → r ≡ cells 0 n r
of_width n r w = row_is n r (ap (λ k. k == n) w ∙ eqb_self n)

next : (n : ℕ) → n + 1 ≡ suc n
next n = omega arith

-- the values shown of some columns
shown_cells : (start n : ℕ) (r : Row) → showing [] (columns start n) r ≡ cells start n r
shown_cells start zero r = refl
shown_cells start (suc n) r = ap (λ l. column r start ∷ l) (shown_cells (start + 1) n r ∙ ap (λ k. cells k n r) (next start))

-- ---- the width of a row whose last column is there

typed_length : (key : Option ℕ) (at : ℕ) (columns : List Column) (vs : Row) → are_typed key at columns vs ≡ true → length vs ≤ length columns
typed_length key at [] [] h = omega arith
typed_length key at [] (v ∷ vs) h = absurd (cc h)
typed_length key at (c ∷ cs) [] h = omega arith
typed_length key at (c ∷ cs) (v ∷ vs) h = longer (length vs) (length cs) (typed_length key (at + 1) cs vs (and_parts _ _ h).1)

there_at : (r : Row) (k : ℕ) → is_null (column r k) ≡ false → k < length r
there_at [] k h = absurd (cc h)
there_at (v ∷ r) zero h = omega arith
there_at (v ∷ r) (suc k) h = let more = there_at r k h in omega (arith, more)

width_is : (columns : List Column) (r : Row) → (are_typed (Some 0) 0 columns (drop 1 r) && true) ≡ true → is_null (column r (length columns)) ≡ false
    → length r ≡ suc (length columns)
width_is columns [] h last = absurd (let n = there_at [] (length columns) last in omega (arith, n))
width_is columns (v ∷ vs) h last =
    let low = typed_length (Some 0) 0 columns vs (and_parts _ _ h).0 in
    let high = there_at (v ∷ vs) (length columns) last in
    omega (arith, low, high)

-- the last column after the key is never NULL
abbrev ends : List Column → Bool
ends [] = false
ends (c ∷ []) = c.not_null
ends (c ∷ d ∷ cs) = ends (d ∷ cs)

not_null : (key column null : Bool) → key ≡ false → column ≡ true → (key || not column || not null) ≡ true → null ≡ false
not_null false true false e f h = refl
not_null false true true e f h = absurd (cc h)
not_null true column null e f h = absurd (cc e)
not_null false false null e f h = absurd (cc f)

above_zero : (n : ℕ) → (0 == n + 1) ≡ false
above_zero n = grind (arith, nat_tests)

last_there : (cs : List Column) (at : ℕ) (r : Row) → (0 == at) ≡ false → are_present (Some 0) at cs r ≡ true → ends cs ≡ true
    → is_null (column r (at + length cs)) ≡ false
last_there [] at r not_first h end = absurd (cc end)
last_there (c ∷ []) at r not_first h end = not_null (0 == at) c.not_null (is_null (column r (at + 1))) not_first end (and_parts _ _ h).0
last_there (c ∷ d ∷ cs) at r not_first h end =
    let same : at + 1 + length (d ∷ cs) ≡ at + length (c ∷ d ∷ cs) = omega arith in
    subst (λ k. is_null (column r k) ≡ false) same (last_there (d ∷ cs) (at + 1) r (above_zero at) (and_parts _ _ h).1 end)

whole_columns : (columns : List Column) (r : Row) → ends (drop 1 columns) ≡ true → (are_typed (Some 0) 0 columns (drop 1 r) && true) ≡ true
    → are_present (Some 0) 0 columns r ≡ true → length r ≡ suc (length columns)
whole_columns [] r end typed present = absurd (cc end)
whole_columns (c ∷ cs) r end typed present =
    let same : 1 + length cs ≡ length (c ∷ cs) = omega arith in
    width_is (c ∷ cs) r typed (subst (λ k. is_null (column r k) ≡ false) same (last_there cs 1 r refl present end))

whole_row : (l : Layout) (r : Row) → l.key ≡ Some 0 → ends (drop 1 l.columns) ≡ true → is_typed l r ≡ true → are_present l.key 0 l.columns r ≡ true
    → length r ≡ suc (length l.columns)
whole_row l r key end typed present =
    whole_columns l.columns r end (subst (λ k. (are_typed k 0 l.columns (drop 1 r) && true) ≡ true) key typed)
    (subst (λ k. are_present k 0 l.columns r ≡ true) key present)

-- ---- the limits and the counters

-- a number that the CHECK lets pass
abbrev passes_one : Value → Bool
passes_one v = passes_checks (table_of schema.meta) (v ∷ [])

not_false : (b : Bool) → (not (is_false (from_truth (Some b))) && true) ≡ b
not_false true = refl
not_false false = refl

one_checked : (n : ℕ) → passes_one (id_value n) ≡ (n == 1)
unfolding binary
one_checked n = not_false (is_eq (value_cmp (id_value n) (id_value 1))) ∙ id_tied n 1

negative_checked : (m : ℕ) → passes_one (Int (negsuc m)) ≡ false
unfolding binary
negative_checked m = not_false (is_eq (value_cmp (Int (negsuc m)) (id_value 1))) ∙ ap is_eq (value_cmp-Int (negsuc m) (pos 1)) ∙ other m
  where
    other : (m : ℕ) → is_eq (int_cmp (negsuc m) (pos 1)) ≡ false
    other m = grind (arith, ints, nat_tests)

is_one : (v : Value) → IsTrue (is_int v) → passes_one v ≡ true → v ≡ id_value 1
is_one Null int h = absurd (cc int)
is_one (Int (pos n)) int h = ap id_value (sym (same_number n 1 (sym (one_checked n) ∙ h)))
is_one (Int (negsuc m)) int h = absurd (let no = negative_checked m in cc (no, h))
is_one (Real x) int h = absurd (cc int)
is_one (Text t) int h = absurd (cc int)
is_one (Blob b) int h = absurd (cc int)

ones : (rows : List Row) → AllByRecursion (λ r. IsTrue (is_int (rowid r))) rows → AllByRecursion (λ r. passes_checks (table_of schema.meta) r ≡ true) rows
    → AllByRecursion (λ r. rowid r ≡ id_value 1) rows
ones [] int h = tt
ones (r ∷ rows) int h = (is_one (rowid r) int.0 h.0, ones rows int.1 h.1)

-- no two rows have one number
alone : (rows : List Row) (r : Row) → Has rows r → AllByRecursion (λ r. rowid r ≡ id_value 1) rows → IsTable rows → rows ≡ r ∷ []
alone [] r h one rising = absurd h
alone (x ∷ []) r (inl e) one rising = ap (λ y. y ∷ []) (sym e)
alone (x ∷ []) r (inr h) one rising = absurd h
alone (x ∷ y ∷ rows) r h one rising =
    absurd (let tied = ap (λ v. value_cmp v (rowid y)) one.0 ∙ ap (value_cmp (id_value 1)) one.1.0 ∙ id_cmp 1 1 in
    let never : Equal ≡ Less = sym tied ∙ rising.0.0 in cc never)

meta_form : (n : ℕ) (r : Row) (m : Meta) → length r ≡ suc (length schema.meta.columns) → rowid r ≡ id_value 1 → column r 1 ≡ Null → column r 2 ≡ id_value n
    → values_in table.Meta r ≡ meta_shown m → r ≡ meta_row_as n m
meta_form n r m w key null version shown =
    let rest = values_in table.Meta r in
    of_width _ r w ∙ ap (λ v. v ∷ column r 1 ∷ column r 2 ∷ rest) key ∙ ap (λ v. id_value 1 ∷ v ∷ column r 2 ∷ rest) null
    ∙ ap (λ v. id_value 1 ∷ Null ∷ v ∷ rest) version ∙ ap (λ l. id_value 1 ∷ Null ∷ id_value n ∷ l) shown

-- ---- a table whose first column is the number of the row

module _ {R : Type 0} (d : Description R) (f : Described d) where
  key_first : d.layout.key ≡ Some 0
  key_first = ap (λ (t : Option ℕ × ℕ). t.0) f.keyed

  -- a number for the row, and the columns
  abbrev width : ℕ
  width = suc (suc (after_key d))

  -- the rows are those of records that are read back
  pub record AreOf (rows : List Row) : Type 0 where
    pub records : List R
    pub are : AreRows d.key (row_of d) rows records
    pub read : Every d.IsRead records
    pub are_right : are_good d.table (map d.values records) ≡ true

  values_are : (r : Row) → column r 0 ∷ cells 2 (after_key d) r ≡ values_in d.table r
  values_are r = ap (λ l. column r 0 ∷ l) (sym (shown_cells 2 (after_key d) r)) ∙ ap (λ (t : Row × Bool). t.0) (f.of_row r)

  one_of : (r : Row) → length r ≡ width → column r 1 ≡ Null → is_good d.table (values_in d.table r) ≡ true
      → (x : R) × (r ≡ row_of d x) × d.IsRead x × (is_good d.table (d.values x) ≡ true)
  one_of r w null ok =
      let x = there (d.in_row (values_in d.table r)) (sym (good d f (values_in d.table r)) ∙ ok) in
      let same = f.stored (values_in d.table r) x.0 x.1 in (
        x.0,
        of_width width r w ∙ ap (λ v. column r 0 ∷ v ∷ cells 2 (after_key d) r) null
            ∙ ap keyed_row (values_are r ∙ same.0),
        same.1,
        ap (is_good d.table) (sym same.0) ∙ ok,
      )

  pub are_of : (rows : List Row) → IsTable rows → AllByRecursion (λ r. length r ≡ width) rows → AllByRecursion (λ r. is_typed d.layout r ≡ true) rows
      → AllByRecursion (λ r. is_good d.table (values_in d.table r) ≡ true) rows → AreOf rows
  are_of rows rising w typed g =
      let xs = records_of rows w typed g in
      record {
        records = xs.0;
        are = record { rows_are = xs.1; ascending = ascending_of d.key (row_of d) (λ x. ap rowid (headed d f x)) xs.0 (subst IsTable xs.1 rising) };
        read = xs.2;
        are_right = xs.3;
      }
    where
      records_of : (rows : List Row) → AllByRecursion (λ r. length r ≡ width) rows → AllByRecursion (λ r. is_typed d.layout r ≡ true) rows
          → AllByRecursion (λ r. is_good d.table (values_in d.table r) ≡ true) rows
          → (xs : List R) × (rows ≡ map (row_of d) xs) × Every d.IsRead xs × (are_good d.table (map d.values xs) ≡ true)
      records_of [] w typed g = ([], refl, tt, none_good d.table)
      records_of (r ∷ rows) w typed g =
          let x = one_of r w.0 (key_null d.layout (after_key d) r key_first w.0 typed.0) g.0 in
          let more = records_of rows w.1 typed.1 g.1 in
          (x.0 ∷ more.0, ap₂ (λ y ys. y ∷ ys) x.1 more.1, (x.2, more.2), one_more d.table (d.values x.0) (map d.values more.0) x.3 more.3)

-- ---- a table whose rows have rowids apart from their keys

level : (o : Ordering) → is_true (from_truth (Some (is_ne o))) ≡ false → o ≡ Equal
level Less h = absurd (cc h)
level Equal h = refl
level Greater h = absurd (cc h)

levels : (m n : ℤ) → differ (Int m) (Int n) ≡ false → value_cmp (Int m) (Int n) ≡ Equal
unfolding binary
levels m n h = level (value_cmp (Int m) (Int n)) h

module _ {R : Type 0} (h : Heap R) (f : Heaped h) where
  -- a number for the row, and the columns
  abbrev heap_width : ℕ
  heap_width = suc (suc (suc (after_both h)))

  heap_good : (r : Row) → is_good h.table r ≡ is_some (h.in_row r)
  heap_good r = ap (λ (t : Row × Bool). t.1) (f.of_row r)

  -- rows and the records that they are, one for one
  pub record AreLinked (rows : List Row) (xs : List R) : Type 0 where
    pub known : (r : Row) → Has rows r → (id : ℤ) × (x : R) × (r ≡ numbered_row h id x) × Among x xs
    pub stored : (x : R) → Among x xs → (id : ℤ) × Has rows (numbered_row h id x)
    pub back : (x : R) → Among x xs → h.in_row (h.values x) ≡ Some x

  linked_one : (r : Row) → IsTrue (is_int (rowid r)) → length r ≡ heap_width → is_good h.table (values_in h.table r) ≡ true
      → (id : ℤ) × (x : R) × (r ≡ numbered_row h id x) × (h.in_row (h.values x) ≡ Some x)
  linked_one r int w ok =
      let x = there (h.in_row (values_in h.table r)) (sym (heap_good (values_in h.table r)) ∙ ok) in
      let same = f.stored (values_in h.table r) x.0 x.1 in
      let shown = sym (shown_cells 1 (suc (suc (after_both h))) r) ∙ ap (λ (t : Row × Bool). t.0) (f.of_row r) in (
        id_in (rowid r),
        x.0,
        of_width heap_width r w ∙ ap (λ l. column r 0 ∷ l) (shown ∙ same)
            ∙ ap (λ v. v ∷ h.values x.0) (int_is (rowid r) int),
        ap h.in_row (sym same) ∙ x.1,
      )

  linked : (rows : List Row) → AllByRecursion (λ r. IsTrue (is_int (rowid r))) rows → AllByRecursion (λ r. length r ≡ heap_width) rows
      → AllByRecursion (λ r. is_good h.table (values_in h.table r) ≡ true) rows → (xs : List R) × AreLinked rows xs
  linked [] int w g = ([], record { known = λ r k. absurd k; stored = λ x a. absurd a; back = λ x a. absurd a })
  linked (r ∷ rows) int w g =
      let one = linked_one r int.0 w.0 g.0 in
      let more = linked rows int.1 w.1 g.1 in
      (one.1 ∷ more.0, joined r rows one.0 one.1 more.0 one.2 one.3 more.1)
    where
      joined : (r : Row) (rows : List Row) (id : ℤ) (x : R) (xs : List R) → r ≡ numbered_row h id x → h.in_row (h.values x) ≡ Some x → AreLinked rows xs
          → AreLinked (r ∷ rows) (x ∷ xs)
      joined r rows id x xs is back more = record {
        known = λ s k. elim k [ inl e ↦ (id, x, e ∙ is, inl refl) | inr m ↦ let from = more.known s m in (from.0, from.1, from.2, inr from.3) ];
        stored = λ y a. elim a [ inl e ↦ (id, inl (ap (numbered_row h id) e ∙ sym is)) | inr b ↦ let from = more.stored y b in (from.0, inr from.1) ];
        back = λ y a. elim a [ inl e ↦ subst (λ z. h.in_row (h.values z) ≡ Some z) (sym e) back | inr b ↦ more.back y b ];
      }

  -- the rows are those of records that are read back, which are in the order of their keys
  pub record IsHeapOf (rows : List Row) : Type 0 where
    pub records : List R
    pub are : AreHeaped (by_both h) (numbered_row h) rows records
    pub are_right : are_good h.table (map h.values records) ≡ true

  module _ (rows : List Row) (xs : List R) (are : AreLinked rows xs) (rising : IsTable rows)
      (alone : AllByRecursion (λ r. (not (has_twin rows r) && true) ≡ true) rows) where
    rows_apart : (a b : Row) → Has rows a → Has rows b → column a 1 ≡ column b 1 → column a 2 ≡ column b 2 → a ≡ b
    rows_apart a b p q e g =
        let x = are.known a p in
        let y = are.known b q in
        let like =
        key_met h (starts h f) x.0 y.0 y.1 x.1 (ap (λ r. column r 1) (sym x.2) ∙ e ∙ ap (λ r. column r 1) y.2)
        (ap (λ r. column r 2) (sym x.2) ∙ g ∙ ap (λ r. column r 2) y.2) in
        let one : agree plain key_columns a key_columns b ≡ true =
        subst₂ (λ r s. agree plain key_columns r key_columns s ≡ true) (sym x.2) (sym y.2) (agreed h f x.0 y.0 y.1 x.1 ∙ like) in
        let none = no_twin rows alone b q in
        let level : differ (rowid a) (rowid b) ≡ false =
        false_from_ne_true (differ (rowid a) (rowid b))
        (λ d. let hit = some_from (λ r. agree plain key_columns r key_columns b && differ (rowid r) (rowid b)) rows a p (and_from _ _ one d) in
        cc (hit, none)) in
        one_number rows a b rising p q (subst₂ (λ v w. value_cmp v w ≡ Equal) (ap rowid (sym x.2)) (ap rowid (sym y.2))
        (levels x.0 y.0 (subst₂ (λ v w. differ v w ≡ false) (ap rowid x.2) (ap rowid y.2) level)))

    one_of_key : (x y : R) → Among x xs → Among y xs → by_both h x y ≡ Equal → x ≡ y
    one_of_key x y a b e =
        let p = are.stored x a in
        let q = are.stored y b in
        let key = met_key h (starts h f) q.0 p.0 x y (sym (like_tied h x y) ∙ ap is_eq e) in
        let same = rows_apart (numbered_row h p.0 x) (numbered_row h q.0 y) p.1 q.1 (sym key.0) (sym key.1) in
        some_is x y (sym (are.back x a) ∙ ap (λ r. h.in_row (drop 1 r)) same ∙ are.back y b)

    each_right : (ys : List R) → ((y : R) → Among y ys → Among y xs) → are_good h.table (map h.values ys) ≡ true
    each_right [] all = none_good h.table
    each_right (y ∷ ys) all =
        one_more h.table (h.values y) (map h.values ys) (heap_good (h.values y) ∙ ap is_some (are.back y (all y (inl refl))))
        (each_right ys (λ z a. all z (inr a)))

    pub heap_of : IsHeapOf rows
    heap_of = record {
      records = in_order (by_both h) xs;
      are = record {
        rising = rising;
        known = λ r k. let from = are.known r k in (from.0, from.1, from.2, to_order (by_both h) xs one_of_key from.1 from.3);
        stored = λ x a. are.stored x (from_order (by_both h) xs x a);
        apart = rows_apart;
        ascending = ordered (by_both h) (by_both_total h) xs;
      };
      are_right = each_right (in_order (by_both h) xs) (λ y a. from_order (by_both h) xs y a);
    }

-- ---- the whole

rules_of : (d : Database) (b : BeginsSchema tables_1 d.schema) → IsDatabase d → (rule : Constraint) → Keeps rule (with_later tables_1 b.0 d.schema) d.trees
rules_of d b obeys rule = subst (λ s. Keeps rule s d.trees) (begun tables_1 d.schema b) (obeys.obeys.rules rule)

good_rows : (t : Table) (db : Trees) → is_good_in t db ≡ true → AllByRecursion (λ r. is_good t (values_in t r) ≡ true) (db (tree_of t))
unfolding is_good_in
good_rows t db h = of_mapped (λ r. is_good t r ≡ true) (values_in t) (db (tree_of t)) (each_good t (rows_in t db) h)

-- the content of each table
record Parts (v : Version) (db : Trees) : Type 0 where
  pub meta : Meta
  pub meta_is : db (tree_of table.Meta) ≡ meta_row_as (version_number v) meta ∷ []
  pub meta_good : is_some (counters_in (meta_shown meta)) ≡ true
  pub groups : AreOf groups groups_described (db (tree_of table.Groups))
  pub stations : AreOf stations stations_described (db (tree_of table.Stations))
  pub agents : AreOf agents agents_described (db (tree_of table.Agents))
  pub calls : AreOf calls calls_described (db (tree_of table.Calls))
  pub connections : IsHeapOf connections connections_heaped (db (tree_of table.Connections))
  pub monitors : AreOf monitors monitors_described (db (tree_of table.Monitors))
  pub events : AreOf events events_described (db (tree_of table.Events))
  pub kept : AreOf kept kept_described (db (tree_of table.Kept))
  pub beside : Beside v db agents.records groups.records

-- the nine are canonical as in version 1
pub as_first : (v : Version) (db : Trees) → IsCanonicalAs v db → IsCanonicalAs version.First db
as_first v db h = record {
  rising = λ t old. h.rising t (old_in v t old);
  numbered = λ t old. h.numbered t (old_in v t old);
  whole = (h.whole.0, h.whole.1, h.whole.2, λ here. absurd here);
}

module _ (v : Version) (d : Database) (book : IsOfBook v d) (obeys : IsDatabase d) (canonical : IsCanonicalAs v d.trees) where
  in_range : (t : Table) → IsIn v t → AllByRecursion (λ r. is_good t (values_in t r) ≡ true) (d.trees (tree_of t))
  in_range t here = good_rows t d.trees (book.in_range (as_first v d.trees canonical) t here)

  nine_there : BeginsSchema tables_1 d.schema
  nine_there = version_begins v d.schema book.schema_is

  abbrev its_schema : Schema
  its_schema = with_later tables_1 nine_there.0 d.schema

  -- a rule on a table of the nine
  ruled : (rule : Constraint) (l : Layout) (place : ℕ) → slice_get tables_1 place ≡ Some (table_of l)
      → AllByRecursion (λ r. passes rule its_schema d.trees (table_of l) r ≡ true) (d.trees l.tree)
  ruled rule l place here =
      all_has (λ t. AllByRecursion (λ r. passes rule its_schema d.trees t r ≡ true) (d.trees t.tree)) (tables_1 ++ nine_there.0) (table_of l)
      (rules_of d nine_there obeys rule)
      (has_left tables_1 nine_there.0 (table_of l) (has_got tables_1 place (table_of l) here))

  -- each row has a value for each column where the last one is never NULL
  whole_rows : (l : Layout) (place : ℕ) → slice_get tables_1 place ≡ Some (table_of l) → l.key ≡ Some 0 → ends (drop 1 l.columns) ≡ true
      → AllByRecursion (λ r. length r ≡ suc (length l.columns)) (d.trees l.tree)
  whole_rows l place here key end =
      let rows = d.trees l.tree in
      all_from (λ r. length r ≡ suc (length l.columns)) rows
      (λ r k.
      whole_row l r key end (all_has (λ r. is_typed l r ≡ true) rows r (ruled rule.Datatype l place here) k)
      (all_has (λ r. are_present l.key 0 l.columns r ≡ true) rows r (ruled rule.NotNull l place here) k))

  module _ {R : Type 0} (e : Description R) (f : Described e) (old : IsIn version.First e.table)
      (here : slice_get tables_1 e.place ≡ Some (table_of e.layout)) where
    described : AllByRecursion (λ r. length r ≡ suc (suc (after_key e))) (d.trees (tree_of e.table)) → AreOf e f (d.trees (tree_of e.table))
    described w =
        are_of e f (d.trees (tree_of e.table)) (canonical.rising e.table (old_in v e.table old)) w
        (subst (λ n. AllByRecursion (λ r. is_typed e.layout r ≡ true) (d.trees n)) (tree_is e f) (ruled rule.Datatype e.layout e.place here))
        (in_range e.table (old_in v e.table old))

    ended : ends (drop 1 e.layout.columns) ≡ true → AreOf e f (d.trees (tree_of e.table))
    ended end =
        described (subst₂ (λ n m. AllByRecursion (λ r. length r ≡ suc m) (d.trees n)) (tree_is e f) (ap (λ (t : Option ℕ × ℕ). t.1) f.keyed)
        (whole_rows e.layout e.place here (key_first e f) end))

  heaped : {R : Type 0} (h : Heap R) (f : Heaped h) → IsIn v h.table
      → AllByRecursion (λ r. length r ≡ suc (suc (suc (after_both h)))) (d.trees (tree_of h.table)) → IsHeapOf h f (d.trees (tree_of h.table))
  heaped h f here w =
      let rows = d.trees (tree_of h.table) in
      let links = linked h f rows (canonical.numbered h.table here) w (in_range h.table here) in
      let alone = f.alone v here d.trees (subst (λ s. Keeps rule.Unique s d.trees) book.schema_is (obeys.obeys.rules rule.Unique)) in
      heap_of h f rows links.0 links.1 (canonical.rising h.table here)
      (subst (λ n. AllByRecursion (λ r. (not (has_twin (d.trees n) r) && true) ≡ true) (d.trees n)) (heap_tree h f) alone)

-- ---- rows beside agents and groups

-- a rule on a table of version 2
in_second : (d : Database) → IsDatabase d → d.schema ≡ book_schema → (rule : Constraint) (l : Layout) (place : ℕ)
    → slice_get book_schema.tables place ≡ Some (table_of l)
    → AllByRecursion (λ r. passes rule book_schema d.trees (table_of l) r ≡ true) (d.trees l.tree)
in_second d obeys is rule l place here =
    all_has (λ t. AllByRecursion (λ r. passes rule book_schema d.trees t r ≡ true) (d.trees t.tree)) book_schema.tables (table_of l)
    (subst (λ s. Keeps rule s d.trees) is (obeys.obeys.rules rule)) (has_got book_schema.tables place (table_of l) here)

beside_of : (v : Version) (d : Database) → IsOfBook v d → IsDatabase d → IsCanonicalAs v d.trees
    → (seats : AreOf agents agents_described (d.trees (tree_of table.Agents))) (queues : AreOf groups groups_described (d.trees (tree_of table.Groups)))
    → Beside v d.trees seats.records queues.records
beside_of version.First d book obeys canonical seats queues = none_beside d.trees seats.records queues.records
beside_of version.Second d book obeys canonical seats queues =
    let rows = d.trees (tree_of table.GroupPriority) in
    let further = heaped version.Second d book obeys canonical agent_groups groups_heaped tt (canonical.whole.3 tt) in
    let typed = in_second d obeys book.schema_is rule.Datatype schema.group_priority_layout 10 refl in
    let present = in_second d obeys book.schema_is rule.NotNull schema.group_priority_layout 10 refl in
    let wide =
    all_from (λ r. length r ≡ suc (length schema.group_priority_layout.columns)) rows
    (λ r k.
    whole_row schema.group_priority_layout r refl refl (all_has (λ r. is_typed schema.group_priority_layout r ≡ true) rows r typed k)
    (all_has (λ r. are_present schema.group_priority_layout.key 0 schema.group_priority_layout.columns r ≡ true) rows r present k))
    in
    let ranks =
    are_of group_priority priorities_described rows (canonical.rising table.GroupPriority tt) wide typed
    (in_range version.Second d book obeys canonical table.GroupPriority tt) in
    all_beside d.trees seats.records queues.records further.records ranks.records seats.are queues.are further.are ranks.are book.placed further.are_right
    ranks.are_right

fits_of : (v : Version) (r : Relations) → NoneBefore v r.further r.priorities → FitsIn v r
fits_of version.First r h = h
fits_of version.Second r h = tt

-- ---- each table

module _ (v : Version) (d : Database) (book : IsOfBook v d) (obeys : IsDatabase d) (canonical : IsCanonicalAs v d.trees) where
  meta_whole : AllByRecursion (λ r. length r ≡ suc (length schema.meta.columns)) (d.trees (tree_of table.Meta))
  meta_whole = whole_rows v d book obeys canonical schema.meta 0 refl refl refl

  one_row : (r : Row) × (d.trees (tree_of table.Meta) ≡ r ∷ []) × (rowid r ≡ id_value 1) × (column r 2 ≡ id_value (version_number v))
  one_row =
      let version_row = book.version in
      let here =
      ones (d.trees (tree_of table.Meta)) (canonical.numbered table.Meta (old_in v table.Meta tt))
      (ruled v d book obeys canonical rule.Check schema.meta 0 refl) in (
        version_row.0,
        alone (d.trees (tree_of table.Meta)) version_row.0 version_row.1 here (canonical.rising table.Meta (old_in v table.Meta tt)),
        all_has (λ r. rowid r ≡ id_value 1) (d.trees (tree_of table.Meta)) version_row.0 here version_row.1,
        whole_stored version_row.0 2 (version_number v) version_row.2,
      )

  its_groups : AreOf groups groups_described (d.trees (tree_of table.Groups))
  its_groups = ended v d book obeys canonical groups groups_described tt refl refl

  its_agents : AreOf agents agents_described (d.trees (tree_of table.Agents))
  its_agents = ended v d book obeys canonical agents agents_described tt refl refl

  parts : Parts v d.trees
  parts =
      let row = one_row in
      let whole = subst (AllByRecursion (λ r. length r ≡ suc (length schema.meta.columns))) row.1 meta_whole in
      let typed = subst (AllByRecursion (λ r. is_typed schema.meta r ≡ true)) row.1 (ruled v d book obeys canonical rule.Datatype schema.meta 0 refl) in
      let good =
      subst (AllByRecursion (λ r. is_some (counters_in (values_in table.Meta r)) ≡ true)) row.1
      (in_range v d book obeys canonical table.Meta (old_in v table.Meta tt)) in
      let m = there (counters_in (values_in table.Meta row.0)) good.0 in
      let shown = counters_stored (values_in table.Meta row.0) m.0 m.1 in
      record {
        meta = m.0;
        meta_is =
            row.1
            ∙ ap (λ r. r ∷ [])
            (meta_form (version_number v) row.0 m.0 whole.0 row.2 (key_null schema.meta (further_columns schema.meta) row.0 refl whole.0 typed.0) row.3 shown);
        meta_good = ap (λ r. is_some (counters_in r)) (sym shown) ∙ good.0;
        groups = its_groups;
        stations = described v d book obeys canonical stations stations_described tt refl canonical.whole.0;
        agents = its_agents;
        calls = ended v d book obeys canonical calls calls_described tt refl refl;
        connections = heaped v d book obeys canonical connections connections_heaped (old_in v table.Connections tt) canonical.whole.1;
        monitors = ended v d book obeys canonical monitors monitors_described tt refl refl;
        events = described v d book obeys canonical events events_described tt refl canonical.whole.2;
        kept = ended v d book obeys canonical kept kept_described tt refl refl;
        beside = beside_of v d book obeys canonical its_agents its_groups;
      }

module _ (v : Version) (db : Trees) (p : Parts v db) where
  abbrev whole_content : Content
  whole_content =
      with_all p.meta (map (joined_group p.beside.priorities) p.groups.records) p.stations.records (map (joined_agent p.beside.further) p.agents.records)
      p.calls.records p.connections.records p.monitors.records p.events.records p.kept.records

  groups_same : map group_part (map (joined_group p.beside.priorities) p.groups.records) ≡ p.groups.records
  groups_same = group_parts_rejoined p.beside.priorities p.groups.records

  agents_same : map agent_part (map (joined_agent p.beside.further) p.agents.records) ≡ p.agents.records
  agents_same = parts_rejoined p.agents.records p.beside.further p.agents.are.ascending p.beside.after

  further_same : further_in (map (joined_agent p.beside.further) p.agents.records) ≡ p.beside.further
  further_same = further_rejoined p.agents.records p.beside.further p.agents.are.ascending p.beside.after p.beside.further_rise

  priorities_same : priorities_in (map (joined_group p.beside.priorities) p.groups.records) ≡ p.beside.priorities
  priorities_same = priorities_rejoined p.groups.records p.beside.priorities p.groups.are.ascending p.beside.priorities_rise p.beside.ranked p.beside.known

  tables_are : (t : Table) → IsIn v t → StoresAs (version_number v) t (db (tree_of t)) (part t (relations_of whole_content))
  tables_are table.Meta here = p.meta_is
  tables_are table.Groups here = subst (AreRows (λ (g : GroupRow). g.device) group_row (db (tree_of table.Groups))) (sym groups_same) p.groups.are
  tables_are table.Stations here = p.stations.are
  tables_are table.Agents here = subst (AreRows (λ (a : AgentRow). a.agent) agent_row (db (tree_of table.Agents))) (sym agents_same) p.agents.are
  tables_are table.Calls here = p.calls.are
  tables_are table.Connections here = p.connections.are
  tables_are table.Monitors here = p.monitors.are
  tables_are table.Events here = p.events.are
  tables_are table.Kept here = (p.kept.are, p.kept.read)
  tables_are table.AgentGroups here = subst (AreHeaped pair_order further_row (db (tree_of table.AgentGroups))) (sym further_same) (p.beside.further_are here)
  tables_are table.GroupPriority here =
      subst (AreRows (λ (r : GroupPriority). r.device) priority_row (db (tree_of table.GroupPriority))) (sym priorities_same) (p.beside.priorities_are here)

  parts_encode : EncodesAs v db whole_content
  parts_encode = record {
    fits = fits_of v (relations_of whole_content) (subst₂ (NoneBefore v) (sym further_same) (sym priorities_same) p.beside.none_before);
    tables = tables_are;
  }

  tables_right : (t : Table) → is_good_table t whole_content ≡ true
  unfolding is_good_table
  tables_right table.Meta = one_more table.Meta (meta_shown p.meta) [] p.meta_good (none_good table.Meta)
  tables_right table.Groups =
      ap (are_good table.Groups)
      (sym (map-map group_values group_part (map (joined_group p.beside.priorities) p.groups.records)) ∙ ap (map group_values) groups_same)
      ∙ p.groups.are_right
  tables_right table.Stations = p.stations.are_right
  tables_right table.Agents =
      ap (are_good table.Agents)
      (sym (map-map agent_values agent_part (map (joined_agent p.beside.further) p.agents.records)) ∙ ap (map agent_values) agents_same)
      ∙ p.agents.are_right
  tables_right table.Calls = p.calls.are_right
  tables_right table.Connections = p.connections.are_right
  tables_right table.Monitors = p.monitors.are_right
  tables_right table.Events = p.events.are_right
  tables_right table.Kept = p.kept.are_right
  tables_right table.AgentGroups = ap (λ l. are_good table.AgentGroups (map further_values l)) further_same ∙ p.beside.further_good
  tables_right table.GroupPriority = ap (λ l. are_good table.GroupPriority (map priority_values l)) priorities_same ∙ p.beside.priorities_good

  parts_in_range : IsInRange whole_content
  parts_in_range = record {
    tables = tables_right;
    groups = groups_right p.agents.records p.beside.further p.agents.are.ascending p.beside.after p.beside.further_rise;
  }

pub content_in : (v : Version) (d : Database) → IsOfBook v d → IsDatabase d → IsCanonicalAs v d.trees → (c : Content) × EncodesAs v d.trees c × IsInRange c
content_in v d book obeys canonical =
    let p = parts v d book obeys canonical in (whole_content v d.trees p, parts_encode v d.trees p, parts_in_range v d.trees p)

-- ---- the rows of a content are canonical

record AreCanonical (width : ℕ) (rows : List Row) : Type 0 where
  pub rising : IsTable rows
  pub numbered : AllByRecursion (λ r. IsTrue (is_int (rowid r))) rows
  pub whole : AllByRecursion (λ r. length r ≡ width) rows

shown_length : (start n : ℕ) (r : Row) → length (cells start n r) ≡ n
shown_length start zero r = refl
shown_length start (suc n) r = ap suc (shown_length (suc start) n r)

module _ (db : Trees) (c : Content) (is : Encodes db c) where
  records_canonical : {R : Type 0} (d : Description R) (f : Described d) → AreCanonical (suc (suc (after_key d))) (db (tree_of d.table))
  records_canonical {R = R} d f =
      let are = (f.held (relations_of c) db is).0 in
      let wide =
      λ (x : R). ap (λ r. length (keyed_row r)) (sym (shows_values d f x) ∙ ap (λ l. column (row_of d x) 0 ∷ l) (shown_cells 2 (after_key d) (row_of d x)))
      ∙ ap (λ n. suc (suc n)) (shown_length 2 (after_key d) (row_of d x)) in
      subst (λ rows. AreCanonical (suc (suc (after_key d))) rows) (sym (ap db (sym (tree_is d f)) ∙ are.rows_are)) (record {
        rising = rising_of d.key (row_of d) (λ x. ap rowid (headed d f x)) (d.records (relations_of c)) are.ascending;
        numbered =
            mapped_all (λ r. IsTrue (is_int (rowid r))) (row_of d) (d.records (relations_of c))
            (each (λ x. IsTrue (is_int (rowid (row_of d x)))) (d.records (relations_of c)) (λ x. ap (λ r. is_int (rowid r)) (headed d f x)));
        whole =
            mapped_all (λ r. length r ≡ suc (suc (after_key d))) (row_of d) (d.records (relations_of c))
            (each (λ x. length (row_of d x) ≡ suc (suc (after_key d))) (d.records (relations_of c)) wide);
      })

  heap_canonical : {R : Type 0} (h : Heap R) (f : Heaped h) → AreCanonical (suc (suc (suc (after_both h)))) (db (tree_of h.table))
  heap_canonical h f =
      let rows = db h.layout.tree in
      let are = f.held (relations_of c) db is in
      subst (λ n. AreCanonical (suc (suc (suc (after_both h)))) (db n)) (heap_tree h f) (record {
        rising = are.rising;
        numbered = all_from (λ r. IsTrue (is_int (rowid r))) rows (λ r k. ap (λ s. is_int (rowid s)) (are.known r k).2);
        whole = all_from (λ r. length r ≡ suc (suc (suc (after_both h)))) rows
            (λ r k.
            let from = are.known r k in
            let row = numbered_row h from.0 from.1 in
            ap length from.2 ∙ ap (λ l. suc (length l)) (sym (f.shows from.0 from.1) ∙ shown_cells 1 (suc (suc (after_both h))) row)
            ∙ ap suc (shown_length 1 (suc (suc (after_both h))) row));
      })

  each_canonical : (t : Table) → (width : ℕ) × AreCanonical width (db (tree_of t))
  each_canonical table.Meta = (
    suc (length schema.meta.columns),
    subst (AreCanonical (suc (length schema.meta.columns))) (sym (is table.Meta)) (record { rising = (tt, tt); numbered = (refl, tt); whole = (refl, tt) }),
  )
  each_canonical table.Groups = (_, records_canonical groups groups_described)
  each_canonical table.Stations = (_, records_canonical stations stations_described)
  each_canonical table.Agents = (_, records_canonical agents agents_described)
  each_canonical table.Calls = (_, records_canonical calls calls_described)
  each_canonical table.Connections = (_, heap_canonical connections connections_heaped)
  each_canonical table.Monitors = (_, records_canonical monitors monitors_described)
  each_canonical table.Events = (_, records_canonical events events_described)
  each_canonical table.Kept = (_, records_canonical kept kept_described)
  each_canonical table.AgentGroups = (_, heap_canonical agent_groups groups_heaped)
  each_canonical table.GroupPriority = (_, records_canonical group_priority priorities_described)

  pub canonical_in : IsCanonicalAs version.Second db
  canonical_in = record {
    rising = λ t here. (each_canonical t).1.rising;
    numbered = λ t here. (each_canonical t).1.numbered;
    whole = (
      (records_canonical stations stations_described).whole,
      (heap_canonical connections connections_heaped).whole,
      (records_canonical events events_described).whole,
      λ here. (heap_canonical agent_groups groups_heaped).whole,
    );
  }

-- ---- the rows of a store that isn't broken

shaped_as : (v : View) (t : ℕ) → v.shape t ≡ shape.Table → IsOrdered v.shape v.trees
    → IsTable (v.trees t) × AllByRecursion (λ r. IsTrue (is_int (rowid r))) (v.trees t)
shaped_as v t is ordered = subst (λ s. IsShaped s (v.trees t)) is (ordered t)

each_shape : (v : Version) (shapes : ℕ → Shape) → AllByRecursion (λ (t : Made). shapes t.tree ≡ shape.Table) (schema_of v).tables → (t : Table) → IsIn v t
    → shapes (tree_of t) ≡ shape.Table
each_shape version.First shapes h table.Meta here = h.0
each_shape version.First shapes h table.Groups here = h.1.0
each_shape version.First shapes h table.Stations here = h.1.1.0
each_shape version.First shapes h table.Agents here = h.1.1.1.0
each_shape version.First shapes h table.Calls here = h.1.1.1.1.0
each_shape version.First shapes h table.Connections here = h.1.1.1.1.1.0
each_shape version.First shapes h table.Monitors here = h.1.1.1.1.1.1.0
each_shape version.First shapes h table.Events here = h.1.1.1.1.1.1.1.0
each_shape version.First shapes h table.Kept here = h.1.1.1.1.1.1.1.1.0
each_shape version.First shapes h table.AgentGroups here = absurd here
each_shape version.First shapes h table.GroupPriority here = absurd here
each_shape version.Second shapes h table.Meta here = h.0
each_shape version.Second shapes h table.Groups here = h.1.0
each_shape version.Second shapes h table.Stations here = h.1.1.0
each_shape version.Second shapes h table.Agents here = h.1.1.1.0
each_shape version.Second shapes h table.Calls here = h.1.1.1.1.0
each_shape version.Second shapes h table.Connections here = h.1.1.1.1.1.0
each_shape version.Second shapes h table.Monitors here = h.1.1.1.1.1.1.0
each_shape version.Second shapes h table.Events here = h.1.1.1.1.1.1.1.0
each_shape version.Second shapes h table.Kept here = h.1.1.1.1.1.1.1.1.0
each_shape version.Second shapes h table.AgentGroups here = h.1.1.1.1.1.1.1.1.1.0
each_shape version.Second shapes h table.GroupPriority here = h.1.1.1.1.1.1.1.1.1.1.0

-- they have integers as numbers, which rise, whatever they hold
pub canonical_by_store : (v : Version) (w : View) (s : Schema) → s ≡ schema_of v → IsDatabase (record { schema = s; trees = w.trees })
    → IsListed (w.trees catalog_tree) w.shape w.reals → IsOrdered w.shape w.trees → HaveAllColumns v w.trees
    → IsCanonicalAs v w.trees
canonical_by_store v w s is obeys listed ordered whole =
    let laid = laid_out listed (objects_rise w listed ordered) obeys.lists.listed in
    let shapes = each_shape v w.shape (subst (λ (x : Schema). AllByRecursion (λ (t : Made). w.shape t.tree ≡ shape.Table) x.tables) is laid.tables) in
    record {
      rising = λ t here. (shaped_as w (tree_of t) (shapes t here) ordered).0;
      numbered = λ t here. (shaped_as w (tree_of t) (shapes t here) ordered).1;
      whole = whole;
    }
