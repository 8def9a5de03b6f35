-- A table whose rows have rowids apart from their keys, and which is as it is described: what its statements and its query do, for any
-- such table.
use Rattle.std.proofs.Common.{◌≡◌, ◌≢◌, inl, inr, ℕ, ℤ, ◌+◌, ◌/◌, suc, List, [], ◌∷◌, length, map, filter, drop, slice_get, Bool, true, false, not, ◌==◌, ◌&&◌, Option, Some, Ok, refl, sym, ap, ap₂, subst, subst₂, ◌∙◌}
use Rattle.std.specs.List.{AllByRecursion, list_all, list_any}
use Rattle.std.specs.List.Sorted.{IsPermutation}
use Rattle.std.specs.Option.{is_some}
use Rattle.std.specs.Ordering.{ordering_then, is_eq, is_ne}
use Rattle.std.specs.declared.cmp.Ordering.{Ordering}
use Rattle.std.specs.declared.cmp.Ordering.TheVariants.{Less, Equal, Greater}
use Rattle.std.proofs.lemmas.Bool.{and_parts, and_from, false_from_ne_true, not-true}
use Rattle.std.proofs.lemmas.Cmp.{tied_itself}
use Rattle.std.proofs.lemmas.List.Sorted.{length_permutation}
use Rattle.sqlite_value.specs.declared.keys.Collation.TheVariants.{Binary}
use Rattle.sqlite_value.specs.declared.keys.Key.{Key}
use Rattle.sqlite_value.specs.declared.value.Value.{Value}
use Rattle.sqlite_value.specs.declared.value.Value.TheVariants.{Null, Int}
use Rattle.sqlite_value.specs.Keys.{plain, first_key, ascending}
use Rattle.sqlite_value.specs.Order.{Row, column, value_cmp}
use Rattle.sqlite_value.proofs.OrderLemmas.{value_cmp_total}
use Rattle.sqlite_trees.specs.Tree.{Trees, rowid}
use Rattle.sqlite_trees.proofs.ListLemmas.{ascending-filter}
use Rattle.sqlite_sql.specs.Ops.{unary, binary, is_true, from_truth}
use Rattle.sqlite_sql.specs.Query.{Output, output_cmp}
use Rattle.sqlite_sql.specs.Term.{Term, lit, col, op2, holds}
use Rattle.sqlite_sql.specs.declared.ops.BinaryOp.TheVariants.{Compare}
use Rattle.sqlite_sql.specs.declared.ops.CompareOp.TheVariants.{Eq}
use Rattle.sqlite_schema.specs.declared.schema.Constraint.TheVariants.{Unique}
use Rattle.sqlite_schema.specs.declared.schema.Kind.TheVariants.{Integer}
use Rattle.sqlite_schema.specs.declared.schema.Schema.{Schema}
use Rattle.sqlite_schema.specs.declared.schema.Table.{Table as MadeTable}
use Rattle.sqlite_schema.specs.declared.command.Command.{Command}
use Rattle.sqlite_schema.specs.declared.command.Command.TheVariants.{Insert, Update, Delete, Select}
use Rattle.sqlite_schema.specs.declared.command.Source.TheVariants.{Values}
use Rattle.sqlite_schema.specs.Rules.{Keeps, agree, differ, clashes}
use Rattle.sqlite_rules.specs.Cast.{cast, cast_all, cast_row}
use Rattle.sqlite_rules.specs.Calls.{ids_of}
use Rattle.sqlite_rules.specs.Edit.{edit_of, edited, are_fresh, put_all, without_all, with_rowid, next_rowid, numbered}
use Rattle.sqlite_rules.specs.declared.error.Rowids.TheVariants.{Chosen, Given}
use Rattle.sqlite_rules.specs.Lists.{Has}
use Rattle.sqlite_rules.proofs.ListLemmas.{all_has, has_filtered, has_kept, some_from}
use Rattle.sqlite_rules.proofs.ProbeLemmas.{has_mapped, mapped_has}
use Rattle.sqlite_rules.proofs.TableLemmas.{put_all_keeps, put_all_adds}
use Rattle.sqlite.specs.Effect.{Database, value_rows}
use Rattle.sqlite.specs.Listing.{understood, reads_listing}
use Rattle.sqlite.specs.State.{State, Executes, Shown}
use Rattle.sqlite.proofs.Callers.{IsPlain, command_of, one_permutation, reads_as}
use Rattle.acd_terms.specs.Lists.{Among, put_by}
use Rattle.acd_lemmas.proofs.Lists.{filter_among, filter_true}
use Rattle.acd_book.specs.Content.{Content}
use Rattle.acd_sql_columns.specs.declared.tables.Version.{Version}
use Rattle.acd_sql_columns.specs.declared.tables.Version.TheVariants as version
use Rattle.acd_sql_columns.specs.AnyRows.{is_good, values_in, schema_of}
use Rattle.acd_sql_columns.specs.Content.{AreHeaped, AreTables, IsIn, tree_of}
use Rattle.acd_sql_columns.specs.Descriptions.{Heap, after_both, numbered_row, by_both}
use Rattle.acd_sql_columns.specs.Transactions.{HoldsUncommitted, HoldsContent}
use Rattle.acd_sql_columns.specs.Relations.{Relations, relations_of}
use Rattle.acd_sql_columns.specs.Schema.{table_of, book_schema, with_later, names_of, BeginsSchema}
use Rattle.acd_sql_columns.specs.Values.{id_value}
use Rattle.acd_sql_columns.proofs.Results.QueryAnswers.{columns, no_limit, two}
use Rattle.acd_sql_columns.proofs.Writes.Common.{run, inert, either, cast_null}
use Rattle.acd_sql_columns.proofs.OneTable.CompositeKeys.{both_same, both_are, same_id, lone, left_is, by_both_total, is_like, like_tied, ints_of, heap_left, met_key, heap_beside}
use Rattle.acd_sql_columns.proofs.OneTable.KeyedRows.{id_cmp, id_tied, put_back}
use Rattle.acd_sql_columns.proofs.OneTable.Listings.{Listing, query_of, begun, end_of}
use Rattle.acd_sql_columns.proofs.OneTable.Members.{Differ, apart_under, same_members}
use Rattle.acd_sql_columns.proofs.OneTable.OrderedQueries.{asking, given, in_its_order, answered, strict}
use Rattle.acd_sql_columns.proofs.Writes.Puts.{truth_back}
use Rattle.acd_sql_columns.proofs.Rows.ValuesInRange.{beside}
use Rattle.acd_sql_columns.proofs.OneTable.Scans.{scan, showing, passing}
use Rattle.acd_sql_columns.proofs.Results.WholeTableQueries.{AsksAll}
use Rattle.acd_sql_columns.proofs.Writes.Sets.{set_none}
use Rattle.acd_sql_columns.proofs.Writes.Statements.{Changed, Insertion, inserted, Deletion, deletion_edit, deleted, Replaces, replaces, inert_works}
use Rattle.acd_sql_columns.proofs.Writes.Updates.{Updating, updating_edit, updated}

-- ---- what the texts of a table of so many columns after its key say

-- NULL for the number that the row is given, and the parameters
abbrev pub sources : ℕ → List Term
sources more = lit Null ∷ run 0 (suc (suc more))

-- the row that has the first two parameters as its key
abbrev pub by_two : List Term
by_two = op2 (Compare Eq Binary) (col 1 1) (col 0 0) ∷ op2 (Compare Eq Binary) (col 1 2) (col 0 1) ∷ []

-- the rows that have the first parameter in the first column
abbrev pub by_one : List Term
by_one = op2 (Compare Eq Binary) (col 1 1) (col 0 0) ∷ []

-- the number of the row that is there, its number and key, and the parameters after the key
abbrev pub columns_given : ℕ → List Term
columns_given more = col 1 0 ∷ col 1 0 ∷ col 1 1 ∷ col 1 2 ∷ run 2 more

-- the columns of a row
abbrev pub shown_columns : ℕ → List Term
shown_columns more = columns 1 (suc (suc more))

-- in the order of the keys
abbrev pub by_columns : List (Term × Key)
by_columns = (col 1 1, ascending Binary) ∷ (col 1 2, ascending Binary) ∷ []

abbrev pub key_columns : List ℕ
key_columns = 1 ∷ 2 ∷ []

-- another row has the key of this one
abbrev pub has_twin : List Row → Row → Bool
has_twin rows row = clashes plain key_columns rows row

-- ---- what is owed of a table: `computes`, `plain`, `of_record`, `shows`, `of_row`, `alone` and `unchanged` by `refl`

module _ {R : Type 0} (h : Heap R) where
  pub record Heaped : Type 0 where
    -- the table, and the text that puts a record
    pub computes : ◌≡◌ {A = Option MadeTable × ℕ × Command} (slice_get book_schema.tables h.place, h.layout.tree, command_of (understood book_schema h.insert))
        (Some (table_of h.layout), tree_of h.table, Insert h.place (Values (sources (after_both h)) (after_both h + 3)))
    pub plain : IsPlain (understood book_schema h.insert)
    -- its values begin with the key, and the text puts them
    pub of_record : (r : R) → ◌≡◌ {A = Row × List Row}
        (h.values r, value_rows (h.values r) (after_both h + 3) (length (sources (after_both h)) / (after_both h + 3)) (sources (after_both h)))
        (id_value (h.first r) ∷ id_value (h.second r) ∷ drop 2 (h.values r), (Null ∷ h.values r) ∷ [])
    -- its columns show its values, whatever its number
    pub shows : (id : ℤ) (r : R) → showing [] (shown_columns (after_both h)) (numbered_row h id r) ≡ h.values r
    -- the values of any row that are looked at
    pub of_row : (row : Row)
        → ◌≡◌ {A = Row × Bool} (showing [] (shown_columns (after_both h)) row, is_good h.table row) (values_in h.table row, is_some (h.in_row row))
    pub casts : (r : R) → cast_all h.layout.columns (h.values r) ≡ h.values r
    -- a row whose values are in their ranges is that of the record
    pub stored : (row : Row) (r : R) → h.in_row row ≡ Some r → row ≡ h.values r
    -- in each version that has it no two rows have one key
    pub alone : (v : Version) → IsIn v h.table → (db : Trees) → Keeps Unique (schema_of v) db
        → AllByRecursion (λ row. (not (has_twin (db h.layout.tree) row) && true) ≡ true) (db h.layout.tree)
    -- the relations
    pub held : (c : Relations) (db : Trees) → AreTables db c → AreHeaped (by_both h) (numbered_row h) (db h.layout.tree) (h.records c)
    pub framed : (rs : List R) (rows : List Row) (old new : Trees) (c : Relations) → AreHeaped (by_both h) (numbered_row h) rows rs → new h.layout.tree ≡ rows
        → AllByRecursion (λ (u : MadeTable). u.tree ≢ h.layout.tree → new u.tree ≡ old u.tree) book_schema.tables → AreTables old c
        → AreTables new (h.with_records rs c)
    pub unchanged : (c : Relations) → h.with_records (h.records c) c ≡ c

  -- a text that changes the columns of the row that has a record's key
  pub record UpdatesOne (text : List ℕ) : Type 0 where
    pub updates : command_of (understood book_schema text) ≡ Update h.place (record {
      lets = [];
      body = scan h.layout.tree by_two (columns_given (after_both h)) [];
    })
    pub plain : IsPlain (understood book_schema text)
    pub changes : (id : ℤ) (new r : R)
        → showing (h.values new) (columns_given (after_both h)) (numbered_row h id r)
        ≡ Int id ∷ Int id ∷ id_value (h.first r) ∷ id_value (h.second r) ∷ drop 2 (h.values new)

  -- a text that removes the rows that pass these tests
  pub record DeletesThose (text : List ℕ) (terms : List Term) : Type 0 where
    pub deletes : command_of (understood book_schema text) ≡ Delete h.place (record { lets = []; body = scan h.layout.tree terms (col 1 0 ∷ []) [] })
    pub plain : IsPlain (understood book_schema text)

  -- a text that shows all rows in the order of their keys, whatever tables come later than these
  pub record SelectsAll (base : List MadeTable) (text : List ℕ) : Type 0 where
    pub selects : (rest : List MadeTable) (s : Schema)
        → command_of (understood (with_later base rest s) text) ≡ Select (record {
          lets = [];
          body = asking h.layout.tree [] (shown_columns (after_both h)) by_columns no_limit;
        }) (names_of h.layout)
    pub plain : (rest : List MadeTable) (s : Schema) → IsPlain (understood (with_later base rest s) text)
    pub unlisted : (rest : List MadeTable) (s : Schema) → reads_listing (with_later base rest s) text ≡ false

-- ---- rows

both_ids : (m n p q : ℕ) → (is_eq (value_cmp (id_value m) (id_value p)) && is_eq (value_cmp (id_value n) (id_value q))) ≡ ((m == p) && (n == q))
both_ids m n p q = ap₂ ◌&&◌ (id_tied m p) (id_tied n q)

two_tests : (m n : ℕ) (given : Row) (id : ℤ) (p q : ℕ) (row : Row)
    → list_all (holds ((id_value m ∷ id_value n ∷ given) ∷ (Int id ∷ id_value p ∷ id_value q ∷ row) ∷ [])) by_two ≡ ((p == m) && (q == n))
unfolding binary
two_tests m n given id p q row = two (is_eq (value_cmp (id_value p) (id_value m))) (is_eq (value_cmp (id_value q) (id_value n))) ∙ both_ids p q m n

one_test : (m : ℕ) (id : ℤ) (p : ℕ) (row : Row) → list_all (holds ((id_value m ∷ []) ∷ (Int id ∷ id_value p ∷ row) ∷ [])) by_one ≡ (p == m)
unfolding binary
one_test m id p row = truth_back (is_eq (value_cmp (id_value p) (id_value m))) ∙ id_tied p m

keys_agree : (id given_id : ℤ) (m n p q : ℕ) (row given : Row)
    → agree plain key_columns (Int id ∷ id_value p ∷ id_value q ∷ row) key_columns (Int given_id ∷ id_value m ∷ id_value n ∷ given) ≡ ((p == m) && (q == n))
unfolding binary first_key value_cmp
keys_agree id given_id m n p q row given = two (is_eq (value_cmp (id_value p) (id_value m))) (is_eq (value_cmp (id_value q) (id_value n))) ∙ both_ids p q m n

apart_is : (o : Ordering) → is_eq o ≡ false → is_true (from_truth (Some (is_ne o))) ≡ true
apart_is Less e = refl
apart_is Equal e = absurd (cc e)
apart_is Greater e = refl

differs : (given_id id : ℤ) → is_eq (value_cmp (Int id) (Int given_id)) ≡ false → differ (Int id) (Int given_id) ≡ true
unfolding binary
differs given_id id e = apart_is (value_cmp (Int id) (Int given_id)) e

-- where a unique index is kept
pub no_twin : (rows : List Row) → AllByRecursion (λ row. (not (has_twin rows row) && true) ≡ true) rows → (row : Row) → Has rows row → has_twin rows row ≡ false
no_twin rows alone row there = not-true _ (and_parts _ true (all_has (λ r. (not (has_twin rows r) && true) ≡ true) rows row alone there)).0

cast_whole : (id : ℤ) → cast Integer (Int id) ≡ Int id
unfolding unary
cast_whole id = either _ (Int id)

-- where rows were shown, one passes
some_passes : (passes : Row → Bool) (shows : Row → Row) (rows left found : List Row) (count : ℕ) → filter passes rows ≡ left
    → IsPermutation (map shows left) found → count ≡ length found → (count ≡ 0 → ⊥)
    → (row : Row) × Has rows row × (passes row ≡ true)
some_passes passes shows rows [] found count is same counted some = absurd (some (counted ∙ length_permutation [] found same))
some_passes passes shows rows (row ∷ more) found count is same counted some =
    let met = has_filtered passes rows row (subst (λ l. Has l row) (sym is) (inl refl)) in (row, met.0, met.1)

-- ---- what follows for the table

module _ {R : Type 0} (h : Heap R) (f : Heaped h) where
  abbrev AreRowsOf : List Row → List R → Type 0
  AreRowsOf rows records = AreHeaped (by_both h) (numbered_row h) rows records

  place_is : slice_get book_schema.tables h.place ≡ Some (table_of h.layout)
  place_is = ap (λ (t : Option MadeTable × ℕ × Command). t.0) f.computes

  pub heap_tree : h.layout.tree ≡ tree_of h.table
  heap_tree = ap (λ (t : Option MadeTable × ℕ × Command). t.1) f.computes

  pub starts : (r : R) → h.values r ≡ id_value (h.first r) ∷ id_value (h.second r) ∷ drop 2 (h.values r)
  starts r = ap (λ (t : Row × List Row). t.0) (f.of_record r)

  casts : (v : Value) (r : R) → cast Integer v ≡ v → cast_row (table_of h.layout) (v ∷ h.values r) ≡ v ∷ h.values r
  casts v r e = beside _ _ _ _ e (f.casts r)

  holds_replaced : (rs : List R) (rows : List Row) (old new : State) (c : Relations) → AreRowsOf rows rs → Replaces book_schema h.layout.tree rows old new
      → HoldsUncommitted old c → HoldsUncommitted new (h.with_records rs c)
  holds_replaced rs rows old new c are made uncommitted = record {
    inside = made.mode ∙ uncommitted.inside;
    schema = made.schema_is;
    sound = made.sound;
    tables = f.framed rs rows old.now.trees new.now.trees c are made.rows_are made.others uncommitted.tables;
  }

  -- ---- INSERT

  abbrev insertion : Insertion book_schema h.insert
  insertion = record {
    at = h.place;
    layout = h.layout;
    terms = sources (after_both h);
    width = after_both h + 3;
    place = place_is;
    command = ap (λ (t : Option MadeTable × ℕ × Command). t.2) f.computes;
    plain = f.plain;
    inert = inert_works book_schema inert h.layout.tree;
  }

  pub agreed : (id given : ℤ) (r x : R) → agree plain key_columns (numbered_row h id x) key_columns (numbered_row h given r) ≡ is_like h r x
  agreed id given r x =
      subst₂ (λ v w. agree plain key_columns (Int id ∷ v) key_columns (Int given ∷ w) ≡ is_like h r x) (sym (starts x)) (sym (starts r))
      (keys_agree id given (h.first r) (h.second r) (h.first x) (h.second x) (drop 2 (h.values x)) (drop 2 (h.values r)))

  -- where a row could be put, no record had its key before
  none_like : (rows : List Row) (records : List R) (are : AreRowsOf rows records) (id : ℤ) (r : R) (next : List Row)
      → are_fresh rows (numbered_row h id r ∷ []) ≡ true → next ≡ put_all rows (numbered_row h id r ∷ [])
      → AllByRecursion (λ row. (not (has_twin next row) && true) ≡ true) next → (x : R) → Among x records → is_like h r x ≡ false
  none_like rows records are id r next unused is alone x a = false_from_ne_true (is_like h r x) (λ met.
      let given = numbered_row h id r in
      let at = are.stored x a in
      let row = numbered_row h at.0 x in
      let free : list_any (λ s. is_eq (value_cmp (rowid s) (rowid given))) rows ≡ false = not-true _ (and_parts _ true unused).0 in
      let other : is_eq (value_cmp (Int at.0) (Int id)) ≡ false =
      false_from_ne_true _ (λ tied. let taken = some_from (λ s. is_eq (value_cmp (rowid s) (rowid given))) rows row at.1 tied in cc (free, taken)) in
      let hit =
      some_from (λ s. agree plain key_columns s key_columns given && differ (rowid s) (rowid given)) next row
      (subst (λ l. Has l row) (sym is) (put_all_keeps (given ∷ []) rows row unused at.1))
      (and_from _ _ (agreed at.0 id r x ∙ met) (differs id at.0 other)) in
      let none = no_twin next alone given (subst (λ l. Has l given) (sym is) (put_all_adds (given ∷ []) rows given unused (inl refl))) in
      cc (hit, none))

  pub inserted_in : IsIn version.Second h.table → (r : R) (c : Relations) (old new : State) (count : ℕ) → HoldsUncommitted old c
      → Executes h.insert (h.values r) old new (Ok count)
      → HoldsUncommitted new (h.with_records (put_by (by_both h r) (h.records c) r) c)
  inserted_in there r c old new count uncommitted ran =
      let db = old.now.trees in
      let rows = db h.layout.tree in
      let id = next_rowid rows in
      let source = ap (λ (t : Row × List Row). t.1) (f.of_record r) in
      let made =
      subst (λ l. Changed book_schema old new (edit_of db (table_of h.layout) [] Chosen 0 l)) source
      (inserted book_schema h.insert insertion (h.values r) old new count uncommitted.schema ran) in
      let given = ap (with_rowid Chosen rows) (casts Null r cast_null) in
      let unused = subst (λ k. are_fresh rows (k ∷ []) ≡ true) given made.applies.fresh in
      let put = ap (λ k. put_all rows (k ∷ [])) given in
      let are = f.held c db uncommitted.tables in
      let other =
      none_like rows (h.records c) are id r (new.now.trees h.layout.tree) unused (made.applies.rows ∙ put)
      (f.alone version.Second there new.now.trees (made.applies.fits.rules Unique (λ e. cc (e)))) in
      holds_replaced _ (put_all rows (numbered_row h id r ∷ [])) old new c (heap_beside h starts rows (h.records c) are id r unused other)
      (replaces book_schema old new (edit_of db (table_of h.layout) [] Chosen 0 ((Null ∷ h.values r) ∷ [])) _ made put) uncommitted

  -- ---- tests

  -- a record passes where it has these numbers
  pub of_two : (m n : ℕ) (given : Row) (id : ℤ) (x : R)
      → list_all (holds ((id_value m ∷ id_value n ∷ given) ∷ numbered_row h id x ∷ [])) by_two ≡ ((h.first x == m) && (h.second x == n))
  of_two m n given id x =
      subst (λ v. list_all (holds ((id_value m ∷ id_value n ∷ given) ∷ (Int id ∷ v) ∷ [])) by_two ≡ ((h.first x == m) && (h.second x == n))) (sym (starts x))
      (two_tests m n given id (h.first x) (h.second x) (drop 2 (h.values x)))

  pub of_one : (m : ℕ) (id : ℤ) (x : R) → list_all (holds ((id_value m ∷ []) ∷ numbered_row h id x ∷ [])) by_one ≡ (h.first x == m)
  of_one m id x =
      subst (λ v. list_all (holds ((id_value m ∷ []) ∷ (Int id ∷ v) ∷ [])) by_one ≡ (h.first x == m)) (sym (starts x))
      (one_test m id (h.first x) (id_value (h.second x) ∷ drop 2 (h.values x)))

  passes_is : (id : ℤ) (r x : R) → list_all (holds (h.values r ∷ numbered_row h id x ∷ [])) by_two ≡ is_like h r x
  passes_is id r x =
      subst (λ v. list_all (holds (v ∷ numbered_row h id x ∷ [])) by_two ≡ is_like h r x) (sym (starts r))
      (of_two (h.first r) (h.second r) (drop 2 (h.values r)) id x)

  -- ---- UPDATE

  module _ (text : List ℕ) (u : UpdatesOne h text) where
    abbrev updating : Updating book_schema text
    updating = record {
      at = h.place;
      layout = h.layout;
      terms = by_two;
      project = columns_given (after_both h);
      place = place_is;
      command = u.updates;
      plain = u.plain;
      inert = inert_works book_schema inert h.layout.tree;
    }

    module _ (r : R) (db : Trees) (records : List R) (are : AreRowsOf (db h.layout.tree) records) where
      abbrev rows : List Row
      rows = db h.layout.tree

      abbrev passes : Row → Bool
      passes row = list_all (holds (h.values r ∷ row ∷ [])) by_two

      abbrev shows : Row → Row
      shows = showing (h.values r) (columns_given (after_both h))

      -- one row passes
      passing_one : (id : ℤ) (x : R) → Has rows (numbered_row h id x) → is_like h r x ≡ true → filter passes rows ≡ numbered_row h id x ∷ []
      passing_one id x there met =
          lone (filter passes rows) (numbered_row h id x) (ascending-filter _ passes rows are.rising)
          (λ row k.
          let was = has_filtered passes rows row k in
          let from = are.known row was.0 in
          let like = sym (passes_is from.0 r from.1) ∙ ap passes (sym from.2) ∙ was.1 in
          let p = met_key h starts from.0 from.0 r from.1 like in
          let q = met_key h starts id from.0 r x met in
          are.apart row (numbered_row h id x) was.0 there (ap (λ s. column s 1) from.2 ∙ p.0 ∙ sym q.0) (ap (λ s. column s 2) from.2 ∙ p.1 ∙ sym q.1))
          (has_kept passes rows (numbered_row h id x) there (passes_is id r x ∙ met))

      shown_one : (id : ℤ) (x : R) → is_like h r x ≡ true → shows (numbered_row h id x) ≡ Int id ∷ numbered_row h id r
      shown_one id x met =
          let same = both_same (h.first r) (h.second r) (h.first x) (h.second x) met in
          u.changes id r x ∙ ap₂ (λ m n. Int id ∷ Int id ∷ id_value m ∷ id_value n ∷ drop 2 (h.values r)) same.0 same.1
          ∙ ap (λ v. Int id ∷ Int id ∷ v) (sym (starts r))

      changed : (found : List Row) (count : ℕ) → IsPermutation (map shows (passing (h.values r) by_two rows)) found → count ≡ length found → (count ≡ 0 → ⊥)
          → are_fresh (without_all rows (ids_of found)) (updating_edit db h.layout found).news ≡ true
          → AreRowsOf (edited db (updating_edit db h.layout found)) (put_by (by_both h r) records r)
      changed found count same counted some unused =
          let one = some_passes passes shows rows (filter passes rows) found count refl same counted some in
          let from = are.known one.0 one.1 in
          let id = from.0 in
          let x = from.1 in
          let met = sym (passes_is id r x) ∙ ap passes (sym from.2) ∙ one.2 in
          let alone = passing_one id x (subst (Has rows) from.2 one.1) met in
          let found_is = one_permutation _ found (subst (λ l. IsPermutation l found) (ap (map shows) alone ∙ ap (λ k. k ∷ []) (shown_one id x met)) same) in
          let left = left_is rows are.rising (ints_of h rows records are) (h.values r) by_two (col 1 0 ∷ col 1 1 ∷ col 1 2 ∷ run 2 (after_both h)) found same in
          let news : (updating_edit db h.layout found).news ≡ numbered_row h id r ∷ [] =
          ap (λ l. numbered Given (without_all rows (ids_of found)) (map (λ s. cast_row (table_of h.layout) (drop 1 s)) l)) found_is
          ∙ ap (λ k. k ∷ []) (casts (Int id) r (cast_whole id)) in
          let others = filter (λ y. not (is_like h r y)) records in
          let are_left = heap_left h passes (is_like h r) (λ i y. passes_is i r y) rows records are in
          let put = heap_beside h starts (filter (λ s. not (passes s)) rows) others are_left id r (subst₂ (λ l n. are_fresh l n ≡ true) left news unused)
          (λ y a. not-true _ (filter_among (λ y. not (is_like h r y)) records y a).1) in
          subst (AreRowsOf (edited db (updating_edit db h.layout found)))
          (put_back (by_both h) (by_both_total h) (is_like h) (like_tied h) r records are.ascending)
          (subst₂ (λ l n. AreRowsOf (put_all l n) (put_by (by_both h r) others r)) (sym left) (sym news) put)

    -- of a record that has a row
    pub updated_in : (r : R) (c : Relations) (old new : State) (count : ℕ) → HoldsUncommitted old c → Executes text (h.values r) old new (Ok count)
        → (count ≡ 0 → ⊥)
        → HoldsUncommitted new (h.with_records (put_by (by_both h r) (h.records c) r) c)
    updated_in r c old new count uncommitted ran some =
        let db = old.now.trees in
        let made = updated book_schema text updating (h.values r) old new count uncommitted.schema ran in
        let are = changed r db (h.records c) (f.held c db uncommitted.tables) made.rows count made.found made.counted some made.changed.applies.fresh in
        holds_replaced _ (edited db (updating_edit db h.layout made.rows)) old new c are
        (replaces book_schema old new (updating_edit db h.layout made.rows) _ made.changed refl) uncommitted

    -- where it changed no row
    pub unchanged_in : (r : R) (c : Relations) (old new : State) (count : ℕ) → HoldsUncommitted old c → Executes text (h.values r) old new (Ok count)
        → count ≡ 0 → HoldsUncommitted new (h.with_records (h.records c) c)
    unchanged_in r c old new count uncommitted ran missed =
        holds_replaced (h.records c) (old.now.trees h.layout.tree) old new c (f.held c old.now.trees uncommitted.tables)
        (set_none book_schema text updating (h.values r) old new count uncommitted.schema ran missed) uncommitted

  -- ---- DELETE

  -- of the records that pass
  pub deleted_in : (text : List ℕ) (terms : List Term) → DeletesThose h text terms → (params : Row) (p : R → Bool)
      → ((id : ℤ) (x : R) → list_all (holds (params ∷ numbered_row h id x ∷ [])) terms ≡ p x)
      → (c : Relations) (old new : State) (count : ℕ) → HoldsUncommitted old c → Executes text params old new (Ok count)
      → HoldsUncommitted new (h.with_records (filter (λ x. not (p x)) (h.records c)) c)
  deleted_in text terms t params p same c old new count uncommitted ran =
      let db = old.now.trees in
      let rows = db h.layout.tree in
      let are = f.held c db uncommitted.tables in
      let it : Deletion book_schema text = record {
        at = h.place;
        layout = h.layout;
        terms = terms;
        place = place_is;
        command = t.deletes;
        plain = t.plain;
        inert = inert_works book_schema inert h.layout.tree;
      } in
      let made = deleted book_schema text it params old new count uncommitted.schema ran in
      holds_replaced _ (filter (λ s. not (list_all (holds (params ∷ s ∷ [])) terms)) rows) old new c
      (heap_left h (λ s. list_all (holds (params ∷ s ∷ [])) terms) p same rows (h.records c) are)
      (replaces book_schema old new (deletion_edit it made.rows db) _ made.changed
      (left_is rows are.rising (ints_of h rows (h.records c) are) params terms [] made.rows made.found))
      uncommitted

  -- ---- the query of all rows

  module _ {base : List MadeTable} (text : List ℕ) (s : SelectsAll h base text) where
    abbrev pub listing : Listing base text
    listing = record {
      tree = h.layout.tree;
      terms = [];
      project = shown_columns (after_both h);
      order = by_columns;
      limit = no_limit;
      names = names_of h.layout;
      command = s.selects;
      plain = s.plain;
      unlisted = s.unlisted;
    }

    -- the sort key of a row, and the values that it shows
    abbrev part : Row → Output
    part r = given (query_of listing) [] r

    abbrev out : R → Output
    out x = (id_value (h.first x) ∷ id_value (h.second x) ∷ [], h.values x)

    part_is : (id : ℤ) (x : R) → part (numbered_row h id x) ≡ out x
    part_is id x i = (ap (λ (v : Row). column v 0 ∷ column v 1 ∷ []) (starts x) i, f.shows id x i)

    ranks : (x y : R) → output_cmp (query_of listing) (out x) (out y) ≡ by_both h x y
    ranks x y = ap₂ ordering_then (id_cmp (h.first x) (h.first y)) (end_of _ ∙ id_cmp (h.second x) (h.second y))

    out_like : (x y : R) → out x ≡ out y → is_like h x y ≡ true
    out_like x y e =
        both_are (h.first x) (h.second x) (h.first y) (h.second y) (same_id (h.first y) (h.first x) (ap (λ (o : Output). column o.0 0) (sym e)))
        (same_id (h.second y) (h.second x) (ap (λ (o : Output). column o.0 1) (sym e)))

    records_apart : (x y : R) → by_both h x y ≡ Less → Differ (out x) (out y)
    records_apart x y low e = let never : true ≡ false = sym (like_tied h x y ∙ out_like x y e) ∙ ap is_eq low in cc never

    rows_apart : (rows : List Row) (records : List R) → AreRowsOf rows records → (a b : Row) → Has rows a → Has rows b → value_cmp (rowid a) (rowid b) ≡ Less
        → Differ (part a) (part b)
    rows_apart rows records are a b p q low e =
        let same = are.apart a b p q (ap (λ (o : Output). column o.0 0) e) (ap (λ (o : Output). column o.0 1) e) in
        let never : Equal ≡ Less = sym (ap (λ r. value_cmp (rowid a) (rowid r)) (sym same) ∙ tied_itself value_cmp_total (rowid a)) ∙ low in cc

    has_among : (xs : List R) (x : R) → Among x xs → Has xs x
    has_among [] x a = absurd a
    has_among (y ∷ xs) x (inl e) = inl e
    has_among (y ∷ xs) x (inr a) = inr (has_among xs x a)

    among_has : (xs : List R) (x : R) → Has xs x → Among x xs
    among_has [] x a = absurd a
    among_has (y ∷ xs) x (inl e) = inl e
    among_has (y ∷ xs) x (inr a) = inr (among_has xs x a)

    shown_all : (rows : List Row) (records : List R) → AreRowsOf rows records → IsPermutation (map out records) (map part rows)
    shown_all rows records are =
        same_members (map out records) (map part rows)
        (apart_under out records (λ x y p q. records_apart x y) (strict (by_both h) (by_both_total h) records are.ascending))
        (apart_under part rows (rows_apart rows records are) are.rising)
        (λ o p.
        let from = has_mapped out records o p in
        let at = are.stored from.0 (among_has records from.0 from.1) in
        subst (Has (map part rows)) (part_is at.0 from.0 ∙ sym from.2) (mapped_has part rows (numbered_row h at.0 from.0) at.1))
        (λ o p.
        let from = has_mapped part rows o p in
        let at = are.known from.0 from.1 in
        subst (Has (map out records)) (sym (from.2 ∙ ap part at.2 ∙ part_is at.0 at.1)) (mapped_has out records at.1 (has_among records at.1 at.3)))

    pub shows_all : (old new : State) (rows : List Row) (c : Content) → HoldsContent old c → BeginsSchema base old.now.schema → Shown text [] old new rows
        → rows ≡ map h.values (h.records (relations_of c))
    shows_all old new rows c held b shown =
        let given = with_later base b.0 old.now.schema in
        let read =
        reads_as text [] old new given (begun base old.now.schema b) _ (s.selects b.0 old.now.schema) (s.plain b.0 old.now.schema)
        (s.unlisted b.0 old.now.schema) rows shown in
        let are =
        subst (λ (d : Database). AreRowsOf (d.trees h.layout.tree) (h.records (relations_of c))) (sym held.idle)
        (f.held (relations_of c) old.committed.trees held.encodes) in
        let all = shown_all (old.now.trees h.layout.tree) (h.records (relations_of c)) are in
        let every : map part (old.now.trees h.layout.tree) ≡ map part (passing [] [] (old.now.trees h.layout.tree)) =
        ap (map part) (sym (filter_true (old.now.trees h.layout.tree))) in
        answered (by_both h) (by_both_total h) (query_of listing) [] out (h.records (relations_of c)) _ rows
        (record { alike = ranks; ascending = are.ascending; all = subst (IsPermutation (map out (h.records (relations_of c)))) every all })
        (in_its_order h.layout.tree [] (shown_columns (after_both h)) by_columns no_limit old.now.trees [] rows read.answer)

    pub asks : AsksAll h.table base text listing
    asks = record { tree = heap_tree; all = refl; unlimited = refl; shows = λ row. ap (λ (t : Row × Bool). t.0) (f.of_row row) }
