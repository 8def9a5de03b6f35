-- A record put into the table of its kind, by an INSERT or by an upsert on its key.
use Rattle.std.proofs.Common.{◌≡◌, ℕ, ◌/◌, List, [], ◌∷◌, drop, filter, length, map, not, Bool, true, false, ◌==◌, ◌&&◌, Some, Ok, refl, sym, ap, subst, ◌∙◌}
use Rattle.std.specs.List.{list_all}
use Rattle.std.specs.List.Sorted.{IsPermutation}
use Rattle.sqlite_value.specs.Order.{Row}
use Rattle.sqlite_trees.specs.Tree.{Trees, rowid, put_row}
use Rattle.sqlite_sql.specs.Ops.{is_true, from_truth}
use Rattle.sqlite_sql.specs.Term.{Term, holds}
use Rattle.sqlite_schema.specs.declared.schema.Schema.{Schema}
use Rattle.sqlite_rules.specs.declared.error.Rowids.TheVariants.{Chosen, Given}
use Rattle.sqlite_rules.specs.Calls.{ids_of}
use Rattle.sqlite_rules.specs.Cast.{cast_row}
use Rattle.sqlite_rules.specs.Edit.{edit_of, edited, without_all, with_rowid, put_all, numbered as numbered_by}
use Rattle.sqlite.proofs.Callers.{one_permutation}
use Rattle.sqlite.specs.Effect.{value_rows}
use Rattle.sqlite.specs.State.{State, Executes}
use Rattle.acd_terms.specs.Lists.{Among, IsAscending, put_by}
use Rattle.acd_lemmas.proofs.Lists.{ascending-put}
use Rattle.acd_sql_columns.specs.Values.{id_value}
use Rattle.acd_sql_columns.specs.Content.{AreRows}
use Rattle.acd_sql_columns.specs.Schema.{Layout, table_of}
use Rattle.acd_sql_columns.proofs.OneTable.KeyedRows.{by_key, by_key_total, put_left, only_one, puts}
use Rattle.acd_sql_columns.proofs.OneTable.Scans.{showing, passing, taken_out, found_rows}
use Rattle.acd_sql_columns.proofs.Writes.Statements.{Insertion, insertion_edit, inserted, Replaces, replaces}

-- the records of a table, whose key is the number of their row
pub record Files {R : Type 0} (layout : Layout) (key : R → ℕ) (row : R → Row) : Type 0 where
  pub headed : (r : R) → row r ≡ id_value (key r) ∷ drop 1 (row r)
  -- the columns take the values as they are
  pub casts : (r : R) → cast_row (table_of layout) (row r) ≡ row r

module _ {R : Type 0} (schema : Schema) (text : List ℕ) (key : R → ℕ) (row params : R → Row) where
  -- the text puts the record's values
  pub record Inserts : Type 0 where
    pub it : Insertion schema text
    pub files : Files it.layout key row
    pub source : (r : R) → value_rows (params r) it.width (length it.terms / it.width) it.terms ≡ row r ∷ []

pub keyed_by : {R : Type 0} (layout : Layout) (key : R → ℕ) (row : R → Row) → Files layout key row → (r : R) → rowid (row r) ≡ id_value (key r)
keyed_by layout key row f r = ap rowid (f.headed r)

number_kept : (rows : List Row) (row : Row) (n : ℕ) → row ≡ id_value n ∷ drop 1 row → with_rowid Chosen rows row ≡ row
number_kept rows row n h = subst (λ k. with_rowid Chosen rows k ≡ k) (sym h) refl

-- a statement that ran, and the records of the table before
pub record RanOver {R : Type 0} (schema : Schema) (text : List ℕ) (tree : ℕ) (key : R → ℕ) (row : R → Row) (params : Row) : Type 1 where
  pub old : State
  pub new : State
  pub records : List R
  pub count : ℕ
  pub schema_is : old.now.schema ≡ schema
  pub are_rows : AreRows key row (old.now.trees tree) records
  pub ran : Executes text params old new (Ok count)

-- ---- the row that has a record's key, changed into the record's

module _ {R : Type 0} (layout : Layout) (key : R → ℕ) (row : R → Row) (files : Files layout key row) (given : Row) (tests project : List Term) (r : R)
    (finds : (y : R) → list_all (holds (given ∷ row y ∷ [])) tests ≡ (key y == key r))
    (shows : (y : R) → showing given project (row y) ≡ id_value (key y) ∷ id_value (key y) ∷ drop 1 (row r)) where
  numbered : (y : R) → rowid (row y) ≡ id_value (key y)
  numbered = keyed_by layout key row files

  pub one_changed : (x : R) (rs : List R) (db : Trees) (rows : List Row) → db layout.tree ≡ map row rs → IsAscending (by_key key) rs → Among x rs
      → key x ≡ key r
      → IsPermutation (map (showing given project) (passing given tests (db layout.tree))) rows
      → edited db (edit_of db (table_of layout) (ids_of rows) Given 1 rows) ≡ map row (put_by (by_key key r) rs r)
  one_changed x rs db rows is up at same found =
      let one =
      ap (passing given tests) is ∙ found_rows key row numbered (λ y. key y == key r) (λ a b e. ap (λ k. k == key r) e) given tests finds rs
      ∙ ap (map row) (only_one key r x rs up at same) in
      let shown_one : showing given project (row x) ≡ id_value (key x) ∷ row r =
      shows x ∙ ap (λ k. id_value (key x) ∷ id_value k ∷ drop 1 (row r)) same ∙ ap (λ k. id_value (key x) ∷ k) (sym (files.headed r)) in
      let rows_are : rows ≡ (id_value (key x) ∷ row r) ∷ [] =
      one_permutation _ rows (subst (λ l. IsPermutation l rows) (ap (map (showing given project)) one ∙ ap (λ k. k ∷ []) shown_one) found) in
      let out =
      taken_out key row numbered (λ y. key y == key r) (λ a b e. ap (λ k. k == key r) e) given tests finds project (λ y. ap rowid (shows y)) rs
      (db layout.tree) rows is found in
      let news =
      ap
      (λ l. put_all (without_all (db layout.tree) (ids_of rows))
      (numbered_by Given (without_all (db layout.tree) (ids_of rows)) (map (λ s. cast_row (table_of layout) (drop 1 s)) l)))
      rows_are in
      let cast = ap (λ k. put_row k (without_all (db layout.tree) (ids_of rows))) (files.casts r) in
      news ∙ cast ∙ ap (put_row (row r)) out ∙ puts key row numbered r (filter (λ y. not (key y == key r)) rs) ∙ ap (map row) (put_left key r rs up)

-- ---- upserts

pub truth_back : (b : Bool) → (is_true (from_truth (Some b)) && true) ≡ b
truth_back true = refl
truth_back false = refl

-- ---- records in ascending key

pub record Put {R : Type 0} (schema : Schema) (tree : ℕ) (key : R → ℕ) (row : R → Row) (r : R) (rs : List R) (old new : State) : Type 0 where
  pub replaces : Replaces schema tree (map row (put_by (by_key key r) rs r)) old new
  pub are_rows : AreRows key row (map row (put_by (by_key key r) rs r)) (put_by (by_key key r) rs r)

pub are_put : {R : Type 0} (key : R → ℕ) (row : R → Row) (r : R) (rs : List R) → IsAscending (by_key key) rs
    → AreRows key row (map row (put_by (by_key key r) rs r)) (put_by (by_key key r) rs r)
are_put key row r rs up = record { rows_are = refl; ascending = ascending-put (by_key key) (by_key_total key) r rs up }

-- ---- INSERT

pub inserted_row : {R : Type 0} (schema : Schema) (text : List ℕ) (key : R → ℕ) (row params : R → Row) (i : Inserts schema text key row params) (r : R)
    (o : RanOver schema text i.it.layout.tree key row (params r))
    → Put schema i.it.layout.tree key row r o.records o.old o.new
inserted_row schema text key row params i r o =
    let table = table_of i.it.layout in
    let db = o.old.now.trees in
    let made = inserted schema text i.it (params r) o.old o.new o.count o.schema_is o.ran in
    let source = ap (λ l. edited db (edit_of db table [] Chosen 0 l)) (i.source r) in
    let cast = ap (λ k. put_row (with_rowid Chosen (db i.it.layout.tree) k) (db i.it.layout.tree)) (i.files.casts r) in
    let number = ap (λ k. put_row k (db i.it.layout.tree)) (number_kept (db i.it.layout.tree) (row r) (key r) (i.files.headed r)) in
    record {
      replaces = replaces schema o.old o.new (insertion_edit i.it (params r) db) _ made
          (source ∙ cast ∙ number ∙ ap (put_row (row r)) o.are_rows.rows_are ∙ puts key row (keyed_by i.it.layout key row i.files) r o.records);
      are_rows = are_put key row r o.records o.are_rows.ascending;
    }
