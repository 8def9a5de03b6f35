-- A record removed from the table of its kind, by its key.
use Rattle.std.proofs.Common.{◌≡◌, ℕ, List, [], ◌∷◌, map, ◌==◌, true, refl, sym, ap, ◌∙◌, arith}
use Rattle.std.proofs.lemmas.Bool.Decides.{nat_tests}
use Rattle.std.specs.List.{list_all}
use Rattle.std.specs.Ordering.{nat_cmp}
use Rattle.std.specs.declared.cmp.Ordering.TheVariants.{Equal}
use Rattle.sqlite_value.specs.Order.{Row, column}
use Rattle.sqlite_sql.specs.Term.{col, holds}
use Rattle.sqlite_schema.specs.declared.schema.Schema.{Schema}
use Rattle.sqlite.specs.State.{State}
use Rattle.acd_terms.specs.Lists.{remove_by}
use Rattle.acd_lemmas.proofs.Lists.{remove_is, ascending-remove}
use Rattle.acd_sql_columns.specs.Values.{id_value}
use Rattle.acd_sql_columns.specs.Content.{AreRows}
use Rattle.acd_sql_columns.proofs.OneTable.KeyedRows.{by_key}
use Rattle.acd_sql_columns.proofs.Writes.Puts.{Files, RanOver}
use Rattle.acd_sql_columns.proofs.OneTable.Scans.{taken_out}
use Rattle.acd_sql_columns.proofs.Writes.Statements.{Deletion, deletion_edit, deleted, Replaces, replaces}
use Rattle.acd_lemmas.proofs.KeyedLists.{key_is}

-- the text removes the row that has the number
pub record Removes {R : Type 0} (schema : Schema) (text : List ℕ) (key : R → ℕ) (row : R → Row) : Type 0 where
  pub it : Deletion schema text
  pub files : Files it.layout key row
  pub finds : (r : R) (n : ℕ) → list_all (holds ((id_value n ∷ []) ∷ row r ∷ [])) it.terms ≡ (key r == n)

pub record Removed {R : Type 0} (schema : Schema) (tree : ℕ) (key : R → ℕ) (row : R → Row) (n : ℕ) (rs : List R) (old new : State) : Type 0 where
  pub replaces : Replaces schema tree (map row (remove_by (λ x. nat_cmp n (key x)) rs)) old new
  pub are_rows : AreRows key row (map row (remove_by (λ x. nat_cmp n (key x)) rs)) (remove_by (λ x. nat_cmp n (key x)) rs)

both_equal : (n x y : ℕ) → (x == n) ≡ true → (y == n) ≡ true → nat_cmp x y ≡ Equal
both_equal n x y h k = grind (arith, nat_tests)

pub removed_row : {R : Type 0} (schema : Schema) (text : List ℕ) (key : R → ℕ) (row : R → Row) (d : Removes schema text key row) (n : ℕ)
    (o : RanOver schema text d.it.layout.tree key row (id_value n ∷ []))
    → Removed schema d.it.layout.tree key row n o.records o.old o.new
removed_row {R = R} schema text key row d n o =
    let db = o.old.now.trees in
    let made = deleted schema text d.it (id_value n ∷ []) o.old o.new o.count o.schema_is o.ran in
    let keyed = λ (r : R). ap (λ (k : Row). column k 0) (d.files.headed r) in
    let left =
    taken_out key row keyed (λ x. key x == n) (λ a b e. ap (λ k. k == n) e) (id_value n ∷ []) d.it.terms (λ r. d.finds r n) (col 1 0 ∷ []) keyed o.records
    (db d.it.layout.tree) made.rows o.are_rows.rows_are made.found in
    let rest =
    sym (remove_is (by_key key) (λ x. nat_cmp n (key x)) (λ x. key x == n) (λ x. key_is n (key x)) (λ y z. both_equal n (key y) (key z)) o.records
    o.are_rows.ascending) in
    record {
      replaces = replaces schema o.old o.new (deletion_edit d.it made.rows db) _ made.changed (left ∙ ap (map row) rest);
      are_rows = record { rows_are = refl; ascending = ascending-remove (by_key key) (λ x. nat_cmp n (key x)) o.records o.are_rows.ascending };
    }
