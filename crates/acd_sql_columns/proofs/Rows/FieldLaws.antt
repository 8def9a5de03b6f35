-- A row that is read as a record is that of the record, and the record that is shown of its row is the record.
use Rattle.std.proofs.Common.{◌≡◌, ℕ, suc, ◌==◌, List, [], ◌∷◌, length, map, drop, Some, refl, sym, ap, subst, ◌∙◌}
use Rattle.std.specs.Prelude.{⊤}
use Rattle.sqlite_value.specs.declared.value.Value.TheVariants.{Null}
use Rattle.sqlite_value.specs.Order.{Row, column}
use Rattle.sqlite_schema.specs.declared.schema.Column.{Column as Made}
use Rattle.sqlite_schema.specs.declared.schema.Kind.TheVariants.{Integer}
use Rattle.sqlite_rules.specs.Cast.{cast, cast_all, cast_row}
use Rattle.acd_sql_columns.proofs.Rows.ValuesInRange.{bound, guarded, row_is, beside}
use Rattle.acd_sql_columns.proofs.Writes.Common.{cast_id}
use Rattle.acd_sql_columns.proofs.Rows.SortLaws.{stored, back, casts, null_casts}
use Rattle.acd_sql_columns.specs.Fields.{Field, Makes, written_row, read_from, read_whole, shown_whole, Agree, Remade}
use Rattle.acd_sql_columns.specs.Rows.{keyed_row}
use Rattle.acd_sql_columns.specs.Schema.{Layout, table_of}
use Rattle.acd_sql_columns.specs.Sorts.{value, read_at, type_in}
use Rattle.acd_sql_columns.specs.Values.{id_value, cells}
use Rattle.acd_lemmas.proofs.Lists.{head_is, tail_is, some_is}

module _ {R : Type 0} where
  -- whatever holds of all records made holds of those that were read
  kept : (fs : List (Field R)) (make : Makes R fs) (P : R → Type 0) (row : Row) (at : ℕ) (x : R) → Agree fs make P → read_from fs make row at ≡ Some x → P x
  kept [] made P row at x agree h = subst P (some_is made x h) agree
  kept (f ∷ fs) make P row at x agree h =
      let b = bound (read_at f.column row at) (λ v. read_from fs (make v) row (suc at)) x h in
      (kept fs (make b.0) (λ r. P r × (f.get r ≡ b.0)) row (suc at) x (agree b.0) b.2).0

  cells_are : (fs : List (Field R)) (make : Makes R fs) (P : R → Type 0) (row : Row) (at : ℕ) (x : R) → Agree fs make P → read_from fs make row at ≡ Some x
      → cells at (length fs) row ≡ written_row fs x
  cells_are [] made P row at x agree h = refl
  cells_are (f ∷ fs) make P row at x agree h =
      let b = bound (read_at f.column row at) (λ v. read_from fs (make v) row (suc at)) x h in
      let field_is = (kept fs (make b.0) (λ r. P r × (f.get r ≡ b.0)) row (suc at) x (agree b.0) b.2).1 in
      beside (column row at) (value f.column (f.get x)) (cells (suc at) (length fs) row) (written_row fs x)
      (stored f.column row at b.0 b.1 ∙ ap (value f.column) (sym field_is))
      (cells_are fs (make b.0) (λ r. P r × (f.get r ≡ b.0)) row (suc at) x (agree b.0) b.2)

  pub row_is_written : (fs : List (Field R)) (make : Makes R fs) → Agree fs make (λ r. ⊤) → (row : Row) (x : R) → read_whole fs make row ≡ Some x
      → row ≡ written_row fs x
  row_is_written fs make agree r x h =
      let w = guarded (length r == length fs) (read_from fs make r 0) x h in
      row_is (length fs) r w.0 ∙ cells_are fs make (λ r. ⊤) r 0 x agree w.1

  pub shown_back : (fs : List (Field R)) (make : Makes R fs) (x : R) → Remade fs make x → shown_whole fs make (written_row fs x) ≡ x
  shown_back [] made x h = h
  shown_back (f ∷ fs) make x h = subst (λ v. shown_whole fs (make v) (written_row fs x) ≡ x) (sym (back f.column (f.get x))) (shown_back fs (make (f.get x)) x h)

  -- where a row is that of a record, it is read as this record or as none
  pub fields_exact : (fs : List (Field R)) (make : Makes R fs) → Agree fs make (λ r. ⊤) → ((x : R) → Remade fs make x) → (row : Row) (x y : R)
      → read_whole fs make row ≡ Some x → row ≡ written_row fs y → x ≡ y
  fields_exact fs make agree remade row x y h e =
      sym (shown_back fs make x (remade x)) ∙ ap (shown_whole fs make) (sym (row_is_written fs make agree row x h) ∙ e) ∙ shown_back fs make y (remade y)

  -- columns of these types take the row as it is
  pub casts_all : (cs : List Made) (fs : List (Field R)) (r : R) → map (λ (c : Made). c.kind) cs ≡ map (λ (f : Field R). type_in f.column) fs
      → cast_all cs (written_row fs r) ≡ written_row fs r
  casts_all [] [] r e = refl
  casts_all [] (f ∷ fs) r e = absurd (cc (e))
  casts_all (c ∷ cs) [] r e = refl
  casts_all (c ∷ cs) (f ∷ fs) r e =
      beside (cast c.kind (value f.column (f.get r))) (value f.column (f.get r)) (cast_all cs (written_row fs r)) (written_row fs r)
      (ap (λ k. cast k (value f.column (f.get r))) (head_is _ _ _ _ e) ∙ casts f.column (f.get r))
      (casts_all cs fs r (tail_is _ _ _ _ e))

  -- the columns of a table take the row as it is, where the first is the number of the row
  pub fields_cast : (l : Layout) (fs : List (Field R)) (n : ℕ) (r : R) → map (λ (c : Made). c.kind) l.columns ≡ map (λ (f : Field R). type_in f.column) fs
      → written_row fs r ≡ id_value n ∷ drop 1 (written_row fs r)
      → cast_row (table_of l) (keyed_row (written_row fs r)) ≡ keyed_row (written_row fs r)
  fields_cast l [] n r kinds e = absurd (cc (e))
  fields_cast l (f ∷ fs) n r kinds e = go l.columns kinds
    where
      key : value f.column (f.get r) ≡ id_value n
      key = head_is _ _ _ _ e

      go : (cs : List Made) → map (λ (c : Made). c.kind) cs ≡ map (λ (f : Field R). type_in f.column) (f ∷ fs)
          → cast Integer (value f.column (f.get r)) ∷ cast_all cs (Null ∷ written_row fs r) ≡ value f.column (f.get r) ∷ Null ∷ written_row fs r
      go [] k = absurd (cc (k))
      go (c ∷ cs) k =
          beside _ _ _ _ (ap (cast Integer) key ∙ cast_id n ∙ sym key)
          (beside _ _ _ _ (ap (λ x. cast x Null) (head_is _ _ _ _ k) ∙ null_casts f.column) (casts_all cs fs r (tail_is _ _ _ _ k)))
