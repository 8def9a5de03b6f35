-- The query of a table: what it finds, and what it finds in a table whose rows may hold anything.
use Rattle.std.proofs.Common.{◌≡◌, ◌&&◌, ◌||◌, ℕ, not, List, [], ◌∷◌, map, Bool, true, false, Result, Ok, Err, IfOk, Some, refl, sym, ap, ap₂, subst, ◌∙◌}
use Rattle.std.specs.Prelude.{Vec, IsPermutation}
use Rattle.std.specs.List.{list_any}
use Rattle.std.specs.declared.alloc.Global.{Global}
use Rattle.std.proofs.lemmas.List.Sorted.{list_any-IsPermutation}
use Rattle.sqlite_value.specs.Order.{Row}
use Rattle.sqlite_schema.specs.declared.schema.Table.{Table as Made}
use Rattle.sqlite.specs.Effect.{Database}
use Rattle.sqlite.specs.Listing.{understood}
use Rattle.sqlite.specs.State.{State, Shown}
use Rattle.sqlite.specs.declared.error.Error.{Error}
use Rattle.sqlite.proofs.Callers.{IsPlain}
use Rattle.acd_sql_columns.specs.declared.tables.Table.{Table}
use Rattle.acd_sql_columns.specs.AnyRows.{is_good, is_good_in, rows_in, FindsGood}
use Rattle.acd_sql_columns.specs.AnyRows as any
use Rattle.acd_sql_columns.specs.ReadResults.{Finds}
use Rattle.acd_sql_columns.specs.Relations.{relations_of}
use Rattle.acd_sql_columns.specs.Schema.{book_schema, BeginsSchema}
use Rattle.acd_sql_columns.specs.DatabaseView.{Sees}
use Rattle.acd_sql_columns.proofs.Results.SnapshotReads.{sees_on}
use Rattle.acd_sql_columns.specs.Descriptions.{Description, are_read}
use Rattle.acd_sql_columns.proofs.OneTable.Listings.{Queried, finds, plain_of}
use Rattle.acd_sql_columns.proofs.Results.WholeTableQueries.{sees_all}
use Rattle.acd_sql_columns.proofs.FileTables.DescribedTable.{Described, Selects, listing, shows_all, asks, good}
use Rattle.acd_lemmas.proofs.Lists.{head_is, tail_is}

module _ {R : Type 0} (d : Description R) (f : Described d) (base : List Made) (select : List ℕ) (s : Selects d base select) (text : List ℕ)
    (is : text ≡ select) (old new : State) (r : Result (Vec Row Global) Error) where
  plain : IsPlain (understood book_schema text)
  plain = subst (λ t. IsPlain (understood book_schema t)) (sym is) (plain_of base select (listing d f base select s) book_schema s.begins)

  pub rows_found : Queried text [] old new r → Finds old new r (λ c rows. rows.items ≡ map d.values (d.records (relations_of c)))
  rows_found q =
      finds text [] old new r plain (λ c rows. rows ≡ map d.values (d.records (relations_of c))) q
      (λ rows c held h. shows_all d f base select s old new rows c held (subst (λ t. Shown t [] old new rows) is h))

  pub rows_seen : (b : Database) → BeginsSchema base b.schema
      → (IsPlain (understood b.schema text) → Sees b old new r (λ rows. Shown text [] old new rows.items))
      → Sees b old new r (λ rows. IsPermutation (rows_in d.table b.trees) rows.items)
  rows_seen b begins h =
      sees_all b old new r d.table base select (listing d f base select s) (asks d f base select s) begins
      (subst (λ t. Sees b old new r (λ rows. Shown t [] old new rows.items)) is
      (h (subst (λ t. IsPlain (understood b.schema t)) (sym is) (plain_of base select (listing d f base select s) b.schema begins))))

-- ---- whether each row is good

none_bad : (t : Table) (rows : List Row) → any.are_good t rows ≡ not (list_any (λ r. not (is_good t r)) rows)
unfolding any.are_good
none_bad t [] = refl
none_bad t (row ∷ rows) = either (is_good t row) (any.are_good t rows) (list_any (λ r. not (is_good t r)) rows) (none_bad t rows)
  where
    either : (a b c : Bool) → b ≡ not c → (a && b) ≡ not (not a || c)
    either true b c e = e
    either false b c e = refl

good_moved : (t : Table) (xs ys : List Row) → IsPermutation xs ys → any.are_good t ys ≡ any.are_good t xs
good_moved t xs ys same = none_bad t ys ∙ ap not (sym (list_any-IsPermutation (λ r. not (is_good t r)) xs ys same)) ∙ sym (none_bad t xs)

pub finds_good : (t : Table) (b : Database) (old new : State) (rows : Vec Row Global) (r : Result Bool Error)
    → IfOk r (λ good. good ≡ any.are_good t rows.items)
    → Sees b old new (Ok rows) (λ rows. IsPermutation (rows_in t b.trees) rows.items) → Sees b old new r (λ good. FindsGood t b.trees good)
unfolding is_good_in
finds_good t b old new rows (Ok good) is h =
    sees_on b old new rows (λ rows. IsPermutation (rows_in t b.trees) rows.items) (λ good. FindsGood t b.trees good) (Ok good) h
    (λ old_database same. let known = is ∙ good_moved t (rows_in t b.trees) rows.items same in
    record { bad = λ e. sym known ∙ e; canonical = λ canonical. known })
finds_good t b old new rows (Err e) is h =
    sees_on b old new rows (λ rows. IsPermutation (rows_in t b.trees) rows.items) (λ good. FindsGood t b.trees good) (Err e) h (λ old_database same. tt)

module _ {R : Type 0} (d : Description R) (f : Described d) where
  alike : (rows : List Row) → are_read d rows ≡ any.are_good d.table rows
  unfolding are_read any.are_good
  alike [] = refl
  alike (row ∷ rows) = rw (good d f row, alike rows) refl

  pub finds_good_read : (b : Database) (old new : State) (rows : Vec Row Global) (r : Result Bool Error) → IfOk r (λ good. good ≡ are_read d rows.items)
      → Sees b old new (Ok rows) (λ rows. IsPermutation (rows_in d.table b.trees) rows.items) → Sees b old new r (λ good. FindsGood d.table b.trees good)
  finds_good_read b old new rows (Ok good) is h = finds_good d.table b old new rows (Ok good) (is ∙ alike rows.items) h
  finds_good_read b old new rows (Err e) is h = finds_good d.table b old new rows (Err e) tt h

-- ---- records that are read of rows

module _ {R : Type 0} (d : Description R) (f : Described d) where
  values_read : (rows : List Row) (found : List R) → map Some found ≡ map d.in_row rows → rows ≡ map d.values found
  values_read [] [] e = refl
  values_read [] (x ∷ found) e = absurd (cc e)
  values_read (row ∷ rows) [] e = absurd (cc e)
  values_read (row ∷ rows) (x ∷ found) e =
      ap₂ (λ r rs. r ∷ rs) (f.stored row x (sym (head_is (Some x) (d.in_row row) (map Some found) (map d.in_row rows) e))).0
      (values_read rows found (tail_is (Some x) (d.in_row row) (map Some found) (map d.in_row rows) e))

  pub seen_records : (b : Database) (old new : State) (rows : Vec Row Global) (r : Result (Vec R Global) Error)
      → IfOk r (λ found. map Some found.items ≡ map d.in_row rows.items)
      → Sees b old new (Ok rows) (λ rows. IsPermutation (rows_in d.table b.trees) rows.items)
      → Sees b old new r (λ found. IsPermutation (rows_in d.table b.trees) (map d.values found.items))
  seen_records b old new rows (Ok found) read h =
      sees_on b old new rows (λ rows. IsPermutation (rows_in d.table b.trees) rows.items)
      (λ found. IsPermutation (rows_in d.table b.trees) (map d.values found.items)) (Ok found) h
      (λ old_database same. subst (IsPermutation (rows_in d.table b.trees)) (values_read rows.items found.items read) same)
  seen_records b old new rows (Err e) read h =
      sees_on b old new rows (λ rows. IsPermutation (rows_in d.table b.trees) rows.items)
      (λ found. IsPermutation (rows_in d.table b.trees) (map d.values found.items)) (Err e) h (λ old_database same. tt)
