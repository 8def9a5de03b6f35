-- A record put by an UPDATE of the row that has its key. Where no row has it, the UPDATE changes none.
use Rattle.std.proofs.Common.{◌≡◌, inl, ℕ, List, [], ◌∷◌, drop, filter, length, map, ◌==◌, Ok, refl, sym, ap, subst, ◌∙◌, arith}
use Rattle.std.proofs.Math.ListN.{length-map}
use Rattle.std.specs.List.{list_all}
use Rattle.std.specs.List.Sorted.{IsPermutation}
use Rattle.std.proofs.lemmas.List.Sorted.{length_permutation}
use Rattle.sqlite_value.specs.Order.{Row}
use Rattle.sqlite_sql.specs.Term.{holds}
use Rattle.sqlite_schema.specs.declared.schema.Schema.{Schema}
use Rattle.sqlite_rules.specs.Edit.{edited}
use Rattle.sqlite.specs.State.{State, Executes}
use Rattle.acd_terms.specs.Lists.{Among}
use Rattle.acd_lemmas.proofs.Lists.{filter_among}
use Rattle.acd_sql_columns.specs.Values.{id_value}
use Rattle.acd_sql_columns.specs.Content.{AreRows}
use Rattle.acd_sql_columns.proofs.Writes.Puts.{Files, RanOver, Put, are_put, keyed_by, one_changed}
use Rattle.acd_sql_columns.proofs.OneTable.Scans.{showing, passing, found_rows}
use Rattle.acd_sql_columns.proofs.Writes.Statements.{Replaces, replaces}
use Rattle.acd_sql_columns.proofs.Writes.Updates.{Updating, updating_edit, updated}
use Rattle.acd_lemmas.proofs.Numbers.{same_number}

-- the text changes the columns of the row that has the record's key into the record's
pub record Sets {R : Type 0} (schema : Schema) (text : List ℕ) (key : R → ℕ) (row params : R → Row) : Type 0 where
  pub it : Updating schema text
  pub files : Files it.layout key row
  pub finds : (new r : R) → list_all (holds (params new ∷ row r ∷ [])) it.terms ≡ (key r == key new)
  pub shows : (new r : R) → showing (params new) it.project (row r) ≡ id_value (key r) ∷ id_value (key r) ∷ drop 1 (row new)

no_rows : {X : Type 0} (rows : List X) → length rows ≡ 0 → rows ≡ []
no_rows [] e = refl
no_rows (x ∷ rows) e = absurd (omega (arith, e))

-- no row was changed
pub set_none : (schema : Schema) (text : List ℕ) (it : Updating schema text) (params : Row) (old new : State) (count : ℕ) → old.now.schema ≡ schema
    → Executes text params old new (Ok count) → count ≡ 0
    → Replaces schema it.layout.tree (old.now.trees it.layout.tree) old new
set_none schema text it params old new count has ran missed =
    let db = old.now.trees in
    let made = updated schema text it params old new count has ran in
    let none = no_rows made.rows (sym made.counted ∙ missed) in
    replaces schema old new (updating_edit db it.layout made.rows) (db it.layout.tree) made.changed (ap (λ l. edited db (updating_edit db it.layout l)) none)

-- where some are found, a record has the key
some_record : {R : Type 0} (key : R → ℕ) (new : R) (rs found : List R) → filter (λ r. key r == key new) rs ≡ found → (length found ≡ 0 → ⊥)
    → (x : R) × Among x rs × (key x ≡ key new)
some_record key new rs [] is some = absurd (some refl)
some_record {R = R} key new rs (x ∷ more) is some =
    let met = filter_among (λ (r : R). key r == key new) rs x (subst (Among x) (sym is) (inl refl)) in
    (x, met.0, sym (same_number (key x) (key new) met.1))

map_twice : {X Y Z : Type 0} (f : Y → Z) (g : X → Y) (xs : List X) → map f (map g xs) ≡ map (λ x. f (g x)) xs
map_twice f g [] = refl
map_twice f g (x ∷ xs) = ap (λ l. f (g x) ∷ l) (map_twice f g xs)

-- the columns shown of the rows that are found
shown_keyed : {R : Type 0} (schema : Schema) (text : List ℕ) (key : R → ℕ) (row params : R → Row) (s : Sets schema text key row params) (r : R) (rs : List R)
    (rows : List Row)
    → AreRows key row rows rs
    → map (showing (params r) s.it.project) (passing (params r) s.it.terms rows)
    ≡ map (λ (y : R). showing (params r) s.it.project (row y)) (filter (λ (y : R). key y == key r) rs)
shown_keyed {R = R} schema text key row params s r rs rows are =
    let shows = showing (params r) s.it.project in
    let passed =
    ap (passing (params r) s.it.terms) are.rows_are
    ∙ found_rows key row (keyed_by s.it.layout key row s.files) (λ y. key y == key r) (λ a b e. ap (λ k. k == key r) e) (params r) s.it.terms
    (λ (y : R). s.finds r y) rs in
    ap (map shows) passed ∙ map_twice shows row (filter (λ (y : R). key y == key r) rs)

-- as many rows are changed as records have the key
changed_keyed : {R : Type 0} (schema : Schema) (text : List ℕ) (key : R → ℕ) (row params : R → Row) (s : Sets schema text key row params) (r : R)
    (o : RanOver schema text s.it.layout.tree key row (params r))
    → length (filter (λ y. key y == key r) o.records) ≡ o.count
changed_keyed {R = R} schema text key row params s r o =
    let made = updated schema text s.it (params r) o.old o.new o.count o.schema_is o.ran in
    let with_key = filter (λ (y : R). key y == key r) o.records in
    let shows = λ (y : R). showing (params r) s.it.project (row y) in
    let shown = shown_keyed schema text key row params s r o.records (o.old.now.trees s.it.layout.tree) o.are_rows in
    let same = length_permutation (map shows with_key) made.rows (subst (λ l. IsPermutation l made.rows) shown made.found) in
    sym (made.counted ∙ same ∙ length-map with_key shows)

-- a row was changed
pub set_row : {R : Type 0} (schema : Schema) (text : List ℕ) (key : R → ℕ) (row params : R → Row) (s : Sets schema text key row params) (r : R)
    (o : RanOver schema text s.it.layout.tree key row (params r)) → (o.count ≡ 0 → ⊥)
    → Put schema s.it.layout.tree key row r o.records o.old o.new
set_row {R = R} schema text key row params s r o some =
    let db = o.old.now.trees in
    let made = updated schema text s.it (params r) o.old o.new o.count o.schema_is o.ran in
    let many = changed_keyed schema text key row params s r o in
    let x = some_record key r o.records (filter (λ (y : R). key y == key r) o.records) refl (λ none. some (sym many ∙ none)) in
    record {
      replaces = replaces schema o.old o.new (updating_edit db s.it.layout made.rows) _ made.changed
          (one_changed s.it.layout key row s.files (params r) s.it.terms s.it.project r (λ (y : R). s.finds r y) (λ (y : R). s.shows r y) x.0 o.records db
          made.rows o.are_rows.rows_are o.are_rows.ascending x.1 x.2 made.found);
      are_rows = are_put key row r o.records o.are_rows.ascending;
    }

-- where none was, no record has the key
pub none_has_key : {R : Type 0} (schema : Schema) (text : List ℕ) (key : R → ℕ) (row params : R → Row) (s : Sets schema text key row params) (r : R)
    (o : RanOver schema text s.it.layout.tree key row (params r)) → o.count ≡ 0
    → filter (λ y. key y == key r) o.records ≡ []
none_has_key {R = R} schema text key row params s r o missed =
    no_rows (filter (λ (y : R). key y == key r) o.records) (changed_keyed schema text key row params s r o ∙ missed)
