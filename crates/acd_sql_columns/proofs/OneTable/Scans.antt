-- A query over one table, and the rows that a DELETE removes by it.
use Rattle.std.proofs.Common.{◌≡◌, ℕ, ℤ, pos, negsuc, List, [], ◌∷◌, ◌++◌, map, filter, Bool, true, false, not, ◌==◌, ◌&&◌, ◌||◌, cond, None, refl, sym, ap, subst, ◌∙◌, append_assoc, unwrap_or, Option}
use Rattle.acd_sql_columns.specs.Values.{id_value}
use Rattle.acd_sql_columns.proofs.OneTable.KeyedRows.{id_tied}
use Rattle.std.specs.List.{list_any, list_all, flat_map, AllByRecursion}
use Rattle.std.specs.List.Sorted.{IsPermutation}
use Rattle.std.proofs.lemmas.List.Sorted.{IsPermutation-map, list_any-IsPermutation}
use Rattle.std.proofs.lemmas.Map.Views.{any-filter_same}
use Rattle.sqlite_value.specs.declared.value.Value.TheVariants.{Null, Int}
use Rattle.sqlite_value.specs.declared.keys.Key.{Key}
use Rattle.sqlite_value.specs.Order.{Row}
use Rattle.sqlite_trees.specs.Tree.{Trees, rowid, has_rowid, without_rowid}
use Rattle.sqlite_sql.specs.Term.{Term, lit, eval_all, holds}
use Rattle.sqlite_sql.specs.Query.{Query, inner, end, output, Output, IsAnswer}
use Rattle.sqlite_sql.specs.Program.{overlay, IsProgramAnswer}
use Rattle.sqlite_rules.specs.Edit.{without_all, id_in}
use Rattle.sqlite_rules.specs.Calls.{ids_of}
use Rattle.acd_lemmas.proofs.Numbers.{same_number}
use Rattle.acd_lemmas.proofs.Lists.{filter_true}
use Rattle.acd_lemmas.proofs.KeyedLists.{eqb_self}
use Rattle.acd_lemmas.proofs.Bools.{and_yes, or_yes}

abbrev pub scan : ℕ → List Term → List Term → List (Term × Key) → Query
scan t terms project order = record {
  from = inner t end;
  filter = terms;
  group = None;
  project = project;
  distinct = false;
  collations = [];
  order = order;
  limit = lit (Int (negsuc 0));
  offset = lit (Int (pos 0));
}

abbrev pub passing : Row → List Term → List Row → List Row
passing params terms rows = filter (λ r. list_all (holds (params ∷ r ∷ [])) terms) rows

abbrev pub showing : Row → List Term → Row → Row
showing params project r = eval_all project (params ∷ r ∷ [])

pub staged_is : (params : Row) (terms : List Term) (rows : List Row)
    → flat_map (λ r. cond (list_all (holds (params ∷ r ∷ [])) terms) ((params ∷ r ∷ []) ∷ []) []) rows ≡ map (λ r. params ∷ r ∷ []) (passing params terms rows)
staged_is params terms [] = refl
staged_is params terms (r ∷ rs) = go (list_all (holds (params ∷ r ∷ [])) terms) (staged_is params terms rs)
  where
    go : (b : Bool)
        → flat_map (λ r. cond (list_all (holds (params ∷ r ∷ [])) terms) ((params ∷ r ∷ []) ∷ []) []) rs ≡ map (λ r. params ∷ r ∷ []) (passing params terms rs)
        → cond b ((params ∷ r ∷ []) ∷ []) [] ++ flat_map (λ r. cond (list_all (holds (params ∷ r ∷ [])) terms) ((params ∷ r ∷ []) ∷ []) []) rs
        ≡ map (λ r. params ∷ r ∷ []) (cond b (r ∷ passing params terms rs) (passing params terms rs))
    go true e = ap (λ t. (params ∷ r ∷ []) ∷ t) e
    go false e = e

shown_is : (q : Query) (params : Row) (rows : List Row)
    → map (λ (o : Output). o.1) (map (output q) (map (λ r. params ∷ r ∷ []) rows)) ≡ map (showing params q.project) rows
shown_is q params [] = refl
shown_is q params (r ∷ rs) = ap (λ t. showing params q.project r ∷ t) (shown_is q params rs)

-- where a query has no table
no_table : (b : Bool) (rows : List Row) → unwrap_or (cond {A = Option (List Row)} b None None) rows ≡ rows
no_table true rows = refl
no_table false rows = refl

pub nothing_over : (db : Trees) (t : ℕ) → overlay db [] t ≡ db t
nothing_over db t = no_table _ (db t)

-- the rows that pass, shown, in some order
pub scanned : (t : ℕ) (terms project : List Term) (order : List (Term × Key)) (db : Trees) (params : Row) (rows : List Row)
    → IsProgramAnswer [] (scan t terms project order) db params rows → IsPermutation (map (showing params project) (passing params terms (db t))) rows
scanned t terms project order db params rows h =
    let q = scan t terms project order in
    let a : IsAnswer q (overlay db []) params rows = h Null in
    let staged =
    a.grouped ∙ staged_is params terms (overlay db [] t) ∙ ap (λ (l : List Row). map (λ r. params ∷ r ∷ []) (passing params terms l)) (nothing_over db t) in
    let kept = a.distinct ∙ ap (map (output q)) staged in
    let same = IsPermutation-map (λ (o : Output). o.1) _ a.ordered (subst (λ k. IsPermutation k a.ordered) kept a.same) in
    subst (λ l. IsPermutation l rows) (shown_is q params (passing params terms (db t)))
    (subst (IsPermutation (map (λ (o : Output). o.1) (map (output q) (map (λ r. params ∷ r ∷ []) (passing params terms (db t)))))) (sym a.shown) same)

-- ---- rows that are removed

without_step : (p q : Row → Bool) (rows : List Row) → filter q (filter (λ r. not (p r)) rows) ≡ filter (λ r. not (p r) && q r) rows
without_step p q [] = refl
without_step p q (r ∷ rs) = go (p r) (without_step p q rs)
  where
    go : (a : Bool) → filter q (filter (λ r. not (p r)) rs) ≡ filter (λ r. not (p r) && q r) rs
        → filter q (cond (not a) (r ∷ filter (λ r. not (p r)) rs) (filter (λ r. not (p r)) rs))
        ≡ cond (not a && q r) (r ∷ filter (λ r. not (p r) && q r) rs) (filter (λ r. not (p r) && q r) rs)
    go true e = e
    go false e = ap (λ l. cond (q r) (r ∷ l) l) e

neither : (a b : Bool) → (not a && not b) ≡ not (a || b)
neither true b = refl
neither false b = refl

pub filter_like : {X : Type 0} (p q : X → Bool) (xs : List X) → AllByRecursion (λ x. p x ≡ q x) xs → filter p xs ≡ filter q xs
filter_like p q [] h = refl
filter_like p q (x ∷ xs) h = rw (h.0, filter_like p q xs h.1)

pub each : {X : Type 0} (P : X → Type 0) (xs : List X) → ((x : X) → P x) → AllByRecursion P xs
each P [] h = tt
each P (x ∷ xs) h = (h x, each P xs h)

pub all_out : (ids : List ℤ) (rows : List Row) → without_all rows ids ≡ filter (λ r. not (list_any (λ id. has_rowid id r) ids)) rows
all_out [] rows = sym (filter_true rows)
all_out (id ∷ ids) rows =
    all_out ids (without_rowid id rows) ∙ without_step (has_rowid id) (λ r. not (list_any (λ id. has_rowid id r) ids)) rows
    ∙ filter_like _ (λ r. not (has_rowid id r || list_any (λ id. has_rowid id r) ids)) rows
    (each _ rows (λ r. neither (has_rowid id r) (list_any (λ id. has_rowid id r) ids)))

pub filter_mapped : {X Y : Type 0} (p : Y → Bool) (f : X → Y) (xs : List X) → filter p (map f xs) ≡ map f (filter (λ x. p (f x)) xs)
filter_mapped p f [] = refl
filter_mapped p f (x ∷ xs) = go (p (f x)) (filter_mapped p f xs)
  where
    go : (b : Bool) → filter p (map f xs) ≡ map f (filter (λ x. p (f x)) xs)
        → cond b (f x ∷ filter p (map f xs)) (filter p (map f xs)) ≡ map f (cond b (x ∷ filter (λ x. p (f x)) xs) (filter (λ x. p (f x)) xs))
    go true e = ap (λ l. f x ∷ l) e
    go false e = e

pub any_mapped : {X Y : Type 0} (p : Y → Bool) (f : X → Y) (xs : List X) → list_any p (map f xs) ≡ list_any (λ x. p (f x)) xs
any_mapped p f [] = refl
any_mapped p f (x ∷ xs) = ap (λ b. p (f x) || b) (any_mapped p f xs)

module _ {R : Type 0} (key : R → ℕ) (row : R → Row) (keyed : (r : R) → rowid (row r) ≡ id_value (key r)) (P : R → Bool)
    (by_its_key : (a b : R) → key a ≡ key b → P a ≡ P b) where
  abbrev hit : R → R → Bool
  hit r x = has_rowid (pos (key x)) (row r)

  hit_is : (r x : R) → hit r x ≡ (key r == key x)
  hit_is r x = rw (keyed r) (id_tied (key r) (key x))

  same_key : (r x : R) → hit r x ≡ true → key x ≡ key r
  same_key r x h = same_number (key r) (key x) (sym (hit_is r x) ∙ h)

  hit_itself : (r : R) → hit r r ≡ true
  hit_itself r = hit_is r r ∙ eqb_self (key r)

  among : (r : R) (front back : List R) → list_any (hit r) (front ++ r ∷ back) ≡ true
  among r [] back = rw (hit_itself r)
  among r (x ∷ front) back = rw (among r front back) (or_yes (hit r x))

  taken : (all : List R) (r : R) → list_any (hit r) all ≡ true → list_any (hit r) (filter P all) ≡ P r
  taken all r h = any-filter_same (hit r) P (P r) (λ x e. by_its_key x r (same_key r x e)) all ∙ ap (λ b. P r && b) h ∙ and_yes (P r)

  each_taken : (front rest : List R) → AllByRecursion (λ r. list_any (hit r) (filter P (front ++ rest)) ≡ P r) rest
  each_taken front [] = tt
  each_taken front (r ∷ rest) = (
    taken (front ++ r ∷ rest) r (among r front rest),
    subst (λ l. AllByRecursion (λ r. list_any (hit r) (filter P l) ≡ P r) rest) (append_assoc front (r ∷ []) rest) (each_taken (front ++ r ∷ []) rest),
  )

  all_and : (A B : R → Bool) (xs : List R) → ((r : R) → A r ≡ B r) → AllByRecursion (λ r. B r ≡ P r) xs → AllByRecursion (λ r. not (A r) ≡ not (P r)) xs
  all_and A B [] f h = tt
  all_and A B (x ∷ xs) f h = (ap not (f x ∙ h.0), all_and A B xs f h.1)

  -- the rest where these rowids are removed, in whatever order
  pub left_over : (rs : List R) (ids : List ℤ) → IsPermutation (map (λ r. pos (key r)) (filter P rs)) ids
      → without_all (map row rs) ids ≡ map row (filter (λ r. not (P r)) rs)
  left_over rs ids same =
      let found =
      λ (r : R). sym (list_any-IsPermutation (λ id. has_rowid id (row r)) _ ids same)
      ∙ any_mapped (λ id. has_rowid id (row r)) (λ r. pos (key r)) (filter P rs) in
      all_out ids (map row rs) ∙ filter_mapped _ row rs
      ∙ ap (map row) (filter_like _ (λ r. not (P r)) rs
      (all_and (λ r. list_any (λ id. has_rowid id (row r)) ids) (λ r. list_any (hit r) (filter P rs)) rs found (each_taken [] rs)))

  -- the rows that pass the tests are those of the records that pass
  module _ (params : Row) (terms : List Term) (tests : (r : R) → list_all (holds (params ∷ row r ∷ [])) terms ≡ P r) where
    pub found_rows : (rs : List R) → passing params terms (map row rs) ≡ map row (filter P rs)
    found_rows rs = filter_mapped _ row rs ∙ ap (map row) (filter_like _ P rs (each _ rs tests))

    module _ (project : List Term) (numbered : (r : R) → rowid (showing params project (row r)) ≡ id_value (key r)) where
      ids_mapped : (l : List R) → ids_of (map (showing params project) (map row l)) ≡ map (λ r. pos (key r)) l
      ids_mapped [] = refl
      ids_mapped (r ∷ l) = rw (ap id_in (numbered r), ids_mapped l)

      pub taken_out : (rs : List R) (table rows : List Row) → table ≡ map row rs
          → IsPermutation (map (showing params project) (passing params terms table)) rows
          → without_all table (ids_of rows) ≡ map row (filter (λ r. not (P r)) rs)
      taken_out rs table rows is same =
          let ids = IsPermutation-map (λ r. id_in (rowid r)) _ rows same in
          let known =
          ap (λ l. ids_of (map (showing params project) (passing params terms l))) is ∙ ap (λ l. ids_of (map (showing params project) l)) (found_rows rs)
          ∙ ids_mapped (filter P rs) in
          ap (λ l. without_all l (ids_of rows)) is ∙ left_over rs (ids_of rows) (subst (λ l. IsPermutation l (ids_of rows)) known ids)
