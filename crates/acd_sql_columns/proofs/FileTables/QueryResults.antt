-- The results of queries of tables whose rows may hold anything.
use Rattle.std.proofs.Common.{◌≡◌, ◌&&◌, ℕ, zero, suc, length, take, filter, nat_lt, nat_le, List, [], ◌∷◌, map, cond, Bool, true, false, Option, Some, None, Result, inl, inr, refl, sym, ap, subst, ◌∙◌, IsTrue, arith}
use Rattle.std.specs.Prelude.{Vec, pos, negsuc, codes}
use Rattle.std.specs.declared.alloc.Global.{Global}
use Rattle.std.specs.List.{AllByRecursion, list_all}
use Rattle.std.specs.declared.cmp.Ordering.TheVariants.{Less}
use Rattle.std.specs.Ordering.{nat_cmp, is_lt}
use Rattle.std.specs.List.Sorted.{IsPermutation}
use Rattle.std.proofs.lemmas.Bool.Decides.{nat_tests}
use Rattle.std.proofs.lemmas.Int.{ints}
use Rattle.std.proofs.lemmas.List.Elements.{All-from_recursion, recursion_from_All}
use Rattle.std.proofs.lemmas.List.Sorted.{All-permutation, length_permutation}
use Rattle.sqlite_value.specs.declared.keys.Collation.TheVariants.{Binary}
use Rattle.sqlite_value.specs.declared.value.Value.{Value}
use Rattle.sqlite_value.specs.declared.value.Value.TheVariants.{Null, Int, Real, Text, Blob}
use Rattle.sqlite_value.specs.Order.{Row, column, value_cmp}
use Rattle.sqlite_value.proofs.OrderLemmas.{value_cmp-Int}
use Rattle.sqlite_trees.specs.Tree.{IsTable, rowid}
use Rattle.sqlite_trees.specs.View.{is_int}
use Rattle.sqlite_rules.specs.Lists.{Has}
use Rattle.sqlite_rules.proofs.ListLemmas.{all_from}
use Rattle.sqlite_rules.proofs.ProbeLemmas.{mapped_has}
use Rattle.sqlite_sql.specs.Ops.{binary}
use Rattle.sqlite_sql.specs.Query.{Output, limited, as_count}
use Rattle.sqlite_sql.specs.Term.{Term, lit, col, op2, eval, holds}
use Rattle.sqlite_sql.specs.declared.ops.BinaryOp.TheVariants.{Compare}
use Rattle.sqlite_sql.specs.declared.ops.CompareOp.TheVariants.{Lt}
use Rattle.sqlite_schema.specs.declared.schema.Schema.{Schema}
use Rattle.sqlite_schema.specs.declared.schema.Table.{Table as Made}
use Rattle.sqlite.specs.declared.error.Error.{Error}
use Rattle.sqlite.specs.Effect.{Database}
use Rattle.sqlite.specs.Listing.{understood}
use Rattle.sqlite.specs.State.{State, Shown}
use Rattle.sqlite.proofs.Callers.{IsPlain}
use Rattle.sqlite_tied.specs.Compute.{everything}
use Rattle.acd_terms.specs.Lists.{AllAfter, IsAscending}
use Rattle.acd_sql_columns.specs.declared.tables.Log.{Log}
use Rattle.acd_sql_columns.specs.declared.tables.Log.TheVariants as log
use Rattle.acd_sql_columns.specs.declared.tables.Table.{Table}
use Rattle.acd_sql_columns.specs.declared.tables.Table.TheVariants as table
use Rattle.acd_sql_columns.specs.AnyRows.{values_in, rows_in, is_good, are_good, is_good_in, table_of_log, values_after, BeginsAsBook, Numbered, AreNumbered, FromOne, FindsLow, IsPageRows}
use Rattle.acd_sql_columns.specs.Content.{tree_of}
use Rattle.acd_sql_columns.specs.Values.{option_in, ◌>>=◌, at_least, stamp_at, id_value}
use Rattle.acd_sql_columns.specs.Ranges.{event_in, kept_in}
use Rattle.acd_sql_columns.specs.Schema.{tables_1, with_later, BeginsSchema, names_of}
use Rattle.acd_sql_columns.specs.Schema as schema
use Rattle.acd_sql_columns.specs.DatabaseView.{HasDatabase, Sees}
use Rattle.acd_sql_columns.specs.Tables.{connections, events, kept}
use Rattle.acd_sql_columns.proofs.FileTables.DescribedTable.{paging}
use Rattle.acd_sql_columns.proofs.Results.WholeTableQueries.{AsksAll, answer_in}
use Rattle.acd_sql_columns.proofs.FileTables.TablesDescribed.{events_described, events_pages, kept_described, kept_pages}
use Rattle.acd_sql_columns.proofs.Results.QueryAnswers.{columns, no_limit, by_number, above_parameter, above}
use Rattle.acd_sql_columns.proofs.FileTables.Connections.{connections_heaped, connections_selects, connections_listing}
use Rattle.acd_sql_columns.proofs.FileTables.CompositeKeyed.{asks}
use Rattle.acd_sql_columns.proofs.OneTable.KeyedRows.{id_cmp, by_key}
use Rattle.acd_sql_columns.proofs.OneTable.Listings.{Listing, Lists, query_of, listed, begun}
use Rattle.acd_sql_columns.proofs.OneTable.OrderedQueries.{given, in_its_order}
use Rattle.acd_sql_columns.proofs.Writes.Puts.{truth_back}
use Rattle.acd_sql_columns.specs.declared.texts.TheConstants.{SELECT_CONNECTIONS, SELECT_EVENTS_AFTER, SELECT_KEPT_AFTER, SELECT_LOW_EVENT, SELECT_LOW_KEPT, SELECT_META, SELECT_STANDING_CONNECTIONS, SELECT_VERSION}
use Rattle.acd_sql_columns.proofs.OneTable.Scans.{showing, passing}
use Rattle.acd_sql_columns.proofs.Results.SnapshotReads.{sees_so}
use Rattle.acd_sql_columns.proofs.OneTable.Selections.{Selection, selected, meta_selection}
use Rattle.acd_lemmas.proofs.Lists.{filter_true}

-- ---- lists

pub of_filter : {X : Type 0} (p : X → Bool) (xs : List X) (x : X) → Has (filter p xs) x → Has xs x × (p x ≡ true)
of_filter p [] x h = absurd h
of_filter p (y ∷ ys) x h = go (of_filter p ys x) (p y) refl h
  where
    go : (Has (filter p ys) x → Has ys x × (p x ≡ true)) → (b : Bool) → p y ≡ b → Has (cond b (y ∷ filter p ys) (filter p ys)) x → Has (y ∷ ys) x × (p x ≡ true)
    go more true e (inl is) = (inl is, ap p is ∙ e)
    go more true e (inr k) = (inr (more k).0, (more k).1)
    go more false e k = (inr (more k).0, (more k).1)

none_pass : {X : Type 0} (p : X → Bool) (xs : List X) → filter p xs ≡ [] → AllByRecursion (λ x. p x ≡ false) xs
none_pass p [] h = tt
none_pass p (x ∷ xs) h = go (none_pass p xs) (p x) refl h
  where
    go : (filter p xs ≡ [] → AllByRecursion (λ x. p x ≡ false) xs) → (b : Bool) → p x ≡ b → cond b (x ∷ filter p xs) (filter p xs) ≡ []
        → (p x ≡ false) × AllByRecursion (λ x. p x ≡ false) xs
    go more true e k = absurd (cc k)
    go more false e k = (e, more k)

all_taken : {X : Type 0} (P : X → Type 0) (n : ℕ) (xs : List X) → AllByRecursion P xs → AllByRecursion P (take n xs)
all_taken P zero xs h = tt
all_taken P (suc n) [] h = tt
all_taken P (suc n) (x ∷ xs) h = (h.0, all_taken P n xs h.1)

all_limited : {X : Type 0} (P : X → Type 0) (o : Option ℕ) (xs : List X) → AllByRecursion P xs → AllByRecursion P (limited o xs)
all_limited P None xs h = h
all_limited P (Some n) xs h = all_taken P n xs h

pub mapped_all : {X Y : Type 0} (P : Y → Type 0) (f : X → Y) (xs : List X) → AllByRecursion (λ x. P (f x)) xs → AllByRecursion P (map f xs)
mapped_all P f [] h = tt
mapped_all P f (x ∷ xs) h = (h.0, mapped_all P f xs h.1)

pub all_so : {X : Type 0} (P Q : X → Type 0) → ((x : X) → P x → Q x) → (xs : List X) → AllByRecursion P xs → AllByRecursion Q xs
all_so P Q so [] h = tt
all_so P Q so (x ∷ xs) h = (so x h.0, all_so P Q so xs h.1)

pub moved_all : {X : Type 0} (P : X → Type 0) (xs ys : List X) → IsPermutation xs ys → AllByRecursion P xs → AllByRecursion P ys
moved_all P xs ys same h = recursion_from_All P ys (All-permutation P xs ys same (All-from_recursion P xs h))

-- one that isn't good is enough
pub bad_among : (t : Table) (rows : List Row) (r : Row) → Has rows r → is_good t r ≡ false → are_good t rows ≡ false
unfolding are_good
bad_among t [] r h bad = absurd h
bad_among t (x ∷ rows) r (inl e) bad = rw (sym (ap (is_good t) e) ∙ bad) refl
bad_among t (x ∷ rows) r (inr k) bad = either (is_good t x) (are_good t rows) (bad_among t rows r k bad)
  where
    either : (a b : Bool) → b ≡ false → (a && b) ≡ false
    either true b e = e
    either false b e = refl

-- ---- one text

module _ {base : List Made} (text : List ℕ) (it : Listing base text) (params : Row) (d : Database) (old new : State) (rows : List Row)
    (old_database : HasDatabase old d) (b : BeginsSchema base d.schema) (h : Shown text params old new rows) where
  -- each row of the answer shows one that passes
  abbrev Comes : Output → Type 0
  Comes o = (r : Row) × Has (d.trees it.tree) r × (list_all (holds (params ∷ r ∷ [])) it.terms ≡ true) × (o.1 ≡ showing params it.project r)

  come : (ordered : List Output) → IsPermutation (map (given (query_of it) params) (passing params it.terms (d.trees it.tree))) ordered
      → AllByRecursion Comes ordered
  come ordered same =
      moved_all Comes _ ordered same
      (mapped_all Comes (given (query_of it) params) (passing params it.terms (d.trees it.tree))
      (all_from (λ r. Comes (given (query_of it) params r)) (passing params it.terms (d.trees it.tree))
      (λ r k. let from = of_filter (λ r. list_all (holds (params ∷ r ∷ [])) it.terms) (d.trees it.tree) r k in (r, from.0, from.1, refl))))

  pub rows_come : AllByRecursion
      (λ row. (r : Row) × Has (d.trees it.tree) r × (list_all (holds (params ∷ r ∷ [])) it.terms ≡ true) × (row ≡ showing params it.project r)) rows
  rows_come =
      let some = in_its_order it.tree it.terms it.project it.order it.limit d.trees params rows (answer_in base text it params d old new rows old_database b h) in
      let P = λ (row : Row). (r : Row) × Has (d.trees it.tree) r × (list_all (holds (params ∷ r ∷ [])) it.terms ≡ true) × (row ≡ showing params it.project r) in
      subst (AllByRecursion P) (sym some.shown)
      (all_limited P (as_count (eval it.limit (params ∷ []))) (map (λ (o : Output). o.1) some.ordered)
      (mapped_all P (λ (o : Output). o.1) some.ordered (come some.ordered some.same)))

  -- where no more than the first is asked for, and none is shown
  pub rows_lack : as_count (eval it.limit (params ∷ [])) ≡ Some 1 → rows ≡ []
      → AllByRecursion (λ r. list_all (holds (params ∷ r ∷ [])) it.terms ≡ false) (d.trees it.tree)
  rows_lack one none =
      let some = in_its_order it.tree it.terms it.project it.order it.limit d.trees params rows (answer_in base text it params d old new rows old_database b h) in
      let empty = first_none some.ordered (sym (some.shown ∙ ap (λ o. limited o (map (λ (o : Output). o.1) some.ordered)) one) ∙ none) in
      let long = length_permutation _ some.ordered some.same in
      none_pass (λ r. list_all (holds (params ∷ r ∷ [])) it.terms) (d.trees it.tree)
      (none_given (passing params it.terms (d.trees it.tree)) (sym long ∙ ap length empty))
    where
      first_none : (ordered : List Output) → take 1 (map (λ (o : Output). o.1) ordered) ≡ [] → ordered ≡ []
      first_none [] e = refl
      first_none (o ∷ os) e = absurd (cc e)

      none_given : (xs : List Row) → length (map (given (query_of it) params) xs) ≡ 0 → xs ≡ []
      none_given [] e = refl
      none_given (x ∷ xs) e = absurd (omega (arith, e))

-- ---- tables that are read whole

pub asks_connections : AsksAll table.Connections tables_1 SELECT_CONNECTIONS.now connections_listing
unfolding connections_listing
asks_connections = asks connections connections_heaped SELECT_CONNECTIONS.now connections_selects

pub unordered_connections : Listing tables_1 SELECT_STANDING_CONNECTIONS.now
unfolding understood everything
unordered_connections = record {
  tree = schema.connections_layout.tree;
  terms = [];
  project = columns 1 (length schema.connections_layout.columns);
  order = [];
  limit = no_limit;
  names = names_of schema.connections_layout;
  command = λ rest s. refl;
  plain = λ rest s. (refl, refl);
  unlisted = λ rest s. refl;
}

pub asks_unordered_connections : AsksAll table.Connections tables_1 SELECT_STANDING_CONNECTIONS.now unordered_connections
unfolding unordered_connections
asks_unordered_connections = record { tree = refl; all = refl; unlimited = refl; shows = λ r. refl }

-- ---- the limits and the counters, and the version

in_database : (s t : Schema) (text : List ℕ) (it : Selection t text) (d : Database) (old new : State) (rows : List Row) → HasDatabase old d → d.schema ≡ t
    → Shown text [] old new rows
    → IsPermutation (map (showing [] it.project) (passing [] it.terms (d.trees it.tree))) rows
in_database s t text it d old new rows old_database is h =
    subst (λ (x : Database). IsPermutation (map (showing [] it.project) (passing [] it.terms (x.trees it.tree))) rows) old_database.now
    (selected t text it [] old new rows (ap (λ (x : Database). x.schema) old_database.now ∙ is) h)

pub shown_meta : (d : Database) (old new : State) (rows : List Row) → HasDatabase old d → BeginsSchema tables_1 d.schema → Shown SELECT_META.now [] old new rows
    → IsPermutation (rows_in table.Meta d.trees) rows
unfolding meta_selection
shown_meta d old new rows old_database b h =
    let whole_schema = with_later tables_1 b.0 d.schema in
    subst (λ l. IsPermutation l rows) (ap (map (values_in table.Meta)) (filter_true (d.trees schema.meta.tree)))
    (in_database whole_schema whole_schema SELECT_META.now (meta_selection b.0 d.schema) d old new rows old_database (begun tables_1 d.schema b) h)

-- whatever tables come later than the first
abbrev first : List Made
first = schema.table_of schema.meta ∷ []

version_selection : (rest : List Made) (s : Schema) → Selection (with_later first rest s) SELECT_VERSION.now
unfolding understood everything
version_selection rest s = record {
  tree = schema.meta.tree;
  terms = [];
  project = col 1 2 ∷ [];
  order = [];
  names = codes "version" ∷ [];
  command = refl;
  plain = (refl, refl);
  unlisted = refl;
}

pub version_plain : (d : Database) → BeginsAsBook d.schema → IsPlain (understood d.schema SELECT_VERSION.now)
version_plain d b = subst (λ s. IsPlain (understood s SELECT_VERSION.now)) (sym (begun first d.schema b)) (version_selection b.0 d.schema).plain

pub shown_version : (d : Database) (old new : State) (rows : List Row) → HasDatabase old d → BeginsAsBook d.schema → Shown SELECT_VERSION.now [] old new rows
    → IsPermutation (map (λ r. column r 2 ∷ []) (d.trees schema.meta.tree)) rows
unfolding version_selection
shown_version d old new rows old_database b h =
    subst (λ l. IsPermutation l rows) (ap (map (λ (r : Row). column r 2 ∷ [])) (filter_true (d.trees schema.meta.tree)))
    (in_database (with_later first b.0 d.schema) (with_later first b.0 d.schema) SELECT_VERSION.now (version_selection b.0 d.schema) d old new rows old_database
    (begun first d.schema b) h)

-- the tables of either version
pub nine_begin : (s : Schema) → BeginsSchema tables_1 s → BeginsAsBook s
nine_begin s b = subst BeginsAsBook (sym (begun tables_1 s b)) (_, refl)

-- ---- numbers below 1

abbrev below_one : List Term
below_one = op2 (Compare Lt Binary) (col 1 0) (lit (Int (pos 1))) ∷ []

below : (k : ℕ) → is_lt (value_cmp (id_value k) (id_value 1)) ≡ nat_lt k 1
below k = ap is_lt (id_cmp k 1) ∙ less k 1
  where
    less : (k n : ℕ) → is_lt (nat_cmp k n) ≡ nat_lt k n
    less k n = grind (arith, nat_tests)

-- the number passes
abbrev passes_low : Value → Bool
passes_low v = list_all (holds ([] ∷ (v ∷ []) ∷ [])) below_one

low_number : (k : ℕ) → passes_low (id_value k) ≡ nat_lt k 1
unfolding binary
low_number k = truth_back _ ∙ below k

low_negative : (m : ℕ) → passes_low (Int (negsuc m)) ≡ true
unfolding binary
low_negative m = truth_back _ ∙ ap is_lt (value_cmp-Int (negsuc m) (pos 1)) ∙ less m
  where
    less : (m : ℕ) → is_lt (Rattle.std.specs.Ordering.int_cmp (negsuc m) (pos 1)) ≡ true
    less m = grind (arith, ints, nat_tests)

not_one : (n : ℕ) → nat_lt n 1 ≡ true → nat_le 1 n ≡ false
not_one n h = grind (arith, nat_tests)

-- a number that passes is none of a record
low_bad : (v : Value) → passes_low v ≡ true → (option_in v >>= at_least 1) ≡ None
low_bad Null h = refl
low_bad (Int (pos k)) h = rw (not_one k (sym (low_number k) ∙ h)) refl
low_bad (Int (negsuc m)) h = refl
low_bad (Real x) h = refl
low_bad (Text t) h = refl
low_bad (Blob b) h = refl

from_one : (r : Row) (v : Value) → rowid r ≡ v → passes_low v ≡ false → IsTrue (is_int v) → FromOne r
from_one r Null e h int = absurd (cc int)
from_one r (Int (pos k)) e h int = (k, e, sym (low_number k) ∙ h)
from_one r (Int (negsuc m)) e h int = absurd (let all = low_negative m in cc (all, h))
from_one r (Real x) e h int = absurd (cc int)
from_one r (Text t) e h int = absurd (cc int)
from_one r (Blob b) e h int = absurd (cc int)

low_event : (r : Row) → (option_in (rowid r) >>= at_least 1) ≡ None → is_good table.Events (values_in table.Events r) ≡ false
unfolding event_in stamp_at
low_event r h = rw h refl

low_kept_row : (r : Row) → (option_in (rowid r) >>= at_least 1) ≡ None → is_good table.Kept (values_in table.Kept r) ≡ false
unfolding kept_in stamp_at
low_kept_row r h = rw h refl

low_is_bad : (l : Log) (r : Row) → passes_low (rowid r) ≡ true → is_good (table_of_log l) (values_in (table_of_log l) r) ≡ false
low_is_bad log.Events r h = low_event r (low_bad (rowid r) h)
low_is_bad log.Kept r h = low_kept_row r (low_bad (rowid r) h)

-- the text asks for a row below 1
pub record AsksLow (l : Log) (text : List ℕ) (it : Listing tables_1 text) : Type 0 where
  pub tree : it.tree ≡ tree_of (table_of_log l)
  pub tests : (r : Row) → list_all (holds ([] ∷ r ∷ [])) it.terms ≡ passes_low (rowid r)
  pub one : as_count (eval it.limit ([] ∷ [])) ≡ Some 1

first_one : (rows : List Row) {P : Row → Type 0} → (rows ≡ [] → ⊥) → AllByRecursion P rows → (row : Row) × P row
first_one [] some all = absurd (some refl)
first_one (r ∷ rows) some all = (r, all.0)

pub shown_low : (l : Log) (text : List ℕ) (it : Listing tables_1 text) → AsksLow l text it → (d : Database) (old new : State) (rows : List Row) → HasDatabase old d
    → BeginsSchema tables_1 d.schema → Shown text [] old new rows
    → FindsLow l d.trees rows
unfolding is_good_in
shown_low l text it asks d old new rows old_database is h = record {
  none = λ none.
      subst (λ n. AllByRecursion (λ r. IsTrue (is_int (rowid r)) → FromOne r) (d.trees n)) asks.tree
      (all_so (λ r. list_all (holds ([] ∷ r ∷ [])) it.terms ≡ false) (λ r. IsTrue (is_int (rowid r)) → FromOne r)
      (λ r f int. from_one r (rowid r) refl (sym (asks.tests r) ∙ f) int) (d.trees it.tree)
      (rows_lack text it [] d old new rows old_database is h asks.one none));
  some = λ some.
      let one = first_one rows some (rows_come text it [] d old new rows old_database is h) in
      let r = one.1.0 in
      let here : Has (d.trees (tree_of (table_of_log l))) r = subst (λ n. Has (d.trees n) r) asks.tree one.1.1 in
      bad_among (table_of_log l) (rows_in (table_of_log l) d.trees) (values_in (table_of_log l) r)
      (mapped_has (values_in (table_of_log l)) (d.trees (tree_of (table_of_log l))) r here)
      (low_is_bad l r (sym (asks.tests r) ∙ one.1.2));
}

pub low_events : Listing tables_1 SELECT_LOW_EVENT.now
unfolding understood everything
low_events = record {
  tree = schema.events_layout.tree;
  terms = below_one;
  project = col 1 0 ∷ [];
  order = by_number;
  limit = lit (Int (pos 1));
  names = codes "number" ∷ [];
  command = λ rest s. refl;
  plain = λ rest s. (refl, refl);
  unlisted = λ rest s. refl;
}

pub asks_low_events : AsksLow log.Events SELECT_LOW_EVENT.now low_events
unfolding low_events
asks_low_events = record { tree = refl; tests = λ r. refl; one = refl }

pub low_kept : Listing tables_1 SELECT_LOW_KEPT.now
unfolding understood everything
low_kept = record {
  tree = schema.kept_layout.tree;
  terms = below_one;
  project = col 1 0 ∷ [];
  order = by_number;
  limit = lit (Int (pos 1));
  names = codes "stamp" ∷ [];
  command = λ rest s. refl;
  plain = λ rest s. (refl, refl);
  unlisted = λ rest s. refl;
}

pub asks_low_kept : AsksLow log.Kept SELECT_LOW_KEPT.now low_kept
unfolding low_kept
asks_low_kept = record { tree = refl; tests = λ r. refl; one = refl }

-- ---- pages

-- rows that have these numbers rise as the numbers do
module _ {R : Type 0} (key : R → ℕ) (row : R → Row) (keyed : (x : R) → rowid (row x) ≡ id_value (key x)) where
  compared : (x y : R) → value_cmp (rowid (row x)) (rowid (row y)) ≡ nat_cmp (key x) (key y)
  compared x y = ap (λ v. value_cmp v (rowid (row y))) (keyed x) ∙ ap (value_cmp (id_value (key x))) (keyed y) ∙ id_cmp (key x) (key y)

  all_after : (x : R) (xs : List R) → AllByRecursion (λ r. value_cmp (rowid (row x)) (rowid r) ≡ Less) (map row xs) → AllAfter (by_key key) x xs
  all_after x [] h = tt
  all_after x (y ∷ ys) h = (sym (compared x y) ∙ h.0, all_after x ys h.1)

  all_above : (x : R) (xs : List R) → AllAfter (by_key key) x xs → AllByRecursion (λ r. value_cmp (rowid (row x)) (rowid r) ≡ Less) (map row xs)
  all_above x [] h = tt
  all_above x (y ∷ ys) h = (compared x y ∙ h.0, all_above x ys h.1)

  pub ascending_of : (xs : List R) → IsTable (map row xs) → IsAscending (by_key key) xs
  ascending_of [] h = tt
  ascending_of (x ∷ xs) h = (all_after x xs h.0, ascending_of xs h.1)

  pub rising_of : (xs : List R) → IsAscending (by_key key) xs → IsTable (map row xs)
  rising_of [] h = tt
  rising_of (x ∷ xs) h = (all_above x xs h.0, rising_of xs h.1)

pub numbers_ascend : (l : Log) (d : Database) (xs : List Numbered) → AreNumbered l d.trees xs → IsAscending (by_key (λ (y : Numbered). y.key)) xs
numbers_ascend l d xs are = ascending_of (λ (y : Numbered). y.key) (λ (y : Numbered). y.row) (λ y. y.is) xs (subst IsTable are.rows are.rising)

-- the text asks for the first rows above a number
pub record AsksPage (l : Log) (text : List ℕ) (it : Listing tables_1 text) (n limit : ℕ) : Type 0 where
  pub tree : it.tree ≡ tree_of (table_of_log l)
  pub lists : Lists text it (λ (x : Numbered). x.key) (λ (x : Numbered). x.row) (λ (x : Numbered). values_in (table_of_log l) x.row)
      (id_value n ∷ id_value limit ∷ []) (λ (x : Numbered). nat_lt n x.key)
  pub shows : (r : Row) → showing (id_value n ∷ id_value limit ∷ []) it.project r ≡ values_in (table_of_log l) r
  pub limited_by : as_count (eval it.limit ((id_value n ∷ id_value limit ∷ []) ∷ [])) ≡ Some limit

pub shown_page : (l : Log) (text : List ℕ) (it : Listing tables_1 text) (n limit : ℕ) → AsksPage l text it n limit
    → (d : Database) (old new : State) (rows : List Row) → HasDatabase old d → BeginsSchema tables_1 d.schema
    → Shown text (id_value n ∷ id_value limit ∷ []) old new rows → IsPageRows l n limit d.trees rows
shown_page l text it n limit asks d old new rows old_database is h =
    let params = id_value n ∷ id_value limit ∷ [] in record {
      known =
          all_so (λ row. (r : Row) × Has (d.trees it.tree) r × (list_all (holds (params ∷ r ∷ [])) it.terms ≡ true) × (row ≡ showing params it.project r))
          (λ row. Has (rows_in (table_of_log l) d.trees) row)
          (λ row from.
          subst (Has (rows_in (table_of_log l) d.trees)) (sym (from.3 ∙ asks.shows from.0))
          (mapped_has (values_in (table_of_log l)) (d.trees (tree_of (table_of_log l))) from.0 (subst (λ k. Has (d.trees k) from.0) asks.tree from.1)))
          rows (rows_come text it params d old new rows old_database is h);
      paged = λ xs are.
          listed text it (λ (x : Numbered). x.key) (λ (x : Numbered). x.row) (λ (x : Numbered). values_in (table_of_log l) x.row) params
          (λ (x : Numbered). nat_lt n x.key) asks.lists old new rows xs
          (subst (λ (x : Database). BeginsSchema tables_1 x.schema) (sym old_database.now) is)
          (record {
            rows_are = ap (λ (x : Database). x.trees it.tree) old_database.now ∙ ap d.trees asks.tree ∙ are.rows;
            ascending = numbers_ascend l d xs are;
          }) h
          ∙ ap (λ o. limited o (values_after l n xs)) asks.limited_by;
    }

-- a test of the number is one of the key
number_tests : (n limit : ℕ) (x : Numbered) → list_all (holds ((id_value n ∷ id_value limit ∷ []) ∷ x.row ∷ [])) above_parameter ≡ nat_lt n x.key
unfolding binary
number_tests n limit x = ap (λ v. list_all (holds ((id_value n ∷ id_value limit ∷ []) ∷ (v ∷ []) ∷ [])) above_parameter) x.is ∙ truth_back _ ∙ above n x.key

pub asks_events : (n limit : ℕ)
    → AsksPage log.Events SELECT_EVENTS_AFTER.now (paging events events_described SELECT_EVENTS_AFTER.now events_pages n limit) n limit
asks_events n limit = record {
  tree = refl;
  lists = record { keyed = λ x. x.is; ranks = λ x y. refl; tests = number_tests n limit; shows = λ x. refl };
  shows = λ r. refl;
  limited_by = refl;
}

pub asks_kept : (n limit : ℕ) → AsksPage log.Kept SELECT_KEPT_AFTER.now (paging kept kept_described SELECT_KEPT_AFTER.now kept_pages n limit) n limit
asks_kept n limit = record {
  tree = refl;
  lists = record { keyed = λ x. x.is; ranks = λ x y. refl; tests = number_tests n limit; shows = λ x. refl };
  shows = λ r. refl;
  limited_by = refl;
}

-- ---- reads

module _ (d : Database) (old new : State) (r : Result (Vec Row Global) Error) (is : BeginsSchema tables_1 d.schema) where
  pub sees_meta : Sees d old new r (λ rows. Shown SELECT_META.now [] old new rows.items)
      → Sees d old new r (λ rows. IsPermutation (rows_in table.Meta d.trees) rows.items)
  sees_meta h =
      sees_so d old new r (λ rows. Shown SELECT_META.now [] old new rows.items) (λ rows. IsPermutation (rows_in table.Meta d.trees) rows.items)
      (λ old_database rows shown. shown_meta d old new rows.items old_database is shown) h

  pub sees_low : (l : Log) (text : List ℕ) (it : Listing tables_1 text) → AsksLow l text it → Sees d old new r (λ rows. Shown text [] old new rows.items)
      → Sees d old new r (λ rows. FindsLow l d.trees rows.items)
  sees_low l text it asks h =
      sees_so d old new r (λ rows. Shown text [] old new rows.items) (λ rows. FindsLow l d.trees rows.items)
      (λ old_database rows shown. shown_low l text it asks d old new rows.items old_database is shown) h

  pub sees_page : (l : Log) (text : List ℕ) (it : Listing tables_1 text) (n limit : ℕ) → AsksPage l text it n limit
      → Sees d old new r (λ rows. Shown text (id_value n ∷ id_value limit ∷ []) old new rows.items)
      → Sees d old new r (λ rows. IsPageRows l n limit d.trees rows.items)
  sees_page l text it n limit asks h =
      sees_so d old new r (λ rows. Shown text (id_value n ∷ id_value limit ∷ []) old new rows.items) (λ rows. IsPageRows l n limit d.trees rows.items)
      (λ old_database rows shown. shown_page l text it n limit asks d old new rows.items old_database is shown) h

pub sees_version : (d : Database) (old new : State) (r : Result (Vec Row Global) Error) → BeginsAsBook d.schema
    → Sees d old new r (λ rows. Shown SELECT_VERSION.now [] old new rows.items)
    → Sees d old new r (λ rows. IsPermutation (map (λ r. column r 2 ∷ []) (d.trees schema.meta.tree)) rows.items)
sees_version d old new r b h =
    sees_so d old new r (λ rows. Shown SELECT_VERSION.now [] old new rows.items)
    (λ rows. IsPermutation (map (λ r. column r 2 ∷ []) (d.trees schema.meta.tree)) rows.items)
    (λ old_database rows shown. shown_version d old new rows.items old_database b shown) h
