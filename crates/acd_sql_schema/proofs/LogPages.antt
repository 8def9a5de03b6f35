-- A log that is read page by page: what is left after a page decides about all.
use Rattle.std.proofs.Common.{◌≡◌, ℕ, ◌+◌, ◌<◌, ◌≤◌, suc, length, drop, get_or, zero, take, ◌⊎◌, Result, Ok, Err, IfErr, IfSome, filter, nat_lt, List, [], ◌∷◌, map, cond, Option, Some, None, Bool, true, false, IsTrue, refl, sym, ap, subst, ◌∙◌, inl, inr, arith}
use Rattle.std.specs.Prelude.{option_map}
use Rattle.std.specs.List.{AllByRecursion}
use Rattle.std.specs.Option.{is_some}
use Rattle.std.specs.Ordering.{nat_cmp}
use Rattle.std.specs.declared.cmp.Ordering.TheVariants.{Less}
use Rattle.std.proofs.lemmas.List.{drop_all, take-map}
use Rattle.std.proofs.lemmas.Bool.Decides.{nat_tests}
use Rattle.sqlite_value.specs.Order.{Row}
use Rattle.sqlite_trees.specs.Tree.{Trees, rowid}
use Rattle.sqlite_trees.specs.View.{is_int}
use Rattle.sqlite_rules.specs.Lists.{Has}
use Rattle.sqlite_rules.proofs.ListLemmas.{all_has}
use Rattle.sqlite_keyed.proofs.ListLemmas.{map-map}
use Rattle.sqlite.specs.Effect.{Database}
use Rattle.sqlite.specs.State.{State}
use Rattle.sqlite.specs.declared.error.Error.{Error}
use Rattle.acd_terms.specs.Lists.{Among, IsAscending}
use Rattle.acd_terms.specs.declared.event.Event.{Event}
use Rattle.acd_lemmas.proofs.Lists.{after_among, filter_all, filter_among, ascending-filter}
use Rattle.acd_book.specs.declared.kept.Kept.{Kept}
use Rattle.acd_sql_columns.specs.declared.tables.Log.{Log}
use Rattle.acd_sql_columns.specs.declared.tables.Log.TheVariants as log
use Rattle.acd_sql_schema.specs.declared.verdict.Page.{Page}
use Rattle.acd_sql_schema.specs.declared.verdict.Page.TheVariants.{Bad, Last, More}
use Rattle.acd_sql_columns.specs.AnyRows.{is_good, are_good, is_good_in, rows_in, values_in, table_of_log, Numbered, AreNumbered, FromOne, IsCanonicalAs, FindsGood, IsPageRows}
use Rattle.acd_sql_columns.specs.Transactions.{Fits}
use Rattle.acd_sql_schema.specs.Inspection.{is_good_after, number_if_good, last_good, FindsGoodAfter, IsLogPage, IsPageOfLog, HasNoRise}
use Rattle.acd_sql_statements.specs.StoreFailures.{IsMemory}
use Rattle.acd_sql_statements.specs.Looks.{FailsToLook}
use Rattle.acd_sql_columns.specs.declared.tables.Version.TheVariants as version
use Rattle.acd_sql_columns.specs.Content.{tree_of, IsIn}
use Rattle.acd_sql_columns.specs.Values.{option_in, ◌>>=◌, whole_at}
use Rattle.acd_sql_columns.specs.Ranges.{event_in, event_number, kept_in, kept_stamp}
use Rattle.acd_sql_columns.proofs.OneTable.KeyedRows.{by_key}
use Rattle.acd_sql_columns.proofs.FileTables.QueryResults.{bad_among, numbers_ascend}
use Rattle.acd_sql_statements.proofs.ListsByItem.{at}
use Rattle.acd_sql_columns.proofs.Rows.EventRows.{event_stored, kept_stored}

above : (m n : ℕ) → nat_cmp m n ≡ Less → nat_lt m n ≡ true
above m n h = grind (arith, nat_tests)

not_above : (n m k : ℕ) → n ≤ m → nat_lt n k ≡ false → nat_lt m k ≡ false
not_above n m k low h = grind (arith, nat_tests)

up_to : (n k m : ℕ) → nat_lt n k ≡ true → k ≤ m → n ≤ m
up_to n k m h low = grind (arith, nat_tests)

not_after : (k m : ℕ) → k ≤ m → nat_lt m k ≡ false
not_after k m h = grind (arith, nat_tests)

self : (n : ℕ) → n ≤ n
self n = omega arith

from_one : (k : ℕ) → nat_lt k 1 ≡ false → nat_lt 0 k ≡ true
from_one k h = grind (arith, nat_tests)

module _ {R : Type 0} (l : Log) (key : R → ℕ) (values : R → Row) (keyed : (x : R) → whole_at (values x) 0 ≡ Some (key x)) where
  abbrev good : R → Bool
  good x = is_good (table_of_log l) (values x)

  abbrev after : ℕ → List R → List R
  after n xs = filter (λ x. nat_lt n (key x)) xs

  abbrev all_good : List R → Bool
  all_good xs = are_good (table_of_log l) (map values xs)

  further : (n m : ℕ) → n ≤ m → (xs : List R) → after m (after n xs) ≡ after m xs
  further n m low [] = refl
  further n m low (x ∷ xs) =
      (elim (nat_lt n (key x)) as (λ b. nat_lt n (key x) ≡ b
      → after m (cond b (x ∷ after n xs) (after n xs)) ≡ cond (nat_lt m (key x)) (x ∷ after m xs) (after m xs)) [
        | true ↦ λ e. ap (λ r. cond (nat_lt m (key x)) (x ∷ r) r) (further n m low xs)
        | false ↦ λ e. rw (not_above n m (key x) low e) (further n m low xs)
      ]) refl

  -- the rows up to the last one of a page are good, or one isn't
  abbrev Finds : ℕ → List R → Option ℕ → Type 0
  Finds n ys None = all_good ys ≡ false
  Finds n ys (Some m) = (n ≤ m) × (all_good ys ≡ all_good (after m ys))

  -- a good row before the others
  good_first : (n : ℕ) (y : R) (ys : List R) → good y ≡ true → nat_lt n (key y) ≡ true → (r : Option ℕ) → Finds (key y) ys r → Finds n (y ∷ ys) r
  unfolding are_good
  good_first n y ys e low None h = rw e h
  good_first n y ys e low (Some m) h = (up_to n (key y) m low h.0, rw (e, not_after (key y) m h.0) h.1)

  pub page_finds : (k n : ℕ) (ys : List R) → ((x : R) → Among x ys → nat_lt n (key x) ≡ true) → IsAscending (by_key key) ys
      → Finds n ys (last_good l n (map values (take k ys)))
  unfolding last_good are_good
  page_finds zero n ys all up = (self n, ap all_good (sym (filter_all (λ x. nat_lt n (key x)) ys all)))
  page_finds (suc k) n [] all up = (self n, refl)
  page_finds (suc k) n (y ∷ ys) all up =
      (elim (good y) as (λ b. good y ≡ b → Finds n (y ∷ ys) (cond b (whole_at (values y) 0) None >>= (λ m. last_good l m (map values (take k ys))))) [
        | true ↦ λ e. rw (keyed y) (good_first n y ys e (all y (inl refl)) (last_good l (key y) (map values (take k ys)))
            (page_finds k (key y) ys (λ x a. above (key y) (key x) (after_among (by_key key) y ys x up.0 a)) up.1))
        | false ↦ λ e. rw e refl
      ]) refl

  up_from : (n k m : ℕ) → nat_lt n k ≡ true → k ≤ m → m ≤ n → ⊥
  up_from n k m h low high = grind (arith, nat_tests)

  -- the last number of a page that has a row
  page_rises : (k n : ℕ) (ys : List R) (m : ℕ) → ((x : R) → Among x ys → nat_lt n (key x) ≡ true) → IsAscending (by_key key) ys
      → (map values (take (suc k) ys) ≡ [] → ⊥) → last_good l n (map values (take (suc k) ys)) ≡ Some m → m ≤ n → ⊥
  unfolding last_good
  page_rises k n [] m all up some is low = some refl
  page_rises k n (y ∷ ys) m all up some is low =
      (elim (good y) as (λ b. good y ≡ b → (cond b (whole_at (values y) 0) None >>= (λ m. last_good l m (map values (take k ys)))) ≡ Some m → ⊥) [
        | true ↦ λ e at.
            let found = page_finds k (key y) ys (λ x a. above (key y) (key x) (after_among (by_key key) y ys x up.0 a)) up.1 in
            up_from n (key y) m (all y (inl refl)) (subst (Finds (key y) ys) (rw (keyed y) at at) found).0 low
        | false ↦ λ e at. cc at
      ]) refl is

  none_taken : (k : ℕ) (ys : List R) → map values (take (suc k) ys) ≡ [] → ys ≡ []
  none_taken k [] h = refl
  none_taken k (y ∷ ys) h = absurd (cc h)

  abbrev Leaves : ℕ → List R → Page → Type 0
  Leaves n xs Bad = all_good (after n xs) ≡ false
  Leaves n xs Last = all_good (after n xs) ≡ true
  Leaves n xs (More m) = all_good (after n xs) ≡ all_good (after m xs)

  page_leaves : (k n : ℕ) (xs : List R) (rows : List Row) (page : Page) → IsAscending (by_key key) xs → rows ≡ map values (take (suc k) (after n xs))
      → IsLogPage l n rows page → Leaves n xs page
  unfolding are_good
  page_leaves k n xs rows Bad up are is =
      subst (Finds n (after n xs)) (ap (last_good l n) (sym are) ∙ is)
      (page_finds (suc k) n (after n xs) (λ x a. (filter_among (λ y. nat_lt n (key y)) xs x a).1)
      (ascending-filter (by_key key) (λ y. nat_lt n (key y)) xs up))
  page_leaves k n xs rows Last up are is = ap all_good (none_taken k (after n xs) (sym are ∙ is))
  page_leaves k n xs rows (More m) up are is =
      let found =
      subst (Finds n (after n xs)) (ap (last_good l n) (sym are) ∙ is)
      (page_finds (suc k) n (after n xs) (λ x a. (filter_among (λ y. nat_lt n (key y)) xs x a).1)
      (ascending-filter (by_key key) (λ y. nat_lt n (key y)) xs up)) in
      found.1 ∙ ap all_good (further n m found.0 xs)

-- ---- the rows of a log

number_there : (o : Option Event) → is_some o ≡ true → (e : Event) × (o ≡ Some e)
number_there None h = absurd (cc h)
number_there (Some e) h = (e, refl)

stamp_there : (o : Option Kept) → is_some o ≡ true → (k : Kept) × (o ≡ Some k)
stamp_there None h = absurd (cc h)
stamp_there (Some k) h = (k, refl)

number_stored : (r : Row) (e : Event) → event_in r ≡ Some e → whole_at r 0 ≡ Some e.number
number_stored r e is = ap (λ x. whole_at x 0) (event_stored r e is)

stamp_stored : (r : Row) (k : Kept) → kept_in r ≡ Some k → whole_at r 0 ≡ Some k.stamp
stamp_stored r k is = ap (λ x. whole_at x 0) (kept_stored r k is).0

-- a good row gives its number
good_number : (l : Log) (r : Row) → is_good (table_of_log l) r ≡ true → (n : ℕ) × (whole_at r 0 ≡ Some n)
good_number log.Events r h = let e = number_there (event_in r) h in (e.0.number, number_stored r e.0 e.1)
good_number log.Kept r h = let k = stamp_there (kept_in r) h in (k.0.stamp, stamp_stored r k.0 k.1)

-- the number of a record is that of its row
number_read : {R : Type 0} (number : R → ℕ) (o : Option R) (n : Option ℕ) → ((x : R) → o ≡ Some x → n ≡ Some (number x))
    → option_map number o ≡ cond (is_some o) n None
number_read number None n stored = refl
number_read number (Some x) n stored = sym (stored x refl)

pub event_numbered : (r : Row) → event_number r ≡ number_if_good log.Events r
event_numbered r = number_read (λ (e : Event). e.number) (event_in r) (whole_at r 0) (number_stored r)

pub kept_numbered : (r : Row) → kept_stamp r ≡ number_if_good log.Kept r
kept_numbered r = number_read (λ (k : Kept). k.stamp) (kept_in r) (whole_at r 0) (stamp_stored r)

bad_row_in : (l : Log) (n : ℕ) (rows : List Row) → last_good l n rows ≡ None → (r : Row) × Has rows r × (is_good (table_of_log l) r ≡ false)
unfolding last_good
bad_row_in l n [] h = absurd (cc h)
bad_row_in l n (row ∷ rows) h =
    (elim (is_good (table_of_log l) row) as (λ b. is_good (table_of_log l) row ≡ b → (r : Row) × Has (row ∷ rows) r × (is_good (table_of_log l) r ≡ false)) [
      | true ↦ λ e. let number = good_number l row e in let more = bad_row_in l number.0 rows (rw (e, number.1) at h) in (more.0, inr more.1, more.2)
      | false ↦ λ e. (row, inl refl, e)
    ]) refl

page_bad : (l : Log) (n limit : ℕ) (db : Trees) (rows : List Row) → IsPageRows l n limit db rows → last_good l n rows ≡ None
    → is_good_in (table_of_log l) db ≡ false
unfolding is_good_in
page_bad l n limit db rows page h =
    let bad = bad_row_in l n rows h in
    bad_among (table_of_log l) (rows_in (table_of_log l) db) bad.0 (all_has (λ r. Has (rows_in (table_of_log l) db) r) rows bad.0 page.known bad.1) bad.2

abbrev number_key : Numbered → ℕ
number_key x = x.key

abbrev number_values : Log → Numbered → Row
number_values l x = values_in (table_of_log l) x.row

number_at : (l : Log) (x : Numbered) → whole_at (number_values l x) 0 ≡ Some x.key
number_at log.Events x = ap option_in x.is
number_at log.Kept x = ap option_in x.is

module _ (l : Log) (n : ℕ) (d : Database) (rows : List Row) (page : IsPageRows l n 1000 d.trees rows) (xs : List Numbered)
    (are : AreNumbered l d.trees xs) where
  page_left : (p : Page) → IsLogPage l n rows p → Leaves l number_key (number_values l) (number_at l) n xs p
  page_left p is =
      page_leaves l number_key (number_values l) (number_at l) 999 n xs rows p (numbers_ascend l d xs are)
      (page.paged xs are ∙ take-map (number_values l) 1000 (filter (λ (x : Numbered). nat_lt n x.key) xs)) is

  -- the number of its last row is above
  page_above : HasNoRise l n rows → ⊥
  page_above none =
      let same = page.paged xs are ∙ take-map (number_values l) 1000 (filter (λ (x : Numbered). nat_lt n x.key) xs) in
      page_rises l number_key (number_values l) (number_at l) 999 n (filter (λ (x : Numbered). nat_lt n x.key) xs) none.1.0
      (λ x a. (filter_among (λ (y : Numbered). nat_lt n y.key) xs x a).1)
      (ascending-filter (by_key number_key) (λ (x : Numbered). nat_lt n x.key) xs (numbers_ascend l d xs are))
      (λ e. none.0 (same ∙ e)) (sym (ap (last_good l n) same) ∙ none.1.1) none.1.2

-- so a page fails for want of memory alone
pub page_fails : (l : Log) (n : ℕ) (d : Database) (rows : List Row) (old new : State) (r : Result Page Error) → IsPageRows l n 1000 d.trees rows
    → (xs : List Numbered) × AreNumbered l d.trees xs → IfErr r (λ e. IsMemory e ⊎ HasNoRise l n rows) → IfErr r (FailsToLook old new)
page_fails l n d rows old new (Ok p) page xs lacks = tt
page_fails l n d rows old new (Err e) page xs (inl memory) = inl memory
page_fails l n d rows old new (Err e) page xs (inr none) = absurd (page_above l n d rows page xs.0 xs.1 none)

-- the rest that a page leaves of a database
pub page_is : (l : Log) (n : ℕ) (d : Database) (rows : List Row) (p : Page) → IsPageRows l n 1000 d.trees rows → IsLogPage l n rows p
    → IsPageOfLog l n d.trees p
unfolding is_good_after
page_is l n d rows Bad page is = page_bad l n 1000 d.trees rows page is
page_is l n d rows Last page is = λ (xs : List Numbered) (are : AreNumbered l d.trees xs). page_left l n d rows page xs are Last is
page_is l n d rows (More m) page is = λ (xs : List Numbered) (are : AreNumbered l d.trees xs). page_left l n d rows page xs are (More m) is

-- ---- rows with numbers from 1 on

numbered_of : (rows : List Row) → AllByRecursion FromOne rows
    → (xs : List Numbered) × (rows ≡ map (λ (x : Numbered). x.row) xs) × AllByRecursion (λ (x : Numbered). nat_lt x.key 1 ≡ false) xs
numbered_of [] h = ([], refl, tt)
numbered_of (r ∷ rows) h =
    let more = numbered_of rows h.1 in
    let x : Numbered = record { key = h.0.0; row = r; is = h.0.1 } in
    (x ∷ more.0, ap (λ l. r ∷ l) more.1, (h.0.2, more.2))

all_above : (xs : List Numbered) → AllByRecursion (λ (x : Numbered). nat_lt x.key 1 ≡ false) xs → filter (λ (x : Numbered). nat_lt 0 x.key) xs ≡ xs
all_above [] h = refl
all_above (x ∷ xs) h = rw (from_one x.key h.0) (ap (λ l. x ∷ l) (all_above xs h.1))

each_from_one : (rows : List Row) → AllByRecursion (λ r. IsTrue (is_int (rowid r))) rows → AllByRecursion (λ r. IsTrue (is_int (rowid r)) → FromOne r) rows
    → AllByRecursion FromOne rows
each_from_one [] ints h = tt
each_from_one (r ∷ rows) ints h = (h.0 ints.0, each_from_one rows ints.1 h.1)

old_log : (l : Log) → IsIn version.First (table_of_log l)
old_log log.Events = tt
old_log log.Kept = tt

-- where its rows are canonical, and no number is below 1, the numbers rise from 0
pub numbers_of : (l : Log) (db : Trees) → AllByRecursion (λ r. IsTrue (is_int (rowid r)) → FromOne r) (db (tree_of (table_of_log l)))
    → IsCanonicalAs version.First db → (xs : List Numbered) × AreNumbered l db xs
numbers_of l db low canonical =
    let xs =
    numbered_of (db (tree_of (table_of_log l))) (each_from_one (db (tree_of (table_of_log l))) (canonical.numbered (table_of_log l) (old_log l)) low) in
    (xs.0, record { rising = canonical.rising (table_of_log l) (old_log l); rows = xs.1 })

-- where no number is below 1, those above 0 decide about all
pub log_found : (l : Log) (db : Trees) (good : Bool) → AllByRecursion (λ r. IsTrue (is_int (rowid r)) → FromOne r) (db (tree_of (table_of_log l)))
    → FindsGoodAfter l db good → FindsGood (table_of_log l) db good
unfolding is_good_in is_good_after
log_found l db false low h = record { bad = h.bad; canonical = λ canonical. sym (h.bad refl) }
log_found l db true low h = record {
  bad = h.bad;
  canonical = λ canonical.
      let xs =
      numbered_of (db (tree_of (table_of_log l))) (each_from_one (db (tree_of (table_of_log l))) (canonical.numbered (table_of_log l) (old_log l)) low) in
      let after = h.canonical refl xs.0 (record { rising = canonical.rising (table_of_log l) (old_log l); rows = xs.1 }) in
      sym after ∙ ap (λ ys. are_good (table_of_log l) (map (number_values l) ys)) (all_above xs.0 xs.2)
      ∙ ap (are_good (table_of_log l)) (sym (map-map (values_in (table_of_log l)) (λ (x : Numbered). x.row) xs.0))
      ∙ ap (λ rows. are_good (table_of_log l) (map (values_in (table_of_log l)) rows)) (sym xs.1);
}

-- ---- rows, one after the other

number_one : (l : Log) (last : ℕ) (o : Option ℕ) (row : Row) (rest : List Row) → number_if_good l row ≡ o
    → last_good l last (row ∷ rest) ≡ (o >>= (λ k. last_good l k rest))
unfolding last_good
number_one l last o row rest is = ap (λ x. x >>= (λ k. last_good l k rest)) is

module _ (l : Log) (n last : ℕ) (rows : List Row) (i : ℕ) (left : last_good l last (drop i rows) ≡ last_good l n rows) where
  pub last_step : (row d : Row) (m : ℕ) → row ≡ get_or rows i d → i < length rows → number_if_good l row ≡ Some m
      → last_good l m (drop (i + 1) rows) ≡ last_good l n rows
  last_step row d m is low good = sym (ap (last_good l last) (at rows i row d is low) ∙ number_one l last (Some m) row (drop (i + 1) rows) good) ∙ left

  pub last_stop : (row d : Row) → row ≡ get_or rows i d → i < length rows → number_if_good l row ≡ None → None ≡ last_good l n rows
  last_stop row d is low bad = sym (ap (last_good l last) (at rows i row d is low) ∙ number_one l last None row (drop (i + 1) rows) bad) ∙ left

  pub last_end : length rows ≤ i → Some last ≡ last_good l n rows
  unfolding last_good
  last_end all = sym (ap (last_good l last) (drop_all i rows all)) ∙ left

-- the number of a good row is one that its column holds
pub number_fits : (l : Log) (r : Row) (o : Option ℕ) (n : ℕ) → o ≡ whole_at r 0 → IfSome o Fits → number_if_good l r ≡ Some n → Fits n
number_fits l r o n is fits good =
    (elim (is_good (table_of_log l) r) as (λ b. is_good (table_of_log l) r ≡ b → cond b (whole_at r 0) None ≡ Some n → Fits n) [
      | true ↦ λ e at. subst (λ o. IfSome o Fits) (is ∙ at) fits
      | false ↦ λ e at. absurd (cc at)
    ]) refl good
