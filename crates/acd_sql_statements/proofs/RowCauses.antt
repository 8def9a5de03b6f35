-- Why no records are made of the rows that were read.
use Rattle.std.proofs.Common.{◌≡◌, ◌⊎◌, inl, inr, ℕ, zero, suc, nat_lt, ◌==◌, ◌<◌, ◌+◌, ◌-◌, ◌^◌, min, List, [], ◌∷◌, ◌++◌, length, get_or, slice_get, map, filter, find, take, Bool, true, false, cond, Option, None, Some, Result, Ok, Err, IfErr, IfSome, sym, ap, subst, ◌∙◌, arith}
use Rattle.std.specs.Prelude.{Vec, option_to_list}
use Rattle.std.specs.Option.{is_some}
use Rattle.std.specs.declared.alloc.Global.{Global}
use Rattle.std.proofs.lemmas.Bool.{and_parts}
use Rattle.std.proofs.lemmas.List.{map-append, take_more}
use Rattle.sqlite_value.specs.Order.{Row}
use Rattle.sqlite_rules.specs.Lists.{Has}
use Rattle.sqlite_rules.proofs.ProbeLemmas.{has_mapped, mapped_has}
use Rattle.sqlite.specs.declared.error.Error.{Error}
use Rattle.sqlite.specs.State.{State}
use Rattle.acd_terms.specs.declared.event.Event.{Event}
use Rattle.acd_terms.specs.declared.record.MonitorRecord.{MonitorRecord}
use Rattle.acd_model.specs.Scans.{monitor_of}
use Rattle.acd_book.specs.Content.{Content, is_at, is_at_after}
use Rattle.acd_lemmas.proofs.State.{monitor_find}
use Rattle.acd_sql_columns.specs.declared.tables.Table.{Table}
use Rattle.acd_sql_columns.specs.AnyRows.{is_good}
use Rattle.acd_sql_columns.specs.Transactions.{Fits}
use Rattle.acd_sql_columns.specs.ReadResults.{Finds}
use Rattle.acd_sql_columns.specs.Values.{whole_at}
use Rattle.acd_sql_statements.specs.StoreFailures.{IsMemory}
use Rattle.acd_sql_columns.specs.InRange.{values_of}
use Rattle.acd_sql_statements.specs.ReadFailures.{FailsToDecode, HasFitting, FailsToRead, HasReadCause}
use Rattle.acd_sql_statements.proofs.ReadCauses.{cause_on, bad_row}
use Rattle.acd_sql_statements.proofs.Pages.{greatest, least_of_large}
use Rattle.acd_lemmas.proofs.Numbers.{below_is}
use Rattle.acd_sql_columns.proofs.FileTables.QueryResults.{of_filter}

-- ---- lists

pub at_has : {X : Type 0} (i : ℕ) (xs : List X) (x d : X) → x ≡ get_or xs i d → i < length xs → Has xs x
at_has i [] x d is low = absurd (omega (arith, low))
at_has zero (y ∷ xs) x d is low = inl is
at_has (suc i) (y ∷ xs) x d is low = inr (at_has i xs x d is (omega (arith, low)))

pub taken_has : {X : Type 0} (n : ℕ) (xs : List X) (x : X) → Has (take n xs) x → Has xs x
taken_has zero xs x h = absurd h
taken_has (suc n) [] x h = absurd h
taken_has (suc n) (y ∷ xs) x (inl is) = inl is
taken_has (suc n) (y ∷ xs) x (inr h) = inr (taken_has n xs x h)

pub found_has : {X : Type 0} (p : X → Bool) (xs : List X) (x : X) → Has (option_to_list (find p xs)) x → Has xs x
found_has p [] x h = absurd h
found_has p (y ∷ xs) x h = go (found_has p xs x) (p y) h
  where
    go : (Has (option_to_list (find p xs)) x → Has xs x) → (b : Bool) → Has (option_to_list (cond b (Some y) (find p xs))) x → Has (y ∷ xs) x
    go more true (inl is) = inl is
    go more true (inr k) = absurd k
    go more false k = inr (more k)

pub page_has : {X : Type 0} (n : ℕ) (p : X → Bool) (xs : List X) (x : X) → Has (take n (filter p xs)) x → Has xs x
page_has n p xs x h = (of_filter p xs x (taken_has n (filter p xs) x h)).0

pub number_is_above : (device : Option ℕ) (n : ℕ) (e : Event) → is_at_after device n e ≡ true → n < e.number
number_is_above device n e h = below_is n e.number (and_parts (is_at device e) (nat_lt n e.number) h).1

pub monitor_has : (c : Content) (n : ℕ) (w : MonitorRecord) → Has (option_to_list (monitor_of c.rows n)) w → Has c.rows.monitors w
monitor_has c n w h = found_has (λ (w : MonitorRecord). w.monitor == n) c.rows.monitors w (subst (λ o. Has (option_to_list o) w) (monitor_find c.rows n) h)

-- of some of the records the rows are among those of all
pub rows_has : {X : Type 0} (values : X → Row) (some all : List X) (row : Row) → ((x : X) → Has some x → Has all x) → Has (map values some) row
    → Has (map values all) row
rows_has values some all row within h =
    let from = has_mapped values some row h in subst (Has (map values all)) (sym from.2) (mapped_has values all from.0 (within from.0 from.1))

-- ---- rows that represent no record

module _ {R : Type 0} (in_row : Row → Option R) where
  -- of one of them
  pub bad_at : (i : ℕ) (rows : List Row) (row d : Row) (e : Error) → row ≡ get_or rows i d → i < length rows → FailsToDecode in_row (row ∷ []) e
      → FailsToDecode in_row rows e
  bad_at i rows row d e at low (inl memory) = inl memory
  bad_at i rows row d e at low (inr h) = inr (row, at_has i rows row d at low, of_row h.1)
    where
      of_row : Has (row ∷ []) h.0 → in_row row ≡ None
      of_row (inl is) = ap in_row (sym is) ∙ h.2
      of_row (inr k) = absurd k

  -- as a `?` in a loop over them hands it on
  pub none_decoded : {A : Type 0} (i : ℕ) (rows : List Row) (row d : Row) (e : Error) (r : Result A Error) → r ≡ Err e → row ≡ get_or rows i d → i < length rows
      → FailsToDecode in_row (row ∷ []) e → IfErr r (FailsToDecode in_row rows)
  none_decoded i rows row d e r is at low h = subst (λ r. IfErr r (FailsToDecode in_row rows)) (sym is) (bad_at i rows row d e at low h)

  -- one more of them represents one more record
  pub one_more_decoded : (i : ℕ) (rows : List Row) (row d : Row) (before after : List R) (one : R) → row ≡ get_or rows i d → i < length rows
      → map Some before ≡ map in_row (take i rows) → Some one ≡ in_row row → after ≡ before ++ one ∷ []
      → map Some after ≡ map in_row (take (i + 1) rows)
  one_more_decoded i rows row d before after one at low so_far is added = rw (added, map-append, so_far, is, at, take_more rows i d low, map-append)

  module _ (t : Table) (decides : (row : Row) → is_good t row ≡ is_some (in_row row)) where
    pub cause_records : {B : Type 0} (old new : State) (rows : Vec Row Global) (r : Result B Error) (shown : Content → List Row)
        → ((c : Content) (row : Row) → Has (shown c) row → Has (values_of t c) row)
        → HasReadCause old new (Ok rows) → Finds {E = Error} old new (Ok rows) (λ c rows. rows.items ≡ shown c) → IfErr r (FailsToDecode in_row rows.items)
        → HasReadCause old new r
    cause_records old new rows r shown within h found fails = cause_on old new rows r h (λ k c held. each r c fails (found.answer k c held))
      where
        each : {B : Type 0} (r : Result B Error) (c : Content) → IfErr r (FailsToDecode in_row rows.items) → rows.items ≡ shown c
            → IfErr r (FailsToRead c old new)
        each (Ok b) c h is = tt
        each (Err e) c (inl memory) is = inl memory
        each (Err e) c (inr h) is = inr (inr (inr (bad_row t c h.0 (within c h.0 (subst (λ l. Has l h.0) is h.1)) (decides h.0 ∙ ap is_some h.2))))

-- ---- a row above the numbers that a column holds

first_has : (rows : List Row) (row : Row) → Some row ≡ slice_get rows 0 → Has rows row
first_has [] row is = absurd (cc is)
first_has (first ∷ rows) row is = inl (cc is)

pub first_fits : (rows : List Row) (one : Row) (o : Option ℕ) → Some one ≡ slice_get rows 0 → o ≡ whole_at one 0 → IfSome o Fits → HasFitting rows
first_fits rows one o at is fits = (one, first_has rows one at, λ n found. subst (λ o. IfSome o Fits) (is ∙ found) fits)

between : (n k : ℕ) → n - 1 < k → k < n → ⊥
between n k above below = omega (arith, above, below)

module _ {X : Type 0} (test : ℕ → X → Bool) (key : X → ℕ) (values : X → Row) (above : (n : ℕ) (x : X) → test n x ≡ true → n < key x)
    (begins : (x : X) → whole_at (values x) 0 ≡ Some (key x)) where
  none_held : (number page : ℕ) (xs : List X) (rows : List Row) → ¬ (Fits number) → rows ≡ map values (take page (filter (test (min number greatest)) xs))
      → HasFitting rows → ⊥
  none_held number page xs rows large is h =
      let from = has_mapped values _ h.0 (subst (λ l. Has l h.0) is h.1) in
      let passed = of_filter (test (min number greatest)) xs from.0 (taken_has page _ from.0 from.1) in
      between (2 ^ 63) (key from.0) (subst (λ n. n < key from.0) (least_of_large number large) (above (min number greatest) from.0 passed.1))
      (h.2 (key from.0) (ap (λ r. whole_at r 0) from.2 ∙ begins from.0))

  pub cause_page : (part : Content → List X) (old new : State) (rows : Vec Row Global) (r : Result (Vec Row Global) Error) (number least page : ℕ)
      → least ≡ min number greatest → HasReadCause old new (Ok rows)
      → Finds {E = Error} old new (Ok rows) (λ c rows. rows.items ≡ map values (take page (filter (test least) (part c))))
      → IfErr r (λ e. IsMemory e ⊎ ((¬ (Fits number)) × HasFitting rows.items)) → HasReadCause old new r
  cause_page part old new rows r number least page low h found fails = cause_on old new rows r h (λ k c held. each r c fails (found.answer k c held))
    where
      each : (r : Result (Vec Row Global) Error) (c : Content) → IfErr r (λ e. IsMemory e ⊎ ((¬ (Fits number)) × HasFitting rows.items))
          → rows.items ≡ map values (take page (filter (test least) (part c))) → IfErr r (FailsToRead c old new)
      each (Ok b) c h is = tt
      each (Err e) c (inl memory) is = inl memory
      each (Err e) c (inr h) is =
          absurd (none_held number page (part c) rows.items h.0 (is ∙ ap (λ n. map values (take page (filter (test n) (part c)))) low) h.1)
