-- The records read of rows are those that the rows represent.
use Rattle.std.proofs.Common.{◌≡◌, List, [], ◌∷◌, map, Result, Ok, Err, Option, Some, IfOk, refl, sym, ap, ap₂, ◌∙◌}
use Rattle.std.specs.Prelude.{Vec}
use Rattle.std.specs.declared.alloc.Global.{Global}
use Rattle.sqlite_value.specs.Order.{Row}
use Rattle.sqlite.specs.declared.error.Error.{Error}
use Rattle.sqlite.specs.State.{State}
use Rattle.acd_terms.specs.Lists.{Every}
use Rattle.acd_book.specs.Content.{Content}
use Rattle.acd_sql_columns.specs.Transactions.{HoldsContent}
use Rattle.acd_sql_columns.specs.ReadResults.{Finds}
use Rattle.acd_lemmas.proofs.Lists.{head_is, tail_is}

-- ---- back to the records

module _ {R : Type 0} (in_row : Row → Option R) (values : R → Row) (IsGood : R → Type 0)
    (exact : (row : Row) (x y : R) → IsGood y → in_row row ≡ Some x → row ≡ values y → x ≡ y) where
  same_records : (found records : List R) (rows : List Row) → Every IsGood records → rows ≡ map values records → map Some found ≡ map in_row rows
      → found ≡ records
  same_records [] [] rows good are read = refl
  same_records [] (y ∷ records) rows good are read = absurd (let k = read ∙ ap (map in_row) are in cc)
  same_records (x ∷ found) [] rows good are read = absurd (let k = read ∙ ap (map in_row) are in cc)
  same_records (x ∷ found) (y ∷ records) rows good are read =
      let each = read ∙ ap (map in_row) are in
      let first = exact (values y) x y good.0 (sym (head_is (Some x) (in_row (values y)) (map Some found) (map in_row (map values records)) each)) refl in
      ap₂ (λ z l. z
      ∷ l) first (same_records found records (map values records) good.1 refl
      (tail_is (Some x) (in_row (values y)) (map Some found) (map in_row (map values records)) each))

  -- of records that are good in what is held
  pub recorded_good : (old new : State) (rows : Vec Row Global) (r : Result (Vec R Global) Error) (part : Content → List R)
      → ((c : Content) → HoldsContent old c → Every IsGood (part c))
      → Finds {E = Error} old new (Ok rows) (λ c rows. rows.items ≡ map values (part c))
      → IfOk r (λ found. map Some found.items ≡ map in_row rows.items) → Finds old new r (λ c found. found.items ≡ part c)
  recorded_good old new rows (Err e) part good h read = record { up = λ k. tt; quiet = h.quiet; stops = h.stops; answer = λ k. tt }
  recorded_good old new rows (Ok found) part good h read = record {
    up = h.up;
    quiet = h.quiet;
    stops = h.stops;
    answer = λ k c held. same_records found.items (part c) rows.items (good c held) (h.answer k c held) read;
  }

all_any : {R : Type 0} (records : List R) → Every (λ _. Unit {0}) records
all_any [] = tt
all_any (x ∷ records) = (tt, all_any records)

-- a row of values that reads as a record is of that record
abbrev pub ReadsBack : {R : Type 0} → (Row → Option R) → (R → Row) → Type 0
ReadsBack {R} in_row values = (row : Row) (x y : R) → in_row row ≡ Some x → row ≡ values y → x ≡ y

-- of any records
pub recorded : {R : Type 0} (in_row : Row → Option R) (values : R → Row) (exact : ReadsBack in_row values)
    (old new : State) (rows : Vec Row Global) (r : Result (Vec R Global) Error) (part : Content → List R)
    → Finds {E = Error} old new (Ok rows) (λ c rows. rows.items ≡ map values (part c))
    → IfOk r (λ found. map Some found.items ≡ map in_row rows.items) → Finds old new r (λ c found. found.items ≡ part c)
recorded in_row values exact old new rows r part h read =
    recorded_good in_row values (λ _. Unit {0}) (λ row x y good. exact row x y) old new rows r part (λ c held. all_any (part c)) h read

pub found_none : {A B : Type 0} (old new : State) (e : Error) (P : Content → A → Type 0) (Q : Content → B → Type 0) → Finds old new (Err e) P
    → Finds old new (Err e) Q
found_none old new e P Q h = record { up = λ k. tt; quiet = h.quiet; stops = h.stops; answer = λ k. tt }

pub none_recorded : {R A : Type 0} (part : Content → List R) (old new : State) (e : Error) (P : Content → A → Type 0) → Finds old new (Err e) P
    → Finds old new (Err e) (λ c (found : Vec R Global). found.items ≡ part c)
none_recorded part old new e P h = found_none old new e P (λ c found. found.items ≡ part c) h
