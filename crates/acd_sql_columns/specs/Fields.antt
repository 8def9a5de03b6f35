-- A record as the list of its fields, each in a separate column: the row that is kept of it, and the record of a row.
use Rattle.std.specs.Prelude.{◌≡◌, ℕ, ◌==◌, List, [], ◌∷◌, length, Option, Some, None, if◌then◌else◌}
use Rattle.std.proofs.Common.{suc}
use Rattle.sqlite_value.specs.declared.value.Value.TheVariants.{Null}
use Rattle.sqlite_value.specs.Order.{Row}
use Rattle.acd_sql_columns.specs.Sorts.{Sort, Column, sure, maybe, Of, Means, value, read_at, shown}
use Rattle.acd_sql_columns.specs.Values.{◌>>=◌}

pub record Field (R : Type 0) : Type 0 where
  -- the name of its column
  pub name : List ℕ
  pub column : Column
  pub get : R → Means column

-- a field that each record has
abbrev pub field_named : {R : Type 0} → List ℕ → (s : Sort) → (R → Of s) → Field R
field_named name s get = record { name = name; column = sure s; get = get }

-- a field that a record may lack
abbrev pub may_have : {R : Type 0} → List ℕ → (s : Sort) → (R → Option (Of s)) → Field R
may_have name s get = record { name = name; column = maybe s; get = get }

-- the function that makes a record of the values of its fields
abbrev pub Makes : (R : Type 0) → List (Field R) → Type 0
Makes R [] = R
Makes R (f ∷ fs) = Means f.column → Makes R fs

-- the values of the columns
abbrev pub written_row : {R : Type 0} → List (Field R) → R → Row
written_row [] r = []
written_row (f ∷ fs) r = value f.column (f.get r) ∷ written_row fs r

abbrev pub read_from : {R : Type 0} → (fs : List (Field R)) → Makes R fs → Row → ℕ → Option R
read_from [] made row at = Some made
read_from (f ∷ fs) make row at = read_at f.column row at >>= (λ x. read_from fs (make x) row (suc at))

-- the record of a row of this width whose values are all in their ranges
abbrev pub read_whole : {R : Type 0} → (fs : List (Field R)) → Makes R fs → Row → Option R
read_whole fs make r = if length r == length fs then read_from fs make r 0 else None

-- the record that is shown of a row, whatever it holds
abbrev pub shown_whole : {R : Type 0} → (fs : List (Field R)) → Makes R fs → Row → R
shown_whole [] made row = made
shown_whole (f ∷ fs) make [] = shown_whole fs (make (shown f.column Null)) []
shown_whole (f ∷ fs) make (v ∷ row) = shown_whole fs (make (shown f.column v)) row

-- each field is what the record was made of
abbrev pub Agree : {R : Type 0} → (fs : List (Field R)) → Makes R fs → (R → Type 0) → Type 0
Agree [] made P = P made
Agree (f ∷ fs) make P = (x : Means f.column) → Agree fs (make x) (λ r. P r × (f.get r ≡ x))

-- the fields are all that the record is made of
abbrev pub Remade : {R : Type 0} → (fs : List (Field R)) → Makes R fs → R → Type 0
Remade [] made r = made ≡ r
Remade (f ∷ fs) make r = Remade fs (make (f.get r)) r
