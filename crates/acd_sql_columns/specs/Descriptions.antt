-- A table of records.
use Rattle.std.specs.Prelude.{◌≡◌, ℕ, ℤ, [], ◌∷◌, List, Option, None, Some, option_map, Bool, length, drop}
use Rattle.std.specs.List.{list_all}
use Rattle.std.specs.Option.{is_some}
use Rattle.std.specs.Ordering.{nat_cmp, ordering_then}
use Rattle.std.specs.declared.cmp.Ordering.{Ordering}
use Rattle.sqlite_value.specs.declared.value.Value.TheVariants.{Int}
use Rattle.sqlite_value.specs.Order.{Row}
use Rattle.sqlite_schema.specs.declared.schema.Table.{Table as Made}
use Rattle.acd_sql_columns.specs.Rows.{keyed_row}
use Rattle.acd_sql_columns.specs.declared.tables.Table.{Table}
use Rattle.acd_sql_columns.specs.declared.texts.Texts.{Texts}
use Rattle.acd_sql_columns.specs.Relations.{Relations}
use Rattle.acd_sql_columns.specs.Schema.{Layout, further_columns}

-- ---- where the key is the number of a row

pub record Description (R : Type 0) : Type 1 where
  pub table : Table
  -- its place among the tables
  pub place : ℕ
  pub layout : Layout
  pub key : R → ℕ
  -- the values of the columns, and the record of such values where each is in its range
  pub values : R → Row
  pub in_row : Row → Option R
  -- its records in the relations
  pub records : Relations → List R
  pub with_records : List R → Relations → Relations
  -- the columns can hold the record
  pub Fits : R → Type 0
  -- the record can be read of its row
  pub IsRead : R → Type 0
  -- the text of the statement that puts a record which has no row
  pub insert : List ℕ
  -- those of the statements that change a row and take one out, and of the query of all rows, where there is one
  pub update : Option (List ℕ)
  pub delete : Option (List ℕ)
  pub select : Option (List ℕ)
  -- the tables that each version has which has this one
  pub base : List Made

-- these are its texts
pub record AreTexts {R : Type 0} (d : Description R) (t : Texts) : Type 0 where
  pub insert : t.insert.now ≡ d.insert
  pub update : option_map (λ x. x.now) t.update ≡ d.update
  pub delete : option_map (λ x. x.now) t.delete ≡ d.delete
  pub select : option_map (λ x. x.now) t.select ≡ d.select

-- the text that is there
abbrev pub the_text : Option (List ℕ) → List ℕ
the_text None = []
the_text (Some text) = text

-- how many columns come after the key
abbrev pub after_key : {R : Type 0} → Description R → ℕ
after_key d = further_columns d.layout

-- the row as it is: the column that is the number of the row is NULL
abbrev pub row_of : {R : Type 0} → Description R → R → Row
row_of d r = keyed_row (d.values r)

-- each row represents a record
unfoldable pub are_read : {R : Type 0} → Description R → List Row → Bool
are_read d rows = list_all (λ row. is_some (d.in_row row)) rows

-- ---- where the key is of the first two columns, so that the rows have separate rowids

pub record Heap (R : Type 0) : Type 1 where
  pub table : Table
  -- its place among the tables
  pub place : ℕ
  pub layout : Layout
  -- the two numbers of the key
  pub first : R → ℕ
  pub second : R → ℕ
  -- the values of the columns, and the record of such values where each is in its range
  pub values : R → Row
  pub in_row : Row → Option R
  -- its records in the relations
  pub records : Relations → List R
  pub with_records : List R → Relations → Relations
  -- the text of the statement that puts a record which has no row
  pub insert : List ℕ

-- how many columns come after the key
abbrev pub after_both : {R : Type 0} → Heap R → ℕ
after_both h = length (drop 2 h.layout.columns)

-- the row with its number
abbrev pub numbered_row : {R : Type 0} → Heap R → ℤ → R → Row
numbered_row h id r = Int id ∷ h.values r

-- by the first number, then by the second
abbrev pub by_both : {R : Type 0} → Heap R → R → R → Ordering
by_both h a b = ordering_then (nat_cmp (h.first a) (h.first b)) (nat_cmp (h.second a) (h.second b))
