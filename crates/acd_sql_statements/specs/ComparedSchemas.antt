-- Which schemas are compared: those with nothing that no table of a book has.
use Rattle.std.specs.Prelude.{◌≡◌, ◌≢◌, ◌&&◌, ℕ, ◌-◌, Bool, true, false, List, [], ◌∷◌, Option, None, Some, IsTrue}
use Rattle.std.specs.List.{list_all}
use Rattle.sqlite_value.specs.declared.value.Value.{Value}
use Rattle.sqlite_value.specs.declared.value.Value.TheVariants.{Null, Int}
use Rattle.sqlite_sql.specs.Term.{Term, lit, col, op2}
use Rattle.sqlite_sql.specs.declared.ops.BinaryOp.{BinaryOp}
use Rattle.sqlite_schema.specs.declared.code.Op.{Op}
use Rattle.sqlite_schema.specs.Code.{term_to}
use Rattle.sqlite_schema.specs.declared.schema.Column.{Column}
use Rattle.sqlite_schema.specs.declared.schema.Reference.{Reference}
use Rattle.sqlite_schema.specs.declared.schema.Stamps.{Stamps}
use Rattle.sqlite_schema.specs.declared.schema.Table.{Table}
use Rattle.sqlite_schema.specs.declared.schema.Schema.{Schema}
use Rattle.acd_sql_statements.specs.declared.same.Leaf.{Leaf}
use Rattle.acd_sql_statements.specs.declared.same.Leaf.TheVariants.{Nothing, Number, Place}

abbrev pub is_empty : {A : Type 0} → List A → Bool
is_empty [] = true
is_empty (x ∷ xs) = false

-- NULL or a number
abbrev pub is_plain_value : Value → Bool
is_plain_value Null = true
is_plain_value (Int n) = true
is_plain_value _ = false

-- made of such values and of columns by operators of two terms
abbrev pub is_plain_term : Term → Bool
is_plain_term (lit v) = is_plain_value v
is_plain_term (col slot at) = true
is_plain_term (op2 op a b) = is_plain_term a && is_plain_term b
is_plain_term _ = false

abbrev pub are_plain_terms : List Term → Bool
are_plain_terms terms = list_all is_plain_term terms

abbrev pub is_plain_column : Column → Bool
is_plain_column c = is_plain_value c.default

-- its parent's columns are those of the primary key
abbrev pub is_plain_reference : Reference → Bool
is_plain_reference r = is_empty r.parent_columns

-- no default reads the time
abbrev pub is_plain_stamps : Stamps → Bool
is_plain_stamps s = is_empty s.places && are_plain_terms s.terms && is_empty s.formats

abbrev pub is_plain_table : Table → Bool
is_plain_table t =
    list_all is_plain_column t.columns && is_empty t.computed && are_plain_terms t.checks && list_all is_plain_reference t.references && is_plain_stamps t.stamps

abbrev pub is_plain_schema : Schema → Bool
is_plain_schema s = list_all is_plain_table s.tables && is_empty s.views

-- the first of them is
abbrev pub is_plain_first : List Table → Bool
is_plain_first [] = false
is_plain_first (t ∷ ts) = is_plain_table t

-- where the second is such a one, it says of the same ones that they are the same
abbrev pub Tells : {T : Type 0} → (T → Bool) → T → T → Bool → Type 0
Tells is_plain one other says = IsTrue (is_plain other) → one ≡ other → IsTrue says

-- ---- terms by their nodes

-- the value or the place that a term is
abbrev pub leaf_value : Value → Option Leaf
leaf_value Null = Some Nothing
leaf_value (Int n) = Some (Number n)
leaf_value _ = None

abbrev pub leaf_of : Term → Option Leaf
leaf_of (lit v) = leaf_value v
leaf_of (col slot at) = Some (Place slot at)
leaf_of _ = None

abbrev pub is_binary : Term → Bool
is_binary (op2 op a b) = true
is_binary _ = false

-- the term at a place is that of two others, which are read to one less
abbrev pub IsBinaryAt : List Op → ℕ → ℕ → Option (BinaryOp × (ℕ × ℕ)) → Type 0
IsBinaryAt ops depth at None = is_binary (term_to ops depth at) ≡ false
IsBinaryAt ops depth at (Some b) = (depth ≢ 0) × (term_to ops depth at ≡ op2 b.0 (term_to ops (depth - 1) b.1.0) (term_to ops (depth - 1) b.1.1))
