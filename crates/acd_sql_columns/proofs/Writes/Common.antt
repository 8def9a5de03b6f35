-- The texts of a put, and what a statement leaves inside a transaction.
use Rattle.std.proofs.Common.{◌≡◌, ℕ, zero, suc, ◌+◌, List, [], ◌∷◌, Bool, true, false, cond, Ok, Err, Result, OnOk, refl}
use Rattle.sqlite_value.specs.declared.value.Value.{Value}
use Rattle.sqlite_value.specs.declared.value.Value.TheVariants.{Null}
use Rattle.sqlite_value.specs.Order.{Row}
use Rattle.sqlite_sql.specs.Term.{Term, col}
use Rattle.sqlite_sql.specs.Ops.{unary}
use Rattle.sqlite_schema.specs.declared.schema.Kind.TheVariants.{Integer}
use Rattle.sqlite_rules.specs.Cast.{cast}
use Rattle.sqlite.specs.declared.error.Error.{Error}
use Rattle.sqlite.specs.State.{State, Executes}
use Rattle.acd_sql_columns.specs.Relations.{Relations}
use Rattle.acd_sql_columns.specs.Values.{id_value}
use Rattle.acd_sql_columns.specs.Transactions.{HoldsUncommitted, RanStatement}
use Rattle.acd_sql_columns.specs.Schema.{book_schema}
use Rattle.acd_sql_columns.proofs.Writes.Statements.{IsInert}

abbrev pub run : ℕ → ℕ → List Term
run start zero = []
run start (suc more) = col 0 start ∷ run (start + 1) more

pub inert : IsInert book_schema
inert = (
  tt,
  (
    tt,
    (
      tt,
      (
        ((refl, refl), ((refl, refl), tt)),
        (
          tt,
          (
            ((refl, refl), ((refl, refl), tt)),
            (
              tt,
              (
                tt,
                (
                  tt,
                  (
                    ((refl, refl), ((refl, refl), tt)),
                    (
                      ((refl, refl), tt),
                      tt,
                    ),
                  ),
                ),
              ),
            ),
          ),
        ),
      ),
    ),
  ),
)

pub either : (b : Bool) (x : Value) → cond b x x ≡ x
either true x = refl
either false x = refl

pub cast_id : (n : ℕ) → cast Integer (id_value n) ≡ id_value n
unfolding unary
cast_id n = either _ (id_value n)

pub cast_null : cast Integer Null ≡ Null
unfolding unary
cast_null = either _ Null

-- whatever relations the transaction saw, it now sees what this makes of them
abbrev pub ChangesEach : (Relations → Relations) → State → State → Type 0
ChangesEach change old new = (c : Relations) → HoldsUncommitted old c → HoldsUncommitted new (change c)

pub changes_uncommitted : (sql : List ℕ) (params : Row) (change : Relations → Relations) (old new : State) (r : Result (Unit {0}) Error)
    → ((c : Relations) (count : ℕ) → HoldsUncommitted old c → Executes sql params old new (Ok count) → HoldsUncommitted new (change c))
    → OnOk r (RanStatement sql params old new) → OnOk r (ChangesEach change old new)
changes_uncommitted sql params change old new (Err e) law ran = tt
changes_uncommitted sql params change old new (Ok x) law ran = λ (c : Relations) (d : HoldsUncommitted old c). law c ran.0 d ran.1
