-- Tables that are made one after the other.
use Rattle.std.proofs.Common.{◌≡◌, ℕ, List, [], ◌∷◌, ◌++◌, Result, Ok, Err, OnOk, IfErr, sym, subst, ◌∙◌, arith}
use Rattle.std.specs.Borrow.{MutBor}
use Rattle.sqlite_value.specs.Order.{Row}
use Rattle.sqlite_trees.specs.declared.store.Store.{Ghosts}
use Rattle.sqlite_schema.specs.declared.schema.Table.{Table}
use Rattle.sqlite_schema.specs.declared.schema.Schema.{Schema}
use Rattle.sqlite.specs.Change.{created}
use Rattle.sqlite.specs.Held.{Held, state}
use Rattle.sqlite.specs.State.{State, HasCleanDisk}
use Rattle.sqlite.specs.declared.error.Error.{Error}
use Rattle.acd_sql_columns.specs.Transactions.{RanStatement}
use Rattle.acd_sql_columns.specs.SchemaSteps.{MakesTable, Builds}
use Rattle.acd_sql_columns.proofs.Writes.TransactionEnds.{works_on}
use Rattle.acd_sql_statements.specs.StoreFailures.{FailsToWrite}
use Rattle.acd_sql_statements.specs.InTransaction.{RunsText}
use Rattle.acd_sql_schema.specs.Creation.{FailsToMake, MakesTables, stage}
use Rattle.acd_sql_schema.proofs.CreateTable.{builds}
use Rattle.acd_sql_schema.proofs.CreationCauses.{step_failed, make_later_if}
use Rattle.acd_sql_schema.proofs.CreateAccepted.{IsTaken}

one_built : (text : List ℕ) (old new : State) (r : Result (Unit {0}) Error) (s : Schema) (t : Table) (rows : List (List Row)) → MakesTable s text t
    → OnOk r (RanStatement text [] old new) → OnOk r (Builds old s rows → Builds new (created s t) (rows ++ [] ∷ []))
one_built text old new (Err e) s t rows it ran = tt
one_built text old new (Ok x) s t rows it ran = λ (b : Builds old s rows). builds s text t rows it old new ran.0 b ran.1

one_failed : (text : List ℕ) (old new : State) (r : Result (Unit {0}) Error) (s : Schema) (t : Table) (rows : List (List Row)) → MakesTable s text t
    → IsTaken s text t → Builds old s rows → IfErr r (FailsToWrite old new text []) → IfErr r (FailsToMake old new)
one_failed text old new (Ok x) s t rows makes taken b h = tt
one_failed text old new (Err e) s t rows makes taken b h = step_failed s text t makes taken rows old new e b h

both_built : (old mid new : State) (r : Result (Unit {0}) Error) (a b c : Schema) (p q s : List (List Row)) → (Builds old a p → Builds mid b q)
    → OnOk r (Builds mid b q → Builds new c s) → OnOk r (Builds old a p → Builds new c s)
both_built old mid new (Err e) a b c p q s first second = tt
both_built old mid new (Ok x) a b c p q s first second = λ (start : Builds old a p). second (first start)

module _ {S : Type 0} {g : Ghosts S} where
  -- a text, which the store doesn't refuse, makes one table
  pub one : {old new : MutBor (Held S)} {r : Result (Unit {0}) Error} {s : Schema} {text : List ℕ} {t : Table} {rows : List (List Row)} → MakesTable s text t
      → IsTaken s text t → RunsText g old new r (text, [])
      → MakesTables g old new r (stage s rows, stage (created s t) (rows ++ [] ∷ []))
  one {old} {new} {r} {s} {text} {t} {rows} makes taken run = record {
    same = run.same;
    works = run.works;
    made = λ clean. one_built text (state g old.now) (state g new.now) r s t rows makes (run.ran clean);
    failed = λ clean b. one_failed text (state g old.now) (state g new.now) r s t rows makes taken b (run.failed clean b.inside);
  }

  -- the second after the first, which succeeded
  pub followed : {old mid new : MutBor (Held S)} {x : Unit {0}} {r : Result (Unit {0}) Error} {a b c : Schema} {p q s : List (List Row)}
      → MakesTables g old mid (Ok x) (stage a p, stage b q) → MakesTables g mid new r (stage b q, stage c s) → MakesTables g old new r (stage a p, stage c s)
  followed {old} {mid} {new} {x} {r} {a} {b} {c} {p} {q} {s} first second = record {
    same = second.same ∙ first.same;
    works = works_on (state g old.now) (state g mid.now) (state g new.now) first.works second.works;
    made = λ clean.
        let middle : HasCleanDisk (state g mid.now) = omega (arith, clean, second.works.survives.clean) in
        both_built (state g old.now) (state g mid.now) (state g new.now) r a b c p q s (first.made middle) (second.made clean);
    failed = λ clean start.
        let middle : HasCleanDisk (state g mid.now) = omega (arith, clean, second.works.survives.clean) in
        make_later_if (state g old.now) (state g mid.now) (state g new.now) r first.works middle second.works.survives.counts
        (second.failed clean (first.made middle start));
  }

  -- it failed, and no more is made
  pub halted : {old new : MutBor (Held S)} {e : Error} {r : Result (Unit {0}) Error} {a b c : Schema} {p q s : List (List Row)}
      → MakesTables g old new (Err e) (stage a p, stage b q) → r ≡ Err e → MakesTables g old new r (stage a p, stage c s)
  halted {old} {new} {e} {r} {a} {b} {c} {p} {q} {s} h is =
      subst (λ (r : Result (Unit {0}) Error). MakesTables g old new r (stage a p, stage c s)) (sym is)
      (record { same = h.same; works = h.works; made = λ clean. tt; failed = h.failed })

  -- the schema by another name
  pub renamed : {old new : MutBor (Held S)} {r : Result (Unit {0}) Error} {a b c : Schema} {p q : List (List Row)} → b ≡ c
      → MakesTables g old new r (stage a p, stage b q) → MakesTables g old new r (stage a p, stage c q)
  renamed {old} {new} {r} {a} {b} {c} {p} {q} is h = subst (λ (s : Schema). MakesTables g old new r (stage a p, stage s q)) is h
