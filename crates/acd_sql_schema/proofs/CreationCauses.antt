-- Why the making of the tables stops.
use Rattle.std.proofs.Common.{inl, inr, ℕ, ◌≤◌, List, [], Result, Ok, Err, IsTrue, IfErr, subst}
use Rattle.sqlite_value.specs.Order.{Row}
use Rattle.sqlite_schema.specs.declared.schema.Schema.{Schema}
use Rattle.sqlite.specs.declared.error.Error.{Error}
use Rattle.sqlite.specs.State.{State, HasCleanDisk}
use Rattle.acd_sql_columns.specs.Transactions.{Works}
use Rattle.sqlite.specs.Steps.{FailsToCommit}
use Rattle.acd_terms.specs.declared.rows.Limits.{Limits}
use Rattle.acd_sql_columns.specs.declared.texts.TheConstants.{INSERT_META}
use Rattle.sqlite_schema.specs.declared.schema.Table.{Table}
use Rattle.acd_sql_columns.specs.SchemaSteps.{MakesTable, Builds, no_rows}
use Rattle.acd_sql_columns.specs.Rows.{meta_values}
use Rattle.acd_sql_columns.specs.Schema.{book_schema}
use Rattle.acd_sql_statements.specs.StoreFailures.{Refuses, FailsToWrite, FailsToStart}
use Rattle.acd_sql_statements.proofs.Failures.{failed_before, failed_after, commit_failed}
use Rattle.acd_sql_schema.specs.Creation.{FailsToMake, FailsToSetUp, start_of}
use Rattle.acd_sql_schema.proofs.CreateAccepted.{IsTaken, never_refused}

-- a text, which the store doesn't refuse
pub step_failed : (schema : Schema) (text : List ℕ) (table : Table) → MakesTable schema text table → IsTaken schema text table
    → (rows : List (List Row)) (old new : State) (e : Error) → Builds old schema rows → FailsToWrite old new text [] e → FailsToMake old new e
step_failed schema text table makes taken rows old new e b (inl memory) = inl memory
step_failed schema text table makes taken rows old new e b (inr (inl failed)) = inr failed
step_failed schema text table makes taken rows old new e b (inr (inr refused)) =
    absurd (never_refused schema text table makes taken old.step_limit old.now b.schema_is refused)

-- a failure after what was made
pub make_later : (old mid new : State) (e : Error) → Works old mid → HasCleanDisk mid → mid.faults ≤ new.faults → FailsToMake mid new e → FailsToMake old new e
make_later old mid new e w k counts (inl memory) = inl memory
make_later old mid new e w k counts (inr failed) = inr (failed_after old mid new w.survives k counts failed)

pub make_later_if : (old mid new : State) (r : Result (Unit {0}) Error) → Works old mid → HasCleanDisk mid → mid.faults ≤ new.faults
    → IfErr r (FailsToMake mid new) → IfErr r (FailsToMake old new)
make_later_if old mid new (Ok x) w k counts h = tt
make_later_if old mid new (Err e) w k counts h = make_later old mid new e w k counts h

-- nothing after a failure changes it
pub make_still : (old mid new : State) (e : Error) → mid.faults ≤ new.faults → FailsToMake old mid e → FailsToMake old new e
make_still old mid new e counts (inl memory) = inl memory
make_still old mid new e counts (inr failed) = inr (failed_before old mid new failed counts)

-- the end of a transaction
pub commit_fails : (old mid new : State) (r : Result (Unit {0}) Error) → Works old mid → HasCleanDisk mid → mid.faults ≤ new.faults → IsTrue mid.in_transaction
    → IfErr r (FailsToCommit mid new) → IfErr r (FailsToMake old new)
commit_fails old mid new (Ok x) w k counts inside h = tt
commit_fails old mid new (Err e) w k counts inside h = elim (commit_failed mid new e inside h) [
  | inl memory ↦ inl memory
  | inr failed ↦ inr (failed_after old mid new w.survives k counts failed)
]

-- ---- the whole

module _ (limits : Limits) where
  pub none_set_up : (old new : State) (e : Error) → FailsToMake old new e → FailsToSetUp old new limits e
  none_set_up old new e (inl memory) = inl memory
  none_set_up old new e (inr failed) = inr (inl failed)

  -- the row of the limits
  pub start_failed : (old mid new : State) (e : Error) → Works old mid → HasCleanDisk mid → mid.faults ≤ new.faults → Builds mid book_schema (no_rows 11)
      → FailsToStart (start_of limits) mid new e → FailsToSetUp old new limits e
  start_failed old mid new e w k counts b (inl memory) = inl memory
  start_failed old mid new e w k counts b (inr (inl failed)) = inr (inl (failed_after old mid new w.survives k counts failed))
  start_failed old mid new e w k counts b (inr (inr refused)) =
      inr (inr (mid.now, b.schema_is, b.rows_are, subst (λ l. Refuses l mid.now INSERT_META.now (meta_values (start_of limits))) w.survives.limit refused))

  -- nothing after a failure changes it
  pub still_failed : (old mid new : State) (e : Error) → mid.faults ≤ new.faults → FailsToSetUp old mid limits e → FailsToSetUp old new limits e
  still_failed old mid new e counts (inl memory) = inl memory
  still_failed old mid new e counts (inr (inl failed)) = inr (inl (failed_before old mid new failed counts))
  still_failed old mid new e counts (inr (inr other)) = inr (inr other)

  -- the end of the transaction
  pub commit_stops : (old mid new : State) (r : Result (Unit {0}) Error) → Works old mid → HasCleanDisk mid → mid.faults ≤ new.faults
      → IsTrue mid.in_transaction → IfErr r (FailsToCommit mid new) → IfErr r (FailsToSetUp old new limits)
  commit_stops old mid new (Ok x) w k counts inside h = tt
  commit_stops old mid new (Err e) w k counts inside h = elim (commit_failed mid new e inside h) [
    | inl memory ↦ inl memory
    | inr failed ↦ inr (inl (failed_after old mid new w.survives k counts failed))
  ]
