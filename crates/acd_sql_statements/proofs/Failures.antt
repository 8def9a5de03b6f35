-- The store's answers, and what they say of why it failed.
use Rattle.std.proofs.Common.{◌≡◌, ◌⊎◌, inl, inr, ℕ, ◌≤◌, List, false, None, Result, Ok, Err, IfErr, IsTrue, sym, ◌∙◌, arith}
use Rattle.std.proofs.lemmas.Bool.{cases_Bool}
use Rattle.sqlite_trees.specs.declared.error.StoreError.{StoreError}
use Rattle.sqlite_trees.specs.declared.error.StoreError.TheVariants.{OutOfMemory, Io, Corrupt, Full, Broken, Unstorable}
use Rattle.sqlite_trees.specs.Tree.{Trees}
use Rattle.sqlite_value.specs.Order.{Row}
use Rattle.sqlite_resolve.specs.declared.compiled.Compiled.{Compiled}
use Rattle.sqlite_schema.specs.declared.command.Command.{Command}
use Rattle.sqlite.specs.declared.error.Error.{Error}
use Rattle.sqlite.specs.Clock.{timed}
use Rattle.sqlite.specs.Does.{Does}
use Rattle.sqlite.specs.State.{State, HasCleanDisk, Survives, HasCause, Fails, IsNoStatement, IsNotRun, IsStatement, IsMisplaced, Escapes, EndsScope, RunsAlone, RunsCommand, ExecutesIn, ExecutesInside, mode_of, shows_rows, store_error, text_of}
use Rattle.sqlite.specs.Steps.{FailsToCommit}
use Rattle.acd_sql_statements.specs.StoreFailures.{IsMemory, StoreHasFailed, IsUnreadText, IsEnding, IsAgainst, Refuses, FailsToWrite}

module _ (old new : State) where
  cause_of : (Big : Type 0) (e : Error) (cause : StoreError) → e ≡ store_error cause → HasCause old new Big cause → IsMemory e ⊎ (StoreHasFailed old new ⊎ Big)
  cause_of Big e OutOfMemory is h = inl is
  cause_of Big e Io is h = inr (inl (inl h))
  cause_of Big e Corrupt is h = inr (inl (inl h))
  cause_of Big e Full is h = inr (inl (inl h))
  cause_of Big e Broken is h = inr (inl (inr h))
  cause_of Big e Unstorable is h = inr (inr h)

  pub store_failed : (Big : Type 0) (e : Error) → Fails old new Big e → IsMemory e ⊎ (StoreHasFailed old new ⊎ Big)
  store_failed Big e h = cause_of Big e h.0 h.1 h.2

  weaker : {P Q : Type 0} (e : Error) → (P → Q) → IsMemory e ⊎ (StoreHasFailed old new ⊎ P) → IsMemory e ⊎ (StoreHasFailed old new ⊎ Q)
  weaker e so (inl memory) = inl memory
  weaker e so (inr (inl failed)) = inr (inl failed)
  weaker e so (inr (inr p)) = inr (inr (so p))

  module _ (sql : List ℕ) (params : Row) (e : Error) where
    unread : IsNoStatement old sql params e → IsUnreadText old.now.schema sql params
    unread (inl h) = inl (h.0, h.1)
    unread (inr h) = inr (h.0, h.1, why h.2)
      where
        why : {A B C P Q R : Type 0} → (A × P) ⊎ ((B × Q) ⊎ (C × R)) → A ⊎ (B ⊎ C)
        why (inl h) = inl h.0
        why (inr (inl h)) = inr (inl h.0)
        why (inr (inr h)) = inr (inr h.0)

    pub not_run : IsNotRun old new sql params e → IsMemory e ⊎ (StoreHasFailed old new ⊎ IsUnreadText old.now.schema sql params)
    unfolding IsNotRun
    not_run (inl h) = inr (inr (unread h.0))
    not_run (inr h) = weaker e (λ none. absurd none) (store_failed ⊥ e h)

    misplaced : (k : Command) → IsMisplaced old k e → IsEnding k
    misplaced k (inl h) = elim h.1 [
      | inl begin ↦ inl begin.0
      | inr ends ↦ elim ends.0 [ inl commit ↦ inr (inl commit) | inr rollback ↦ inr (inr (inl rollback)) ]
    ]
    misplaced k (inr h) = inr (inr (inr (h.1, h.2)))

    alone : (c : Compiled) (it : IsStatement old sql params c) → RunsAlone false old new sql c (timed params c.formats it.now) (Err e)
        → FailsToWrite old new sql params e
    unfolding Refuses
    alone c it h = elim (cases_Bool (shows_rows false c)) [
      | inl shows ↦ inr (inr (inr (c, it.is, inr (inl shows))))
      | inr runs ↦ command (rw runs at h)
    ]
      where
        against : IsAgainst old.step_limit old.now sql c (timed params c.formats it.now) → Refuses old.step_limit old.now sql params
        against h = inr (c, it.is, inr (inr (it.now, h)))

        command : RunsCommand old new sql c (timed params c.formats it.now) (Err e) → FailsToWrite old new sql params e
        command (inl h) = elim h.0 [
          | inl wrong ↦ inr (inr (inr (c, it.is, inl (misplaced c.command wrong))))
          | inr refused ↦ inr (inr (against (inl (e, refused.1))))
        ]
        command (inr h) =
            weaker e (λ big. against (inr big))
            (store_failed (Does old.step_limit (mode_of old) (timed params c.formats it.now) old.now (text_of sql c) c.returning c.command (Err None)) e h)

    executed : ExecutesIn false sql params old new (Err e) → FailsToWrite old new sql params e
    unfolding ExecutesIn Refuses
    executed (inl h) = weaker e inl (not_run h)
    executed (inr h) = alone h.0 h.1 h.2

    escapes : (k : Command) → Escapes 0 old k → IsEnding k
    escapes k (inl (inl commit)) = inr (inl commit)
    escapes k (inl (inr rollback)) = inr (inr (inl rollback))
    escapes k (inr h) = inr (inr (inr (h.0, h.1)))

    pub written : ExecutesInside 0 sql params old new (Err e) → FailsToWrite old new sql params e
    unfolding EndsScope Refuses
    written (inl h) = executed h.0
    written (inr h) = let ends = h.0 in inr (inr (inr (ends.0, ends.1.is, inl (escapes ends.0.command ends.2))))

  pub written_if : (sql : List ℕ) (params : Row) (r : Result ℕ Error) → ExecutesInside 0 sql params old new r → IfErr r (FailsToWrite old new sql params)
  written_if sql params (Ok count) h = tt
  written_if sql params (Err e) h = written sql params e h

  -- the end of a transaction that is under way
  pub commit_failed : (e : Error) → IsTrue old.in_transaction → FailsToCommit old new e → IsMemory e ⊎ StoreHasFailed old new
  commit_failed e inside (inl h) = only (store_failed ⊥ e h)
    where
      only : IsMemory e ⊎ (StoreHasFailed old new ⊎ ⊥) → IsMemory e ⊎ StoreHasFailed old new
      only (inl memory) = inl memory
      only (inr (inl failed)) = inr failed
      only (inr (inr none)) = absurd none
  commit_failed e inside (inr h) = absurd (let apart = sym inside ∙ h.1 in cc)

-- ---- one call after another

pub failed_before : (old mid new : State) → StoreHasFailed old mid → mid.faults ≤ new.faults → StoreHasFailed old new
failed_before old mid new (inl more) counts = inl (omega (arith, more, counts))
failed_before old mid new (inr shut) counts = inr shut

pub failed_after : {P : Trees → Type 0} (old mid new : State) → Survives old mid P → HasCleanDisk mid → mid.faults ≤ new.faults → StoreHasFailed mid new
    → StoreHasFailed old new
failed_after old mid new first k counts (inl more) = inl (omega (arith, more, first.counts))
failed_after old mid new first k counts (inr shut) = elim (cases_Bool old.is_open) [
  | inl up ↦ elim (first.closes k up) [
    | inl still ↦ absurd (let apart = sym still ∙ shut in cc)
    | inr more ↦ inl (omega (arith, more, counts))
  ]
  | inr down ↦ inr down
]
