-- Why a book answers that its store has failed.
use Rattle.std.proofs.Common.{◌≡◌, ◌⊎◌, inl, inr, ℕ, ◌<◌, List, length, Option, None, Some, Result, Ok, Err, IsTrue, refl, sym, ap, subst, ◌∙◌, arith}
use Rattle.std.specs.Prelude.{IsSome}
use Rattle.std.proofs.lemmas.Bool.{cases_Bool}
use Rattle.sqlite.specs.declared.error.Error.{Error}
use Rattle.sqlite.specs.State.{State, HasCleanDisk}
use Rattle.acd_terms.specs.declared.event.Event.{Event}
use Rattle.acd_terms.specs.declared.rows.Limits.{Limits}
use Rattle.acd_terms.specs.declared.rows.Rows.{Rows}
use Rattle.acd_model.specs.declared.moves.Change.{Change}
use Rattle.acd_book.specs.declared.kept.Kept.{Kept}
use Rattle.acd_sql_columns.specs.Relations.{meta_of}
use Rattle.acd_book.specs.Content.{Content}
use Rattle.acd_book.specs.declared.fault.BookFault.{BookFault}
use Rattle.acd_book.specs.declared.fault.BookFault.TheVariants.{NoMemory, Store}
use Rattle.acd_sql_columns.specs.InTables.{content_of}
use Rattle.acd_sql_differences.specs.ChangeOrder.{rows_differences}
use Rattle.acd_sql_statements.specs.StoreFailures.{IsMemory, StoreHasFailed}
use Rattle.acd_sql_columns.specs.InRange.{IsInRange}
use Rattle.acd_sql_statements.specs.ReadFailures.{FailsToRead, HasReadCause}
use Rattle.acd_sql_schema.specs.Creation.{FailsToSetUp, IsUnstarted}
use Rattle.acd_sqlbook.specs.Commit.{meta_after}
use Rattle.acd_sqlbook.specs.Counters.{AreCounters, StopsOn}
use Rattle.acd_sql_columns.specs.declared.meta.Meta.{Meta}
use Rattle.acd_sqlbook.specs.CommitStops.{AllNumbersFit, Drops, HasAbove, IsCausedByReadOr, IsUncounted, RefusesInAll, StopsCounted, StopsReplace}
use Rattle.acd_sqlbook.specs.State.{IsSoundState, error_fault, book_result, failures_after}
use Rattle.acd_sqlbook.specs.Causes.{StoreCall, StoreCause, HasCause, IsUnreadable, RefusesToCommit, create, read, failed, change, replace, shut, unfit, unreadable, occupied, drops, refused}
use Rattle.acd_sqlbook.proofs.BookStates.{held_is}
use Rattle.acd_sqlbook.proofs.CommitCauses.{parted}

-- want of memory is no failure of the store
pub not_memory : (e : Error) (f : BookFault) → f ≡ error_fault e → f ≡ Store → IsMemory e → ⊥
not_memory e f is store memory = absurd (let apart = sym store ∙ is ∙ ap error_fault memory in cc)

pub store_cause : (asked : StoreCall) (old new : State) → StoreHasFailed old new → StoreCause asked old new
store_cause asked old new (inl more) = failed more
store_cause asked old new (inr down) = shut down

-- the making began without a limit of steps
pub create_cause : (limits : Limits) (old new : State) (e : Error) (f : BookFault) → old.step_limit ≡ None → f ≡ error_fault e → f ≡ Store
    → FailsToSetUp old new limits e → StoreCause (create limits) old new
create_cause limits old new e f free is store (inl memory) = absurd (not_memory e f is store memory)
create_cause limits old new e f free is store (inr (inl fails)) = store_cause (create limits) old new fails
create_cause limits old new e f free is store (inr (inr refusal)) = refused (subst (λ l. IsUnstarted l limits) free refusal)

-- as it was with a limit that was removed
pub create_unlimited : (limits : Limits) (old new : State) → StoreCause (create limits) (record old { step_limit = None }) new
    → StoreCause (create limits) old new
create_unlimited limits old new (failed more) = failed more
create_unlimited limits old new (shut down) = shut down
create_unlimited limits old new (unfit large) = unfit large
create_unlimited limits old new (unreadable bad) = absurd bad
create_unlimited limits old new (occupied some) = occupied some
create_unlimited limits old new (drops gone) = absurd gone
create_unlimited limits old new (refused refusal) = refused refusal

-- ---- reads

-- where there is no limit
pub never_limited : (limit : Option ℕ) → limit ≡ None → IsSome limit → ⊥
never_limited None free some = absurd (cc some)
never_limited (Some n) free some = absurd (cc free)

read_cause : (old new : State) (c : Content) → old.step_limit ≡ None → content_of old.committed.trees ≡ c → (e : Error) → error_fault e ≡ Store
    → FailsToRead c old new e → StoreCause read old new
read_cause old new c free is e store (inl memory) = absurd (not_memory e (error_fault e) refl store memory)
read_cause old new c free is e store (inr (inl more)) = failed more
read_cause old new c free is e store (inr (inr (inl steps))) = absurd (never_limited old.step_limit free steps)
read_cause old new c free is e store (inr (inr (inr bad))) = unreadable (λ range. bad (subst IsInRange is range))

pub reads_caused : {A : Type 0} (old new : State) (r : Result A Error) (answer : Result A BookFault) → old.step_limit ≡ None → answer ≡ book_result r
    → HasReadCause old new r → HasCleanDisk new → IsSoundState old → answer ≡ Err Store → StoreCause read old new
reads_caused old new (Ok a) answer free is h clean sound store = absurd (let apart = sym store ∙ is in cc)
reads_caused old new (Err e) answer free is h clean sound store =
    let fault : error_fault e ≡ Store = cc in
    elim (cases_Bool old.is_open) [
      | inl up ↦ let held = sound.stands up in read_cause old new held.0 free (held_is old held.0 held.1) e fault (h.cause clean held.0 held.1 tt)
      | inr down ↦ shut down
    ]

-- ---- commits

-- a call that reads first fails as a read does, or stops
module _ (asked : StoreCall) (old new : State) (Stops : Content → Type 0) (free : old.step_limit ≡ None)
    (bad : ¬ (IsInRange (content_of old.committed.trees)) → IsUnreadable asked old)
    (stopped : (c : Content) → content_of old.committed.trees ≡ c → Stops c → StoreCause asked old new) where
  each_cause : (c : Content) → content_of old.committed.trees ≡ c → (e : Error) → error_fault e ≡ Store → FailsToRead c old new e ⊎ Stops c
      → StoreCause asked old new
  each_cause c is e store (inl (inl memory)) = absurd (not_memory e (error_fault e) refl store memory)
  each_cause c is e store (inl (inr (inl more))) = failed more
  each_cause c is e store (inl (inr (inr (inl steps)))) = absurd (never_limited old.step_limit free steps)
  each_cause c is e store (inl (inr (inr (inr out)))) = unreadable (bad (λ range. out (subst IsInRange is range)))
  each_cause c is e store (inr stops) = stopped c is stops

  pub commit_caused : (r : Result (Unit {0}) Error) (answer : Result (Unit {0}) BookFault) → answer ≡ book_result r → IsCausedByReadOr Stops old new r
      → HasCleanDisk new → IsSoundState old → answer ≡ Err Store → StoreCause asked old new
  commit_caused (Ok a) answer is h clean sound store = absurd (let apart = sym store ∙ is in cc)
  commit_caused (Err e) answer is h clean sound store =
      let fault : error_fault e ≡ Store = cc in
      elim (cases_Bool old.is_open) [
        | inl up ↦ let held = sound.stands up in each_cause held.0 (held_is old held.0 held.1) e fault (h clean held.0 held.1)
        | inr down ↦ shut down
      ]

module _ (changes : List Change) (events : List Event) (kept : Kept) (old new : State) (free : old.step_limit ≡ None) where
  change_stops : (c : Content) → content_of old.committed.trees ≡ c → StopsCounted changes events kept c → StoreCause (change changes events kept) old new
  change_stops c is (inl large) = unfit (inl (subst (IsUncounted changes (length events) kept) (sym is) large))
  change_stops c is (inr stops) =
      elim (parted (HasAbove (Some c.rows.last_call) c) changes events kept (meta_after (meta_of c.rows) changes (length events) kept) c stops) [
        | inl large ↦ unfit (inr large)
        | inr refuses ↦ refused (subst (RefusesToCommit changes events kept) (sym is) refuses)
      ]

  -- with the counters that are held, which are those of what the connection holds while it is open
  held_stops : (held : Option Meta) → (IsTrue old.is_open → AreCounters held (content_of old.committed.trees)) → (c : Content)
      → content_of old.committed.trees ≡ c → StopsOn held (StopsCounted changes events kept) c → StoreCause (change changes events kept) old new
  held_stops held of c is stops =
      elim (cases_Bool old.is_open) [ inl up ↦ change_stops c is (stops (subst (AreCounters held) is (of up))) | inr down ↦ shut down ]

  pub changes_caused : (held : Option Meta) → (IsTrue old.is_open → AreCounters held (content_of old.committed.trees))
      → (r : Result (Unit {0}) Error) (answer : Result (Unit {0}) BookFault) → answer ≡ book_result r
      → IsCausedByReadOr (StopsOn held (StopsCounted changes events kept)) old new r
      → HasCleanDisk new → IsSoundState old → answer ≡ Err Store → StoreCause (change changes events kept) old new
  changes_caused held of =
      commit_caused (change changes events kept) old new (StopsOn held (StopsCounted changes events kept)) free (λ out. out) (held_stops held of)

module _ (rows : Rows) (events : List Event) (kept : Kept) (old new : State) (free : old.step_limit ≡ None) where
  replace_stops : (c : Content) → content_of old.committed.trees ≡ c → StopsReplace rows events kept c → StoreCause (replace rows events kept) old new
  replace_stops c is (inl large) = unfit (inl large)
  replace_stops c is (inr (inl gone)) = drops (subst (Drops rows) (sym is) gone)
  replace_stops c is (inr (inr stops)) =
      elim (parted ⊥ (rows_differences c.rows rows) events kept (meta_of rows) c stops) [
        | inl large ↦ unfit (inr (subst (λ (x : Content). ¬ (AllNumbersFit (rows_differences x.rows rows) events)) (sym is) large))
        | inr refuses ↦ refused (subst (λ (x : Content). RefusesInAll ⊥ (rows_differences x.rows rows) events kept (meta_of rows) x) (sym is) refuses)
      ]

  pub replace_caused : (r : Result (Unit {0}) Error) (answer : Result (Unit {0}) BookFault) → answer ≡ book_result r
      → IsCausedByReadOr (StopsReplace rows events kept) old new r → HasCleanDisk new → IsSoundState old → answer ≡ Err Store
      → StoreCause (replace rows events kept) old new
  replace_caused = commit_caused (replace rows events kept) old new (StopsReplace rows events kept) free (λ out. out) replace_stops

-- ---- with the count as it is recorded

only_store : {A : Type 0} (answer : Result A BookFault) (failures next : ℕ) → next ≡ failures_after answer failures → failures < next → answer ≡ Err Store
only_store (Ok a) failures next is more = absurd (let same : next ≡ failures = is in omega (arith, same, more))
only_store (Err NoMemory) failures next is more = absurd (let same : next ≡ failures = is in omega (arith, same, more))
only_store (Err Store) failures next is more = refl

pub recorded_cause : {A : Type 0} (asked : StoreCall) (old new : State) (failures next : ℕ) (answer : Result A BookFault) → next ≡ failures_after answer failures
    → (HasCleanDisk new → IsSoundState old → answer ≡ Err Store → StoreCause asked old new) → HasCause asked old new failures next answer
recorded_cause asked old new failures next answer is cause =
    record { answer = cause; count = λ clean sound more. cause clean sound (only_store answer failures next is more) }
