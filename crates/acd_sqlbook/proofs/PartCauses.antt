-- Why a part of a commit isn't written.
use Rattle.std.proofs.Common.{◌≡◌, ◌≢◌, ◌⊎◌, inl, inr, ℕ, ◌<◌, ◌≤◌, IsTrue, length, List, [], ◌∷◌, ◌++◌, Option, None, Result, Ok, Err, IfErr, refl, sym, subst, arith}
use Rattle.sqlite.specs.declared.error.Error.{Error}
use Rattle.sqlite.specs.State.{State, HasCleanDisk}
use Rattle.sqlite.specs.Steps.{FailsToCommit}
use Rattle.acd_terms.specs.declared.event.Event.{Event}
use Rattle.acd_model.specs.declared.moves.Change.{Change}
use Rattle.acd_book.specs.Content.{Content}
use Rattle.acd_sql_columns.specs.Transactions.{HoldsGood, Works}
use Rattle.acd_sql_columns.specs.Relations.{Relations, relations_of}
use Rattle.acd_sql_statements.specs.WriteRefusals.{HasWriteCause, FailsToLeave}
use Rattle.acd_sql_statements.proofs.Failures.{failed_before, failed_after, commit_failed}
use Rattle.acd_sqlbook.specs.WriteChoice.{IsNextPart}
use Rattle.acd_sqlbook.specs.Commit.{with_events}
use Rattle.acd_sqlbook.specs.CommitStops.{RefusesChange, InEvents, FailsToApply, IsStopped}

module _ (old new : State) where
  -- of a content's relations, where there is no limit of steps
  pub stops_as : old.step_limit ≡ None → (P : Option ℕ → Relations → Type 0) (R : Content → Type 0) (result : Result (Unit {0}) Error)
      → ((c : Content) → P None (relations_of c) → R c) → HasWriteCause P old new result → IsStopped R old new result
  stops_as free P R (Ok x) so h = λ clean c d. tt
  stops_as free P R (Err e) so h = λ clean c d. each c (h clean (relations_of c) d.relations)
    where
      each : (c : Content) → FailsToLeave P (relations_of c) old new e → FailsToApply R c old new e
      each c (inl memory) = inl memory
      each c (inr (inl failed)) = inr (inl failed)
      each c (inr (inr p)) = inr (inr (so c (subst (λ (limit : Option ℕ). P limit (relations_of c)) free p)))

  -- the change by its name
  pub by_change : old.step_limit ≡ None → (result : Result (Unit {0}) Error) (Meets : Type 0) (change v : Change) → change ≡ v
      → (P : Option ℕ → Relations → Type 0) → ((r : Relations) → P None r → RefusesChange Meets v r)
      → HasWriteCause P old new result → IsStopped (λ c. RefusesChange Meets change (relations_of c)) old new result
  by_change free result Meets change v is P so h =
      subst (λ w. IsStopped (λ c. RefusesChange Meets w (relations_of c)) old new result) (sym is)
      (stops_as free P (λ c. RefusesChange Meets v (relations_of c)) result (λ c p. so (relations_of c) p) h)

  pub stops_more : (P R : Content → Type 0) (result : Result (Unit {0}) Error) → ((c : Content) → P c → R c) → IsStopped P old new result
      → IsStopped R old new result
  stops_more P R (Ok x) so h = λ clean c d. tt
  stops_more P R (Err e) so h = λ clean c d. each c (h clean c d)
    where
      each : (c : Content) → FailsToApply P c old new e → FailsToApply R c old new e
      each c (inl memory) = inl memory
      each c (inr (inl failed)) = inr (inl failed)
      each c (inr (inr p)) = inr (inr (so c p))

  pub stops_same : (R : Content → Type 0) (e : Error) (result : Result (Unit {0}) Error) → result ≡ Err e
      → (HasCleanDisk new → (c : Content) → HoldsGood old c → FailsToApply R c old new e) → IsStopped R old new result
  stops_same R e result is h = λ clean c d. subst (λ b. IfErr b (FailsToApply R c old new)) (sym is) (h clean c d)

-- after what was written before
pub stops_later : (old mid new : State) (change : Content → Content) (R : Content → Type 0) (result : Result (Unit {0}) Error) → Works old mid → Works mid new
    → (HasCleanDisk mid → (c : Content) → HoldsGood old c → HoldsGood mid (change c)) → IsStopped R mid new result
    → IsStopped (λ c. R (change c)) old new result
stops_later old mid new change R (Ok x) first second made h = λ clean c d. tt
stops_later old mid new change R (Err e) first second made h =
    λ clean c d. let middle : HasCleanDisk mid = omega (arith, clean, second.survives.clean) in each c middle (h clean (change c) (made middle c d))
  where
    each : (c : Content) → HasCleanDisk mid → FailsToApply R (change c) mid new e → FailsToApply (λ c. R (change c)) c old new e
    each c middle (inl memory) = inl memory
    each c middle (inr (inl failed)) = inr (inl (failed_after old mid new first.survives middle second.survives.counts failed))
    each c middle (inr (inr q)) = inr (inr q)

module _ (R : Content → Type 0) (c : Content) where
  -- at one of them, which is written after others
  pub stops_after : (Q : Content → Type 0) (x : Content) (old mid new : State) (e : Error) → Works old mid → Works mid new → HasCleanDisk mid → (Q x → R c)
      → FailsToApply Q x mid new e → FailsToApply R c old new e
  stops_after Q x old mid new e first second middle so (inl memory) = inl memory
  stops_after Q x old mid new e first second middle so (inr (inl failed)) =
      inr (inl (failed_after old mid new first.survives middle second.survives.counts failed))
  stops_after Q x old mid new e first second middle so (inr (inr q)) = inr (inr (so q))

  -- nothing after a failure changes it
  pub still_stopped : (old mid new : State) (e : Error) → mid.faults ≤ new.faults → FailsToApply R c old mid e → FailsToApply R c old new e
  still_stopped old mid new e counts (inl memory) = inl memory
  still_stopped old mid new e counts (inr (inl failed)) = inr (inl (failed_before old mid new failed counts))
  still_stopped old mid new e counts (inr (inr other)) = inr (inr other)

  -- the end of the transaction
  pub commit_stopped : (old mid new : State) (r : Result (Unit {0}) Error) → Works old mid → HasCleanDisk mid → mid.faults ≤ new.faults
      → IsTrue mid.in_transaction → IfErr r (FailsToCommit mid new) → IfErr r (FailsToApply R c old new)
  commit_stopped old mid new (Ok x) w k counts inside h = tt
  commit_stopped old mid new (Err e) w k counts inside h = elim (commit_failed mid new e inside h) [
    | inl memory ↦ inl memory
    | inr failed ↦ inr (inl (failed_after old mid new w.survives k counts failed))
  ]

-- ---- events, some a statement

in_part : (At : List Event → Content → Type 0) (some rest : List Event) → some ≢ [] → length some ≤ 4 → (0 < length rest → length some ≡ 4) → (c : Content)
    → At some c ⊎ InEvents At rest (with_events c some) → InEvents At (some ++ rest) c
in_part At [] rest any few full c h = absurd (any refl)
in_part At (e ∷ []) [] any few full c (inl h) = h
in_part At (e ∷ []) [] any few full c (inr h) = absurd h
in_part At (e ∷ []) (x ∷ xs) any few full c h = absurd (let four = full (omega arith) in omega (arith, four))
in_part At (e ∷ f ∷ []) [] any few full c (inl h) = h
in_part At (e ∷ f ∷ []) [] any few full c (inr h) = absurd h
in_part At (e ∷ f ∷ []) (x ∷ xs) any few full c h = absurd (let four = full (omega arith) in omega (arith, four))
in_part At (e ∷ f ∷ g ∷ []) [] any few full c (inl h) = h
in_part At (e ∷ f ∷ g ∷ []) [] any few full c (inr h) = absurd h
in_part At (e ∷ f ∷ g ∷ []) (x ∷ xs) any few full c h = absurd (let four = full (omega arith) in omega (arith, four))
in_part At (e ∷ f ∷ g ∷ h ∷ []) rest any few full c stops = stops
in_part At (e ∷ f ∷ g ∷ h ∷ k ∷ es) rest any few full c stops = absurd (omega (arith, few))

pub next_stops : (At : List Event → Content → Type 0) (es some rest : List Event) → IsNextPart es some rest → (c : Content)
    → At some c ⊎ InEvents At rest (with_events c some) → InEvents At es c
next_stops At es some rest is c h = subst (λ l. InEvents At l c) (sym is.all) (in_part At some rest is.any is.few is.full c h)
