-- Why a commit fails.
use Rattle.std.proofs.Common.{◌≡◌, ◌⊎◌, inl, inr, ℕ, ◌≤◌, List, [], ◌∷◌, length, Option, Some, Result, Ok, Err, IsTrue, IfErr, sym, subst, subst₂, ◌∙◌, arith}
use Rattle.std.specs.Prelude.{Vec}
use Rattle.std.specs.declared.alloc.Global.{Global}
use Rattle.sqlite.specs.declared.error.Error.{Error}
use Rattle.sqlite.specs.State.{State, HasCleanDisk}
use Rattle.acd_terms.specs.Lists.{Every}
use Rattle.acd_terms.specs.declared.event.Event.{Event}
use Rattle.acd_terms.specs.declared.rows.Rows.{Rows}
use Rattle.acd_model.specs.declared.moves.Change.{Change}
use Rattle.acd_book.specs.Content.{Content}
use Rattle.acd_book.specs.declared.kept.Kept.{Kept}
use Rattle.acd_sql_columns.specs.declared.meta.Meta.{Meta}
use Rattle.acd_sql_columns.specs.Transactions.{MetaFits}
use Rattle.acd_sql_columns.specs.Relations.{meta_of}
use Rattle.acd_sql_differences.specs.ChangeOrder.{rows_differences}
use Rattle.acd_sql_differences.specs.Transition.{AreWhole}
use Rattle.acd_sql_statements.specs.StoreFailures.{IsMemory}
use Rattle.acd_sql_statements.specs.ReadFailures.{HasReadCause, FailsToRead}
use Rattle.acd_sqlbook.specs.Calls.{HasRead}
use Rattle.acd_sqlbook.specs.WriteChoice.{written_changes}
use Rattle.acd_sqlbook.specs.Counters.{AreCounters, StopsOn}
use Rattle.acd_sqlbook.specs.Commit.{ChangeFits, EventFits, KeptFits, meta_after, applied, all_applied, with_events}
use Rattle.acd_sqlbook.specs.CommitStops.{AllNumbersFit, AreCounted, HasReadCauseOr, Drops, HasAbove, IsCausedByReadOr, FailsToApply, IsUndone, IsUncounted, RefusesInAll, RefusesInChanges, RefusesInEvents, StopsInAll, StopsInChanges, StopsInEvents, StopsCounted, StopsReplace}
use Rattle.acd_sqlbook.proofs.TableReplacement.{Leading}
use Rattle.acd_sqlbook.proofs.AfterProbe.{Counts}

-- as a read fails
pub counts_not : {A B : Type 0} (R : Content → Type 0) (old new : State) (e : Error) (r : Result B Error) → r ≡ Err e → HasReadCause {A = A} old new (Err e)
    → HasReadCauseOr R old new r
counts_not {A} {B} R old new e r is h =
    subst (HasReadCauseOr {A = B} R old new) (sym is) (record { cause = λ k c held. inl (h.cause k c held tt); counts = tt; limit = tt })

pub counts_unfit : {A : Type 0} (old new : State) (held : Option Meta) (meta : Meta) (e : Error) (changes : List Change) (events : ℕ) (kept : Kept)
    → HasRead {A = Meta} old new (Ok meta) (λ c found. AreCounters held c → found ≡ meta_of c.rows)
    → ¬ (MetaFits (meta_after meta changes events kept) × KeptFits kept)
    → HasReadCauseOr {A = A} (StopsOn held (IsUncounted changes events kept)) old new (Err e)
counts_unfit old new held meta e changes events kept read unfit = record {
  cause = λ k c holds. inr (λ of. subst (λ m. ¬ (MetaFits (meta_after m changes events kept) × KeptFits kept)) (read.value k c holds of) unfit);
  counts = tt;
  limit = tt;
}

pub counts_done : {A B : Type 0} (R : Content → Type 0) (old new : State) (a : A) (b : B) → HasReadCause {A = A} old new (Ok a)
    → HasReadCauseOr {A = B} R old new (Ok b)
counts_done R old new a b h = record { cause = λ k c held. tt; counts = h.spares.counts; limit = h.spares.limit }

-- the whole

pub no_request : (R : Content → Type 0) (s : State) (e : Error) (r : Result (Unit {0}) Error) → r ≡ Err e → IsMemory e → IsCausedByReadOr R s s r
no_request R s e r is memory = λ k c held. subst (λ b. IfErr b (λ e. FailsToRead c s s e ⊎ R c)) (sym is) (inl (inl memory))

-- a failure after what was read is one of the whole
module _ {A : Type 0} (R Stops All : Content → Type 0) (IsAnswer : Content → A → Type 0) (old mid new : State) (a : A) where
  undone : (c : Content) (e : Error) → old.faults ≤ mid.faults → IsTrue mid.is_open → (Stops c → All c)
      → FailsToApply Stops c mid new e → FailsToRead c old new e ⊎ All c
  undone c e counts live so (inl memory) = inl (inl memory)
  undone c e counts live so (inr (inl (inl more))) = inl (inr (inl (omega (arith, more, counts))))
  undone c e counts live so (inr (inl (inr shut))) = absurd (let apart = sym live ∙ shut in cc)
  undone c e counts live so (inr (inr stops)) = inr (so stops)

  pub undone_after : (r : Result (Unit {0}) Error) → HasRead old mid (Ok a) IsAnswer → HasReadCauseOr R old mid (Ok a) → (HasCleanDisk new → HasCleanDisk mid)
      → IsUndone Stops mid new r
      → ((c : Content) → IsAnswer c a → Stops c → All c) → IsCausedByReadOr All old new r
  undone_after (Ok x) read h clean fails so = λ k c held. tt
  undone_after (Err e) read h clean fails so =
      λ k c held.
      let m = clean k in
      let live = read.up m in
      undone c e h.counts live (so c (read.value m c held)) (fails k c (read.quiet.same m c held live))

module _ (held : Option Meta) (changes : List Change) (events : List Event) (kept : Kept) where
  abbrev Uncounted : Content → Type 0
  Uncounted = StopsOn held (IsUncounted changes (length events) kept)

  abbrev Stopped : Content → Type 0
  Stopped = StopsOn held (StopsCounted changes events kept)

  not_counted : (old new : State) (c : Content) (e : Error) → FailsToRead c old new e ⊎ Uncounted c → FailsToRead c old new e ⊎ Stopped c
  not_counted old new c e (inl read) = inl read
  not_counted old new c e (inr unfit) = inr (λ of. inl (unfit of))

  pub commit_uncounted : (old new : State) (e : Error) → HasReadCauseOr {A = ℕ × Meta} Uncounted old new (Err e)
      → IsCausedByReadOr {A = Unit {0}} Stopped old new (Err e)
  commit_uncounted old new e h = λ k c holds. not_counted old new c e (h.cause k c holds)

  pub commit_undone : (old mid new : State) (r : Result (Unit {0}) Error) (last : ℕ) (next : Meta)
      → HasRead {A = ℕ × Meta} old mid (Ok (last, next)) (Counts held changes (length events) kept)
      → HasReadCauseOr {A = ℕ × Meta} Uncounted old mid (Ok (last, next)) → (HasCleanDisk new → HasCleanDisk mid)
      → IsUndone (λ c. StopsInAll (HasAbove (Some last) c) changes events kept next c) mid new r
      → IsCausedByReadOr Stopped old new r
  commit_undone old mid new r last next read h clean fails =
      undone_after Uncounted (λ c. StopsInAll (HasAbove (Some last) c) changes events kept next c) Stopped (Counts held changes (length events) kept) old mid
      new (last, next) r read h clean fails
      (λ c counts stops of. inr (subst (λ (p : ℕ × Meta). StopsInAll (HasAbove (Some p.0) c) changes events kept p.1 c) (counts of) stops))

-- ---- a commit of tables

-- no memory for the changes, or one of them would drop a record
pub whole_caused : (old new : State) (held rows : Rows) (r : Result (Vec Change Global) Error) → HasRead old new (Ok held) (λ c (found : Rows). found ≡ c.rows)
    → HasReadCause old new (Ok held)
    → IfErr r (λ e. IsMemory e ⊎ (¬ (AreWhole (rows_differences held rows)))) → HasReadCauseOr (Drops rows) old new r
whole_caused old new held rows (Ok changes) read h fails = record { cause = λ k c holds. tt; counts = h.spares.counts; limit = h.spares.limit }
whole_caused old new held rows (Err e) read h fails = record {
  cause = λ k c holds.
      elim fails [
        | inl memory ↦ inl (inl memory)
        | inr gone ↦ inr (subst (λ s. ¬ (AreWhole (rows_differences s rows))) (read.value k c holds) gone)
      ];
  counts = tt;
  limit = tt;
}

module _ (rows : Rows) (events : List Event) (kept : Kept) where
  -- nor was the connection asked
  pub replace_unfit : (s : State) (e : Error) (r : Result (Unit {0}) Error) → r ≡ Err e → ¬ (AreCounted rows kept)
      → IsCausedByReadOr (StopsReplace rows events kept) s s r
  replace_unfit s e r is unfit = λ k c held. subst (λ b. IfErr b (λ e. FailsToRead c s s e ⊎ StopsReplace rows events kept c)) (sym is) (inr (inl unfit))

  not_led : (old new : State) (c : Content) (e : Error) → FailsToRead c old new e ⊎ Drops rows c → FailsToRead c old new e ⊎ StopsReplace rows events kept c
  not_led old new c e (inl read) = inl read
  not_led old new c e (inr gone) = inr (inr (inl gone))

  pub replace_not_led : (old new : State) (e : Error) → HasReadCauseOr {A = Vec Change Global} (Drops rows) old new (Err e)
      → IsCausedByReadOr {A = Unit {0}} (StopsReplace rows events kept) old new (Err e)
  replace_not_led old new e h = λ k c held. not_led old new c e (h.cause k c held)

  pub replace_undone : (old mid new : State) (r : Result (Unit {0}) Error) (changes : Vec Change Global) (all : List Change) (meta : Meta) → all ≡ changes.items
      → meta ≡ meta_of rows → HasRead old mid (Ok changes) (Leading rows)
      → HasReadCauseOr {A = Vec Change Global} (Drops rows) old mid (Ok changes) → (HasCleanDisk new → HasCleanDisk mid)
      → IsUndone (λ c. StopsInAll ⊥ all events kept meta c) mid new r → IsCausedByReadOr (StopsReplace rows events kept) old new r
  replace_undone old mid new r changes all meta same counters read h clean fails =
      undone_after (Drops rows) (λ c. StopsInAll ⊥ all events kept meta c) (StopsReplace rows events kept) (Leading rows) old mid new changes r read h clean
      fails
      (λ c leads stops. inr (inr (subst₂ (λ (l : List Change) (m : Meta). StopsInAll ⊥ l events kept m c) (same ∙ leads.exact) counters stops)))

-- ---- what doesn't fit, and what the store refuses

module _ (Meets : Type 0) where
  parted_changes : (changes : List Change) (c : Content) → StopsInChanges Meets changes c → (¬ (Every ChangeFits changes)) ⊎ RefusesInChanges Meets changes c
  parted_changes [] c h = absurd h
  parted_changes (x ∷ xs) c (inl (inl large)) = inl (λ fit. large fit.0)
  parted_changes (x ∷ xs) c (inl (inr refuses)) = inr (inl refuses)
  parted_changes (x ∷ xs) c (inr h) = elim (parted_changes xs (applied c x) h) [ inl large ↦ inl (λ fit. large fit.1) | inr refuses ↦ inr (inr refuses) ]

  parted_events : (es : List Event) (c : Content) → StopsInEvents es c → (¬ (Every EventFits es)) ⊎ RefusesInEvents es c
  parted_events [] c h = absurd h
  parted_events (e ∷ []) c h = h
  parted_events (e ∷ f ∷ []) c h = h
  parted_events (e ∷ f ∷ g ∷ []) c h = h
  parted_events (e ∷ f ∷ g ∷ k ∷ es) c (inl (inl large)) = inl (λ fit. large (fit.0, (fit.1.0, (fit.1.1.0, (fit.1.1.1.0, tt)))))
  parted_events (e ∷ f ∷ g ∷ k ∷ es) c (inl (inr refuses)) = inr (inl refuses)
  parted_events (e ∷ f ∷ g ∷ k ∷ es) c (inr h) =
      elim (parted_events es (with_events c (e ∷ f ∷ g ∷ k ∷ [])) h) [ inl large ↦ inl (λ fit. large fit.1.1.1.1) | inr refuses ↦ inr (inr refuses) ]

  pub parted : (changes : List Change) (events : List Event) (kept : Kept) (meta : Meta) (c : Content) → StopsInAll Meets changes events kept meta c
      → (¬ (AllNumbersFit changes events)) ⊎ RefusesInAll Meets changes events kept meta c
  parted changes events kept meta c (inl h) =
      elim (parted_changes (written_changes changes) c h) [ inl large ↦ inl (λ fit. large fit.0) | inr refuses ↦ inr (inl refuses) ]
  parted changes events kept meta c (inr (inl h)) =
      elim (parted_events events (all_applied c changes) h) [ inl large ↦ inl (λ fit. large fit.1) | inr refuses ↦ inr (inr (inl refuses)) ]
  parted changes events kept meta c (inr (inr h)) = inr (inr (inr h))
