-- A prune: what it leaves of a content, and why it fails.
use Rattle.std.proofs.Common.{◌≡◌, ◌⊎◌, inl, inr, ℕ, nat_lt, None, Result, Ok, Err, IsTrue, IfErr, OnOk, refl, sym, subst}
use Rattle.sqlite.specs.declared.error.Error.{Error}
use Rattle.sqlite.specs.State.{State, HasCleanDisk}
use Rattle.acd_terms.specs.declared.event.Event.{Event}
use Rattle.acd_lemmas.proofs.Lists.{every-filter}
use Rattle.acd_book.specs.Content.{Content}
use Rattle.acd_book.specs.PrunedContent.{pruned}
use Rattle.acd_book.specs.declared.fault.BookFault.{BookFault}
use Rattle.acd_book.specs.declared.fault.BookFault.TheVariants.{Store}
use Rattle.acd_book.specs.declared.kept.Kept.{Kept}
use Rattle.acd_sql_columns.specs.InRange.{IsInRange, IsGoodEvent, IsGoodKept}
use Rattle.acd_sql_columns.specs.InTables.{content_of}
use Rattle.acd_sql_columns.specs.Relations.{Relations, relations_of}
use Rattle.acd_sql_columns.specs.Transactions.{HoldsGood, HoldsUncommitted, Quiet, NoStop}
use Rattle.acd_sql_columns.proofs.Rows.KeptInRange.{AllGood, goods, in_range}
use Rattle.acd_sql_statements.specs.ReadFailures.{FailsToRead, HasReadCause}
use Rattle.acd_sql_columns.proofs.Writes.Common.{ChangesEach}
use Rattle.acd_sqlbook.specs.Calls.{HasRead, HasReplaced}
use Rattle.acd_sqlbook.specs.Causes.{StoreCause, prune, unfit, refused}
use Rattle.acd_sqlbook.specs.Commit.{MakesOfEach}
use Rattle.acd_sqlbook.specs.Pruning.{RefusesPrune, StopsPrune}
use Rattle.acd_sqlbook.specs.State.{IsSoundState, book_result}
use Rattle.acd_sqlbook.specs.CommitStops.{IsCausedByReadOr, IsUndone}
use Rattle.acd_sqlbook.proofs.FailureCauses.{commit_caused}
use Rattle.acd_sqlbook.proofs.CommitCauses.{counts_done, undone_after}
use Rattle.acd_sqlbook.proofs.AfterProbe.{CommitsAs, commits_after}

-- ---- each value that is left is in its range

left_good : (stamp number : ℕ) (c : Content) → AllGood c → AllGood (pruned stamp number c)
left_good stamp number c h = record {
  meta = h.meta;
  groups = h.groups;
  stations = h.stations;
  agents = h.agents;
  calls = h.calls;
  connections = h.connections;
  monitors = h.monitors;
  events = every-filter IsGoodEvent (λ (e : Event). nat_lt number e.number) c.events h.events;
  kept = every-filter IsGoodKept (λ (k : Kept). nat_lt stamp k.stamp) c.kept h.kept;
}

pub pruned_in_range : (stamp number : ℕ) (c : Content) → IsInRange c → IsInRange (pruned stamp number c)
pruned_in_range stamp number c h = in_range (pruned stamp number c) (left_good stamp number c (goods c h))

-- two writes of tables, one after the other
abbrev pub KeepsRange : (Content → Content) → Type 0
KeepsRange after = (c : Content) → IsInRange c → IsInRange (after c)

pub leaving_both : (old mid new : State) (r : Result (Unit {0}) Error) (first second : Relations → Relations) (after : Content → Content)
    → ((c : Content) → second (first (relations_of c)) ≡ relations_of (after c)) → KeepsRange after
    → ChangesEach first old mid → OnOk r (ChangesEach second mid new) → OnOk r (MakesOfEach after old new)
leaving_both old mid new (Err e) first second after same stays one two = tt
leaving_both old mid new (Ok x) first second after same stays one two =
    λ (c : Content) (d : HoldsGood old c). record {
      relations = subst (HoldsUncommitted new) (same c) (two (first (relations_of c)) (one (relations_of c) d.relations));
      range = stays c d.range;
    }

-- ---- over a connection that was tried first

abbrev pub Tried : State → State → Type 0
Tried old new = HasRead {A = Unit {0}} old new (Ok tt) (λ (c : Content) (found : Unit {0}). Unit {0})

pub tried : (old new : State) → Quiet old new → (HasCleanDisk new → IsTrue new.is_open) → (HasCleanDisk new → NoStop old new) → Tried old new
tried old new quiet live still = record { quiet = quiet; up = live; stops = λ k stands. still k; value = λ k c held. tt }

-- a commit over it
pub replaces_tried : (old mid new : State) (r : Result (Unit {0}) Error) (Follows : Content → Type 0) (after : Content → Content) → Tried old mid
    → CommitsAs mid new r after → HasReplaced old new r Follows after
replaces_tried old mid new r Follows after read h = record {
  written = after;
  commits = commits_after old mid new r after after tt (λ (c : Content) (found : Unit {0}). Unit {0}) read (λ c found. refl) h;
  same = λ k c held follows. refl;
}

-- ---- why it fails

module _ (stamp number : ℕ) where
  pub prune_untried : (old new : State) (e : Error) (r : Result (Unit {0}) Error) → r ≡ Err e → HasReadCause {A = Unit {0}} old new (Err e)
      → IsCausedByReadOr (StopsPrune stamp number) old new r
  prune_untried old new e r is h =
      λ k c held. subst (λ b. IfErr b (λ e. FailsToRead c old new e ⊎ StopsPrune stamp number c)) (sym is) (inl (h.cause k c held tt))

  pub prune_undone : (old mid new : State) (r : Result (Unit {0}) Error) → Tried old mid → HasReadCause {A = Unit {0}} old mid (Ok tt)
      → (HasCleanDisk new → HasCleanDisk mid) → IsUndone (RefusesPrune stamp number) mid new r
      → IsCausedByReadOr (StopsPrune stamp number) old new r
  prune_undone old mid new r read h clean fails =
      undone_after (RefusesPrune stamp number) (RefusesPrune stamp number) (StopsPrune stamp number) (λ (c : Content) (found : Unit {0}). Unit {0}) old mid new
      tt r read (counts_done (RefusesPrune stamp number) old mid tt tt h) clean fails
      (λ c found refuses. inr refuses)

  module _ (old new : State) (free : old.step_limit ≡ None) where
    prune_stops : (c : Content) → content_of old.committed.trees ≡ c → StopsPrune stamp number c → StoreCause (prune stamp number) old new
    prune_stops c is (inl large) = unfit large
    prune_stops c is (inr refuses) = refused (subst (RefusesPrune stamp number) (sym is) refuses)

    pub prune_caused : (r : Result (Unit {0}) Error) (answer : Result (Unit {0}) BookFault) → answer ≡ book_result r
        → IsCausedByReadOr (StopsPrune stamp number) old new r → HasCleanDisk new → IsSoundState old → answer ≡ Err Store
        → StoreCause (prune stamp number) old new
    prune_caused = commit_caused (prune stamp number) old new (StopsPrune stamp number) free (λ out. out) prune_stops
