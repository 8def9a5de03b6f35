-- Calls over a connection that was tried first.
use Rattle.std.proofs.Common.{◌≡◌, inl, inr, ℕ, List, length, Option, Some, Result, Ok, Err, IsTrue, IfOk, OnOk, OnErr, refl, sym, ap, subst, ◌∙◌}
use Rattle.sqlite.specs.declared.error.Error.{Error}
use Rattle.sqlite.specs.State.{State, HasCleanDisk}
use Rattle.acd_terms.specs.declared.event.Event.{Event}
use Rattle.acd_model.specs.declared.moves.Change.{Change}
use Rattle.acd_book.proofs.ReadsInTurn.{Finding}
use Rattle.acd_book.specs.Content.{Content}
use Rattle.acd_book.specs.declared.kept.Kept.{Kept}
use Rattle.acd_sql_columns.specs.declared.meta.Meta.{Meta}
use Rattle.acd_sqlbook.specs.Commit.{meta_after, counters_of, made_by, written_by}
use Rattle.acd_sql_columns.specs.Relations.{meta_of}
use Rattle.acd_sqlbook.specs.Calls.{HasRead, HasCommitted, HasReplaced}
use Rattle.acd_sqlbook.specs.Counters.{AreCounters}
use Rattle.acd_sql_columns.specs.Transactions.{HoldsContent, IsBook, Quiet, NoStop, AddsStop}
use Rattle.acd_sql_columns.specs.ReadResults.{Finds}
use Rattle.acd_sql_statements.proofs.ReadsInTurn.{FindsBoth, quiet_on, quiet_still}

ok_map : {A : Type 0} (P Q : A → Type 0) (r : Result A Error) → ((a : A) → P a → Q a) → IfOk r P → IfOk r Q
ok_map P Q (Ok a) f h = f a h
ok_map P Q (Err e) f h = tt

module _ {A : Type 0} (old mid new : State) (r : Result A Error) (IsAnswer : Finding A) where
  -- a read after a call that left the connection open
  pub reads_after : Quiet old mid → (HasCleanDisk mid → IsTrue mid.is_open) → (HasCleanDisk mid → NoStop old mid) → Finds mid new r IsAnswer
      → HasRead old new r IsAnswer
  reads_after quiet live still found = record {
    quiet = quiet_on old mid new quiet found.quiet;
    up = found.up;
    stops = λ k stands db left.
        let m = found.quiet.clean k in
        let held = stands (quiet.was_open m (live m)) in
        still m db (found.stops k held.0 (quiet.same m held.0 held.1 (live m)) db left);
    value = λ k.
        let m = found.quiet.clean k in
        ok_map (λ a. (c : Content) → HoldsContent mid c → IsAnswer c a) (λ a. (c : Content) → HoldsContent old c → IsAnswer c a) r
        (λ a h c held. h c (quiet.same m c held (live m))) (found.answer k);
  }

-- no read, where the connection doesn't work
pub reads_not : {A : Type 0} (old new : State) (e : Error) (IsAnswer : Finding A) → Quiet old new → (HasCleanDisk new → NoStop old new)
    → HasRead old new (Err e) IsAnswer
reads_not old new e IsAnswer quiet still = record { quiet = quiet; up = λ k. tt; stops = λ k stands. still k; value = λ k. tt }

-- the answer of a read is used for the next result
pub reads_on : {A B : Type 0} (old new : State) (a : A) (r : Result B Error) (P : Finding A) (Q : Finding B) → HasRead old new (Ok a) P
    → IfOk r (λ (b : B). (c : Content) → P c a → Q c b) → HasRead old new r Q
reads_on old new a (Ok b) P Q h on = record { quiet = h.quiet; up = h.up; stops = h.stops; value = λ k c held. on c (h.value k c held) }
reads_on old new a (Err e) P Q h on = record { quiet = h.quiet; up = λ k. tt; stops = h.stops; value = λ k. tt }

pub reads_fail : {A B : Type 0} (old new : State) (e : Error) (P : Finding A) (Q : Finding B) → HasRead old new (Err e) P
    → HasRead old new (Err e) Q
reads_fail old new e P Q h = record { quiet = h.quiet; up = λ k. tt; stops = h.stops; value = λ k. tt }

-- its finding says the more
pub reads_as : {A : Type 0} (old new : State) (r : Result A Error) (P Q : Content → A → Type 0) → ((c : Content) (a : A) → P c a → Q c a) → HasRead old new r P
    → HasRead old new r Q
reads_as old new r P Q so h = record {
  quiet = h.quiet;
  up = h.up;
  stops = h.stops;
  value =
      λ k. ok_map (λ a. (c : Content) → HoldsContent old c → P c a) (λ a. (c : Content) → HoldsContent old c → Q c a) r (λ a p c held. so c a (p c held))
      (h.value k);
}

-- the counters that are held count as those of the database
pub reads_held : (old new : State) (meta : Meta) → Quiet old new → (HasCleanDisk new → IsTrue new.is_open) → (HasCleanDisk new → NoStop old new)
    → HasRead old new (Ok meta) (λ c found. AreCounters (Some meta) c → found ≡ meta_of c.rows)
reads_held old new meta quiet live still = record { quiet = quiet; up = live; stops = λ k stands. still k; value = λ k c held of. of }

-- a commit of changes counts from the counters that are held, or that are read
abbrev pub Counts : Option Meta → List Change → ℕ → Kept → Content → (ℕ × Meta) → Type 0
Counts held changes events kept c found = AreCounters held c → found ≡ counters_of changes events kept c

pub reads_counters : (old new : State) (held : Option Meta) (meta : Meta) (r : Result (ℕ × Meta) Error) (changes : List Change) (events : ℕ) (kept : Kept)
    → HasRead old new (Ok meta) (λ c found. AreCounters held c → found ≡ meta_of c.rows)
    → IfOk r (λ next. next ≡ (meta.last_call, meta_after meta changes events kept)) → HasRead old new r (Counts held changes events kept)
reads_counters old new held meta r changes events kept h is =
    reads_on old new meta r (λ c found. AreCounters held c → found ≡ meta_of c.rows) (Counts held changes events kept) h
    (ok_map (λ (next : ℕ × Meta). next ≡ (meta.last_call, meta_after meta changes events kept))
    (λ (next : ℕ × Meta). (c : Content) → (AreCounters held c → meta ≡ meta_of c.rows) → Counts held changes events kept c next) r
    (λ next e c same of. e ∙ ap (λ (m : Meta). (m.last_call, meta_after m changes events kept)) (same of)) is)

-- ---- commits

-- a commit of what makes this of a content
pub record CommitsAs (old new : State) (r : Result (Unit {0}) Error) (made : Content → Content) : Type 0 where
  pub clean : HasCleanDisk new → HasCleanDisk old
  pub up : HasCleanDisk new → OnOk r (IsTrue old.is_open × IsTrue new.is_open)
  pub was : HasCleanDisk new → IsTrue new.is_open → IsTrue old.is_open
  pub done : HasCleanDisk new → OnOk r ((c : Content) → HoldsContent old c → HoldsContent new (made c))
  pub undone : HasCleanDisk new → OnErr r ((c : Content) → HoldsContent old c → IsTrue new.is_open → HoldsContent new c)
  pub stops : HasCleanDisk new → AddsStop old new made

-- nothing was written
pub commits_not : {A : Type 0} (old new : State) (e : Error) (P : Finding A) (after : Content → Content) → HasRead old new (Err e) P
    → HasCommitted old new (Err e) after
commits_not old new e P after h = record {
  clean = h.quiet.clean;
  up = λ k. tt;
  was_open = h.quiet.was_open;
  made = λ k. tt;
  undone = h.quiet.same;
  stops = λ k stands db left. inl (h.stops k stands db left);
}

module _ (old mid new : State) (r : Result (Unit {0}) Error) (made after : Content → Content) where
  same_made : (IsTrue mid.is_open) → Quiet old mid → HasCleanDisk mid → ((c : Content) → HoldsContent old c → made c ≡ after c)
      → OnOk r ((c : Content) → HoldsContent mid c → HoldsContent new (made c)) → OnOk r ((c : Content) → HoldsContent old c → HoldsContent new (after c))
  same_made live quiet m same done = go r done
    where
      go : (r : Result (Unit {0}) Error) → OnOk r ((c : Content) → HoldsContent mid c → HoldsContent new (made c))
          → OnOk r ((c : Content) → HoldsContent old c → HoldsContent new (after c))
      go (Ok x) h = λ (c : Content) (held : HoldsContent old c). subst (HoldsContent new) (same c held) (h c (quiet.same m c held live))
      go (Err e) h = tt

  same_undone : (IsTrue mid.is_open) → Quiet old mid → HasCleanDisk mid
      → OnErr r ((c : Content) → HoldsContent mid c → IsTrue new.is_open → HoldsContent new c)
      → OnErr r ((c : Content) → HoldsContent old c → IsTrue new.is_open → HoldsContent new c)
  same_undone live quiet m undone = go r undone
    where
      go : (r : Result (Unit {0}) Error) → OnErr r ((c : Content) → HoldsContent mid c → IsTrue new.is_open → HoldsContent new c)
          → OnErr r ((c : Content) → HoldsContent old c → IsTrue new.is_open → HoldsContent new c)
      go (Ok x) h = tt
      go (Err e) h = λ (c : Content) (held : HoldsContent old c) (up : IsTrue new.is_open). h c (quiet.same m c held live) up

  both_open : IsTrue old.is_open → OnOk r (IsTrue mid.is_open × IsTrue new.is_open) → OnOk r (IsTrue old.is_open × IsTrue new.is_open)
  both_open was up = go r up
    where
      go : (r : Result (Unit {0}) Error) → OnOk r (IsTrue mid.is_open × IsTrue new.is_open) → OnOk r (IsTrue old.is_open × IsTrue new.is_open)
      go (Ok x) h = (was, h.1)
      go (Err e) h = tt

  -- a commit after a read that succeeded
  pub commits_after : {A : Type 0} (a : A) (P : Finding A) → HasRead old mid (Ok a) P → ((c : Content) → P c a → made c ≡ after c)
      → CommitsAs mid new r made → HasCommitted old new r after
  commits_after a P read same h = record {
    clean = λ k. read.quiet.clean (h.clean k);
    up = λ k. both_open (read.quiet.was_open (h.clean k) (read.up (h.clean k))) (h.up k);
    was_open = λ k live. read.quiet.was_open (h.clean k) (h.was k live);
    made = λ k. same_made (read.up (h.clean k)) read.quiet (h.clean k) (λ c held. same c (read.value (h.clean k) c held)) (h.done k);
    undone = λ k. same_undone (read.up (h.clean k)) read.quiet (h.clean k) (h.undone k);
    stops = λ k stands db left.
        let m = h.clean k in
        let live = read.up m in
        elim (h.stops k db left) [
          | inl was ↦ inl (read.stops m stands db was)
          | inr new ↦ inr (read.quiet.was_open m live, λ c held. subst (IsBook db) (same c (read.value m c held)) (new c (read.quiet.same m c held live)))
        ];
  }

-- nothing was written
pub replaces_none : {A : Type 0} (old new : State) (e : Error) (P : Finding A) (Follows : Content → Type 0) (after : Content → Content)
    → HasRead old new (Err e) P → HasReplaced old new (Err e) Follows after
replaces_none old new e P Follows after h = record { written = after; commits = commits_not old new e P after h; same = λ k c held follows. refl }

-- nor was the connection asked
pub replaces_unasked : (s : State) (e : Error) (r : Result (Unit {0}) Error) (Follows : Content → Type 0) (after : Content → Content) → r ≡ Err e
    → HasReplaced s s r Follows after
replaces_unasked s e r Follows after is =
    subst (λ r. HasReplaced s s r Follows after) (sym is)
    (replaces_none s s e (λ c (found : Meta). found ≡ meta_of c.rows) Follows after
    (reads_not s s e (λ c (found : Meta). found ≡ meta_of c.rows) (quiet_still s) (λ k db left. left)))

pub commits_counted : (old mid new : State) (r : Result (Unit {0}) Error) (held : Option Meta) (last : ℕ) (next : Meta) (changes : List Change)
    (events : List Event) (kept : Kept)
    → HasRead {A = ℕ × Meta} old mid (Ok (last, next)) (Counts held changes (length events) kept)
    → CommitsAs mid new r (made_by changes events kept next) → HasReplaced old new r (AreCounters held) (written_by changes events kept)
commits_counted old mid new r held last next changes events kept read h =
    let written : Content → Content = made_by changes events kept next in
    record {
      written = written;
      commits = commits_after old mid new r written written (last, next) (Counts held changes (length events) kept) read (λ c counts. refl) h;
      same = λ k c holds of. ap (λ (p : ℕ × Meta). made_by changes events kept p.1 c) (read.value (h.clean k) c holds of);
    }

-- what it wrote is held after it
pub holds_counted : (r : Result (Unit {0}) Error) (held now : Option Meta) (next : Meta) (changes : List Change) (events : List Event) (kept : Kept)
    (c : Content)
    → OnOk r (now ≡ Some next)
    → next ≡ meta_after (meta_of c.rows) changes (length events) kept → OnOk r (AreCounters now (written_by changes events kept c))
holds_counted (Ok x) held now next changes events kept c is counts =
    subst (λ (o : Option Meta). AreCounters o (written_by changes events kept c)) (sym is) counts
holds_counted (Err e) held now next changes events kept c is counts = tt

-- two reads, one after the other, where the first one's answer is of use to what the second asks
pub reads_two : {A B : Type 0} (old mid new : State) (a : A) (r : Result B Error) (P : Finding A) (Q W : Content → B → Type 0)
    → HasRead old mid (Ok a) P → FindsBoth P a Q W → HasRead mid new r Q → HasRead old new r W
reads_two old mid new a r P Q W first both second = record {
  quiet = quiet_on old mid new first.quiet second.quiet;
  up = second.up;
  stops = λ k stands db left.
      let m = second.quiet.clean k in
      first.stops m stands db (second.stops k (λ up. let held = stands (first.quiet.was_open m up) in (held.0, first.quiet.same m held.0 held.1 up)) db left);
  value = λ k.
      let m = second.quiet.clean k in
      ok_map (λ b. (c : Content) → HoldsContent mid c → Q c b) (λ b. (c : Content) → HoldsContent old c → W c b) r
      (λ b h c held. both c b (first.value m c held) (h c (first.quiet.same m c held (first.up m)))) (second.value k);
}
