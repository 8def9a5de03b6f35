-- A call over a connection: what it leaves of the book.
use Rattle.std.proofs.Common.{◌≡◌, ◌⊎◌, inl, inr, ℕ, ◌+◌, ◌-◌, ◌^◌, ◌≤◌, min, nat_lt, List, Option, Result, Ok, Err, IsTrue, IfOk, OnOk, OnErr, IsErrOf, refl, sym, ap, subst, subst₂, ◌∙◌, arith}
use Rattle.std.proofs.lemmas.Bool.{cases_Bool}
use Rattle.std.proofs.lemmas.Bool.Decides.{nat_tests}
use Rattle.sqlite_trees.specs.Tree.{Trees}
use Rattle.sqlite.specs.declared.error.Error.{Error}
use Rattle.sqlite.specs.State.{State, HasCleanDisk}
use Rattle.acd_terms.specs.declared.rows.Limits.{Limits}
use Rattle.acd_terms.specs.declared.rows.Rows.{Rows}
use Rattle.acd_terms.specs.declared.event.Event.{Event}
use Rattle.acd_model.specs.declared.moves.Change.{Change}
use Rattle.acd_book.proofs.ReadsInTurn.{Finding}
use Rattle.acd_book.specs.declared.kept.Kept.{Kept}
use Rattle.acd_book.specs.Content.{Content, HasRisen, empty_content, Follows, committed, FollowsBy, committed_by}
use Rattle.acd_book.specs.State.{Reads, Commits}
use Rattle.acd_book.specs.declared.fault.BookFault.{BookFault}
use Rattle.acd_book.specs.declared.fault.BookFault.TheVariants.{NoMemory, Store}
use Rattle.acd_sqlbook.specs.Commit.{written_by}
use Rattle.acd_sql_columns.specs.Relations.{meta_of}
use Rattle.acd_sql_columns.specs.InTables.{content_of}
use Rattle.acd_sqlbook.specs.Calls.{HasRead, HasCommitted, HasReplaced}
use Rattle.acd_sqlbook.specs.Counters.{AreCounters}
use Rattle.acd_sql_columns.specs.declared.meta.Meta.{Meta}
use Rattle.acd_sql_columns.specs.Transactions.{HoldsContent, IsBook}
use Rattle.acd_sqlbook.specs.State.{IsSoundState, IsNewBook, book_state, book_result, failures_after}
use Rattle.acd_sqlbook.proofs.CommitWrites.{commit_is}
use Rattle.acd_sql_columns.proofs.Rows.RowsOfRecords.{decoded}
use Rattle.acd_sql_columns.proofs.Writes.TransactionEnds.{is_book}

-- ---- the laws of a store, of its state

-- while it is open, a crash leaves the last commit
abbrev pub Settles : State → Type 0
Settles s = (db : Trees) → IsTrue s.is_open → s.may_leave db → db ≡ s.committed.trees

abbrev pub Stays : State → Type 0
Stays s = IsTrue s.is_open → s.may_leave s.committed.trees

-- ---- the count

at_most : (n : ℕ) → HasRisen n (min (n + 1) (2 ^ 64 - 1))
at_most n = elim (cases_Bool (nat_lt n (2 ^ 64 - 1))) [ inl below ↦ inl (grind (arith, nat_tests)) | inr over ↦ inr (grind (arith, nat_tests)) ]

risen : {A : Type 0} (r : Result A BookFault) (n : ℕ) → IsErrOf r Store → HasRisen n (failures_after r n)
risen (Ok a) n h = absurd (let e = h in cc)
risen (Err NoMemory) n h = absurd (let e = h in cc)
risen (Err Store) n h = at_most n

quiet_count : {A : Type 0} (r : Result A BookFault) (n : ℕ) → ¬ (IsErrOf r Store) → failures_after r n ≡ n
quiet_count (Ok a) n h = refl
quiet_count (Err NoMemory) n h = refl
quiet_count (Err Store) n h = absurd (h refl)

-- ---- answers

ok_kept : {A : Type 0} (P Q : A → Type 0) (r : Result A Error) → ((a : A) → P a → Q a) → IfOk r P → IfOk (book_result r) Q
ok_kept P Q (Ok a) f h = f a h
ok_kept P Q (Err e) f h = tt

open_then : {A : Type 0} (P : A → Type 0) (Q : Type 0) (r : Result A Error) → OnOk r Q → IfOk r P → IfOk r (λ a. Q × P a)
open_then P Q (Ok a) up h = (up, h)
open_then P Q (Err e) up h = tt

ok_imply : {A : Type 0} (P Q : Type 0) (r : Result A Error) → (P → OnOk r Q) → OnOk (book_result r) (P → Q)
ok_imply P Q (Ok a) h = h
ok_imply P Q (Err e) h = tt

pub held_is : (s : State) (c : Content) → HoldsContent s c → content_of s.committed.trees ≡ c
held_is s c held = decoded s.committed.trees c held.encodes

module _ {A : Type 0} (old new : State) (failures : ℕ) (r : Result A Error) (IsAnswer : Finding A) where
  same_content : HasRead old new r IsAnswer → HasCleanDisk new → IsSoundState old → IsTrue new.is_open
      → IsTrue old.is_open × (content_of new.committed.trees ≡ content_of old.committed.trees)
  same_content h k sound up =
      let was = h.quiet.was_open k up in
      let held = sound.stands was in
      (was, held_is new held.0 (h.quiet.same k held.0 held.1 up) ∙ sym (held_is old held.0 held.1))

  read_value : HasRead old new r IsAnswer → HasCleanDisk new → IsSoundState old
      → IfOk (book_result r) (λ a. IsTrue old.is_open × IsAnswer (content_of old.committed.trees) a)
  read_value h k sound =
      ok_kept (λ a. IsTrue new.is_open × ((c : Content) → HoldsContent old c → IsAnswer c a))
      (λ a. IsTrue old.is_open × IsAnswer (content_of old.committed.trees) a) r
      (λ a p. let was = h.quiet.was_open k p.0 in let held = sound.stands was in
      (was, subst (λ c. IsAnswer c a) (sym (held_is old held.0 held.1)) (p.1 held.0 held.1)))
      (open_then (λ a. (c : Content) → HoldsContent old c → IsAnswer c a) (IsTrue new.is_open) r (h.up k) (h.value k))

  still_sound : HasRead old new r IsAnswer → HasCleanDisk new → IsSoundState old → IsSoundState new
  still_sound h k sound = record {
    stands = λ up. let held = sound.stands (h.quiet.was_open k up) in (held.0, h.quiet.same k held.0 held.1 up);
    left = λ db left. sound.left db (h.stops k sound.stands db left);
  }

  pub reads : failures ≤ failures_after (book_result r) failures → Settles old → Stays new → HasRead old new r IsAnswer
      → Reads (book_state old failures) (book_state new (failures_after (book_result r) failures)) (book_result r) IsAnswer
  reads low settles stays h = record {
    step = record { clean = h.quiet.clean; sound = still_sound h; quiet = quiet_count (book_result r) failures; counts = low };
    unchanged = record { same = same_content h; stops = λ k sound c stop. (stop.0, h.stops k sound.stands stop.0 stop.1, stop.2) };
    value = read_value h;
    stays = ok_imply (HasCleanDisk new) (IsSoundState old → IsTrue new.is_open) r (λ k. on_up k r (h.up k));
    keeps = λ k sound up c stop.
        let same = same_content h k sound up in
        (new.committed.trees, stays up, stop.2 ∙ ap content_of (settles stop.0 same.0 stop.1) ∙ sym same.1);
    cause = risen (book_result r) failures;
  }
    where
      on_up : HasCleanDisk new → (r : Result A Error) → OnOk r (IsTrue new.is_open) → OnOk r (IsSoundState old → IsTrue new.is_open)
      on_up k (Ok a) up = λ (sound : IsSoundState old). up
      on_up k (Err e) up = tt

module _ (old new : State) (failures : ℕ) (r : Result (Unit {0}) Error) (written after : Content → Content) (Follows : Content → Type 0)
    (is : HasCleanDisk new → (c : Content) → HoldsContent old c → Follows c → written c ≡ after c) where
  was_open : HasCommitted old new r written → HasCleanDisk new → IsSoundState old → IsTrue new.is_open → (c : Content) × HoldsContent old c
  was_open h k sound up = sound.stands (h.was_open k up)

  content_after : (r : Result (Unit {0}) Error) → (c : Content) → HoldsContent old c → IsTrue new.is_open
      → OnOk r ((c : Content) → HoldsContent old c → HoldsContent new (written c))
      → OnErr r ((c : Content) → HoldsContent old c → IsTrue new.is_open → HoldsContent new c) → (c : Content) × HoldsContent new c
  content_after (Ok a) c held up made undone = (written c, made c held)
  content_after (Err e) c held up made undone = (c, undone c held up)

  added : HasCommitted old new r written → HasCleanDisk new → IsSoundState old → (db : Trees) → new.may_leave db
      → old.may_leave db ⊎ (IsTrue old.is_open × ((c : Content) → HoldsContent old c → IsBook db (written c)))
  added h k sound = h.stops k sound.stands

  sound_after : HasCommitted old new r written → HasCleanDisk new → IsSoundState old → IsSoundState new
  sound_after h k sound = record {
    stands = λ up. let held = was_open h k sound up in content_after r held.0 held.1 up (h.made k) (h.undone k);
    left = λ db left. elim (added h k sound db left) [
      | inl was ↦ sound.left db was
      | inr new ↦ let held = sound.stands new.0 in (written held.0, new.1 held.0 held.1)
    ];
  }

  followed : HasCleanDisk new → (c : Content) → HoldsContent old c → Follows (content_of old.committed.trees)
      → written c ≡ after (content_of old.committed.trees)
  followed k c held follows = let known = held_is old c held in is k c held (subst Follows known follows) ∙ ap after (sym known)

  made_after : HasCleanDisk new → (r : Result (Unit {0}) Error) → IsSoundState old → Follows (content_of old.committed.trees)
      → OnOk r (IsTrue old.is_open × IsTrue new.is_open)
      → OnOk r ((c : Content) → HoldsContent old c → HoldsContent new (written c))
      → OnOk (book_result r) (content_of new.committed.trees ≡ after (content_of old.committed.trees))
  made_after k (Ok a) sound follows up made = let held = sound.stands up.0 in
      held_is new (written held.0) (made held.0 held.1) ∙ followed k held.0 held.1 follows
  made_after k (Err e) sound follows up made = tt

  undone_after : (r : Result (Unit {0}) Error) → (c : Content) → HoldsContent old c → IsTrue new.is_open
      → OnErr r ((c : Content) → HoldsContent old c → IsTrue new.is_open → HoldsContent new c)
      → OnErr (book_result r) (IsTrue old.is_open × (content_of new.committed.trees ≡ content_of old.committed.trees))
  undone_after (Ok a) c held up undone = tt
  undone_after (Err e) c held up undone = (held.is_open, held_is new c (undone c held up) ∙ sym (held_is old c held))

  opened_after : (r : Result (Unit {0}) Error) → OnOk r (IsTrue old.is_open × IsTrue new.is_open) → OnOk (book_result r) (IsTrue old.is_open × IsTrue new.is_open)
  opened_after (Ok a) up = up
  opened_after (Err e) up = tt

  pub commits : failures ≤ failures_after (book_result r) failures → HasCommitted old new r written
      → Commits (book_state old failures) (book_state new (failures_after (book_result r) failures)) (book_result r) Follows after
  commits low h = record {
    step = record { clean = h.clean; sound = sound_after h; quiet = quiet_count (book_result r) failures; counts = low };
    opened = λ k sound. opened_after r (h.up k);
    made = λ k sound follows. made_after k r sound follows (h.up k) (h.made k);
    undone = λ k sound up. let held = was_open h k sound up in undone_after r held.0 held.1 up (h.undone k);
    stops = λ k sound c stop.
        elim (added h k sound stop.0 stop.1) [
          | inl was ↦ inl (stop.0, was, stop.2)
          | inr new ↦ let held = sound.stands new.0 in
              inr (new.0, λ follows. stop.2 ∙ decoded stop.0 (written held.0) (new.1 held.0 held.1).encodes ∙ followed k held.0 held.1 follows)
        ];
    cause = risen (book_result r) failures;
  }

-- ---- with the answer and the count as they are recorded

pub reads_recorded : {A : Type 0} (old new : State) (failures next : ℕ) (r : Result A Error) (answer : Result A BookFault) (IsAnswer : Finding A)
    → Settles old → Stays new
    → answer ≡ book_result r → next ≡ failures_after answer failures → failures ≤ next → HasRead old new r IsAnswer
    → Reads (book_state old failures) (book_state new next) answer IsAnswer
reads_recorded old new failures next r answer IsAnswer settles stays is count low h =
    let counted = count ∙ ap (λ a. failures_after a failures) is in
    subst₂ (λ n a. Reads (book_state old failures) (book_state new n) a IsAnswer) (sym counted) (sym is)
    (reads old new failures r IsAnswer (subst (λ n. failures ≤ n) counted low) settles stays h)

pub commits_recorded : (old new : State) (failures next : ℕ) (r : Result (Unit {0}) Error) (answer : Result (Unit {0}) BookFault)
    (Follows : Content → Type 0) (after : Content → Content)
    → answer ≡ book_result r → next ≡ failures_after answer failures → failures ≤ next → HasReplaced old new r Follows after
    → Commits (book_state old failures) (book_state new next) answer Follows after
commits_recorded old new failures next r answer Follows after is count low h =
    let counted = count ∙ ap (λ a. failures_after a failures) is in
    subst₂ (λ n a. Commits (book_state old failures) (book_state new n) a Follows after) (sym counted) (sym is)
    (commits old new failures r h.written after Follows h.same (subst (λ n. failures ≤ n) counted low) h.commits)

pub changes_recorded : (old new : State) (failures next : ℕ) (r : Result (Unit {0}) Error) (answer : Result (Unit {0}) BookFault) (held : Option Meta)
    (changes : List Change) (events : List Event) (kept : Kept)
    → answer ≡ book_result r → next ≡ failures_after answer failures → failures ≤ next → HasReplaced old new r (AreCounters held) (written_by changes events kept)
    → Commits (book_state old failures) (book_state new next) answer (λ c. AreCounters held c × FollowsBy changes events kept c)
    (committed_by changes events kept)
changes_recorded old new failures next r answer held changes events kept is count low h =
    commits_recorded old new failures next r answer (λ c. AreCounters held c × FollowsBy changes events kept c) (committed_by changes events kept)
    is count low (record {
      written = h.written;
      commits = h.commits;
      same = λ k c holds follows. h.same k c holds follows.0 ∙ commit_is changes events kept (meta_of c.rows) c refl follows.1;
    })

pub rows_recorded : (old new : State) (failures next : ℕ) (r : Result (Unit {0}) Error) (answer : Result (Unit {0}) BookFault) (rows : Rows)
    (events : List Event) (kept : Kept)
    → answer ≡ book_result r → next ≡ failures_after answer failures → failures ≤ next
    → HasReplaced old new r (Follows rows events kept) (committed rows events kept)
    → Commits (book_state old failures) (book_state new next) answer (Follows rows events kept) (committed rows events kept)
rows_recorded old new failures next r answer rows events kept is count low h =
    commits_recorded old new failures next r answer (Follows rows events kept) (committed rows events kept) is count low h

-- ---- a new book

pub new_book : (s : State) (failures : ℕ) (limits : Limits) → Settles s → Stays s → HoldsContent s (empty_content limits)
    → IsNewBook (book_state s failures) limits
new_book s failures limits settles stays held =
    let known = held_is s (empty_content limits) held in
    record {
      sound = record {
        stands = λ up. (empty_content limits, held);
        left = λ db left. (empty_content limits, is_book s (empty_content limits) db held (settles db held.is_open left));
      };
      live = held.is_open;
      content = known;
      stop = (s.committed.trees, stays held.is_open, sym known);
      only = λ c stop. stop.2 ∙ ap content_of (settles stop.0 held.is_open stop.1) ∙ known;
    }
