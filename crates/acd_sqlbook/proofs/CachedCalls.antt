-- Calls over a book with what is remembered of it.
use Rattle.std.proofs.Common.{◌≡◌, inl, inr, List, [], Option, None, Some, Result, Ok, Err, IsTrue, IfOk, OnOk, OnErr, sym, ap, subst, ◌∙◌}
use Rattle.acd_terms.specs.declared.event.Event.{Event}
use Rattle.acd_book.specs.Content.{Content}
use Rattle.acd_book.specs.State.{BookState, BookStep, Reads, Commits}
use Rattle.acd_book.specs.declared.fault.BookFault.{BookFault}
use Rattle.acd_sqlbook.specs.EventIndex.{IsIndexOf, IsIndexAfter}
use Rattle.acd_sqlbook.specs.Caches.{AreOf, IsBlank, SoundWith, followed}
use Rattle.sqlite.specs.declared.error.Error.{Error}
use Rattle.sqlite.specs.State.{State, HasCleanDisk}
use Rattle.acd_model.specs.declared.moves.Change.{Change}
use Rattle.acd_book.specs.declared.kept.Kept.{Kept}
use Rattle.acd_sql_columns.specs.Transactions.{HoldsContent, IsBook}
use Rattle.acd_sql_columns.specs.InTables.{content_of}
use Rattle.acd_sql_columns.specs.declared.meta.Meta.{Meta}
use Rattle.acd_sqlbook.specs.Calls.{HasCommitted, HasReplaced}
use Rattle.acd_sqlbook.specs.Counters.{AreCounters}
use Rattle.acd_sqlbook.specs.Commit.{written_by}
use Rattle.acd_sqlbook.specs.State.{IsSoundState}
use Rattle.acd_sqlbook.proofs.BookStates.{held_is}
use Rattle.acd_sqlbook.proofs.CommitWrites.{written_events}
use Rattle.acd_sqlbook.proofs.RecordsReadAhead.{none_ahead}
use Rattle.acd_sqlbook.specs.declared.index.Index.{Index}
use Rattle.acd_sqlbook.specs.declared.cache.Cache.{Cache}

-- one content is the other
here : (n : Cache) (c d : Content) → c ≡ d → AreOf n d → AreOf n c
here n c d same = subst (AreOf n) (sym same)

-- where nothing is remembered
pub blank_of : (n : Cache) → IsBlank n → (c : Content) → AreOf n c
blank_of n is c = record {
  index = subst (λ (o : Option Index). IsIndexOf o c.events) (sym is.index) tt;
  ahead = none_ahead n.ahead c.kept is.ahead;
  counters = subst (λ (o : Option Meta). AreCounters o c) (sym is.counters) tt;
}

-- a step of the book is one of it with what was remembered
step_with : {F : Type 0} (old_cache new_cache : Cache) (old new : BookState) → BookStep F old new
    → (new.is_clean → old.is_sound → (old.is_open → AreOf old_cache old.content) → new.is_open → AreOf new_cache new.content)
    → BookStep F (followed old_cache old) (followed new_cache new)
step_with old_cache new_cache old new step goes = record {
  clean = step.clean;
  sound = λ k w. (step.sound k w.0, goes k w.0 w.1);
  quiet = step.quiet;
  counts = step.counts;
}

on : {A P Q : Type 0} (r : Result A BookFault) → (P → Q) → OnOk r P → OnOk r Q
on (Ok a) f p = f p
on (Err e) f p = tt

-- A read, where what is remembered before it and after it is of what is held. Its answer may rest on what was remembered.
module _ {A : Type 0} (old_cache new_cache : Cache) (old new : BookState) (r : Result A BookFault) (IsFound IsAnswer : Content → A → Type 0) where
  found_with : (r : Result A BookFault) → (old.is_open → AreOf old_cache old.content) → ((c : Content) (a : A) → AreOf old_cache c → IsFound c a → IsAnswer c a)
      → IfOk r (λ a. old.is_open × IsFound old.content a) → IfOk r (λ a. old.is_open × IsAnswer old.content a)
  found_with (Ok a) cached answers p = (p.0, answers old.content a (cached p.0) p.1)
  found_with (Err e) cached answers p = tt

  pub reads_followed : (new.is_clean → old.is_sound → old.is_open → AreOf old_cache old.content → AreOf new_cache old.content)
      → ((c : Content) (a : A) → AreOf old_cache c → IsFound c a → IsAnswer c a)
      → Reads old new r IsFound → Reads (followed old_cache old) (followed new_cache new) r IsAnswer
  reads_followed goes answers h = record {
    step =
        step_with old_cache new_cache old new h.step
        (λ k s cached up. let same = h.unchanged.same k s up in here new_cache new.content old.content same.1 (goes k s same.0 (cached same.0)));
    unchanged = record { same = λ k w. h.unchanged.same k w.0; stops = λ k w. h.unchanged.stops k w.0 };
    value = λ k w. found_with r w.1 answers (h.value k w.0);
    stays = on r (λ (f : new.is_clean → old.is_sound → new.is_open). λ (k : new.is_clean) (w : SoundWith old_cache old). f k w.0) h.stays;
    keeps = λ k w. h.keeps k w.0;
    cause = h.cause;
  }

-- what is remembered after a read is of what is held, where what was remembered before is
pub read_goes : (old_cache new_cache : Cache) (old new : State)
    → (HasCleanDisk new → (c : Content) → HoldsContent old c → AreOf old_cache c → AreOf new_cache c)
    → HasCleanDisk new → IsSoundState old → IsTrue old.is_open → AreOf old_cache (content_of old.committed.trees)
    → AreOf new_cache (content_of old.committed.trees)
read_goes old_cache new_cache old new goes k sound up cached =
    let held = sound.stands up in
    let same = held_is old held.0 held.1 in
    here new_cache (content_of old.committed.trees) held.0 same
    (goes k held.0 held.1 (here old_cache held.0 (content_of old.committed.trees) (sym same) cached))

-- a read that leaves what was remembered as it was
pub reads_kept : {A : Type 0} (n : Cache) (old new : BookState) (r : Result A BookFault) (IsAnswer : Content → A → Type 0) → Reads old new r IsAnswer
    → Reads (followed n old) (followed n new) r IsAnswer
reads_kept n old new r IsAnswer = reads_followed n n old new r IsAnswer IsAnswer (λ k s up of. of) (λ c a of p. p)

abbrev pub KeepsCache : Cache → Cache → BookState → BookState → Type 0
KeepsCache old_cache new_cache old new =
    new.is_clean → old.is_sound → new.is_open → (old.is_open → AreOf old_cache old.content) → AreOf new_cache new.content

-- A commit. What is remembered after it is of what it made or, where it failed, of what was held.
pub commits_followed : (old_cache new_cache : Cache) (old new : BookState) (r : Result (Unit {0}) BookFault) (Follows : Content → Type 0)
    (after : Content → Content)
    → KeepsCache old_cache new_cache old new → Commits old new r Follows after → Commits (followed old_cache old) (followed new_cache new) r Follows after
commits_followed old_cache new_cache old new r Follows after goes h = record {
  step = step_with old_cache new_cache old new h.step (λ k s cached up. goes k s up cached);
  opened = λ k w. h.opened k w.0;
  made = λ k w. h.made k w.0;
  undone = λ k w. h.undone k w.0;
  stops = λ k w. h.stops k w.0;
  cause = h.cause;
}

-- The same, where what it makes rests on what was remembered before.
module _ (old_cache new_cache : Cache) (old new : BookState) (r : Result (Unit {0}) BookFault) (P Follows : Content → Type 0) (after : Content → Content)
    (cached : (c : Content) → AreOf old_cache c → P c) where
  made_with : (r : Result (Unit {0}) BookFault) (Q : Type 0) → OnOk r (old.is_open × new.is_open) → (old.is_open → OnOk r Q) → OnOk r Q
  made_with (Ok x) Q up made = made up.0
  made_with (Err e) Q up made = tt

  pub commits_resting : KeepsCache old_cache new_cache old new
      → Commits old new r (λ c. P c × Follows c) after → Commits (followed old_cache old) (followed new_cache new) r Follows after
  commits_resting goes h = record {
    step = step_with old_cache new_cache old new h.step (λ k s of up. goes k s up of);
    opened = λ k w. h.opened k w.0;
    made = λ k w follows. made_with r (new.content ≡ after old.content) (h.opened k w.0) (λ up. h.made k w.0 (cached old.content (w.1 up), follows));
    undone = λ k w. h.undone k w.0;
    stops = λ k w c stop. elim (h.stops k w.0 c stop) [ inl was ↦ inl was | inr is ↦ inr (is.0, λ follows. is.1 (cached old.content (w.1 is.0), follows)) ];
    cause = h.cause;
  }

-- a commit that makes `after` of a content where this holds of it, over a connection of whose content it holds
module _ (old new : State) (P : Content → Type 0) (after : Content → Content) (holds : IsTrue old.is_open → P (content_of old.committed.trees)) where
  held_so : (c : Content) → HoldsContent old c → P c
  held_so c held = subst P (held_is old c held) (holds held.is_open)

  made_so : (r : Result (Unit {0}) Error) (h : HasReplaced old new r P after) → HasCleanDisk new
      → OnOk r ((c : Content) → HoldsContent old c → HoldsContent new (h.written c))
      → OnOk r ((c : Content) → HoldsContent old c → HoldsContent new (after c))
  made_so (Ok x) h k made = λ (c : Content) (held : HoldsContent old c). subst (HoldsContent new) (h.same k c held (held_so c held)) (made c held)
  made_so (Err e) h k made = tt

  pub replaces_so : (r : Result (Unit {0}) Error) → HasReplaced old new r P after → HasCommitted old new r after
  replaces_so r h = record {
    clean = h.commits.clean;
    up = h.commits.up;
    was_open = h.commits.was_open;
    made = λ k. made_so r h k (h.commits.made k);
    undone = h.commits.undone;
    stops = λ k shows db left. elim (h.commits.stops k shows db left) [
      | inl was ↦ inl was
      | inr is ↦ inr (is.0, λ c held. subst (IsBook db) (h.same k c held (held_so c held)) (is.1 c held))
    ];
  }

-- the index after a commit of changes is of the events that it leaves
index_goes : (old_index new_index : Option Index) (old new : State) (r : Result (Unit {0}) Error) (changes : List Change) (events : List Event) (kept : Kept)
    → IsIndexAfter old_index r events new_index
    → HasCommitted old new r (written_by changes events kept) → HasCleanDisk new → IsSoundState old → IsTrue new.is_open
    → (IsTrue old.is_open → IsIndexOf old_index (content_of old.committed.trees).events)
    → IsIndexOf new_index (content_of new.committed.trees).events
index_goes old_index None old new r changes events kept on h k sound up cached = tt
index_goes old_index (Some next) old new (Err e) changes events kept on h k sound up cached = absurd (let apart = on.0 in cc)
index_goes old_index (Some next) old new (Ok a) changes events kept on h k sound up cached =
    let was = h.was_open k up in
    let held = sound.stands was in
    let i = on.1.0 in
    let goes = on.1.2 in
    let of_old = subst (λ (o : Option Index). IsIndexOf o (content_of old.committed.trees).events) on.1.1 (cached was) in
    let of_held = subst (λ (c : Content). IsIndexOf (Some i) c.events) (held_is old held.0 held.1) of_old in
    let made = held_is new (written_by changes events kept held.0) (h.made k held.0 held.1) in
    subst (λ (l : List Event). IsIndexOf (Some next) l)
    (sym (ap (λ (c : Content). c.events) made ∙ written_events changes events kept held.0 i.last goes.rise of_held.last))
    (goes.of_both held.0.events of_held)

-- the new counters are held
counters_go : (held : Option Meta) (old new : State) (r : Result (Unit {0}) Error) (after : Content → Content) → OnErr r (held ≡ None)
    → (HasCleanDisk new → (c : Content) → HoldsContent old c → OnOk r (AreCounters held (after c)))
    → HasCommitted old new r after → HasCleanDisk new → IsSoundState old → IsTrue new.is_open → AreCounters held (content_of new.committed.trees)
counters_go held old new (Ok x) after none counts h k sound up =
    let there = sound.stands (h.was_open k up) in
    subst (AreCounters held) (sym (held_is new (after there.0) (h.made k there.0 there.1))) (counts k there.0 there.1)
counters_go held old new (Err e) after none counts h k sound up = subst (λ (o : Option Meta). AreCounters o (content_of new.committed.trees)) (sym none) tt

-- what is remembered goes from what was held to what is
abbrev pub KeepsCacheIn : Cache → Cache → State → State → Type 0
KeepsCacheIn old_cache new_cache old new =
    HasCleanDisk new → IsSoundState old → IsTrue new.is_open → (IsTrue old.is_open → AreOf old_cache (content_of old.committed.trees))
    → AreOf new_cache (content_of new.committed.trees)

-- the new counters are those of what is made of each content
abbrev pub CountsAfter : Cache → Cache → State → State → Result (Unit {0}) Error → (Content → Content) → Type 0
CountsAfter old_cache new_cache old new r after =
    HasCleanDisk new → (c : Content) → HoldsContent old c → AreCounters old_cache.counters c → OnOk r (AreCounters new_cache.counters (after c))

-- and nothing is read ahead any more
pub changes_goes : (old_cache new_cache : Cache) (old new : State) (r : Result (Unit {0}) Error) (changes : List Change) (events : List Event) (kept : Kept)
    → IsIndexAfter old_cache.index r events new_cache.index → new_cache.ahead.records.items ≡ [] → OnErr r (new_cache.counters ≡ None)
    → CountsAfter old_cache new_cache old new r (written_by changes events kept)
    → HasReplaced old new r (AreCounters old_cache.counters) (written_by changes events kept)
    → KeepsCacheIn old_cache new_cache old new
changes_goes old_cache new_cache old new r changes events kept on none dropped counts h k sound up cached =
    let held : IsTrue old.is_open → AreCounters old_cache.counters (content_of old.committed.trees) = λ live. (cached live).counters in
    let so = replaces_so old new (AreCounters old_cache.counters) (written_by changes events kept) held r h in
    record {
      index = index_goes old_cache.index new_cache.index old new r changes events kept on so k sound up (λ live. (cached live).index);
      ahead = none_ahead new_cache.ahead (content_of new.committed.trees).kept none;
      counters = counters_go new_cache.counters old new r (written_by changes events kept) dropped
          (λ k c there. counts k c there (subst (AreCounters old_cache.counters) (held_is old c there) (held there.is_open))) so k sound up;
    }
