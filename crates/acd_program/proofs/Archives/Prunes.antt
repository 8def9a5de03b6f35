-- A prune: what it does and leaves, by what its audit, its search and its book left.
use Rattle.std.proofs.Common.{◌≡◌, inl, inr, ℕ, Bool, true, false, List, Option, Result, Ok, Err, IfOk, MatchResult, OnOk, refl, sym, ap, subst, ◌∙◌, true≢false}
use Rattle.std.specs.Bool.{⊤}
use Rattle.sqlite.specs.Held.{Held}
use Rattle.sqlite.specs.State.{State}
use Rattle.sqlite.specs.Files.{file_state}
use Rattle.sqlite_disk.specs.declared.Disk.{Ghosts}
use Rattle.sqlite_store.specs.declared.store.FileStore.{FileStore}
use Rattle.acd_book.specs.Content.{Content, IsCounted}
use Rattle.acd_book.specs.Order.{IsOrdered}
use Rattle.acd_book.specs.PrunedContent.{pruned}
use Rattle.acd_book.specs.State.{BookState, Commits, Reads}
use Rattle.acd_book.specs.declared.fault.BookFault.{BookFault}
use Rattle.acd_book.proofs.BookSteps.{step_so, step_then}
use Rattle.acd_desk.specs.Audits.AuditWith.{StandsInTime, HoldsArchive}
use Rattle.acd_book.specs.BookReads.{Anything, ReadsIfOpen}
use Rattle.acd_desk.specs.Contents.CarriedContent.{Archive, together}
use Rattle.acd_desk.specs.Desks.Opening.{Opened}
use Rattle.acd_desk.specs.Audits.Pairs.{BookCall}
use Rattle.acd_desk.specs.Contents.Pruning.{IsPlace}
use Rattle.acd_desk.specs.Reads.DeskReads.{ReadDone}
use Rattle.acd_desk.specs.Desks.DeskState.{DeskState}
use Rattle.acd_desk.specs.Contents.SoundContent.{IsSound}
use Rattle.acd_desk.proofs.Archives.CarriedPart.{counted_led, sound_is_led}
use Rattle.acd_desk.proofs.Archives.NewerRuns.{led_holds}
use Rattle.acd_desk.proofs.Archives.Pruning.{prune_loses_nothing, prune_stays_sound, prune_stays_sent_again}
use Rattle.acd_log.specs.declared.ending.Ending.{Ending}
use Rattle.acd_log.specs.declared.ending.Ending.TheVariants.{Plain, Early, Headless}
use Rattle.acd_sqlbook.specs.Caches.{followed}
use Rattle.acd_sqlbook.specs.State.{book_state}
use Rattle.acd_sqlbook.specs.declared.cache.Cache.{Cache}
use Rattle.acd_terms.proofs.Results.{ok_err}
use Rattle.acd_program.specs.declared.auditing.Finding.{Finding}
use Rattle.acd_program.specs.declared.auditing.Finding.TheVariants.{Sound, Counted, SentAgain, SentAgainCounted, Differs}
use Rattle.acd_program.specs.declared.outcome.Cut.{Cut}
use Rattle.acd_program.specs.declared.desk.Done.TheVariants as left
use Rattle.acd_program.specs.declared.fault.Fault.{Fault}
use Rattle.acd_program.specs.declared.fault.Fault.TheVariants as ended_by
use Rattle.acd_program.specs.declared.outcome.Pruning.{Pruning}
use Rattle.acd_program.specs.declared.outcome.Pruning.TheVariants as prune
use Rattle.acd_program.specs.declared.status.Status.{Status}
use Rattle.acd_files.specs.Connections.{IsShut, IsLaidIn, IsOpenedFrom}
use Rattle.acd_sessions.specs.Over.{OnlyAsked, LeavesBooks, OverConnection, Unserved}
use Rattle.acd_program.specs.Archives.Pruning.{is_well, goes_on, MayGoOn, IsPruningOf, IsPruningInOrder, DecidesPlace, IsPrunedTo, IsPruningDone, WasLeft, AskedBoth, IsDecision, WasDecided, CarriesOut, OnlyPruned, WasPruned, ArePlanned, BookPruned, BookLeft, LeavesPruned, LeftOver}
use Rattle.acd_sessions.specs.ConnectionBook.{IsHeldBook, IsTaken}
use Rattle.acd_files.specs.Logs.{IsSomeEnding}
use Rattle.acd_program.specs.Commands.Tasks.{PrunedWith}
use Rattle.acd_program.specs.Commands.TasksEnded.{PruneCut, LeftWithArchive}
use Rattle.acd_program.specs.Archives.WithArchive.{IsFindingWith, IsFindingInOrder, IsFoundWithArchive, BookAskedWithArchive, LeavesArchive, LeavesBeside, OverArchive, WasRead, WereAsked}
use Rattle.acd_program.specs.Commands.Work.{IsPrinted, WasAsked}
use Rattle.acd_program.proofs.Commands.BookReads.{asked_by, asked_of, asked_so}
use Rattle.acd_program.proofs.Archives.AuditsWithArchive.{archive_read, asked_clean, in_archive_so, plainly}
use Rattle.acd_sessions.proofs.Called.{called, leaves_books}
use Rattle.acd_program.proofs.Commands.SoundElsewhere.{asked_called}
use Rattle.acd_sessions.proofs.Over.{over_so, over_connection}
use Rattle.acd_program.proofs.Archives.ReadsOn.{left_alone, left_if, left_by, left_twice, only_if, only_then, only_was}

-- ---- what is to go ----

module _ (ending : Ending) (found : Finding) where
  pub decided_refused : (a b : BookState) → goes_on ending found ≡ false → WasDecided ending found a a b b (prune.Refused found ending)
  decided_refused a b out = record { archive = left_alone a; current = left_alone b; decision = λ clean sound opened stands. (refl, refl, out) }

  pub decided_nothing : {A B : Type 0} {P : Content → A → Type 0} (a m b d : BookState) (x : A) (y : B) → goes_on ending found ≡ true → Reads a m (Ok x) P → ReadsIfOpen {A = B} b d (Ok y) Anything
      → WasDecided ending found a m b d prune.Nothing
  decided_nothing {A = A} {B = B} a m b d x y goes one two = record { archive = left_by {A = A} a m x one; current = left_if {A = B} b d y two; decision = λ clean sound opened stands. goes }

  pub decided_cut : (a m n b d : BookState) (cut : Cut) (holds : Bool) → goes_on ending found ≡ true → WasLeft a m → WasLeft b d → Reads m n (Ok holds) (DecidesPlace cut.stamp cut.number) → holds ≡ true
      → WasDecided ending found a n b d (prune.UpTo cut)
  decided_cut a m n b d cut holds goes one two three is = record {
    archive = left_twice a m n one (left_by {A = Bool} m n holds three);
    current = two;
    decision = λ clean sound opened stands.
        let before = three.step.clean clean in
        let held = one.step.sound before sound in
        let same : m.content ≡ a.content = (one.unchanged.same before sound (one.stays before sound opened)).1 in
        let place : IsPlace m.content cut.stamp cut.number = ((three.value clean held).1 (subst StandsInTime (sym same) stands)).0 is in
        (goes, subst (λ (c : Content). IsPlace c cut.stamp cut.number) same place);
  }

-- ---- an audit, and then the search ----

pub audited_both : (old_archive new_archive old : BookState) (d e : DeskState) (found : Finding) → Opened old d → ReadDone d e (Ok found) Anything → ReadsIfOpen {A = Finding} old_archive new_archive (Ok found) Anything
    → IsFoundWithArchive old_archive new_archive d e (Ok found) → AskedBoth IsFindingInOrder old_archive new_archive old e.book found
audited_both old_archive new_archive old d e found o read archive finds = record {
  archive = left_if {A = Finding} old_archive new_archive found archive;
  current = asked_so old e.book found found (λ (c : Content) (y : Finding). (p : Archive) → IsSound (together p c) → Anything c y) Anything (λ c h. tt) (asked_by old d e found Anything o read);
  answer = λ clean sound current_clean current_sound opened stands ordered.
      let before = read.step.clean current_clean in
      let at = o.opened before current_sound in
      let a : Content = old_archive.content in
      subst (λ (c : Content). IsFindingWith a c found) at.2
      (plainly a d found (λ goes. o.in_step before current_sound (subst IsCounted at.2 (counted_led a d.book.content stands.counted goes)))
      (finds clean sound current_clean (o.step.sound before current_sound) opened at.1 stands (subst IsOrdered (sym at.2) ordered)));
}

-- a book that was asked was looked through
asked_then : {A C : Type 0} (old mid new : BookState) (x : A) (y : C) (P : Content → A → Type 0) → WasAsked old P x mid → WasLeft mid new → WasAsked old Anything y new
asked_then old mid new x y P asked read =
    let held : new.is_clean → old.is_sound → mid.is_sound = λ clean sound. asked.step.sound (read.step.clean clean) sound in
    let up : new.is_clean → old.is_sound → new.is_open = λ clean sound. read.stays clean (held clean sound) (asked.opened (read.step.clean clean) sound).1 in
    record {
      step = step_then asked.step (step_so read.step (λ is. absurd (ok_err is))) (λ none. none) (λ none. none);
      opened = λ clean sound. ((asked.opened (read.step.clean clean) sound).0, up clean sound);
      same = λ clean sound. (read.unchanged.same clean (held clean sound) (up clean sound)).1 ∙ asked.same (read.step.clean clean) sound;
      answer = λ clean sound. tt;
      stops = λ clean sound c at. asked.stops (read.step.clean clean) sound c (read.unchanged.stops clean (held clean sound) c at);
    }

pruning_of : (ending : Ending) (found : Finding) (a c : Content) (p : Pruning) → IsDecision ending found a p → IsFindingWith a c found → IsPruningOf ending a c p
pruning_of ending found a c (prune.Refused why end) so finding = (so.1, subst (λ (x : Finding). goes_on ending x ≡ false) (sym so.0) so.2, subst (IsFindingWith a c) (sym so.0) finding)
pruning_of ending found a c prune.Nothing so finding = (found, so, finding)
pruning_of ending found a c (prune.UpTo cut) so finding = ((found, so.0, finding), so.1)

pub asked_decided : (ending : Ending) (found : Finding) (p : Pruning) (a m n old mid new : BookState) → AskedBoth IsFindingInOrder a m old mid found → WasDecided ending found m n mid new p
    → AskedBoth (IsPruningInOrder ending) a n old new p
asked_decided ending found p a m n old mid new one two = record {
  archive = left_twice a m n one.archive two.archive;
  current = asked_then old mid new found p Anything one.current two.current;
  answer = λ clean sound current_clean current_sound opened stands ordered.
      let before = two.archive.step.clean clean in
      let held = one.archive.step.sound before sound in
      let up = one.archive.stays before sound opened in
      let same : m.content ≡ a.content = (one.archive.unchanged.same before sound up).1 in
      let finding : IsFindingWith a.content old.content found = one.answer before sound (two.current.step.clean current_clean) current_sound opened stands ordered in
      let so : IsDecision ending found a.content p = subst (λ (c : Content). IsDecision ending found c p) same (two.decision clean held up (subst StandsInTime (sym same) stands)) in
      pruning_of ending found a.content old.content p so finding;
}

-- where a fault ended the search
pub only_decided : (a m n old mid new : BookState) (found : Finding) → AskedBoth IsFindingInOrder a m old mid found → OnlyAsked m n × OnlyAsked mid new → OnlyAsked a n × OnlyAsked old new
only_decided a m n old mid new found one both =
    (only_then a m n (only_if {A = Unit {0}} a m (Ok tt) one.archive) both.0, only_then old mid new (only_was old mid found Anything one.current) both.1)

pub only_both : {A : Type 0} (IsAnswer : Content → Content → A → Type 0) (a n old new : BookState) (x : A) → AskedBoth IsAnswer a n old new x → OnlyAsked a n × OnlyAsked old new
only_both IsAnswer a n old new x h = (only_if {A = Unit {0}} a n (Ok tt) h.archive, only_was old new x Anything h.current)

-- ---- over the archive's connection ----

were_of : {A : Type 0} (IsAnswer : Content → Content → A → Type 0) (old_archive mid_archive new_archive old new : BookState) (x : A) → IsHeldBook old_archive mid_archive → AskedBoth IsAnswer mid_archive new_archive old new x
    → WereAsked IsAnswer old_archive new_archive old new x
were_of IsAnswer old_archive mid_archive new_archive old new x of h = record {
  archive = archive_read {A = Unit {0}} old_archive mid_archive new_archive tt of h.archive;
  current = h.current;
  answer = λ clean sound current_clean current_sound.
      let before = h.archive.step.clean clean in
      subst (λ (a : Content). IsAnswer a old.content x) (of.content before sound) (h.answer clean (of.step.sound before sound) current_clean current_sound (of.live before sound));
}

were_over : (ending : Ending) (current : BookCall) (p : Pruning) (s t : State) (mid : BookState) (cache : Cache) (failures : ℕ) → IsTaken false s mid
    → AskedBoth (IsPruningInOrder ending) mid (followed cache (book_state t failures)) current.old current.new p → OverConnection (ArePlanned ending current p) false s t
were_over ending current p s t mid cache failures taken h =
    let now : BookState = followed cache (book_state t failures) in
    over_connection (λ (a b : BookState). AskedBoth (IsPruningInOrder ending) a b current.old current.new p) (ArePlanned ending current p) false s t mid cache failures
    (record {
      carries = λ a of both. were_of (IsPruningInOrder ending) a mid now current.old current.new p of both;
      leaves = λ a were. record { archive = asked_called (LeavesBooks t) now (leaves_books t cache failures) a (tt {0}) Anything were.archive; current = were.current; answer = were.answer };
      clean = λ both. both.archive.step.clean;
    })
    taken h

-- what was planned, and what is left where a fault ended it
pub plans_over : {F : Type 0} (ending : Ending) (current : BookCall) (r : Result Pruning F) (s t : State) (mid : BookState) (cache : Cache) (failures : ℕ) → IsTaken false s mid
    → MatchResult r (AskedBoth (IsPruningInOrder ending) mid (followed cache (book_state t failures)) current.old current.new)
    (λ (e : F). OnlyAsked mid (followed cache (book_state t failures)) × OnlyAsked current.old current.new)
    → IfOk r (λ (p : Pruning). OverConnection (ArePlanned ending current p) false s t)
plans_over ending current (Ok p) s t mid cache failures taken h = were_over ending current p s t mid cache failures taken h
plans_over ending current (Err e) s t mid cache failures taken h = tt

pub only_ended : {A F : Type 0} (IsAnswer : Content → Content → A → Type 0) (r : Result A F) (a n old new : BookState)
    → MatchResult r (AskedBoth IsAnswer a n old new) (λ (e : F). OnlyAsked a n × OnlyAsked old new) → OnlyAsked a n × OnlyAsked old new
only_ended IsAnswer (Ok x) a n old new h = only_both IsAnswer a n old new x h
only_ended IsAnswer (Err e) a n old new h = h

-- and closed
pub were_in : {D F G : Type 0} {g : Ghosts D} (ending : Ending) (current : BookCall) (p : Pruning) (r : Result Pruning F) (closed : Result (Unit {0}) G) (conn last : Held (FileStore D g))
    → IfOk r (λ (x : Pruning). OverConnection (ArePlanned ending current x) false (file_state conn) (file_state last)) → Unserved false (file_state conn) (file_state last)
    → OnOk closed (IsLaidIn last) → (r ≡ Ok p) × (closed ≡ Ok tt) → OverArchive (ArePlanned ending current p) conn
were_in {F = F} {G = G} ending current p r closed conn last over kept laid both = record {
  last = last;
  done = subst (λ (y : Result Pruning F). IfOk y (λ (z : Pruning). OverConnection (ArePlanned ending current z) false (file_state conn) (file_state last))) both.0 over;
  closed = subst (λ (y : Result (Unit {0}) G). OnOk y (IsLaidIn last)) both.1 laid;
  kept = kept;
}

-- ---- what has gone ----

no_way : false ≡ true → ⊥
no_way is = true≢false (sym is)

well : (ending : Ending) (found : Finding) → goes_on ending found ≡ true → is_well found ≡ true
well Plain x goes = goes
well Early x goes = absurd (no_way goes)
well Headless x goes = absurd (no_way goes)

finding_holds : (a c : Content) (found : Finding) → is_well found ≡ true → IsFindingWith a c found → HoldsArchive a c
finding_holds a c Sound is h = led_holds a c (sound_is_led a c h)
finding_holds a c (Counted count) is h = led_holds a c (sound_is_led a c h.0)
finding_holds a c (SentAgain stamp) is h = led_holds a c h.led
finding_holds a c (SentAgainCounted stamp count) is h = led_holds a c h.0.led
finding_holds a c (Differs place) is h = absurd (no_way is)

finds_alike : (a c : Content) (stamp number : ℕ) → StandsInTime a → IsPlace a stamp number → (found : Finding) → is_well found ≡ true → IsFindingWith a c found → IsFindingWith a (pruned stamp number c) found
finds_alike a c stamp number stands place Sound is h = prune_stays_sound a c stamp number stands place h
finds_alike a c stamp number stands place (Counted count) is h = (prune_stays_sound a c stamp number stands place h.0, h.1)
finds_alike a c stamp number stands place (SentAgain n) is h = prune_stays_sent_again a c stamp number n stands place h
finds_alike a c stamp number stands place (SentAgainCounted n count) is h = (prune_stays_sent_again a c stamp number n stands place h.0, h.1)
finds_alike a c stamp number stands place (Differs n) is h = absurd (no_way is)

pruned_to : (ending : Ending) (a c : Content) (stamp number : ℕ) → StandsInTime a → MayGoOn ending a c → IsPlace a stamp number → IsPrunedTo a c (pruned stamp number c) stamp
pruned_to ending a c stamp number stands may place =
    let lost = prune_loses_nothing a c stamp number stands place (finding_holds a c may.0 (well ending may.0 may.1) may.2) in
    record { number = number; place = place; rest = refl; gone = lost.0; piece = lost.1; audit = finds_alike a c stamp number stands place }

-- ---- over a book ----

module _ (ending : Ending) (old_archive new_archive old mid m new : BookState) (r : Result (Unit {0}) BookFault) (of : IsHeldBook old mid) where
  -- the book was asked, by what it came of
  was : (p : Pruning) → WereAsked (IsPruningInOrder ending) old_archive new_archive mid m p → WasAsked old Anything p m
  was p were = asked_of old mid m p Anything of were.current

  answer_of : (p : Pruning) → WereAsked (IsPruningInOrder ending) old_archive new_archive mid m p → new_archive.is_clean → old_archive.is_sound → m.is_clean → old.is_sound → StandsInTime old_archive.content → IsPruningOf ending old_archive.content old.content p
  answer_of p were clean sound current_clean is stands =
      let before = were.current.step.clean current_clean in
      subst (λ (c : Content). IsPruningOf ending old_archive.content c p) (of.content before is) (were.answer clean sound current_clean (of.step.sound before is) stands (of.ordered before is))

  cut_stops : (cut : Cut) → WereAsked (IsPruningInOrder ending) old_archive new_archive mid m (prune.UpTo cut) → Commits m new r (λ c. ⊤) (pruned cut.stamp cut.number) → OnlyPruned old_archive new_archive old new
  cut_stops cut were done =
      let w : WasAsked old Anything (prune.UpTo cut) m = was (prune.UpTo cut) were in
      record {
        clean = λ clean. w.step.clean (done.step.clean clean);
        sound = λ clean sound. done.step.sound clean (w.step.sound (done.step.clean clean) sound);
        stops = λ archive_clean archive_sound clean sound stands c at.
            let before = done.step.clean clean in
            let same : m.content ≡ old.content = w.same before sound in
            let may = answer_of (prune.UpTo cut) were archive_clean archive_sound before sound stands in
            elim (done.stops clean (w.step.sound before sound) c at) [
              | inl at_first ↦ inl (w.stops before sound c at_first)
              | inr now ↦ inr (
                cut.stamp,
                subst (λ (x : Content). IsPrunedTo old_archive.content old.content x cut.stamp) (sym (now.1 tt ∙ ap (pruned cut.stamp cut.number) same))
                    (pruned_to ending old_archive.content old.content cut.stamp cut.number stands may.0 may.1),
              )
            ];
      }

  none_stops : (p : Pruning) → WasAsked old Anything p new → OnlyPruned old_archive new_archive old new
  none_stops p w = record { clean = w.step.clean; sound = w.step.sound; stops = λ archive_clean archive_sound clean sound stands c at. inl (w.stops clean sound c at) }

  then_left : (p : Pruning) → WereAsked (IsPruningInOrder ending) old_archive new_archive mid m p → WasLeft m new → WasAsked old Anything p new
  then_left p were rest = asked_then old m new p p Anything (was p were) rest

  only_pruned : (p : Pruning) → WereAsked (IsPruningInOrder ending) old_archive new_archive mid m p → CarriesOut m new r p → OnlyPruned old_archive new_archive old new
  only_pruned (prune.Refused found end) were done = none_stops (prune.Refused found end) (then_left (prune.Refused found end) were done.0)
  only_pruned prune.Nothing were done = none_stops prune.Nothing (then_left prune.Nothing were done.0)
  only_pruned (prune.UpTo cut) were done = cut_stops cut were done

  pub book_left : (p : Pruning) → WereAsked (IsPruningInOrder ending) old_archive new_archive mid m p → CarriesOut m new r p → WasRead old_archive new_archive × OnlyPruned old_archive new_archive old new
  book_left p were done = (were.archive, only_pruned p were done)

module _ (ending : Ending) (old_archive new_archive old mid m new : BookState) (of : IsHeldBook old mid) where
  none_done : (p : Pruning) → WereAsked (IsPruningInOrder ending) old_archive new_archive mid m p → WasLeft m new → ((a c d : Content) → IsPruningOf ending a c p → d ≡ c → IsPruningDone ending a c d p)
      → WasPruned ending old_archive new_archive old new p
  none_done p were rest so =
      let w : WasAsked old Anything p new = then_left ending old_archive new_archive old mid m new (Ok tt) of p were rest in
      record {
        archive = were.archive;
        only = none_stops ending old_archive new_archive old mid m new (Ok tt) of p w;
        opened = w.opened;
        done = λ archive_clean archive_sound clean sound stands.
            so old_archive.content old.content new.content (answer_of ending old_archive new_archive old mid m new (Ok tt) of p were archive_clean archive_sound (rest.step.clean clean) sound stands) (w.same clean sound);
      }

  pub was_pruned : (p : Pruning) → WereAsked (IsPruningInOrder ending) old_archive new_archive mid m p → CarriesOut m new (Ok tt) p → WasPruned ending old_archive new_archive old new p
  was_pruned (prune.Refused found end) were done = none_done (prune.Refused found end) were done.0 (λ a c d h is. (is, h))
  was_pruned prune.Nothing were done = none_done prune.Nothing were done.0 (λ a c d h is. (is, h))
  was_pruned (prune.UpTo cut) were done =
      let w : WasAsked old Anything (prune.UpTo cut) m = was ending old_archive new_archive old mid m new (Ok tt) of (prune.UpTo cut) were in
      record {
        archive = were.archive;
        only = cut_stops ending old_archive new_archive old mid m new (Ok tt) of cut were done;
        opened = λ clean sound. ((w.opened (done.step.clean clean) sound).0, (done.opened clean (w.step.sound (done.step.clean clean) sound)).1);
        done = λ archive_clean archive_sound clean sound stands.
            let before = done.step.clean clean in
            let same : m.content ≡ old.content = w.same before sound in
            let made : new.content ≡ pruned cut.stamp cut.number m.content = done.made clean (w.step.sound before sound) tt in
            let may = answer_of ending old_archive new_archive old mid m new (Ok tt) of (prune.UpTo cut) were archive_clean archive_sound before sound stands in (
              may.0,
              subst (λ (x : Content). IsPrunedTo old_archive.content old.content x cut.stamp) (sym (made ∙ ap (pruned cut.stamp cut.number) same))
                  (pruned_to ending old_archive.content old.content cut.stamp cut.number stands may.0 may.1),
            );
      }

-- a call that was carried out began with a disk that was clean
carried_clean : (m new : BookState) (r : Result (Unit {0}) BookFault) (p : Pruning) → CarriesOut m new r p → new.is_clean → m.is_clean
carried_clean m new r (prune.Refused why end) done = done.0.step.clean
carried_clean m new r prune.Nothing done = done.0.step.clean
carried_clean m new r (prune.UpTo cut) done = done.step.clean

-- ---- over a connection ----

-- of a book that is called sound where something else is so
only_called : (Canonical : Type 0) (a b old new : BookState) → (new.is_sound → Canonical) → OnlyPruned a b old new → OnlyPruned a b old (called new Canonical)
only_called Canonical a b old new so h = record { clean = h.clean; sound = λ clean sound. so (h.sound clean sound); stops = h.stops }

was_called : (Canonical : Type 0) (ending : Ending) (p : Pruning) (a b old new : BookState) → (new.is_sound → Canonical) → WasPruned ending a b old new p → WasPruned ending a b old (called new Canonical) p
was_called Canonical ending p a b old new so h = record { archive = h.archive; only = only_called Canonical a b old new so h.only; opened = h.opened; done = h.done }

module _ {D : Type 0} (disk : Ghosts D) (IsFresh : Bool → D → Type 0) where
  pruned_over : (ending : Ending) (p : Pruning) (s t : State) (mid m : BookState) (cache : Cache) (failures : ℕ) → IsTaken false s mid → BookAskedWithArchive disk IsFresh (IsPruningInOrder ending) mid m p
      → CarriesOut m (followed cache (book_state t failures)) (Ok tt) p → OverConnection (λ (old new : BookState). BookPruned disk IsFresh ending old new p) false s t
  pruned_over ending p s t mid m cache failures taken asked done =
      let now : BookState = followed cache (book_state t failures) in
      over_connection (λ (old new : BookState). BookAskedWithArchive disk IsFresh (IsPruningInOrder ending) old m p × CarriesOut m new (Ok tt) p) (λ (old new : BookState). BookPruned disk IsFresh ending old new p) false
      s t mid cache failures
      (record {
        carries = λ old of both. in_archive_so disk IsFresh (λ (a b : BookState). WereAsked (IsPruningInOrder ending) a b mid m p) (λ (a b : BookState). WasPruned ending a b old now p)
            (λ a b were. was_pruned ending a b old mid m now of p were both.1) both.0;
        leaves = λ old h. in_archive_so disk IsFresh (λ (a b : BookState). WasPruned ending a b old now p) (λ (a b : BookState). WasPruned ending a b old (called now (LeavesBooks t)) p)
            (λ a b h. was_called (LeavesBooks t) ending p a b old now (leaves_books t cache failures) h) h;
        clean = λ both clean. asked_clean disk IsFresh (IsPruningInOrder ending) mid m p both.0 (carried_clean m now (Ok tt) p both.1 clean);
      })
      taken (asked, done)

  -- whatever came of it
  left_over : (ending : Ending) (p : Pruning) (r : Result (Unit {0}) BookFault) (s t : State) (mid m : BookState) (cache : Cache) (failures : ℕ) → IsTaken false s mid
      → BookAskedWithArchive disk IsFresh (IsPruningInOrder ending) mid m p → CarriesOut m (followed cache (book_state t failures)) r p → OverConnection (BookLeft disk IsFresh) false s t
  left_over ending p r s t mid m cache failures taken asked done =
      let now : BookState = followed cache (book_state t failures) in
      let Left : BookState → BookState → BookState → BookState → Type 0 = λ old new a b. WasRead a b × OnlyPruned a b old new in
      over_connection (λ (old new : BookState). BookAskedWithArchive disk IsFresh (IsPruningInOrder ending) old m p × CarriesOut m new r p) (BookLeft disk IsFresh) false
      s t mid cache failures
      (record {
        carries = λ old of both. in_archive_so disk IsFresh (λ (a b : BookState). WereAsked (IsPruningInOrder ending) a b mid m p) (Left old now)
            (λ a b were. book_left ending a b old mid m now r of p were both.1) both.0;
        leaves = λ old h. in_archive_so disk IsFresh (Left old now) (Left old (called now (LeavesBooks t))) (λ a b h. (h.0, only_called (LeavesBooks t) a b old now (leaves_books t cache failures) h.1)) h;
        clean = λ both clean. asked_clean disk IsFresh (IsPruningInOrder ending) mid m p both.0 (carried_clean m now r p both.1 clean);
      })
      taken (asked, done)

  -- nothing was to be pruned, since a fault ended what comes before
  leaves_unpruned : (why : Fault) (s t : State) → Unserved false s t → LeavesBeside disk IsFresh why → LeavesPruned disk IsFresh s t why
  leaves_unpruned (ended_by.Opening why) s t kept beside = absurd beside
  leaves_unpruned (ended_by.Work why) s t kept beside = inl kept
  leaves_unpruned (ended_by.Archive why) s t kept beside = (kept, beside)

  -- the connection is what giving the book up gave back
  module _ (s t now : State) (same : t ≡ now) where
    pub unpruned_in : (why : Fault) → Unserved false s t → LeavesBeside disk IsFresh why → LeavesPruned disk IsFresh s now why
    unpruned_in why kept beside = subst (λ (x : State). LeavesPruned disk IsFresh s x why) same (leaves_unpruned why s t kept beside)

    pub pruned_in : (ending : Ending) (p : Pruning) (mid m : BookState) (cache : Cache) (failures : ℕ) → IsTaken false s mid → BookAskedWithArchive disk IsFresh (IsPruningInOrder ending) mid m p
        → CarriesOut m (followed cache (book_state t failures)) (Ok tt) p → OverConnection (λ (old new : BookState). BookPruned disk IsFresh ending old new p) false s now
    pruned_in ending p mid m cache failures taken asked done =
        subst (λ (x : State). OverConnection (λ (old new : BookState). BookPruned disk IsFresh ending old new p) false s x) same (pruned_over ending p s t mid m cache failures taken asked done)

    pub left_in : (ending : Ending) (p : Pruning) (r : Result (Unit {0}) BookFault) (mid m : BookState) (cache : Cache) (failures : ℕ) → IsTaken false s mid
        → BookAskedWithArchive disk IsFresh (IsPruningInOrder ending) mid m p → CarriesOut m (followed cache (book_state t failures)) r p → LeftOver disk IsFresh s now
    left_in ending p r mid m cache failures taken asked done =
        inr (subst (λ (x : State). OverConnection (BookLeft disk IsFresh) false s x) same (left_over ending p r s t mid m cache failures taken asked done))

  -- a prune that was done leaves no more
  pub left_done : (ending : Ending) (p : Pruning) (s t : State) → OverConnection (λ (old new : BookState). BookPruned disk IsFresh ending old new p) false s t → OverConnection (BookLeft disk IsFresh) false s t
  left_done ending p s t h =
      over_so (λ (old new : BookState). BookPruned disk IsFresh ending old new p) (BookLeft disk IsFresh) false s t
      (λ old new done. in_archive_so disk IsFresh (λ (a b : BookState). WasPruned ending a b old new p) (λ (a b : BookState). WasRead a b × OnlyPruned a b old new) (λ a b w. (w.archive, w.only)) done) h

  -- ---- printed ----

  module _ (quiet : Bool) (ending : Ending) (p : Pruning) (conn last : Held (FileStore D disk)) (old_output new_output : Option (List ℕ)) (opened : IsOpenedFrom disk IsFresh conn) (is : IsSomeEnding ending)
      (done : OverConnection (λ (old new : BookState). BookPruned disk IsFresh ending old new p) false (file_state conn) (file_state last)) where
    pub prune_printed : {F : Type 0} (status : Status) (closed : Result (Unit {0}) F) → OnOk closed (IsLaidIn last) → IsPrinted (left.Pruned p quiet) closed old_output new_output status
        → PrunedWith disk IsFresh quiet old_output new_output status
    prune_printed {F = F} status closed laid printed = record {
      pruning = p;
      ending = ending;
      read = is;
      done = record { conn = conn; last = last; opened = opened; done = done; closed = subst (λ (x : Result (Unit {0}) F). OnOk x (IsLaidIn last)) printed.shut laid };
      printed = printed.printed;
      outcome = printed.outcome;
    }

  -- nothing was
  pub prune_stopped : (fault : Fault) (quiet : Bool) (conn last : Held (FileStore D disk)) (old_output new_output : Option (List ℕ)) (Unwritten : Type 0) → IsOpenedFrom disk IsFresh conn → IsShut last
      → LeavesPruned disk IsFresh (file_state conn) (file_state last) fault → Unwritten → LeftWithArchive disk IsFresh Unwritten (LeftOver disk IsFresh) (PruneCut disk IsFresh quiet old_output new_output) (LeavesArchive disk IsFresh) fault
  prune_stopped (ended_by.Opening why) quiet conn last old_output new_output Unwritten opened shut after none = absurd after
  prune_stopped (ended_by.Work why) quiet conn last old_output new_output Unwritten opened shut after none = (conn, opened, (record { last = last; shut = shut; kept = after }, inl none))
  prune_stopped (ended_by.Archive why) quiet conn last old_output new_output Unwritten opened shut after none = (conn, opened, record { last = last; shut = shut; kept = after.0 }, none, after.1)
