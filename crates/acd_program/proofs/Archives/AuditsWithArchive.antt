-- An audit with an archive: what it leaves, by what its desk and the archive's book left.
use Rattle.std.proofs.Common.{◌≡◌, inl, ℕ, Bool, false, List, Option, Result, Ok, Err, IfOk, OnOk, refl, sym, ap, subst, ◌∙◌}
use Rattle.std.specs.Io.KnownBytes.{Appends}
use Rattle.sqlite.specs.Held.{Held}
use Rattle.sqlite.specs.State.{State, HasCleanDisk}
use Rattle.sqlite.specs.Files.{file_state}
use Rattle.sqlite_disk.specs.declared.Disk.{Ghosts}
use Rattle.sqlite_store.specs.declared.store.FileStore.{FileStore}
use Rattle.acd_book.specs.Content.{Content, IsCounted}
use Rattle.acd_book.specs.Order.{IsOrdered}
use Rattle.acd_book.specs.State.{BookState}
use Rattle.acd_book.proofs.BookSteps.{step_so, step_then}
use Rattle.acd_book.specs.declared.fault.BookFault.{BookFault}
use Rattle.acd_book.specs.BookReads.{Anything, ReadsIfOpen}
use Rattle.acd_desk.specs.Audits.AuditWith.{StandsInTime}
use Rattle.acd_desk.specs.Desks.Opening.{Opened}
use Rattle.acd_desk.specs.Desks.DeskState.{DeskState, InStep}
use Rattle.acd_desk.specs.Contents.SoundContent.{IsSound}
use Rattle.acd_desk.specs.Contents.CarriedContent.{Archive, together}
use Rattle.acd_desk.specs.Contents.WithArchive.{IsLedFrom}
use Rattle.acd_desk.specs.Reads.DeskReads.{ReadDone}
use Rattle.acd_desk.proofs.Archives.CarriedPart.{counted_led, sound_is_led}
use Rattle.acd_log.specs.declared.ending.Ending.{Ending}
use Rattle.acd_sqlbook.specs.Adoption.{IsUntouched}
use Rattle.acd_sqlbook.specs.declared.cache.Cache.{Cache}
use Rattle.acd_sqlbook.specs.Caches.{followed}
use Rattle.acd_sqlbook.specs.State.{book_state}
use Rattle.acd_program.specs.declared.auditing.Finding.{Finding}
use Rattle.acd_program.specs.declared.auditing.Finding.TheVariants.{Sound, Counted, SentAgain, SentAgainCounted, Differs}
use Rattle.acd_program.specs.declared.desk.Done.{Done}
use Rattle.acd_program.specs.declared.desk.Done.TheVariants as left
use Rattle.acd_program.specs.Archives.WithArchive.{IsFindingWith, IsDeskFindingWith, IsFindingIn, IsFindingInOrder, IsFoundWithArchive, FindsWithArchive, WasRead, WereAsked, AskedOver, AskedIn, InArchive, AskedWithArchive, BookAskedWithArchive, AuditsWithArchive, AuditedWithArchive, LeavesArchive, LeavesBeside}
use Rattle.acd_program.specs.Commands.AuditFindings.{HasCount, finding_line}
use Rattle.acd_io.specs.SentBytes.{Begins}
use Rattle.acd_files.specs.Connections.{IsShut, IsLaidIn, IsOpenedFrom}
use Rattle.acd_sessions.specs.Over.{OnlyAsked, LeavesBooks, Unserved, before}
use Rattle.acd_program.specs.Commands.TasksEnded.{AuditCut, LeftWithArchive}
use Rattle.acd_program.specs.declared.fault.Fault.{Fault}
use Rattle.acd_program.specs.declared.fault.Fault.TheVariants as ended_by
use Rattle.acd_program.specs.declared.status.Status.{Status}
use Rattle.acd_program.specs.Statuses.{finding_status}
use Rattle.acd_sessions.specs.ConnectionBook.{IsHeldBook, IsTaken}
use Rattle.acd_program.specs.Commands.Tasks.{AuditedWith, IsReadEnding}
use Rattle.acd_program.specs.Commands.Work.{IsPrinted, text_left}
use Rattle.acd_program.proofs.Commands.BookReads.{asked_by, asked_of, asked_so}
use Rattle.acd_sessions.proofs.Called.{called, leaves_books}
use Rattle.acd_program.proofs.Commands.SoundElsewhere.{asked_called}
use Rattle.acd_sessions.proofs.Over.{over_fact, over_so, over_connection}
use Rattle.acd_files.proofs.Ends.{ok_so}
use Rattle.acd_terms.proofs.Results.{ok_err}

-- ---- the archive ----

-- it was read, and nothing of it has changed
pub archive_read : {A : Type 0} (old mid new : BookState) (found : A) → IsHeldBook old mid → ReadsIfOpen mid new (Ok found) Anything → WasRead old new
archive_read old mid new found of read =
    let sound : new.is_clean → old.is_sound → mid.is_sound = λ clean is. of.step.sound (read.step.clean clean) is in
    let up : new.is_clean → old.is_sound → new.is_open = λ clean is. read.stays clean (sound clean is) (of.live (read.step.clean clean) is) in
    record {
      step = step_then of.step (step_so read.step (λ is. absurd (ok_err is))) (λ none. none) (λ none. none);
      opened = λ clean is. (of.opened (read.step.clean clean) is, up clean is);
      same = λ clean is. (read.unchanged.same clean (sound clean is) (up clean is)).1 ∙ of.content (read.step.clean clean) is;
      answer = λ clean is. tt;
      stops = λ clean is c at. of.stops (read.step.clean clean) is c (read.unchanged.stops clean (sound clean is) c at);
    }

-- what was found after the book that came of another was found after that one
found_of : (old mid new : BookState) (d e : DeskState) (found : Finding) → IsHeldBook old mid → ReadsIfOpen mid new (Ok found) Anything → IsFoundWithArchive mid new d e (Ok found) → FindsWithArchive old new d e found
found_of old mid new d e found of read finds clean is current_clean current_sound opened =
    let before = read.step.clean clean in
    subst (λ (a : Content). StandsInTime a → IsOrdered d.book.content → IsDeskFindingWith a d found) (of.content before is) (finds clean (of.step.sound before is) current_clean current_sound (of.live before is) opened)

both_of : (old mid new : BookState) (d e : DeskState) (found : Finding) → ReadsIfOpen mid new (Ok found) Anything → IsFoundWithArchive mid new d e (Ok found) → IsHeldBook old mid → WasRead old new × FindsWithArchive old new d e found
both_of old mid new d e found read finds of = (archive_read old mid new found of read, found_of old mid new d e found of read finds)

-- the finding is what is printed, where nothing ended it
pub found_so : {A F G : Type 0} (r : Result A F) (f : Result A G) (P : A → Type 0) (Q : Type 0) → IfOk f P → IfOk r (λ (x : A). (f ≡ Ok x) × Q) → IfOk r P
found_so {A = A} {G = G} (Ok x) f P Q h both = subst (λ (y : Result A G). IfOk y P) both.0 h
found_so (Err why) f P Q h both = tt

-- whatever was read of it, a reopening finds nothing new
pub archive_asked : (mid new : BookState) (r : Result Finding BookFault) → ReadsIfOpen mid new r Anything → OnlyAsked mid new
archive_asked mid new r read = record { clean = read.step.clean; sound = read.step.sound; stops = λ clean sound. read.unchanged.stops clean sound }

-- nothing of it was changed
pub unserved_untouched : (s t : State) → (HasCleanDisk t → IsUntouched s t) → Unserved false s t
unserved_untouched s t same clean db at = before ((same clean).stops db at)

-- over a connection it was asked
pub asked_over : (found : Finding) (d e : DeskState) (s t : State) (mid : BookState) (cache : Cache) (failures : ℕ) → IsTaken false s mid → IsFoundWithArchive mid (followed cache (book_state t failures)) d e (Ok found)
    → ReadDone d e (Ok found) Anything → ReadsIfOpen mid (followed cache (book_state t failures)) (Ok found) Anything → AskedOver s t d e found
asked_over found d e s t mid cache failures taken finds desk read =
    let new : BookState = followed cache (book_state t failures) in
    record {
      desk = desk;
      archive = over_connection (λ (old now : BookState). ReadsIfOpen old now (Ok found) Anything × IsFoundWithArchive old now d e (Ok found)) (λ (old now : BookState). WasRead old now × FindsWithArchive old now d e found) false
          s t mid cache failures
          (record {
            carries = λ old of h. both_of old mid new d e found h.0 h.1 of;
            leaves = λ old h. (asked_called (LeavesBooks t) new (leaves_books t cache failures) old (tt {0}) Anything h.0, h.1);
            clean = λ h. h.0.step.clean;
          })
          taken (read, finds);
    }

-- and closed
pub asked_in : {D F G : Type 0} {g : Ghosts D} (found : Finding) (r : Result Finding F) (closed : Result (Unit {0}) G) (d e : DeskState) (conn last : Held (FileStore D g)) → IfOk r (AskedOver (file_state conn) (file_state last) d e)
    → Unserved false (file_state conn) (file_state last) → OnOk closed (IsLaidIn last) → (r ≡ Ok found) × (closed ≡ Ok tt) → AskedIn conn d e found
asked_in {F = F} {G = G} found r closed d e conn last asked kept laid both =
    let over = subst (λ (y : Result Finding F). IfOk y (AskedOver (file_state conn) (file_state last) d e)) both.0 asked in
    record {
      desk = over.desk;
      archive = record { last = last; done = over.archive; closed = subst (λ (y : Result (Unit {0}) G). OnOk y (IsLaidIn last)) both.1 laid; kept = kept };
    }

-- of a desk that is in step with what an audit finds led on
pub plainly : (a : Content) (s : DeskState) (x : Finding) → (IsLedFrom a s.book.content → InStep s) → IsDeskFindingWith a s x → IsFindingWith a s.book.content x
plainly a s Sound steps h = h
plainly a s (Counted count) steps h = (h.0, h.1 (steps (sound_is_led a s.book.content h.0)))
plainly a s (SentAgain stamp) steps h = h
plainly a s (SentAgainCounted stamp count) steps h = (h.0, h.1 (steps h.0.led))
plainly a s (Differs place) steps h = h

module _ {D : Type 0} (disk : Ghosts D) (IsFresh : Bool → D → Type 0) where
  pub in_archive_so : (P Q : BookState → BookState → Type 0) → ((old new : BookState) → P old new → Q old new) → InArchive disk IsFresh P → InArchive disk IsFresh Q
  in_archive_so P Q follows h = (h.0, h.1, record { last = h.2.last; done = over_so P Q false (file_state h.0) (file_state h.2.last) follows h.2.done; closed = h.2.closed; kept = h.2.kept })

  -- ---- a desk over a book ----

  asked_both : (old_archive new_archive old : BookState) (d e : DeskState) (found : Finding) → Opened old d → ReadDone d e (Ok found) Anything → WasRead old_archive new_archive × FindsWithArchive old_archive new_archive d e found
      → WereAsked IsFindingInOrder old_archive new_archive old e.book found
  asked_both old_archive new_archive old d e found o read both = record {
    archive = both.0;
    current = asked_so old e.book found found (λ (c : Content) (y : Finding). (p : Archive) → IsSound (together p c) → Anything c y) Anything (λ c h. tt) (asked_by old d e found Anything o read);
    answer = λ clean sound current_clean current_sound stands ordered.
        let before = read.step.clean current_clean in
        let at = o.opened before current_sound in
        let a : Content = old_archive.content in
        let finds : IsDeskFindingWith a d found = both.1 clean sound current_clean (o.step.sound before current_sound) at.1 stands (subst IsOrdered (sym at.2) ordered) in
        subst (λ (c : Content). IsFindingWith a c found) at.2
        (plainly a d found (λ goes. o.in_step before current_sound (subst IsCounted at.2 (counted_led a d.book.content stands.counted goes))) finds);
  }

  pub book_asked_with_archive : (old : BookState) (d e : DeskState) (found : Finding) → Opened old d → AskedWithArchive disk IsFresh d e found → BookAskedWithArchive disk IsFresh IsFindingInOrder old e.book found
  book_asked_with_archive old d e found o asked =
      in_archive_so (λ (a b : BookState). WasRead a b × FindsWithArchive a b d e found) (λ (a b : BookState). WereAsked IsFindingInOrder a b old e.book found)
      (λ a b both. asked_both a b old d e found o asked.2.desk both) (asked.0, asked.1, asked.2.archive)

  -- the book is what closing the desk gave back
  pub audits_with_archive : (counts : Bool) (ending : Ending) (old now : BookState) (d e : DeskState) (found : Finding) → Opened old d → HasCount counts found → AskedWithArchive disk IsFresh d e found → e.book ≡ now
      → AuditsWithArchive disk IsFresh counts ending old now (left.Audited found ending)
  audits_with_archive counts ending old now d e found o counted asked is = (counted, subst (λ (b : BookState). BookAskedWithArchive disk IsFresh IsFindingInOrder old b found) is (book_asked_with_archive old d e found o asked), refl)

  -- ---- over a connection ----

  book_asked_since : (old mid new : BookState) (found : Finding) → IsHeldBook old mid → BookAskedWithArchive disk IsFresh IsFindingInOrder mid new found → BookAskedWithArchive disk IsFresh IsFindingIn old new found
  book_asked_since old mid new found of h =
      in_archive_so (λ (a b : BookState). WereAsked IsFindingInOrder a b mid new found) (λ (a b : BookState). WereAsked IsFindingIn a b old new found)
      (λ a b were. record {
        archive = were.archive;
        current = asked_of old mid new found Anything of were.current;
        answer = λ clean sound current_clean is stands.
            let before = were.current.step.clean current_clean in
            subst (λ (c : Content). IsFindingWith a.content c found) (of.content before is) (were.answer clean sound current_clean (of.step.sound before is) stands (of.ordered before is));
      }) h

  book_asked_left : (Canonical : Type 0) (new : BookState) → (new.is_sound → Canonical) → (old : BookState) (found : Finding) → BookAskedWithArchive disk IsFresh IsFindingIn old new found → BookAskedWithArchive disk IsFresh IsFindingIn old (called new Canonical) found
  book_asked_left Canonical new so old found h =
      in_archive_so (λ (a b : BookState). WereAsked IsFindingIn a b old new found) (λ (a b : BookState). WereAsked IsFindingIn a b old (called new Canonical) found)
      (λ a b were. record { archive = were.archive; current = asked_called Canonical new so old found Anything were.current; answer = were.answer }) h

  -- a disk that is clean then was so before
  pub asked_clean : {A : Type 0} (IsAnswer : Content → Content → A → Type 0) (old new : BookState) (found : A) → BookAskedWithArchive disk IsFresh IsAnswer old new found → new.is_clean → old.is_clean
  asked_clean IsAnswer old new found h = over_fact (λ (a b : BookState). WereAsked IsAnswer a b old new found) (new.is_clean → old.is_clean) false (file_state h.0) (file_state h.2.last) (λ a b were. were.current.step.clean) h.2.done

  audited_over : (counts : Bool) (ending : Ending) (s t : State) (mid : BookState) (cache : Cache) (failures : ℕ) (done : Done) → IsTaken false s mid
      → AuditsWithArchive disk IsFresh counts ending mid (followed cache (book_state t failures)) done → AuditedWithArchive disk IsFresh counts ending s t done
  audited_over counts ending s t mid cache failures left.Nothing taken h = h
  audited_over counts ending s t mid cache failures (left.Text text) taken h = h
  audited_over counts ending s t mid cache failures (left.Pruned pruning quiet) taken h = h
  audited_over counts ending s t mid cache failures (left.Audited found end) taken h = (
    h.0,
    over_connection (λ (old new : BookState). BookAskedWithArchive disk IsFresh IsFindingInOrder old new found) (λ (old new : BookState). BookAskedWithArchive disk IsFresh IsFindingIn old new found) false
        s t mid cache failures
        (record {
          carries = λ old of asked. book_asked_since old mid (followed cache (book_state t failures)) found of asked;
          leaves = λ old asked. book_asked_left (LeavesBooks t) (followed cache (book_state t failures)) (leaves_books t cache failures) old found asked;
          clean = asked_clean IsFindingInOrder mid (followed cache (book_state t failures)) found;
        })
        taken h.1,
    h.2,
  )

  -- the connection is what giving the book up gave back
  pub audited_in : {E : Type 0} (r : Result Done E) (counts : Bool) (ending : Ending) (s t now : State) (mid : BookState) (cache : Cache) (failures : ℕ) → IsTaken false s mid
      → IfOk r (AuditsWithArchive disk IsFresh counts ending mid (followed cache (book_state t failures))) → t ≡ now → IfOk r (AuditedWithArchive disk IsFresh counts ending s now)
  audited_in r counts ending s t now mid cache failures taken h is = subst (λ (x : State). IfOk r (AuditedWithArchive disk IsFresh counts ending s x)) is (ok_so r _ _ (λ left over. audited_over counts ending s t mid cache failures left taken over) h)

  -- ---- printed ----

  -- how the log of the file ended is what was read of it
  module _ (counts whole : Bool) (ending : Ending) (conn last : Held (FileStore D disk)) (old_output new_output : Option (List ℕ)) (is : IsReadEnding whole ending) where
    pub audit_printed : {F : Type 0} (status : Status) (left : Done) (closed : Result (Unit {0}) F) → IsOpenedFrom disk IsFresh conn
        → AuditedWithArchive disk IsFresh counts ending (file_state conn) (file_state last) left → OnOk closed (IsLaidIn last) → IsPrinted left closed old_output new_output status
        → AuditedWith disk IsFresh counts whole old_output new_output status
    audit_printed status left.Nothing closed opened h laid p = absurd h
    audit_printed status (left.Text text) closed opened h laid p = absurd h
    audit_printed status (left.Pruned pruning quiet) closed opened h laid p = absurd h
    audit_printed {F = F} status (left.Audited found end) closed opened h laid p = record {
      found = found;
      ending = ending;
      counted = h.0;
      read = is;
      done = record { conn = conn; last = last; opened = opened; done = h.1; closed = subst (λ (x : Result (Unit {0}) F). OnOk x (IsLaidIn last)) p.shut laid };
      printed = subst (λ (y : Ending). Appends old_output new_output (finding_line y found)) h.2 p.printed;
      outcome = p.outcome ∙ ap (λ (y : Ending). finding_status y found) h.2;
    }

    -- a fault ended the printing
    pub audit_cut : (left : Done) → AuditedWithArchive disk IsFresh counts ending (file_state conn) (file_state last) left → Begins old_output new_output (text_left left)
        → AuditCut disk IsFresh counts whole old_output new_output conn last
    audit_cut left.Nothing h text = absurd h
    audit_cut (left.Text read) h text = absurd h
    audit_cut (left.Pruned pruning quiet) h text = absurd h
    audit_cut (left.Audited found end) h text = record {
      found = found;
      ending = ending;
      counted = h.0;
      read = is;
      done = h.1;
      printed = subst (λ (y : Ending). Begins old_output new_output (finding_line y found)) h.2 text;
    }

  -- before anything was printed
  pub audit_stopped : (fault : Fault) (counts whole : Bool) (conn last : Held (FileStore D disk)) (old_output new_output : Option (List ℕ)) (Unwritten : Type 0) → IsOpenedFrom disk IsFresh conn → IsShut last
      → Unserved false (file_state conn) (file_state last) → Unwritten → LeavesBeside disk IsFresh fault → LeftWithArchive disk IsFresh Unwritten (Unserved false) (AuditCut disk IsFresh counts whole old_output new_output) (LeavesArchive disk IsFresh) fault
  audit_stopped (ended_by.Opening why) counts whole conn last old_output new_output Unwritten opened shut kept none beside = absurd beside
  audit_stopped (ended_by.Work why) counts whole conn last old_output new_output Unwritten opened shut kept none beside = (conn, opened, (record { last = last; shut = shut; kept = kept }, inl none))
  audit_stopped (ended_by.Archive why) counts whole conn last old_output new_output Unwritten opened shut kept none beside = (conn, opened, record { last = last; shut = shut; kept = kept }, none, beside)
