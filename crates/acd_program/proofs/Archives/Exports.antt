-- The events of archives and a file as one table: from reads of a book on to files.
use Rattle.std.proofs.Common.{◌≡◌, ◌<◌, ◌≤◌, ◌+◌, inl, ℕ, zero, suc, Bool, false, List, [], ◌∷◌, ◌++◌, length, take, Option, Some, None, Result, Ok, Err, IfOk, OnOk, arith, refl, sym, ap, subst, ◌∙◌, append-nil}
use Rattle.sqlite.specs.Held.{Held}
use Rattle.sqlite.specs.State.{State}
use Rattle.sqlite.specs.Files.{file_state}
use Rattle.sqlite_disk.specs.declared.Disk.{Ghosts}
use Rattle.sqlite_store.specs.declared.store.FileStore.{FileStore}
use Rattle.acd_book.specs.Content.{Content}
use Rattle.acd_book.specs.State.{BookState, Reads}
use Rattle.acd_book.specs.declared.fault.BookFault.{BookFault}
use Rattle.acd_book.specs.declared.fault.BookFault.TheVariants.{NoMemory}
use Rattle.acd_reports.specs.Export.{records_text}
use Rattle.acd_book.specs.BookReads.{Anything, IfOrdered, ReadsIfOpen}
use Rattle.acd_desk.specs.Reads.ReadAnswers.{Rise, above, records_left}
use Rattle.acd_book.proofs.ReadsAhead.{by_read, read_no_memory, read_nothing, read_ok, read_twice}
use Rattle.acd_sqlbook.specs.declared.cache.Cache.{Cache}
use Rattle.acd_sqlbook.specs.Caches.{followed}
use Rattle.acd_sqlbook.specs.State.{book_state}
use Rattle.acd_files.specs.Connections.{IsShut, IsLaidIn, IsOpenedFrom}
use Rattle.acd_sessions.specs.Over.{OnlyAsked, LeavesBooks, OverConnection, Unserved, before}
use Rattle.acd_program.specs.Archives.ArchiveExport.{AddsEvents, IsAdded, AddsArchive, AddsArchives, MakesTable, LeavesArchives, LeavesExport}
use Rattle.acd_sessions.specs.ConnectionBook.{IsHeldBook, IsTaken}
use Rattle.acd_program.specs.Commands.Tasks.{Exported}
use Rattle.acd_program.specs.Commands.TasksEnded.{ExportCut, LeftWithArchive}
use Rattle.acd_program.specs.Archives.WithArchive.{OverArchive}
use Rattle.acd_program.specs.Commands.Work.{IsPrinted}
use Rattle.acd_program.specs.declared.desk.Done.TheVariants.{Text}
use Rattle.acd_program.specs.declared.export.EventTable.{EventTable}
use Rattle.acd_program.specs.declared.fault.Fault.{Fault}
use Rattle.acd_program.specs.declared.fault.Fault.TheVariants as ended_by
use Rattle.acd_program.specs.declared.status.Status.{Status}
use Rattle.acd_program.proofs.Archives.AuditsWithArchive.{archive_read}
use Rattle.acd_program.proofs.Commands.BookReads.{Says}
use Rattle.acd_sessions.proofs.Called.{leaves_books}
use Rattle.acd_program.proofs.Commands.SoundElsewhere.{asked_called}
use Rattle.acd_sessions.proofs.Over.{over_connection}

-- ---- of a book

-- a fault ended a read, also after another one
pub ends_read : {A C : Type 0} {P : Content → A → Type 0} (Q : Content → C → Type 0) (a b : BookState) (f : BookFault) (r : Result C BookFault) → Reads {A = A} a b (Err f) P → r ≡ Err f → ReadsIfOpen a b r Q
ends_read {A = A} {P = P} Q a b f r read is = read_nothing {A = A} {P = P} Q a b f r (by_read {A = A} P a b (Err f) read (λ c x h. h)) is

pub ends_after : {A B C : Type 0} {P : Says A} {S : Says B} (Q : Says C) (a b d : BookState) (x : A) (f : BookFault) (r : Result C BookFault)
    → ReadsIfOpen a b (Ok x) P → ReadsIfOpen {A = B} b d (Err f) S → r ≡ Err f → ReadsIfOpen a d r Q
ends_after {B = B} {S = S} Q a b d x f r one two is = read_nothing {A = B} {P = S} Q a d f r (read_twice {Q = S} S a b d x (Err f) one two (λ c h y k. k)) is

-- there was no memory after a read
pub no_memory_after : {A C : Type 0} {P : Content → A → Type 0} (Q : Content → C → Type 0) (a b : BookState) (x : A) (r : Result C BookFault) → Reads a b (Ok x) P → r ≡ Err NoMemory → ReadsIfOpen a b r Q
no_memory_after {P = P} Q a b x r read is = read_no_memory {P = P} Q a b x r (by_read P a b (Ok x) read (λ c y h. h)) is

-- rows that are written after a text: with those above a place it has all above the number
abbrev written_up_to : List ℕ → List ℕ → ℕ → ℕ → Content → Unit {0} → Type 0
written_up_to start old after place c done = Rise 0 c.events → old ++ records_text (above c.events place) ≡ start ++ records_text (above c.events after)

abbrev written_page : List ℕ → List ℕ → ℕ → Content → Option ℕ → Type 0
written_page start new after c next = Rise 0 c.events → new ++ records_left c.events next ≡ start ++ records_text (above c.events after)

module _ (a b d : BookState) (start old new : List ℕ) (after : ℕ) (next : Option ℕ) where
  -- a page more
  page_on : (place : ℕ) → ReadsIfOpen {A = Unit {0}} a b (Ok tt) (written_up_to start old after place) → ReadsIfOpen {A = Option ℕ} b d (Ok next) (written_page old new place) → ReadsIfOpen {A = Option ℕ} a d (Ok next) (written_page start new after)
  page_on place one two = read_twice {A = Unit {0}} {C = Option ℕ} (written_page start new after) a b d tt (Ok next) one two (λ c so n more rise. more rise ∙ so rise)

  -- and there are more, up from its last one
  pub rows_on : (place last : ℕ) → ReadsIfOpen {A = Unit {0}} a b (Ok tt) (written_up_to start old after place) → ReadsIfOpen {A = Option ℕ} b d (Ok next) (written_page old new place) → next ≡ Some last
      → ReadsIfOpen {A = Unit {0}} a d (Ok tt) (written_up_to start new after last)
  rows_on place last one two is =
      read_ok {A = Option ℕ} {C = Unit {0}} (written_up_to start new after last) a d next tt (page_on place one two) (λ c h rise. ap (λ (o : Option ℕ). new ++ records_left c.events o) (sym is) ∙ h rise)

  -- or none
  pub rows_end : (place : ℕ) → ReadsIfOpen {A = Unit {0}} a b (Ok tt) (written_up_to start old after place) → ReadsIfOpen {A = Option ℕ} b d (Ok next) (written_page old new place) → next ≡ None
      → ReadsIfOpen {A = Unit {0}} a d (Ok tt) (λ (c : Content) (done : Unit {0}). Rise 0 c.events → new ≡ start ++ records_text (above c.events after))
  rows_end place one two is =
      read_ok {A = Option ℕ} {C = Unit {0}} (λ (c : Content) (done : Unit {0}). Rise 0 c.events → new ≡ start ++ records_text (above c.events after)) a d next tt (page_on place one two)
      (λ c h rise. sym (append-nil new) ∙ ap (λ (o : Option ℕ). new ++ records_left c.events o) (sym is) ∙ h rise)

-- ---- over a connection

pub was_added : (t u : EventTable) (old mid new : BookState) → IsHeldBook old mid → ReadsIfOpen {A = Unit {0}} mid new (Ok tt) (IfOrdered (AddsEvents t u)) → IsAdded t u old new
was_added t u old mid new of read =
    let was = archive_read old mid new (tt {0}) of (read_ok {A = Unit {0}} {C = Unit {0}} Anything mid new tt tt read (λ c h. tt)) in
    record {
      step = was.step;
      opened = was.opened;
      same = was.same;
      answer = λ clean is.
          let before = read.step.clean clean in
          subst (λ (c : Content). AddsEvents t u c (tt {0})) (of.content before is) (read.value clean (of.step.sound before is) (of.live before is) (of.ordered before is));
      stops = was.stops;
    }

pub added_over : (t u : EventTable) (s now : State) (mid : BookState) (cache : Cache) (failures : ℕ) → IsTaken false s mid → ReadsIfOpen {A = Unit {0}} mid (followed cache (book_state now failures)) (Ok tt) (IfOrdered (AddsEvents t u))
    → OverConnection (IsAdded t u) false s now
added_over t u s now mid cache failures taken read =
    let new : BookState = followed cache (book_state now failures) in
    over_connection (λ (old after : BookState). ReadsIfOpen {A = Unit {0}} old after (Ok tt) (IfOrdered (AddsEvents t u))) (IsAdded t u) false s now mid cache failures
    (record {
      carries = λ old of h. was_added t u old mid new of h;
      leaves = λ old h. asked_called (LeavesBooks now) new (leaves_books now cache failures) old (tt {0}) (AddsEvents t u) h;
      clean = λ h. h.step.clean;
    })
    taken read

-- whatever was read, a reopening finds nothing new
pub table_read : {A : Type 0} {P : Content → A → Type 0} (mid new : BookState) (r : Result A BookFault) → ReadsIfOpen mid new r P → OnlyAsked mid new
table_read mid new r read = record { clean = read.step.clean; sound = read.step.sound; stops = read.unchanged.stops }

-- nothing was done
pub unserved_left : (s : State) → Unserved false s s
unserved_left s clean db at = before at

-- ---- in files

pub added_in : {D F G : Type 0} {g : Ghosts D} (t u : EventTable) (r : Result (Unit {0}) F) (closed : Result (Unit {0}) G) (conn last : Held (FileStore D g)) → IfOk r (λ (done : Unit {0}). OverConnection (IsAdded t u) false (file_state conn) (file_state last))
    → Unserved false (file_state conn) (file_state last) → OnOk closed (IsLaidIn last) → (r ≡ Ok tt) × (closed ≡ Ok tt) → OverArchive (IsAdded t u) conn
added_in {F = F} {G = G} t u r closed conn last added kept laid both = record {
  last = last;
  done = subst (λ (y : Result (Unit {0}) F). IfOk y (λ (done : Unit {0}). OverConnection (IsAdded t u) false (file_state conn) (file_state last))) both.0 added;
  closed = subst (λ (y : Result (Unit {0}) G). OnOk y (IsLaidIn last)) both.1 laid;
  kept = kept;
}

-- one more of a list
taken_more : {T : Type 0} (i : ℕ) (xs : List T) → i < length xs → length (take (suc i) xs) ≡ suc (length (take i xs))
taken_more i [] lt = absurd (omega (arith, lt))
taken_more zero (x ∷ xs) lt = refl
taken_more (suc i) (x ∷ xs) lt = ap suc (taken_more i xs (omega (arith, lt)))

pub one_more : {T : Type 0} (i : ℕ) (xs : List T) → i < length xs → length (take (i + 1) xs) ≡ suc (length (take i xs))
one_more i xs lt = ap (λ (n : ℕ). length (take n xs)) (let next : i + 1 ≡ suc i = omega arith in next) ∙ taken_more i xs lt

none_taken : {T : Type 0} (i : ℕ) → ◌≡◌ {A = List T} (take i []) []
none_taken zero = refl
none_taken (suc i) = refl

pub all_taken : {T : Type 0} (i : ℕ) (xs : List T) → length xs ≤ i → length (take i xs) ≡ length xs
all_taken i [] le = ap length (none_taken i)
all_taken zero (x ∷ xs) le = absurd (omega (arith, le))
all_taken (suc i) (x ∷ xs) le = ap suc (all_taken i xs (omega (arith, le)))

module _ {D : Type 0} (disk : Ghosts D) (IsFresh : Bool → D → Type 0) where
  pub archive_more : {T : Type 0} (i : ℕ) (xs : List T) (t u v : EventTable) → i < length xs → AddsArchives disk IsFresh (length (take i xs)) t u → AddsArchive disk IsFresh u v → AddsArchives disk IsFresh (length (take (i + 1) xs)) t v
  archive_more i xs t u v lt some one = subst (λ (n : ℕ). AddsArchives disk IsFresh n t v) (sym (one_more i xs lt)) (u, some, one)

  pub archives_all : {T : Type 0} (i : ℕ) (xs : List T) (t u : EventTable) → length xs ≤ i → AddsArchives disk IsFresh (length (take i xs)) t u → AddsArchives disk IsFresh (length xs) t u
  archives_all i xs t u le some = subst (λ (n : ℕ). AddsArchives disk IsFresh n t u) (all_taken i xs le) some

  -- ---- printed, and where a fault ended it

  pub table_printed : {F : Type 0} (count : ℕ) (status : Status) (conn last : Held (FileStore D disk)) (whole : EventTable) (closed : Result (Unit {0}) F) (old_output new_output : Option (List ℕ)) → IsOpenedFrom disk IsFresh conn
      → MakesTable disk IsFresh count (file_state conn) (file_state last) whole → OnOk closed (IsLaidIn last) → IsPrinted (Text whole.text) closed old_output new_output status → Exported disk IsFresh count old_output new_output status
  table_printed {F = F} count status conn last whole closed old_output new_output opened made laid p = record {
    begun = made.begun;
    before = made.before;
    whole = whole;
    header = made.header;
    archives = made.archives;
    done = record { conn = conn; last = last; opened = opened; done = made.desk; closed = subst (λ (x : Result (Unit {0}) F). OnOk x (IsLaidIn last)) p.shut laid };
    printed = p.printed;
    outcome = p.outcome;
  }

  pub table_stopped : (fault : Fault) (count : ℕ) (conn last : Held (FileStore D disk)) (old_output new_output : Option (List ℕ)) (Unwritten : Type 0) → IsOpenedFrom disk IsFresh conn → IsShut last
      → Unserved false (file_state conn) (file_state last) → Unwritten → LeavesExport disk IsFresh fault → LeftWithArchive disk IsFresh Unwritten (Unserved false) (ExportCut disk IsFresh count old_output new_output) (LeavesArchives disk IsFresh) fault
  table_stopped (ended_by.Opening why) count conn last old_output new_output Unwritten opened shut kept none left = absurd left
  table_stopped (ended_by.Work why) count conn last old_output new_output Unwritten opened shut kept none left = (conn, opened, (record { last = last; shut = shut; kept = kept }, inl none))
  table_stopped (ended_by.Archive why) count conn last old_output new_output Unwritten opened shut kept none left = (conn, opened, record { last = last; shut = shut; kept = kept }, none, left)
