-- What an audit of a desk with the archive that it goes on from finds, from the desk on to the database.
use Rattle.std.specs.Prelude.{◌≡◌, ℕ, Bool, false, Result, Ok, IfOk}
use Rattle.sqlite.specs.State.{State}
use Rattle.sqlite.specs.Held.{Held, state}
use Rattle.sqlite.specs.Files.{file_state}
use Rattle.sqlite_disk.specs.declared.Disk.{Ghosts}
use Rattle.sqlite_store.specs.declared.store.FileStore.{FileStore}
use Rattle.acd_book.specs.declared.book.Book as book
use Rattle.acd_book.specs.Content.{Content}
use Rattle.acd_book.specs.Order.{IsOrdered}
use Rattle.acd_book.specs.State.{BookState, IfHonest}
use Rattle.acd_desk.specs.declared.audit.ArchiveAudit.{ArchiveAudit}
use Rattle.acd_desk.specs.declared.audit.ArchiveAudit.TheVariants as audit
use Rattle.acd_desk.specs.declared.audit.AuditFault.{AuditFault}
use Rattle.acd_desk.specs.Audits.AuditWith.{StandsInTime, IsSentAgain, IsDifferenceWith}
use Rattle.acd_book.specs.BookReads.{Anything}
use Rattle.acd_desk.specs.declared.desk.Desk.{Desk}
use Rattle.acd_desk.specs.Desks.DeskState.{DeskState, InStep, state_of}
use Rattle.acd_desk.specs.Reads.DeskReads.{ReadDone}
use Rattle.acd_desk.specs.Contents.WithArchive.{IsSoundWith}
use Rattle.acd_log.specs.declared.ending.Ending.{Ending}
use Rattle.acd_program.specs.declared.auditing.Finding.{Finding}
use Rattle.acd_program.specs.declared.auditing.Finding.TheVariants.{Sound, Counted, SentAgain, SentAgainCounted, Differs}
use Rattle.acd_program.specs.declared.desk.Done.{Done}
use Rattle.acd_program.specs.declared.desk.Done.TheVariants as left
use Rattle.acd_program.specs.declared.fault.ArchiveFault.{ArchiveFault}
use Rattle.acd_program.specs.declared.fault.ArchiveFault.TheVariants as archive
use Rattle.acd_program.specs.declared.fault.Fault.{Fault}
use Rattle.acd_program.specs.declared.fault.Fault.TheVariants as fault
use Rattle.acd_program.specs.Commands.AuditFindings.{HasCount}
use Rattle.acd_files.specs.Connections.{IsShut, OfFiles, IsLaidIn, IsOpenedFrom, LeavesUnopened}
use Rattle.acd_sessions.specs.Over.{Database, OverConnection, Unserved}
use Rattle.acd_program.specs.Commands.Work.{WasAsked}

-- an audit with an archive, without a count, and with one
abbrev pub uncounted_with : ArchiveAudit → Finding
uncounted_with audit.Sound = Sound
uncounted_with (audit.SentAgain stamp) = SentAgain stamp
uncounted_with (audit.Differs place) = Differs place

abbrev pub counted_with : ArchiveAudit → ℕ → Finding
counted_with audit.Sound count = Counted count
counted_with (audit.SentAgain stamp) count = SentAgainCounted stamp count
counted_with (audit.Differs place) count = Differs place

-- the content continues that of the archive, also where a request that was left there was sent again, with so many executed requests in both; or it doesn't, and this is the stamp of a
-- difference
abbrev pub IsFindingWith : Content → Content → Finding → Type 0
IsFindingWith a c Sound = IsSoundWith a c
IsFindingWith a c (Counted count) = IsSoundWith a c × (count ≡ c.rows.last_stamp)
IsFindingWith a c (SentAgain stamp) = IsSentAgain a c stamp
IsFindingWith a c (SentAgainCounted stamp count) = IsSentAgain a c stamp × (count ≡ c.rows.last_stamp)
IsFindingWith a c (Differs place) = IsDifferenceWith a c place

-- the same of a desk: one that is in step counts its executed requests
abbrev pub IsDeskFindingWith : Content → DeskState → Finding → Type 0
IsDeskFindingWith a s Sound = IsSoundWith a s.book.content
IsDeskFindingWith a s (Counted count) = IsSoundWith a s.book.content × (InStep s → count ≡ s.book.content.rows.last_stamp)
IsDeskFindingWith a s (SentAgain stamp) = IsSentAgain a s.book.content stamp
IsDeskFindingWith a s (SentAgainCounted stamp count) = IsSentAgain a s.book.content stamp × (InStep s → count ≡ s.book.content.rows.last_stamp)
IsDeskFindingWith a s (Differs place) = IsDifferenceWith a s.book.content place

-- of an archive that keeps to time, as each sound one does, this is found
abbrev pub IsFindingIn : Content → Content → Finding → Type 0
IsFindingIn a c found = StandsInTime a → IsFindingWith a c found

-- and of a content whose records are in order, as those of tables do
abbrev pub IsFindingInOrder : Content → Content → Finding → Type 0
IsFindingInOrder a c found = StandsInTime a → IsOrdered c → IsFindingWith a c found

-- a desk's answer is found so
abbrev pub IsFoundWithArchive : BookState → BookState → DeskState → DeskState → Result Finding AuditFault → Type 0
IsFoundWithArchive old_archive new_archive d e result =
    IfHonest old_archive new_archive (IfHonest d.book e.book (old_archive.is_open → d.book.is_open
    → IfOk result (λ (found : Finding). StandsInTime old_archive.content → IsOrdered d.book.content → IsDeskFindingWith old_archive.content d found)))

-- the same, of an archive that was open
abbrev pub FindsWithArchive : BookState → BookState → DeskState → DeskState → Finding → Type 0
FindsWithArchive old_archive new_archive d e found =
    IfHonest old_archive new_archive (IfHonest d.book e.book (d.book.is_open → StandsInTime old_archive.content → IsOrdered d.book.content → IsDeskFindingWith old_archive.content d found))

-- in a call it is, by the archive and the desk, each as it was and as it is then
abbrev pub FindsWith : {A B : Type 0} → book.Ghosts A → A × A → book.Ghosts B → Desk B × Desk B → Result Finding AuditFault → Type 0
FindsWith archives archive books desk result = IsFoundWithArchive (archives.state archive.0) (archives.state archive.1) (state_of books desk.0) (state_of books desk.1) result

-- a book was asked, whatever it holds
abbrev pub WasRead : BookState → BookState → Type 0
WasRead old new = WasAsked {A = Unit {0}} old Anything (tt {0}) new

-- two books were asked together: neither has changed, and this is the answer of their contents
pub record WereAsked {A : Type 0} (IsAnswer : Content → Content → A → Type 0) (old_archive new_archive old new : BookState) (found : A) : Type 0 where
  pub archive : WasRead old_archive new_archive
  pub current : WasAsked old Anything found new
  pub answer : IfHonest old_archive new_archive (IfHonest old new (IsAnswer old_archive.content old.content found))

-- ---- over the archive's connection

-- a desk was asked while the archive was open
pub record AskedOver (s t : State) (d e : DeskState) (found : Finding) : Type 0 where
  pub desk : ReadDone d e (Ok found) Anything
  pub archive : OverConnection (λ (old new : BookState). WasRead old new × FindsWithArchive old new d e found) false s t

-- so it was, by the desk as it was and as it is then, with the connection that came back
abbrev pub AsksOver : {S B F : Type 0} → Database S → book.Ghosts B → Desk B → Desk B → Result Finding F × Held S → Type 0
AsksOver db books old new result = IfOk result.0 (AskedOver (state db.store db.conn) (state db.store result.1) (state_of books old) (state_of books new))

module _ {D : Type 0} {g : Ghosts D} where
  -- this was done over the archive's book, and the connection was closed into its file; a reopening finds there what it could find before
  pub record OverArchive (P : BookState → BookState → Type 0) (conn : Held (FileStore D g)) : Type 0 where
    pub last : Held (FileStore D g)
    pub done : OverConnection P false (file_state conn) (file_state last)
    pub closed : IsLaidIn last
    pub kept : Unserved false (file_state conn) (file_state last)

  -- whatever was done over it, the connection was shut, and what it held was kept so
  pub record IsShutWith (IsKept : State → State → Type 0) (conn : Held (FileStore D g)) : Type 0 where
    pub last : Held (FileStore D g)
    pub shut : IsShut last
    pub kept : IsKept (file_state conn) (file_state last)

  -- the same, of an archive in files
  pub record AskedIn (conn : Held (FileStore D g)) (d e : DeskState) (found : Finding) : Type 0 where
    pub desk : ReadDone d e (Ok found) Anything
    pub archive : OverArchive (λ (old new : BookState). WasRead old new × FindsWithArchive old new d e found) conn

  -- so it was, by the desk as it was and as it is then
  abbrev pub AsksIn : {B F : Type 0} → Held (FileStore D g) → book.Ghosts B → Desk B → Desk B → Result Finding F → Type 0
  AsksIn conn books old new result = IfOk result (AskedIn conn (state_of books old) (state_of books new))

-- `IsFresh is_log file` says that a file is a log, or a database file, that was just opened
module _ {D : Type 0} (disk : Ghosts D) (IsFresh : Bool → D → Type 0) where
  -- an archive in files that were just opened, and this was done over its book
  abbrev pub InArchive : (BookState → BookState → Type 0) → Type 0
  InArchive P = (conn : OfFiles disk) × IsOpenedFrom disk IsFresh conn × OverArchive P conn

  -- a desk was asked while an archive was open in files beside it
  abbrev pub AskedWithArchive : DeskState → DeskState → Finding → Type 0
  AskedWithArchive d e found = (conn : OfFiles disk) × IsOpenedFrom disk IsFresh conn × AskedIn conn d e found

  -- a book was
  abbrev pub BookAskedWithArchive : {A : Type 0} → (Content → Content → A → Type 0) → BookState → BookState → A → Type 0
  BookAskedWithArchive IsAnswer old new found = InArchive (λ (old_archive new_archive : BookState). WereAsked IsAnswer old_archive new_archive old new found)

  -- an audit of the book found this, which is left to print with how the log of its file ended before
  abbrev pub AuditsWithArchive : Bool → Ending → BookState → BookState → Done → Type 0
  AuditsWithArchive counts ending old new left.Nothing = ⊥
  AuditsWithArchive counts ending old new (left.Text text) = ⊥
  AuditsWithArchive counts ending old new (left.Pruned pruning quiet) = ⊥
  AuditsWithArchive counts ending old new (left.Audited found end) = HasCount counts found × BookAskedWithArchive IsFindingInOrder old new found × (end ≡ ending)

  -- and one of the book that a database held
  abbrev pub AuditedWithArchive : Bool → Ending → State → State → Done → Type 0
  AuditedWithArchive counts ending s t left.Nothing = ⊥
  AuditedWithArchive counts ending s t (left.Text text) = ⊥
  AuditedWithArchive counts ending s t (left.Pruned pruning quiet) = ⊥
  AuditedWithArchive counts ending s t (left.Audited found end) = HasCount counts found × OverConnection (λ (old new : BookState). BookAskedWithArchive IsFindingIn old new found) false s t × (end ≡ ending)

  -- ---- where a fault ended the audit once the desk was open

  -- this is left of the archive: what an opening leaves where there was no connection, and else what a reopening could find before
  abbrev pub LeavesArchive : ArchiveFault → Type 0
  LeavesArchive (archive.Opening why) = LeavesUnopened disk IsFresh why
  LeavesArchive (archive.Work why) = (conn : OfFiles disk) × IsOpenedFrom disk IsFresh conn × IsShutWith (Unserved false) conn

  -- the same, where a fault of the desk may be what ended it: then the archive wasn't opened
  abbrev pub LeavesBeside : Fault → Type 0
  LeavesBeside (fault.Opening why) = ⊥
  LeavesBeside (fault.Work why) = Unit {0}
  LeavesBeside (fault.Archive why) = LeavesArchive why
