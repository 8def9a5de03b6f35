-- A prune: what may go of a content by its archive; and what a prune does and leaves, from the two books on to their files.
use Rattle.std.specs.Prelude.{◌≡◌, ◌⊎◌, ⊤, ℕ, Bool, true, false, Result, Ok, IfOk}
use Rattle.std.specs.Bool.{Decides}
use Rattle.std.specs.Borrow.{MutBor}
use Rattle.sqlite.specs.State.{State}
use Rattle.sqlite.specs.Held.{Held}
use Rattle.sqlite_disk.specs.declared.Disk.{Ghosts}
use Rattle.sqlite_store.specs.declared.store.FileStore.{FileStore}
use Rattle.acd_book.specs.Content.{Content}
use Rattle.acd_book.specs.Order.{IsOrdered}
use Rattle.acd_book.specs.PrunedContent.{pruned}
use Rattle.acd_book.specs.State.{BookState, Commits, IfHonest}
use Rattle.acd_book.specs.declared.book.Book as book
use Rattle.acd_book.specs.declared.fault.BookFault.{BookFault}
use Rattle.acd_desk.specs.Audits.AuditWith.{StandsInTime}
use Rattle.acd_book.specs.BookReads.{Anything, ReadsIfOpen}
use Rattle.acd_desk.specs.Contents.CarriedContent.{Archive}
use Rattle.acd_desk.specs.Audits.Pairs.{BookCall, book_call}
use Rattle.acd_desk.specs.Contents.Pruning.{IsPlace, IsGone}
use Rattle.acd_log.specs.declared.ending.Ending.{Ending}
use Rattle.acd_log.specs.declared.ending.Ending.TheVariants.{Plain, Early, Headless}
use Rattle.acd_program.specs.declared.auditing.Finding.{Finding}
use Rattle.acd_program.specs.declared.auditing.Finding.TheVariants.{Sound, Counted, SentAgain, SentAgainCounted, Differs}
use Rattle.acd_program.specs.declared.fault.Fault.{Fault}
use Rattle.acd_program.specs.declared.fault.Fault.TheVariants as fault
use Rattle.acd_program.specs.declared.outcome.Pruning.{Pruning}
use Rattle.acd_program.specs.declared.outcome.Pruning.TheVariants as prune
use Rattle.acd_sessions.specs.Over.{Database, OnlyAsked, OverDatabase, OverConnection, Unserved}
use Rattle.acd_sessions.specs.ToDo.{ToDo}
use Rattle.acd_program.specs.Archives.WithArchive.{IsFindingWith, WasRead, WereAsked, OverArchive, InArchive, LeavesArchive}
use Rattle.acd_program.specs.Commands.Work.{WasAsked}
use denote.Triple.Both.{Both}

-- ---- what may go

-- an audit with the archive finds the content sound, also where a request was sent again
abbrev pub is_well : Finding → Bool
is_well Sound = true
is_well (Counted count) = true
is_well (SentAgain stamp) = true
is_well (SentAgainCounted stamp count) = true
is_well (Differs place) = false

-- a prune goes on after this finding, where the log of the file ended so before
abbrev pub goes_on : Ending → Finding → Bool
goes_on Plain x = is_well x
goes_on Early x = false
goes_on Headless x = false

-- it does after what an audit of these two finds
abbrev pub MayGoOn : Ending → Content → Content → Type 0
MayGoOn ending a c = (found : Finding) × (goes_on ending found ≡ true) × IsFindingWith a c found

-- nothing goes where the audit's finding refuses it; what goes goes up to a place of the archive
abbrev pub IsPruningOf : Ending → Content → Content → Pruning → Type 0
IsPruningOf ending a c (prune.Refused found end) = (end ≡ ending) × (goes_on ending found ≡ false) × IsFindingWith a c found
IsPruningOf ending a c prune.Nothing = MayGoOn ending a c
IsPruningOf ending a c (prune.UpTo cut) = MayGoOn ending a c × IsPlace a cut.stamp cut.number

-- of an archive that keeps to time, and a content whose records are in order
abbrev pub IsPruningInOrder : Ending → Content → Content → Pruning → Type 0
IsPruningInOrder ending a c pruning = StandsInTime a → IsOrdered c → IsPruningOf ending a c pruning

-- it is found whether this is a place of an archive that keeps to time
abbrev pub DecidesPlace : ℕ → ℕ → Content → Bool → Type 0
DecidesPlace stamp number a found = StandsInTime a → Decides found (IsPlace a stamp number)

-- ---- what has gone

-- The records up to this stamp and the events up to a number are gone, at a place of the archive: they are one piece of it. All else is as it was, and an audit with the archive finds what it found
-- before.
pub record IsPrunedTo (a old new : Content) (stamp : ℕ) : Type 0 where
  pub number : ℕ
  pub place : IsPlace a stamp number
  pub rest : new ≡ pruned stamp number old
  pub gone : Archive
  pub piece : IsGone a old new gone
  pub audit : (found : Finding) → is_well found ≡ true → IsFindingWith a old found → IsFindingWith a new found

-- so a prune was done
abbrev pub IsPruningDone : Ending → Content → Content → Content → Pruning → Type 0
IsPruningDone ending a old new (prune.Refused found end) = (new ≡ old) × IsPruningOf ending a old (prune.Refused found end)
IsPruningDone ending a old new prune.Nothing = (new ≡ old) × MayGoOn ending a old
IsPruningDone ending a old new (prune.UpTo cut) = MayGoOn ending a old × IsPrunedTo a old new cut.stamp

-- ---- over two books

-- a book was read, or nothing was done, without a fault
abbrev pub WasLeft : BookState → BookState → Type 0
WasLeft old new = ReadsIfOpen {A = Unit {0}} old new (Ok tt) Anything

-- two open books were asked together: neither has changed, and this is the answer of their contents
pub record AskedBoth {A : Type 0} (IsAnswer : Content → Content → A → Type 0) (old_archive new_archive old new : BookState) (found : A) : Type 0 where
  pub archive : WasLeft old_archive new_archive
  pub current : WasAsked old Anything found new
  pub answer : IfHonest old_archive new_archive (IfHonest old new (old_archive.is_open → IsAnswer old_archive.content old.content found))

-- a reopening finds nothing new in either
abbrev pub OnlyAskedBoth : BookCall → BookCall → Type 0
OnlyAskedBoth archive current = OnlyAsked archive.old archive.new × OnlyAsked current.old current.new

-- a book that a call was lent, by the name of its parameter
abbrev pub lent : {B : Type 0} → book.Ghosts B → Both (MutBor B) (MutBor B) → BookCall
lent books given = book_call books.state given.entry.now given.exit.now

-- the asking of an archive's book, and of another one with that which came back
abbrev pub asking : {A B F : Type 0} → (Content → Content → A → Type 0) → BookCall → book.Ghosts B → B → B → ToDo A F
asking IsAnswer archive books old new = record {
  Done = AskedBoth IsAnswer archive.old archive.new (books.state old) (books.state new);
  Left = λ fault. OnlyAskedBoth archive (book_call books.state old new);
}

-- by the archive's content and a finding this is to go
abbrev pub IsDecision : Ending → Finding → Content → Pruning → Type 0
IsDecision ending found a (prune.Refused why end) = (why ≡ found) × (end ≡ ending) × (goes_on ending found ≡ false)
IsDecision ending found a prune.Nothing = goes_on ending found ≡ true
IsDecision ending found a (prune.UpTo cut) = (goes_on ending found ≡ true) × IsPlace a cut.stamp cut.number

-- both books were looked through for it
pub record WasDecided (ending : Ending) (found : Finding) (old_archive new_archive old new : BookState) (pruning : Pruning) : Type 0 where
  pub archive : WasLeft old_archive new_archive
  pub current : WasLeft old new
  pub decision : IfHonest old_archive new_archive (old_archive.is_open → StandsInTime old_archive.content → IsDecision ending found old_archive.content pruning)

abbrev pub deciding : {F : Type 0} → Ending → Finding → BookCall → BookCall → ToDo Pruning F
deciding ending found archive current = record {
  Done = WasDecided ending found archive.old archive.new current.old current.new;
  Left = λ fault. OnlyAskedBoth archive current;
}

-- what is to go goes, all or none
abbrev pub CarriesOut : BookState → BookState → Result (Unit {0}) BookFault → Pruning → Type 0
CarriesOut old new result (prune.Refused why ending) = WasLeft old new × (result ≡ Ok tt)
CarriesOut old new result prune.Nothing = WasLeft old new × (result ≡ Ok tt)
CarriesOut old new result (prune.UpTo cut) = Commits old new result (λ c. ⊤) (pruned cut.stamp cut.number)

-- the book was pruned by its archive, or nothing was done: a reopening finds what it could find before, or that without what has gone
pub record OnlyPruned (old_archive new_archive old new : BookState) : Type 0 where
  pub clean : new.is_clean → old.is_clean
  pub sound : IfHonest old new new.is_sound
  pub stops : IfHonest old_archive new_archive (IfHonest old new (StandsInTime old_archive.content
      → (c : Content) → new.stops c → old.stops c ⊎ ((stamp : ℕ) × IsPrunedTo old_archive.content old.content c stamp)))

-- so it was done, and the archive has not changed
pub record WasPruned (ending : Ending) (old_archive new_archive old new : BookState) (pruning : Pruning) : Type 0 where
  pub archive : WasRead old_archive new_archive
  pub only : OnlyPruned old_archive new_archive old new
  pub opened : IfHonest old new (old.is_open × new.is_open)
  pub done : IfHonest old_archive new_archive (IfHonest old new (StandsInTime old_archive.content → IsPruningDone ending old_archive.content old.content new.content pruning))

-- ---- over the archive's connection, and its files

-- the archive's book and the current one were asked what is to go
abbrev pub ArePlanned : Ending → BookCall → Pruning → BookState → BookState → Type 0
ArePlanned ending current pruning old new = WereAsked (IsPruningInOrder ending) old new current.old current.new pruning

-- so they were, the archive in a database that was handed in, with the other book and the connection that came back
abbrev pub PlansOver : {S B F : Type 0} → Database S → Ending → book.Ghosts B → B → (Result Pruning F × B) × Held S → Type 0
PlansOver db ending books given result = IfOk result.0.0 (λ (pruning : Pruning). OverDatabase db (ArePlanned ending (book_call books.state given result.0.1) pruning) result.1)

-- and in files
abbrev pub PlansIn : {D F : Type 0} {g : Ghosts D} → Ending → Held (FileStore D g) → BookCall → Result Pruning F → Type 0
PlansIn ending conn current result = IfOk result (λ (pruning : Pruning). OverArchive (ArePlanned ending current pruning) conn)

-- `IsFresh is_log file` says that a file is a log, or a database file, that was just opened
module _ {D : Type 0} (disk : Ghosts D) (IsFresh : Bool → D → Type 0) where
  -- a book was pruned by the archive in files that were opened beside it
  abbrev pub BookPruned : Ending → BookState → BookState → Pruning → Type 0
  BookPruned ending old new pruning = InArchive disk IsFresh (λ (old_archive new_archive : BookState). WasPruned ending old_archive new_archive old new pruning)

  -- or it may have been
  abbrev pub BookLeft : BookState → BookState → Type 0
  BookLeft old new = InArchive disk IsFresh (λ (old_archive new_archive : BookState). WasRead old_archive new_archive × OnlyPruned old_archive new_archive old new)

  -- a reopening finds what it could find before or, by the archive's files, that without what has gone
  abbrev pub LeftOver : State → State → Type 0
  LeftOver s t = Unserved false s t ⊎ OverConnection BookLeft false s t

  -- a fault ended a prune of a database
  abbrev pub LeavesPruned : State → State → Fault → Type 0
  LeavesPruned s t (fault.Opening why) = ⊥
  LeavesPruned s t (fault.Work why) = LeftOver s t
  LeavesPruned s t (fault.Archive why) = Unserved false s t × LeavesArchive disk IsFresh why
