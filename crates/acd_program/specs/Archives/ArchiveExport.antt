-- The events of archives, and of the file that goes on from them, as one table.
use Rattle.std.specs.Prelude.{◌≡◌, ℕ, zero, suc, ◌++◌, max, Bool, false, Result, IfOk, String, string_bytes}
use Rattle.sqlite.specs.State.{State}
use Rattle.sqlite.specs.Held.{Held}
use Rattle.sqlite_disk.specs.declared.Disk.{Ghosts}
use Rattle.sqlite_store.specs.declared.store.FileStore.{FileStore}
use Rattle.acd_terms.specs.Numbers.{EventNumber}
use Rattle.acd_book.specs.Content.{Content}
use Rattle.acd_book.specs.State.{BookState}
use Rattle.acd_desk.specs.Reads.ReadAnswers.{Rise, above}
use Rattle.acd_reports.specs.Export.{header_record, records_text}
use Rattle.acd_program.specs.declared.export.EventTable.{EventTable}
use Rattle.acd_program.specs.declared.fault.ArchiveFault.{ArchiveFault}
use Rattle.acd_program.specs.declared.fault.Fault.{Fault}
use Rattle.acd_program.specs.declared.fault.Fault.TheVariants as fault
use Rattle.acd_sessions.specs.Over.{Database, OverDatabase, OverConnection}
use Rattle.acd_program.specs.Archives.WithArchive.{OverArchive, InArchive, LeavesArchive}
use Rattle.acd_program.specs.Commands.Work.{WasAsked}

-- ---- the table

-- it has the header alone, and no event
abbrev pub IsNewTable : EventTable → Type 0
IsNewTable table = (string_bytes table.text ≡ header_record) × (table.last ≡ 0)

-- The records of those events of a content are added whose number is above the number up to which the table has them. It then has them up to the last event that the content tells of.
pub record IsWith (old new : EventTable) (c : Content) : Type 0 where
  pub rows : string_bytes new.text ≡ string_bytes old.text ++ records_text (above c.events old.last)
  pub number : new.last ≡ max old.last c.rows.last_event

-- so they are by a read of the content
abbrev pub AddsEvents : EventTable → EventTable → Content → Unit {0} → Type 0
AddsEvents old new c done = IsWith old new c

-- the records of all events above a number are added to a text, where they stand in ascending number
abbrev pub WritesRows : {Z : Type 0} → String Z → String Z → EventNumber → Content → Unit {0} → Type 0
WritesRows old new after c done = Rise 0 c.events → string_bytes new ≡ string_bytes old ++ records_text (above c.events after)

-- ---- of a database, and of archives

-- a book was asked for them
abbrev pub IsAdded : EventTable → EventTable → BookState → BookState → Type 0
IsAdded old new before after = WasAsked before (AddsEvents old new) (tt {0}) after

-- so was the book that a database holds, with the connection that came back
abbrev pub AddsOver : {S F : Type 0} → Database S → EventTable → EventTable → Result (Unit {0}) F × Held S → Type 0
AddsOver db old new result = IfOk result.0 (λ (done : Unit {0}). OverDatabase db (IsAdded old new) result.1)

-- and that of an archive in files, which were closed
abbrev pub AddsIn : {D F : Type 0} {g : Ghosts D} → Held (FileStore D g) → EventTable → EventTable → Result (Unit {0}) F → Type 0
AddsIn conn old new result = IfOk result (λ (done : Unit {0}). OverArchive (IsAdded old new) conn)

-- `IsFresh is_log file` says that a file is a log, or a database file, that was just opened
module _ {D : Type 0} (disk : Ghosts D) (IsFresh : Bool → D → Type 0) where
  -- an archive in files that were just opened was, and it is as it was
  abbrev pub AddsArchive : EventTable → EventTable → Type 0
  AddsArchive old new = InArchive disk IsFresh (IsAdded old new)

  -- so many were, one after another
  abbrev pub AddsArchives : ℕ → EventTable → EventTable → Type 0
  AddsArchives zero old new = new ≡ old
  AddsArchives (suc count) old new = (mid : EventTable) × AddsArchives count old mid × AddsArchive mid new

  -- from the header on, so many archives and then the desk in a database
  pub record MakesTable (count : ℕ) (s t : State) (whole : EventTable) : Type 0 where
    pub begun : EventTable
    pub before : EventTable
    pub header : IsNewTable begun
    pub archives : AddsArchives count begun before
    pub desk : OverConnection (IsAdded before whole) false s t

  -- a fault of an archive ended it: some before that one were read and are as they were, and so this one is left
  abbrev pub LeavesArchives : ArchiveFault → Type 0
  LeavesArchives why = (count : ℕ) × (old : EventTable) × (new : EventTable) × AddsArchives count old new × LeavesArchive disk IsFresh why

  -- the same of any fault of it, of which only that of an archive can leave one otherwise
  abbrev pub LeavesExport : Fault → Type 0
  LeavesExport (fault.Opening why) = ⊥
  LeavesExport (fault.Work why) = Unit {0}
  LeavesExport (fault.Archive why) = LeavesArchives why
