-- The task of a command line: what is so where it was done, and what is left where a fault ended it.
use Rattle.std.specs.Prelude.{◌≡◌, ◌⊎◌, ℕ, Bool, true, false, List, length, Option, Some, None, Result, string_bytes}
use Rattle.std.specs.Io.KnownBytes.{Appends}
use Rattle.sqlite_disk.specs.declared.Disk.{Ghosts}
use Rattle.sqlite.specs.Files.{over_files, file_state}
use Rattle.sqlite.specs.State.{State}
use Rattle.acd_lines.specs.Lines.{Streams, Untouched, Output, output_of}
use Rattle.acd_lines.specs.declared.fault.LinesFault.{LinesFault}
use Rattle.acd_log.specs.declared.ending.Ending.{Ending}
use Rattle.acd_io.specs.SentBytes.{Begins}
use Rattle.acd_program.specs.Archives.WithArchive.{IsFindingIn, BookAskedWithArchive, IsShutWith, LeavesArchive}
use Rattle.acd_program.specs.Commands.Ended.{IsFaultOf, TakesPlan, WorkLeft}
use Rattle.acd_files.specs.Connections.{IsShut, OfFiles, IsOpenedFrom, LeavesUnopened}
use Rattle.acd_program.specs.Archives.ArchiveExport.{MakesTable, LeavesArchives}
use Rattle.acd_sessions.specs.Faults.{lines_fault}
use Rattle.acd_program.specs.Commands.AuditFindings.{HasCount, finding_line, pruning_line}
use Rattle.acd_program.specs.Commands.InFiles.{InFile}
use Rattle.acd_sessions.specs.Over.{OverConnection, Unserved}
use Rattle.acd_sessions.specs.ToDo.{ToDo}
use Rattle.acd_http.specs.declared.serving.Span.{Span}
use Rattle.acd_sessions.specs.Serving.{Service, ServeIn}
use Rattle.acd_sessions.specs.Standby.{StandbyIn, upon_order}
use Rattle.acd_sessions.specs.Sessions.{DatabaseLeaves, MemoryLeft}
use Rattle.acd_files.specs.Logs.{IsSomeEnding}
use Rattle.acd_program.specs.Commands.Tasks.{IsReadEnding, endless, WorkedIn, ImportedIn, ServeDoneIn, StandbyDoneIn, FileAnswered, InputAnswered, AuditedIn, WholeAudit, AuditedWith, PrunedWith, Exported}
use Rattle.acd_program.specs.Commands.Work.{WasAsked, IsTextOf, ImportsOver}
use Rattle.acd_program.specs.Archives.Pruning.{BookPruned, LeftOver}
use Rattle.acd_program.specs.declared.auditing.Finding.{Finding}
use Rattle.acd_program.specs.declared.export.EventTable.{EventTable}
use Rattle.acd_program.specs.declared.fault.ArchiveFault.{ArchiveFault}
use Rattle.acd_program.specs.declared.fault.Fault.{Fault}
use Rattle.acd_program.specs.declared.fault.Fault.TheVariants.{Opening, Archive}
use Rattle.acd_program.specs.declared.fault.Fault.TheVariants as ended_by
use Rattle.acd_sessions.specs.declared.fault.WorkFault.{WorkFault}
use Rattle.acd_command.specs.declared.asked.Work.{Work}
use Rattle.acd_command.specs.declared.asked.Work.TheVariants as kind
use Rattle.acd_program.specs.declared.outcome.Pruning.{Pruning}
use Rattle.acd_command.specs.declared.asked.Address.{Address}
use Rattle.acd_sessions.specs.declared.serving.Serving.{Serving}
use Rattle.acd_program.specs.declared.status.Status.{Status}
use Rattle.acd_program.specs.declared.status.Status.TheVariants.{Success}
use Rattle.acd_command.specs.declared.asked.Task.{Task}
use Rattle.acd_command.specs.declared.asked.Task.TheVariants.{Lines, Serve, Standby, Import, AuditWhole, AuditWithArchive, Prune, ExportWithArchives, Read}

-- `IsFresh is_log file` says that a file is a log, or a database file, that was just opened
module _ {D : Type 0} (disk : Ghosts D) (IsFresh : Bool → D → Type 0) where
  -- A fault ended what was to be done over a file. There was no connection: nothing was read or written, and this is left of files that were opened. Or there was one to files that were just opened,
  -- and over it this was left. Or a fault of an archive ended it.
  abbrev pub LeftBeside : Type 0 → (WorkFault → OfFiles disk → Type 0) → (ArchiveFault → Type 0) → Fault → Type 0
  LeftBeside Untouched Left ByArchive (Opening why) = Untouched × LeavesUnopened disk IsFresh why
  LeftBeside Untouched Left ByArchive (ended_by.Work why) = (conn : OfFiles disk) × IsOpenedFrom disk IsFresh conn × Left why conn
  LeftBeside Untouched Left ByArchive (Archive why) = ByArchive why

  -- the same where no archive is opened
  abbrev pub LeftIn : Type 0 → (WorkFault → OfFiles disk → Type 0) → Fault → Type 0
  LeftIn Untouched Left = LeftBeside Untouched Left (λ (why : ArchiveFault). ⊥)

  -- the lines ended, or closing their file did, and the connection was shut
  pub record LinesLeft (reads ends : Bool) (io : Streams) (fault : WorkFault) (conn : OfFiles disk) : Type 0 where
    pub last : OfFiles disk
    pub shut : IsShut last
    pub ended : Result (Unit {0}) WorkFault
    pub lines : DatabaseLeaves over_files true reads ends io (file_state conn) ended last
    pub why : IsFaultOf ended fault

  -- the service ended, or closing its file did, and the connection was shut
  pub record ServiceLeft (span : Span) (address : Address) (old_output new_output old_errors new_errors : Option (List ℕ)) (fault : WorkFault) (conn : OfFiles disk) : Type 0 where
    pub last : OfFiles disk
    pub shut : IsShut last
    pub ended : Result (Unit {0}) WorkFault
    pub answered : ServeIn span old_errors new_errors address old_output new_output over_files true (file_state conn) ended last
    pub why : IsFaultOf ended fault

  -- the standby ended, or closing its file did, and the connection was shut
  pub record StandbyLeft (span : Span) (address : Address) (io : Streams) (old_errors new_errors : Option (List ℕ)) (fault : WorkFault) (conn : OfFiles disk) : Type 0 where
    pub last : OfFiles disk
    pub left : Option (List ℕ)
    pub shut : IsShut last
    pub ended : Result (Unit {0}) WorkFault
    pub answered : StandbyIn over_files true (file_state conn) (upon_order span address io left (old_errors, new_errors)) ended last
    pub why : IsFaultOf ended fault

  -- an audit with an archive was done, and a beginning of what it found was printed
  pub record AuditCut (counts whole : Bool) (old_output new_output : Option (List ℕ)) (conn last : OfFiles disk) : Type 0 where
    pub found : Finding
    pub ending : Ending
    pub counted : HasCount counts found
    pub read : IsReadEnding whole ending
    pub done : OverConnection (λ old new. BookAskedWithArchive disk IsFresh IsFindingIn old new found) false (file_state conn) (file_state last)
    pub printed : Begins old_output new_output (finding_line ending found)

  -- a prune was done, and a beginning of what came of it was printed
  pub record PruneCut (quiet : Bool) (old_output new_output : Option (List ℕ)) (conn last : OfFiles disk) : Type 0 where
    pub pruning : Pruning
    pub ending : Ending
    pub read : IsSomeEnding ending
    pub done : OverConnection (λ old new. BookPruned disk IsFresh ending old new pruning) false (file_state conn) (file_state last)
    pub printed : Begins old_output new_output (pruning_line quiet pruning)

  -- a table of archives and the file was made, and a beginning of it was printed
  pub record ExportCut (count : ℕ) (old_output new_output : Option (List ℕ)) (conn last : OfFiles disk) : Type 0 where
    pub whole : EventTable
    pub made : MakesTable disk IsFresh count (file_state conn) (file_state last) whole
    pub printed : Begins old_output new_output (string_bytes whole.text)

  -- A fault ended what was to be done with an archive. No connection to the desk's file was made; or the desk's work ended, before anything was printed or after; or the archive's did, of which this
  -- is left, and in the desk's file a reopening finds what it could find before.
  abbrev pub LeftWithArchive : Type 0 → (State → State → Type 0) → (OfFiles disk → OfFiles disk → Type 0) → (ArchiveFault → Type 0) → Fault → Type 0
  LeftWithArchive Unwritten IsKept IsCut LeavesIt =
      LeftBeside Unwritten (λ (why : WorkFault) (conn : OfFiles disk). (left : IsShutWith IsKept conn) × (Unwritten ⊎ IsCut conn left.last))
      (λ (why : ArchiveFault). (conn : OfFiles disk) × IsOpenedFrom disk IsFresh conn × IsShutWith (Unserved false) conn × Unwritten × LeavesIt why)

  -- ---- by what was to be done

  abbrev pub file_work : Bool → Work → Output → ToDo Status Fault
  file_work makes work out = record {
    Done = WorkedIn disk IsFresh makes work out.before out.after;
    Left = LeftIn out.unwritten (λ (why : WorkFault) (conn : OfFiles disk). WorkLeft makes work conn out.before out.after);
  }

  -- the requests of a plan of some bytes
  abbrev pub file_import : Output → ToDo Status Fault
  file_import out = record {
    Done = ImportedIn disk IsFresh out.before out.after;
    Left = LeftIn out.unwritten (λ (why : WorkFault) (conn : OfFiles disk). (bytes : List ℕ) × (work : Work) × TakesPlan bytes work × WorkLeft true work conn out.before out.after);
  }

  -- a fault ended the audit of files whose log ended so before
  abbrev pub IsAuditLeft : Bool → Option (List ℕ) → Option (List ℕ) → WorkFault → OfFiles disk → Type 0
  IsAuditLeft counts old_output new_output why conn = (ending : Ending) × IsSomeEnding ending × WorkLeft false (kind.Audit counts ending) conn old_output new_output

  -- the audit of files with how their log ended before
  abbrev pub whole_audit : Bool → Output → ToDo Status Fault
  whole_audit counts out = record {
    Done = WholeAudit disk IsFresh counts out.before out.after;
    Left = LeftIn out.unwritten (IsAuditLeft counts out.before out.after);
  }

  abbrev pub audit_with_archive : Bool → Bool → Output → ToDo Status Fault
  audit_with_archive counts whole out = record {
    Done = AuditedWith disk IsFresh counts whole out.before out.after;
    Left = LeftWithArchive out.unwritten (Unserved false) (AuditCut counts whole out.before out.after) (LeavesArchive disk IsFresh);
  }

  abbrev pub prune : Bool → Output → ToDo Status Fault
  prune quiet out = record {
    Done = PrunedWith disk IsFresh quiet out.before out.after;
    Left = LeftWithArchive out.unwritten (LeftOver disk IsFresh) (PruneCut quiet out.before out.after) (LeavesArchive disk IsFresh);
  }

  -- the events of so many archives and a file
  abbrev pub export_with_archives : ℕ → Output → ToDo Status Fault
  export_with_archives count out = record {
    Done = Exported disk IsFresh count out.before out.after;
    Left = LeftWithArchive out.unwritten (Unserved false) (ExportCut count out.before out.after) (LeavesArchives disk IsFresh);
  }

  -- connections
  abbrev pub file_service : Service → ToDo (Unit {0}) Fault
  file_service service = record {
    Done = λ done. ServeDoneIn disk IsFresh service.span service.errors.before service.errors.after;
    Left = LeftIn (service.said.unwritten × (service.errors.after ≡ service.errors.before))
        (ServiceLeft service.span service.address service.said.before service.said.after service.errors.before service.errors.after);
  }

  -- the lines of an input up to the order, and then connections
  abbrev pub file_standby : Serving → Streams → Output → ToDo (Unit {0}) Fault
  file_standby serving io errors = record {
    Done = λ done. StandbyDoneIn disk IsFresh serving.span serving.address io errors.before errors.after;
    Left = LeftIn (Untouched io × (errors.after ≡ errors.before)) (StandbyLeft serving.span serving.address io errors.before errors.after);
  }

  -- the lines of an input, over a file
  abbrev pub file_lines : Bool → Bool → Streams → ToDo (Unit {0}) Fault
  file_lines reads ends io = record { Done = λ done. FileAnswered disk IsFresh reads ends io; Left = LeftIn (Untouched io) (LinesLeft reads ends io) }

  -- or over a desk in memory, where no file was named
  abbrev pub InputLeft : {Name : Type 0} → Option Name → Bool → Bool → Streams → Fault → Type 0
  InputLeft None reads ends io fault = (why : LinesFault) × (fault ≡ ended_by.Work (lines_fault why)) × MemoryLeft reads io why
  InputLeft (Some file) reads ends io fault = LeftIn (Untouched io) (LinesLeft reads ends io) fault

  abbrev pub input : {Name : Type 0} → Option Name → Bool × Bool → Streams → ToDo Status Fault
  input named asked io = record { Done = InputAnswered disk IsFresh named asked.0 asked.1 io; Left = InputLeft named asked.0 asked.1 io }

  -- The task was done, from what was read to what was written, to what was printed on the stream of errors, and to the exit status.
  abbrev pub TaskDone : Task → Streams → Option (List ℕ) → Option (List ℕ) → Status → Type 0
  TaskDone (Lines file reads ends) io old_errors new_errors status = InputAnswered disk IsFresh file reads ends io status
  TaskDone (Serve file address span) io old_errors new_errors status = ServeDoneIn disk IsFresh span old_errors new_errors × (status ≡ Success)
  TaskDone (Standby file address step patience) io old_errors new_errors status = StandbyDoneIn disk IsFresh (endless step patience) address io old_errors new_errors × (status ≡ Success)
  TaskDone (Import file plan) io old_errors new_errors status = ImportedIn disk IsFresh io.old_output io.new_output status
  TaskDone (Read file (kind.Import requests)) io old_errors new_errors status = InFile disk IsFresh (λ old new. ImportsOver requests.now old io.old_output io.new_output new) false × (status ≡ Success)
  TaskDone (Read file (kind.Print printout)) io old_errors new_errors status =
      (text : List ℕ) × InFile disk IsFresh (λ old new. WasAsked old (IsTextOf printout) text new) false × Appends io.old_output io.new_output text × (status ≡ Success)
  TaskDone (Read file (kind.Audit counts ending)) io old_errors new_errors status = AuditedIn disk IsFresh counts ending io.old_output io.new_output status
  TaskDone (AuditWithArchive file archive counts whole) io old_errors new_errors status = AuditedWith disk IsFresh counts whole io.old_output io.new_output status
  TaskDone (Prune file archive retention quiet) io old_errors new_errors status = PrunedWith disk IsFresh quiet io.old_output io.new_output status
  TaskDone (ExportWithArchives file archives) io old_errors new_errors status = Exported disk IsFresh (length archives.now) io.old_output io.new_output status
  TaskDone (AuditWhole file counts) io old_errors new_errors status = (ending : Ending) × IsSomeEnding ending × AuditedIn disk IsFresh counts ending io.old_output io.new_output status

  -- A fault ended the task, from what was read to what was written, and to what was printed on the stream of errors before the fault itself was. No other task but lines and a standby reads, and
  -- none but a service and a standby prints anything there.
  abbrev pub TaskEnded : Task → Streams → Option (List ℕ) → Option (List ℕ) → Fault → Type 0
  TaskEnded (Lines file reads ends) io old_errors new_errors fault = (new_errors ≡ old_errors) × InputLeft file reads ends io fault
  TaskEnded (Serve file address span) io old_errors new_errors fault =
      io.unread × LeftIn (io.unwritten × (new_errors ≡ old_errors)) (ServiceLeft span address io.old_output io.new_output old_errors new_errors) fault
  TaskEnded (Standby file address step patience) io old_errors new_errors fault =
      LeftIn (Untouched io × (new_errors ≡ old_errors)) (StandbyLeft (endless step patience) address io old_errors new_errors) fault
  TaskEnded (Import file plan) io old_errors new_errors fault = io.unread × (new_errors ≡ old_errors) × (file_import (output_of io)).Left fault
  TaskEnded (Read file work) io old_errors new_errors fault = io.unread × (new_errors ≡ old_errors) × LeftIn io.unwritten (λ why conn. WorkLeft false work conn io.old_output io.new_output) fault
  TaskEnded (AuditWithArchive file archive counts whole) io old_errors new_errors fault = io.unread × (new_errors ≡ old_errors) × (audit_with_archive counts whole (output_of io)).Left fault
  TaskEnded (Prune file archive retention quiet) io old_errors new_errors fault = io.unread × (new_errors ≡ old_errors) × (prune quiet (output_of io)).Left fault
  TaskEnded (ExportWithArchives file archives) io old_errors new_errors fault = io.unread × (new_errors ≡ old_errors) × (export_with_archives (length archives.now) (output_of io)).Left fault
  TaskEnded (AuditWhole file counts) io old_errors new_errors fault = io.unread × (new_errors ≡ old_errors) × LeftIn io.unwritten (IsAuditLeft counts io.old_output io.new_output) fault

  -- both
  abbrev pub to_do : Task → Streams → Output → ToDo Status Fault
  to_do asked io errors = record { Done = TaskDone asked io errors.before errors.after; Left = TaskEnded asked io errors.before errors.after }
