-- The work done, by what a command line asked for.
use Rattle.std.specs.Prelude.{◌≡◌, ℕ, Bool, true, false, List, Option, Some, None, Ok, string_bytes}
use Rattle.std.specs.Io.KnownBytes.{Appends}
use Rattle.sqlite_disk.specs.declared.Disk.{Ghosts}
use Rattle.sqlite_store.specs.declared.store.FileStore.{FileStore}
use Rattle.sqlite.specs.Files.{over_files, file_state}
use Rattle.acd_terms.specs.declared.command.Request.{Request}
use Rattle.acd_reports.specs.Plan.{plan_requests}
use Rattle.acd_lines.specs.Lines.{Streams}
use Rattle.acd_log.specs.declared.ending.Ending.{Ending}
use Rattle.acd_log.specs.declared.ending.Ending.TheVariants.{Plain}
use Rattle.acd_program.specs.Archives.WithArchive.{IsFindingIn, BookAskedWithArchive}
use Rattle.acd_sessions.specs.MemoryAnswers.{AnswersAll}
use Rattle.acd_desk.specs.Desks.DeskState.{DeskState}
use Rattle.acd_sessions.specs.LinesOver.{in_turn, DatabaseAnswered, Whole}
use Rattle.acd_sessions.specs.DeskAsLeft.{Seen, SeenNew, InDatabase, SeenIn}
use Rattle.acd_program.specs.Commands.AuditFindings.{IsFindingOf, HasCount, finding_line, pruning_line}
use Rattle.acd_program.specs.Statuses.{finding_status, pruning_status}
use Rattle.acd_program.specs.Commands.Work.{WasAsked, ImportsOver}
use Rattle.acd_files.specs.Connections.{OfFiles, IsLaidIn, IsOpenedFrom}
use Rattle.acd_program.specs.Commands.InFiles.{WorkedOver, InFile}
use Rattle.acd_http.specs.declared.serving.Span.{Span}
use Rattle.acd_sessions.specs.Serving.{ServeDone}
use Rattle.acd_sessions.specs.Standby.{StandbyServed, upon_order}
use Rattle.acd_command.specs.declared.asked.Address.{Address}
use Rattle.std.specs.declared.time.Duration.{Duration}
use Rattle.acd_program.specs.declared.auditing.Finding.{Finding}
use Rattle.acd_command.specs.declared.asked.Work.{Work}
use Rattle.acd_command.specs.declared.asked.Work.TheVariants as kind
use Rattle.acd_program.specs.Archives.ArchiveExport.{IsNewTable, AddsEvents, AddsArchives}
use Rattle.acd_program.specs.declared.export.EventTable.{EventTable}
use Rattle.acd_program.specs.Archives.Pruning.{BookPruned}
use Rattle.acd_program.specs.declared.outcome.Pruning.{Pruning}
use Rattle.acd_program.specs.declared.status.Status.{Status}
use Rattle.acd_program.specs.declared.status.Status.TheVariants.{Success}
use Rattle.acd_files.specs.Logs.{IsSomeEnding}

-- Each line of the input was answered, over a desk in memory: the answers to the requests among them are the abstract desk's or, where lines may be reads too, each line was answered by the desk that
-- the lines before it left
abbrev pub MemoryAnswered : Bool → Streams → Type 0
MemoryAnswered false io = AnswersAll io.old_input io.old_output io.new_output
MemoryAnswered true io = SeenNew (λ stands. Whole stands (in_turn true stands) false io)

-- it was printed so where a log was looked at, else plainly
abbrev pub IsReadEnding : Bool → Ending → Type 0
IsReadEnding true ending = IsSomeEnding ending
IsReadEnding false ending = ending ≡ Plain

-- a service that doesn't end, with such a step and patience
abbrev pub endless : Option Duration → Option Duration → Span
endless step patience = record { connections = None; step = step; patience = patience }

-- `IsFresh is_log file` says that a file is a log, or a database file, that was just opened
module _ {D : Type 0} (disk : Ghosts D) (IsFresh : Bool → D → Type 0) where
  -- the work was done over a connection to files
  abbrev pub WorkedIn : Bool → Work → Option (List ℕ) → Option (List ℕ) → Status → Type 0
  WorkedIn makes work old_output new_output status = (conn : OfFiles disk) × IsOpenedFrom disk IsFresh conn × WorkedOver makes work conn old_output new_output status

  -- the requests of a plan were executed, and their answers written
  abbrev pub ImportedIn : Option (List ℕ) → Option (List ℕ) → Status → Type 0
  ImportedIn old_output new_output status =
      (bytes : List ℕ) × (requests : List Request) × (plan_requests bytes ≡ Ok requests) × InFile disk IsFresh (λ old new. ImportsOver requests old old_output new_output new) true × (status ≡ Success)

  -- a database in files was opened, a desk of its book answered connections, and it was closed into its file
  pub record ServeDoneIn (span : Span) (old_output new_output : Option (List ℕ)) : Type 0 where
    pub conn : OfFiles disk
    pub last : OfFiles disk
    pub opened : IsOpenedFrom disk IsFresh conn
    pub answered : SeenIn over_files (λ (stands : Seen (InDatabase (FileStore D disk)) → DeskState). ServeDone stands span old_output new_output) true (file_state conn) last
    pub closed : IsLaidIn last

  -- so one was, its desk answered the lines of the input up to the order, and then connections
  pub record StandbyDoneIn (span : Span) (address : Address) (io : Streams) (old_errors new_errors : Option (List ℕ)) : Type 0 where
    pub conn : OfFiles disk
    pub last : OfFiles disk
    pub left : Option (List ℕ)
    pub opened : IsOpenedFrom disk IsFresh conn
    pub answered : StandbyServed over_files (upon_order span address io left (old_errors, new_errors)) (file_state conn) last
    pub closed : IsLaidIn last

  -- so one was, and each line of the input was answered over it
  pub record FileAnswered (reads ends : Bool) (io : Streams) : Type 0 where
    pub conn : OfFiles disk
    pub last : OfFiles disk
    pub opened : IsOpenedFrom disk IsFresh conn
    pub answered : DatabaseAnswered over_files true reads ends io (file_state conn) last
    pub closed : IsLaidIn last

  -- over a desk in memory or that of the file that was named, there without a storeFault where one was to end the lines
  abbrev pub InputAnswered : {Name : Type 0} → Option Name → Bool → Bool → Streams → Status → Type 0
  InputAnswered None reads ends io status = MemoryAnswered reads io × (status ≡ Success)
  InputAnswered (Some file) reads ends io status = FileAnswered reads ends io × (status ≡ Success)

  -- an audit was printed, with how the log of its file ended before
  pub record AuditedIn (counts : Bool) (ending : Ending) (old_output new_output : Option (List ℕ)) (status : Status) : Type 0 where
    pub found : Finding
    pub counted : HasCount counts found
    pub done : InFile disk IsFresh (λ old new. WasAsked old IsFindingOf found new) false
    pub printed : Appends old_output new_output (finding_line ending found)
    pub outcome : status ≡ finding_status ending found

  -- the work of an audit was done over a connection to files, whose log ended so before
  abbrev pub WholeAudit : Bool → Option (List ℕ) → Option (List ℕ) → Status → Type 0
  WholeAudit counts old_output new_output status = (ending : Ending) × IsSomeEnding ending × WorkedIn false (kind.Audit counts ending) old_output new_output status

  -- an audit with an archive, which was opened beside the file and closed, was printed
  pub record AuditedWith (counts whole : Bool) (old_output new_output : Option (List ℕ)) (status : Status) : Type 0 where
    pub found : Finding
    pub ending : Ending
    pub counted : HasCount counts found
    pub read : IsReadEnding whole ending
    pub done : InFile disk IsFresh (λ old new. BookAskedWithArchive disk IsFresh IsFindingIn old new found) false
    pub printed : Appends old_output new_output (finding_line ending found)
    pub outcome : status ≡ finding_status ending found

  -- a prune by an archive, which was opened beside the file and closed, was printed
  pub record PrunedWith (quiet : Bool) (old_output new_output : Option (List ℕ)) (status : Status) : Type 0 where
    pub pruning : Pruning
    pub ending : Ending
    pub read : IsSomeEnding ending
    pub done : InFile disk IsFresh (λ old new. BookPruned disk IsFresh ending old new pruning) false
    pub printed : Appends old_output new_output (pruning_line quiet pruning)
    pub outcome : status ≡ pruning_status pruning

  -- the events of so many archives, which were opened beside the file one after another and closed, and then those of the file were printed as one table
  pub record Exported (count : ℕ) (old_output new_output : Option (List ℕ)) (status : Status) : Type 0 where
    pub begun : EventTable
    pub before : EventTable
    pub whole : EventTable
    pub header : IsNewTable begun
    pub archives : AddsArchives disk IsFresh count begun before
    pub done : InFile disk IsFresh (λ old new. WasAsked old (AddsEvents before whole) (tt {0}) new) false
    pub printed : Appends old_output new_output (string_bytes whole.text)
    pub outcome : status ≡ Success
