-- Work over a database in files, from the connection on to what is printed.
use Rattle.std.specs.Prelude.{◌≡◌, ℕ, Bool, List, Option}
use Rattle.std.specs.Io.KnownBytes.{Appends}
use Rattle.sqlite_disk.specs.declared.Disk.{Ghosts}
use Rattle.sqlite_store.specs.declared.store.FileStore.{FileStore}
use Rattle.sqlite.specs.Held.{Held}
use Rattle.sqlite.specs.Files.{file_state}
use Rattle.acd_book.specs.State.{BookState}
use Rattle.acd_program.specs.Commands.AuditFindings.{IsFindingOf}
use Rattle.acd_sessions.specs.Over.{OverConnection}
use Rattle.acd_program.specs.Commands.Work.{WorkDone, text_left, status_left}
use Rattle.acd_command.specs.declared.asked.Work.{Work}
use Rattle.acd_program.specs.declared.desk.Done.{Done}
use Rattle.acd_program.specs.declared.status.Status.{Status}
use Rattle.acd_files.specs.Connections.{IsLaidIn, IsOpenedFrom}

module _ {D : Type 0} {g : Ghosts D} where
  -- The work was done over the book of the database, which was then written into its file. What was left of the work was printed after
  -- that.
  pub record WorkedOver (makes : Bool) (work : Work) (conn : Held (FileStore D g)) (old_output new_output : Option (List ℕ)) (status : Status) : Type 0 where
    pub last : Held (FileStore D g)
    pub left : Done
    pub between : Option (List ℕ)
    pub done : OverConnection (λ (old new : BookState). WorkDone IsFindingOf work old old_output between left new) makes (file_state conn) (file_state last)
    pub closed : IsLaidIn last
    pub printed : Appends between new_output (text_left left)
    pub outcome : status ≡ status_left left

-- `IsFresh is_log file` says that a file is a log, or a database file, that was just opened
module _ {D : Type 0} (disk : Ghosts D) (IsFresh : Bool → D → Type 0) where
  -- a database in files was opened, this was done over its book, and it was closed into its file
  pub record InFile (P : BookState → BookState → Type 0) (makes : Bool) : Type 0 where
    pub conn : Held (FileStore D disk)
    pub last : Held (FileStore D disk)
    pub opened : IsOpenedFrom disk IsFresh conn
    pub done : OverConnection P makes (file_state conn) (file_state last)
    pub closed : IsLaidIn last
