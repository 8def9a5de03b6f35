-- Why there is no connection to a file, by why its parts failed.
use Rattle.std.specs.Prelude.{ℕ, List, Result, Ok, Err}
use Rattle.std.specs.Borrow.{Bor}
use Rattle.std.specs.IoError.{error_kind}
use Rattle.std.specs.declared.io.Error.{Error as IoError}
use Rattle.std.specs.declared.io.ErrorKind.{ErrorKind}
use Rattle.std.specs.declared.io.ErrorKind.TheVariants as kind
use Rattle.sqlite.specs.declared.error.Error.{Error}
use Rattle.sqlite.specs.declared.error.Error.TheVariants.{SqliteFailure}
use Rattle.sqlite.specs.declared.error.ErrorCode.TheVariants.{OutOfMemory}
use Rattle.sqlite_wal.specs.declared.error.Error.{Error as LogError}
use Rattle.sqlite_wal.specs.declared.error.Error.TheVariants as log
use Rattle.acd_files.specs.declared.fault.PathFault.{PathFault}
use Rattle.acd_files.specs.declared.fault.PathFault.TheVariants as path
use Rattle.acd_files.specs.declared.fault.LookFault.{LookFault}
use Rattle.acd_files.specs.declared.fault.LookFault.TheVariants.{Path}

-- of a look at a path, for want of memory
abbrev pub look_without_memory : LookFault
look_without_memory = Path path.NoMemory

-- of the database in a file: want of memory is one fault, and anything else the other
abbrev pub by_memory : {F : Type 0} → Error → F → F → F
by_memory (SqliteFailure OutOfMemory) none other = none
by_memory _ none other = other

-- of what is at a path, by the error of a call for it
abbrev pub disk_fault : ErrorKind → Bor (List ℕ) → PathFault
disk_fault kind.OutOfMemory place = path.NoMemory
disk_fault _ place = path.CannotOpen place

-- of a path without links, by the error of the call for it: where nothing is at the path that is no fault, and so memory is wanting
abbrev unlinked_fault : ErrorKind → Bor (List ℕ) → LookFault
unlinked_fault kind.NotFound place = look_without_memory
unlinked_fault other place = Path (disk_fault other place)

-- of the log at a path, by the system's answer to what that path is without links
abbrev pub log_path_fault : {F : Type 0} → Result F IoError → Bor (List ℕ) → LookFault
log_path_fault (Ok _) place = look_without_memory
log_path_fault (Err error) place = unlinked_fault (error_kind error) place

-- of a file whose log can't be read
abbrev pub log_fault : LogError → Bor (List ℕ) → PathFault
log_fault log.OutOfMemory place = path.NoMemory
log_fault (log.Io error) place = disk_fault (error_kind error) place
log_fault _ place = path.CannotOpen place
