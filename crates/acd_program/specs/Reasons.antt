-- Why a command could not do what it was asked, by what was found.
use Rattle.std.specs.Prelude.{ℕ, ◌∷◌, ◌||◌, Bool, false, nat_eq, nat_lt, List, Option, Some, None, if◌then◌else◌, slice_get, codes, [], ◌++◌}
use Rattle.std.specs.List.{starts_with}
use Rattle.std.specs.Borrow.{Bor}
use Rattle.std.specs.declared.io.ErrorKind.{ErrorKind}
use Rattle.std.specs.declared.io.ErrorKind.TheVariants as kind
use Rattle.acd_files.specs.Files.{new_page}
use Rattle.acd_command.specs.declared.asked.Task.{Task}
use Rattle.acd_command.specs.declared.asked.Task.TheVariants.{Lines, Serve, Standby, Import, AuditWhole, AuditWithArchive, Prune, ExportWithArchives, Read}
use Rattle.acd_program.specs.declared.reason.Reason.{Reason}
use Rattle.acd_program.specs.declared.reason.Reason.TheVariants.{Absent, BelowNoFolder, NoPermission, AnotherProgram, NoDatabase, NoDesk, NoVersion}
use Rattle.acd_program.specs.declared.reasons.Owner.{Owner}
use Rattle.acd_program.specs.declared.reasons.Owner.TheVariants.{Desk, Another}

-- by the error of a call for a path
abbrev pub kind_reason : ErrorKind → Option Reason
kind_reason kind.NotFound = Some Absent
kind_reason kind.PermissionDenied = Some NoPermission
kind_reason kind.NotADirectory = Some BelowNoFolder
kind_reason _ = None

-- by whose tables a database lists
abbrev pub owner_reason : Option Owner → Option Reason
owner_reason (Some Another) = Some AnotherProgram
owner_reason (Some Desk) = None
owner_reason None = None

-- of a file of so many bytes that has no version: of more than a first page one that lists no tables is another program's
abbrev pub version_reason : Option Owner → ℕ → Reason
version_reason (Some Desk) len = NoVersion
version_reason (Some Another) len = AnotherProgram
version_reason None len = if nat_lt new_page len then AnotherProgram else NoDesk

-- the plan that the task names
abbrev pub plan_of : Task → Option (Bor (List ℕ))
plan_of (Import file plan) = Some plan
plan_of _ = None

-- the archive
abbrev pub archive_of : Task → Option (Bor (List ℕ))
archive_of (AuditWithArchive file archive counts whole) = Some archive
archive_of (Prune file archive retention quiet) = Some archive
archive_of _ = None

-- the file of a desk, where a fault can be of no other
abbrev pub file_of : Task → Option (Bor (List ℕ))
file_of (Lines file reads ends) = file
file_of (Serve file address span) = Some file
file_of (Standby file address step patience) = Some file
file_of (Import file plan) = Some file
file_of (AuditWhole file counts) = Some file
file_of (AuditWithArchive file archive counts whole) = None
file_of (Prune file archive retention quiet) = None
file_of (ExportWithArchives file archives) = None
file_of (Read file work) = Some file

-- a file that begins otherwise than each database does is none
abbrev pub database_reason : List ℕ → Option Reason
database_reason bytes = if starts_with nat_eq bytes (codes "SQLite format 3" ++ 0 ∷ []) then None else Some NoDatabase

-- byte 59 of a database says that its texts are UTF-16
abbrev pub is_wide_code : Option ℕ → Bool
is_wide_code (Some byte) = nat_eq byte 2 || nat_eq byte 3
is_wide_code None = false

abbrev pub writes_wide : List ℕ → Bool
writes_wide bytes = is_wide_code (slice_get bytes 59)

-- a text stands somewhere in these bytes
unfoldable pub occurs : List ℕ → List ℕ → Bool
occurs text [] = false
occurs text (byte ∷ rest) = starts_with nat_eq (byte ∷ rest) text || occurs text rest

-- whose tables the first bytes of a database list: a desk's, or another program's
abbrev pub list_owner : List ℕ → Option Owner
list_owner bytes = if occurs (codes "CREATE TABLE acd_groups") bytes then Some Desk else (if writes_wide bytes || occurs (codes "CREATE ") bytes then Some Another else None)
