-- What the bytes of a log say, before anything is opened.
use Rattle.std.specs.Prelude.{◌≡◌, ◌⊎◌, ◌≤◌, ℕ, List, ◌++◌, codes, Option, Result, Ok, Err, String, string_bytes}
use Rattle.std.specs.Global.{Global}
use Rattle.std.specs.IoError.{error_kind}
use Rattle.std.specs.Path.{path_buf_bytes}
use Rattle.std.specs.declared.io.Error.{Error}
use Rattle.std.specs.declared.io.ErrorKind.TheVariants.{NotFound}
use Rattle.std.specs.declared.path.buf.PathBuf.{PathBuf}
use Rattle.acd_io.specs.Streams.{IsInput}
use Rattle.acd_log.specs.declared.ending.Ending.{Ending}
use Rattle.acd_log.specs.Ending.{IsDamaged, IsHeadless, IsEndingOf}
use Rattle.acd_files.specs.Files.{new_page, HoldsCommit}

-- this is the path of the log beside a file
abbrev pub IsLogOf : {Z : Type 0} → List ℕ → String Z → Type 0
IsLogOf file log = string_bytes log ≡ file ++ codes "-wal"

-- this is the path of the log at a path, by the system's answer to what that path is without links: beside the answer or, where nothing is at the path, beside the path
abbrev pub IsLogPathBy : {Z : Type 0} → Result (PathBuf Global) Error → List ℕ → String Z → Type 0
IsLogPathBy (Ok real) path log = IsLogOf (path_buf_bytes real) log
IsLogPathBy (Err error) path log = (error_kind error ≡ NotFound) × IsLogOf path log

-- by some answer of the system
abbrev pub IsSomeLogPath : {Z : Type 0} → List ℕ → String Z → Type 0
IsSomeLogPath path log = (real : Result (PathBuf Global) Error) × IsLogPathBy real path log

-- the log that the reader holds ends so
abbrev pub IsEndingFrom : Option (List ℕ) → Ending → Type 0
IsEndingFrom known ending = (log : List ℕ) × IsInput known log × IsEndingOf log ending

-- it ends before a commit that was on the disk, or its head can't be read
abbrev pub IsSpoiled : List ℕ → Type 0
IsSpoiled log = IsDamaged log ⊎ IsHeadless log

-- an opening would change a byte of a file of so many, with this log beside it: it ends what a stop left of a first page, lays in what the log holds, or empties a spoiled one
abbrev pub IsUnfinished : ℕ → List ℕ → Type 0
IsUnfinished len log = (len ≤ new_page) ⊎ (HoldsCommit log ⊎ IsSpoiled log)

-- some log ends so
abbrev pub IsSomeEnding : Ending → Type 0
IsSomeEnding ending = (log : List ℕ) × IsEndingOf log ending
