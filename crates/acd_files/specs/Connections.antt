-- A connection to the two files of a desk: as it was opened, as it was closed, and what is left of the files where there is none.
use Rattle.std.specs.Prelude.{◌≡◌, Bool, true, false}
use Rattle.sqlite_disk.specs.declared.Disk.{Ghosts}
use Rattle.sqlite_disk.specs.declared.Files.{Files}
use Rattle.sqlite_wal.specs.Reads.{AreClean}
use Rattle.sqlite_store.specs.declared.store.FileStore.{FileStore}
use Rattle.sqlite_store.specs.FileStore.{files}
use Rattle.sqlite.specs.Held.{Held}
use Rattle.sqlite.specs.Files.{IsClosed}
use Rattle.sqlite.specs.Closing.{IsCopied}
use Rattle.acd_files.specs.Files.{AreUnopened, IsOpenedIn}
use Rattle.acd_files.specs.declared.fault.OpeningFault.{OpeningFault}
use Rattle.acd_files.specs.declared.fault.OpeningFault.TheVariants.{Look}
use Rattle.acd_files.specs.declared.fault.OpeningFault.TheVariants as opening

-- a connection to files
abbrev pub OfFiles : {D : Type 0} → Ghosts D → Type 0
OfFiles {D} disk = Held (FileStore D disk)

module _ {D : Type 0} {g : Ghosts D} where
  -- the connection was closed: its last commit is whole in the database file, as that reads now and after a crash
  pub record IsLaidIn (conn : Held (FileStore D g)) : Type 0 where
    pub pair : Files D
    pub store : FileStore D g
    pub of_store : files store ≡ (pair.log, pair.db)
    pub closed : IsClosed conn store
    pub copied : AreClean g pair.log pair.db → IsCopied conn pair

-- `IsFresh is_log file` says that a file is a log, or a database file, that was just opened
module _ {D : Type 0} (disk : Ghosts D) (IsFresh : Bool → D → Type 0) where
  -- it was opened over two files that were just opened
  pub record IsOpenedFrom (conn : Held (FileStore D disk)) : Type 0 where
    pub pair : Files D
    pub unused : IsFresh true pair.log × IsFresh false pair.db
    pub opened : IsOpenedIn disk pair conn

  -- two files that were just opened, to which no connection could be made, and what is left of them
  pub record NotOpened : Type 0 where
    pub pair : Files D
    pub unused : IsFresh true pair.log × IsFresh false pair.db
    pub rest : Files D
    pub left : AreUnopened disk pair rest

  -- there is no connection: where files were opened, this is left of them
  abbrev pub LeavesUnopened : OpeningFault → Type 0
  LeavesUnopened (Look why) = Unit {0}
  LeavesUnopened (opening.Files why) = NotOpened

module _ {D : Type 0} {g : Ghosts D} where
  -- the connection was closed, or that failed: a crash leaves nothing then that it didn't leave before
  abbrev pub IsShut : Held (FileStore D g) → Type 0
  IsShut conn = (store : FileStore D g) × IsClosed conn store
