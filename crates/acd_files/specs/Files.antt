-- The two files before the store has them.
use Rattle.std.specs.Prelude.{◌≡◌, ◌⊎◌, ◌↔◌, ℕ, ◌/◌, ◌<◌, ◌≤◌, Bool, List, [], length, IsTrue, Option, None, Some, Result, IfOk}
use Rattle.sqlite_disk.specs.declared.Disk.{Ghosts}
use Rattle.sqlite_disk.specs.declared.Files.{Files}
use Rattle.sqlite_wal.specs.declared.page_size.PageSize.{PageSize}
use Rattle.sqlite_wal.specs.Format.{be32}
use Rattle.sqlite_wal.specs.PageSize.{IsPageSize, Names, bytes_of, size_in_file}
use Rattle.sqlite_wal.specs.Reads.{IsClean, AreClean, OnlyReads}
use Rattle.sqlite_wal.specs.Recovery.{IsCommitted, IsIgnored}
use Rattle.sqlite_pager.specs.declared.pager.Options.{Options}
use Rattle.sqlite_store.specs.declared.store.FileStore.{FileStore}
use Rattle.sqlite_store.specs.declared.store.open.Unopened.{Unopened}
use Rattle.sqlite_store.specs.FileStore as store
use Rattle.sqlite_store.specs.Unopened.{state_of, files_of, wanted_by, CanCreate, Creates}
use Rattle.sqlite.specs.State.{HasCleanDisk}
use Rattle.sqlite.specs.Held.{Held}
use Rattle.sqlite.specs.declared.file.Leftover.{Leftover}
use Rattle.sqlite.specs.Closing.{files_left}
use Rattle.sqlite.specs.Files.{file_state, IsOpened, Finds, IsCleanLeft, LeavesFiles}

-- the bytes of the first page of a new file
abbrev pub new_page : ℕ
new_page = 1024

-- the length of a page: the length found or, where none was, that of a new file
abbrev pub page_of : Option PageSize → ℕ
page_of None = new_page
page_of (Some size) = bytes_of size

-- how the store treats pages of so many bytes: it keeps 8,192,000 bytes of them in memory, 2,000 that are written, and copies a log of 1,000 frames into its file
abbrev pub treated : ℕ → ℕ → Options
treated page seed = record { cache_pages = 8192000 / page; spill_pages = 2000; checkpoint_frames = 1000; seed = seed }

-- the log holds a commit of pages of some size, which an opening would take
abbrev pub HoldsCommit : List ℕ → Type 0
HoldsCommit log = (size : ℕ) × (frames : ℕ) × IsPageSize size × (0 < frames) × IsCommitted size log frames

-- the log holds a commit, and its file has no bytes
abbrev pub IsLone : List ℕ → List ℕ → Type 0
IsLone log db = (length db ≡ 0) × HoldsCommit log

module _ {D : Type 0} {g : Ghosts D} where
  -- the store made its database of no tables in them
  pub record IsMade (before : Unopened D g) (new : Files D) : Type 0 where
    pub made : FileStore D g
    pub of_made : store.files made ≡ (new.log, new.db)
    pub creates : IsTrue (store.state made).is_clean → Creates before (store.state made)

  -- it refused, since they hold a database or can't hold one
  pub record IsCreateRefused (before : Unopened D g) (new : Files D) : Type 0 where
    pub rest : Unopened D g
    pub of_rest : files_of rest ≡ (new.log, new.db)
    pub refuses : IsTrue (state_of rest).is_clean → ¬ CanCreate before
    pub creates : IsTrue (state_of rest).is_clean → Creates before (state_of rest)

  -- a fault interrupted it
  pub record IsInterrupted (before : Unopened D g) (new : Files D) : Type 0 where
    pub rest : Unopened D g
    pub of_rest : files_of rest ≡ (new.log, new.db)
    pub creates : IsTrue (state_of rest).is_clean → Creates before (state_of rest)

module _ {D : Type 0} (g : Ghosts D) where
  -- this holds where neither file's disk lied
  abbrev pub IfClean : Files D → Type 0 → Type 0
  IfClean pair Fact = AreClean g pair.log pair.db → Fact

  -- an answer says whether this is so, where neither file's disk lied
  abbrev pub FindsWhether : {E : Type 0} → Files D → Result Bool E → Type 0 → Type 0
  FindsWhether pair result Fact = IfOk result (λ (found : Bool). IfClean pair (IsTrue found ↔ Fact))

  -- the file has no more than a first page, where its disk didn't lie
  abbrev pub IsSmall : D → D → Bool → Type 0
  IsSmall old new found = IsClean g new → IsTrue found ↔ length (g.seen old) ≤ new_page

  -- this holds where the file has no more than a first page, by disks that didn't lie
  abbrev pub IfShort : Files D → Files D → Type 0 → Type 0
  IfShort old new Fact = IfClean new (length (g.seen old.db) ≤ new_page) → Fact

  -- the log holds a commit, and its file has no bytes
  abbrev pub IsLoneIn : Files D → Type 0
  IsLoneIn pair = IsLone (g.seen pair.log) (g.seen pair.db)

  -- nothing but reading was done to them: reads return the same, and a crash leaves nothing that it didn't leave before
  pub record AreReadOnly (old new : Files D) : Type 0 where
    pub log : OnlyReads g old.log new.log
    pub db : OnlyReads g old.db new.db

  -- that is the length of the pages, by the head of the log or, where it has none, by that of the file
  pub record FindsPage (old new : Files D) (found : Option PageSize) : Type 0 where
    pub by_log : AreClean g new.log new.db → ¬ IsIgnored (g.seen old.log) → Names found (be32 (g.seen old.log) 8)
    pub by_file : AreClean g new.log new.db → IsIgnored (g.seen old.log) → Names found (size_in_file (g.seen old.db))

  -- this is so of that length
  abbrev pub OfPage : Files D → Files D → (ℕ → Type 0) → Type 0
  OfPage old new P = (found : Option PageSize) × FindsPage old new found × P (page_of found)

  -- so many pages of that length are kept in memory
  abbrev pub KeepsPages : Files D → Files D → ℕ → Type 0
  KeepsPages old new pages = OfPage old new (λ (page : ℕ). pages ≡ 8192000 / page)

  -- pages of that length are treated so
  abbrev pub AreTreated : Files D → Files D → ℕ → Options → Type 0
  AreTreated old new seed options = OfPage old new (λ (page : ℕ). options ≡ treated page seed)

  -- they have no more than a first page, and the log isn't one without its file
  abbrev pub AreNew : Files D → Type 0
  AreNew pair = (length (g.seen pair.db) ≤ new_page) × (¬ IsLoneIn pair)

  -- the store had them, to make a database of no tables in them, and this is what came of it
  pub record IsCreation (Came : Unopened D g → Files D → Type 0) (old new : Files D) : Type 0 where
    pub before : Unopened D g
    pub of_old : files_of before ≡ (old.log, old.db)
    pub size : (state_of before).page_size ≡ new_page
    pub schema : wanted_by before ≡ []
    pub after : Came before new

  -- it made one, or it refused
  abbrev pub IsCreated : Files D → Files D → Type 0
  IsCreated = IsCreation (λ before new. IsMade before new ⊎ IsCreateRefused before new)

  -- the store was to open them, and gave them back so
  pub record IsGivenBack (handed new : Files D) : Type 0 where
    pub rest : Leftover D g
    pub of_rest : files_left rest ≡ (new.log, new.db)
    pub leaves : IsCleanLeft rest → LeavesFiles handed rest

-- two files that the store may open
pub data AreReady {D : Type 0} (g : Ghosts D) (old new : Files D) : Type 0 where
  -- they have more than a first page, and nothing but reading was done to them
  read_only : IfClean g new (new_page < length (g.seen old.db)) → AreReadOnly g old new → AreReady g old new
  -- they were new: they were read, and then the store made a database in them, or refused to
  created : (read : Files D) → IfClean g new (AreNew g old) → AreReadOnly g old read → IsCreated g read new → AreReady g old new

-- two files to which no connection was made
pub data AreUnopened {D : Type 0} (g : Ghosts D) (old new : Files D) : Type 0 where
  -- nothing but reading was done to them
  unchanged : AreReadOnly g old new → AreUnopened g old new
  -- they were read, and then a fault interrupted the store, which was to make a database in them
  interrupted : (read : Files D) → AreReadOnly g old read → IsCreation g IsInterrupted read new → AreUnopened g old new
  -- they were ready, and can't be used
  unusable : AreReady g old new → AreUnopened g old new
  -- they were ready and read, and the store, which was to open them, gave these back
  given_back : (begun handed : Files D) → AreReady g old begun → AreReadOnly g begun handed → IsGivenBack g handed new → AreUnopened g old new

-- a connection to two files, as the store opened them
pub record IsOpenedIn {D : Type 0} (g : Ghosts D) (old : Files D) (conn : Held (FileStore D g)) : Type 0 where
  pub begun : Files D
  pub ready : AreReady g old begun
  pub handed : Files D
  pub read : AreReadOnly g begun handed
  pub opened : HasCleanDisk (file_state conn) → IsOpened conn
  pub found : HasCleanDisk (file_state conn) → Finds handed conn
