-- What a command leaves opens again: the files, the book in them, and a desk over that.
use Rattle.std.specs.Prelude.{◌≡◌, ◌⊎◌, ◌<◌, ℕ, ⊤, Bool, true, false, length, Some, Result, Ok, MatchResult, IsTrue, []}
use Rattle.sqlite_disk.specs.declared.Disk as disk
use Rattle.sqlite_disk.specs.declared.Files.{Files}
use Rattle.sqlite_disk.specs.declared.start.Start as start
use Rattle.sqlite_disk.specs.Disk.{Only}
use Rattle.sqlite_wal.specs.Reads.{tally_of_files}
use Rattle.sqlite_wal.specs.Recovery.{Image}
use Rattle.sqlite_wal.specs.Files.{image_at, outcomes}
use Rattle.sqlite_trees.specs.declared.store.Store.{Ghosts}
use Rattle.sqlite_store.specs.declared.store.FileStore.{FileStore}
use Rattle.sqlite_store.specs.FileStore as store
use Rattle.sqlite_store.specs.Report.{named}
use Rattle.sqlite.specs.Closing.{IsCopied}
use Rattle.sqlite.specs.Files.{Finds, FailsToOpenFiles, IsFullLeft, IsOpened, faults_left, faults_of, file_state, image_of, over_files, tally_left}
use Rattle.sqlite.specs.Held.{Held, state}
use Rattle.sqlite.specs.Opening.{FailsAs}
use Rattle.sqlite.specs.State.{HasCleanDisk}
use Rattle.sqlite.specs.declared.error.Error.{Error}
use Rattle.sqlite.specs.declared.file.Leftover.{Leftover}
use Rattle.acd_book.specs.Content.{Content}
use Rattle.acd_desk.specs.Contents.CarriedContent.{Archive, together}
use Rattle.acd_desk.specs.Desks.Opening.{IsNoRule, Opens}
use Rattle.acd_desk.specs.Desks.DeskState.{switch_of}
use Rattle.acd_desk.specs.Contents.SoundContent.{IsSound}
use Rattle.acd_desk.specs.declared.desk.Desk.{Desk}
use Rattle.acd_desk.specs.declared.open_fault.OpenFault.{OpenFault}
use Rattle.acd_sql_columns.specs.InTables.{content_of}
use Rattle.acd_sqlbook.specs.Caches.{IsBlank}
use Rattle.acd_sqlbook.specs.StoreLaws.{AdoptResult, Adopts, IsAdoptAnswer, IsOverBook}
use Rattle.acd_sqlbook.specs.View.{BookView}
use Rattle.acd_sessions.specs.Desks.{in_database}
use Rattle.acd_files.specs.Files.{new_page, IsOpenedIn}
use Rattle.acd_sessions.specs.Over.{held, LeavesBooks}

-- ---- a book and a desk over a connection

-- what `Desk::open` answers over a book in a database
abbrev pub DeskResult : Type 0 → Type 0
DeskResult S = Result (Desk (BookView S)) (OpenFault × BookView S)

-- the desk has this content, and its rows in memory
abbrev pub HoldsRows : {S : Type 0} → Ghosts S → Content → Desk (BookView S) → Type 0
HoldsRows g c desk = (content_of (state g desk.book.conn).committed.trees ≡ c) × (switch_of desk.working ≡ Some c.rows)

-- a desk of this content; or none, and no rule that its rows break is why
abbrev pub IsDeskOf : {S : Type 0} → Ghosts S → Content → DeskResult S → Type 0
IsDeskOf {S} g c result = MatchResult result
    (λ (desk : Desk (BookView S)). HasCleanDisk (state g desk.book.conn) → HoldsRows g c desk)
    (λ (refused : OpenFault × BookView S). HasCleanDisk (state g refused.1.conn) → IsNoRule refused.0)

-- the book over a connection was adopted, and `Desk::open` asked for a desk over it
pub record IsAskedFor {S : Type 0} (g : Ghosts S) (conn : Held S) (result : DeskResult S) : Type 0 where
  pub book : BookView S
  pub adopted : IsAdoptAnswer g conn (Ok book)
  pub blank : IsBlank book.cache
  pub opens : Opens (in_database g) book result

-- A connection over a book of this content: it is adopted with that content, or fails for want of memory or by its store alone. Where the content is sound, by
-- itself or with its archive, a desk over it is of that content, and is never refused by a rule.
pub record Reopened {S : Type 0} (g : Ghosts S) (conn : Held S) (c : Content) : Type 0 where
  pub adopts : (result : AdoptResult S) → IsAdoptAnswer g conn result → Adopts g conn result c
  pub desks : (p : Archive) (result : DeskResult S) → IsSound (together p c) → IsAskedFor g conn result → IsDeskOf g c result

-- over a database that reopens with a content, both are so
abbrev pub BooksMakeDesks : {S : Type 0} → Ghosts S → Type 0
BooksMakeDesks {S} g = (conn : Held S) (c : Content) → IsOverBook (state g conn) c → Reopened g conn c

-- ---- over files

module _ {D : Type 0} {g : disk.Ghosts D} where
  -- an opening of files fails for want of memory, by a fault of the disk, or where their format has no more room: what they hold is never why
  abbrev pub FailsByDisk : Files D → Leftover D g → Error → Type 0
  FailsByDisk files rest e = FailsAs (named (tally_of_files g (files.log, files.db)) (tally_left rest)) (faults_of g files) (faults_left rest) (IsFullLeft rest) ⊤ e

  -- the store opened a connection over these files
  abbrev pub IsOpenedOver : Files D → Held (FileStore D g) → Type 0
  IsOpenedOver files conn = HasCleanDisk (file_state conn) → IsOpened conn × Finds files conn

  -- the program opened one over them, whose database file has more than a first page
  abbrev pub IsTakenFrom : Files D → Held (FileStore D g) → Type 0
  IsTakenFrom files conn = IsOpenedIn g files conn × (new_page < length (g.seen files.db))

-- Files whose bytes are these open as a book of this content. Their opening is never refused for what they hold; a connection over them is one over that book.
pub record FilesReopen {D : Type 0} (g : disk.Ghosts D) (image : Image) (c : Content) : Type 0 where
  pub never : (files : Files D) (rest : Leftover D g) (e : Error) → image_of g files ≡ image → FailsToOpenFiles files rest e → FailsByDisk files rest e
  pub opened : (files : Files D) (conn : Held (FileStore D g)) → image_of g files ≡ image → IsOpenedOver files conn ⊎ IsTakenFrom files conn
      → HasCleanDisk (file_state conn) → Reopened over_files conn c

-- what the files read as is all that a crash leaves of them, as of files that were just opened
abbrev pub AreSynced : {D : Type 0} → disk.Ghosts D → Files D → Type 0
AreSynced g files = Only (g.seen files.log) (g.may_leave files.log) × Only (g.seen files.db) (g.may_leave files.db)

-- so it is of such files of any length, also where a database was to be made in them first
abbrev pub SyncedReopen : {D : Type 0} → disk.Ghosts D → Image → Content → Type 0
SyncedReopen {D} g image c = (files : Files D) (conn : Held (FileStore D g)) → image_of g files ≡ image → AreSynced g files → IsOpenedIn g files conn
    → HasCleanDisk (file_state conn) → Reopened over_files conn c

-- Two files that were just opened read as what they held, and a crash leaves nothing else.
abbrev pub FreshAreSynced : {D S : Type 0} → disk.Ghosts D → (Bool → D → Type 0) → start.Ghosts S → Type 0
FreshAreSynced {D} g IsFresh found = (files : Files D) → IsFresh true files.log × IsFresh false files.db → (image_of g files ≡ image_at found) × AreSynced g files

-- The store numbers the trees of its catalog, as it does behind each connection.
abbrev pub NumbersTrees : {D : Type 0} {g : disk.Ghosts D} → Held (FileStore D g) → Type 0
NumbersTrees conn = IsTrue (store.view conn.store).is_numbered

-- Files whose bytes are these open as a book of one of these contents: of any length, where their pages are as long as those of a new file.
abbrev pub ReopensAsOneOf : {E : Type 0} → disk.Ghosts E → ℕ → (Content → Type 0) → Image → Type 0
ReopensAsOneOf h page_size stops image = ∥ ((c : Content) × stops c × FilesReopen h image c × (page_size ≡ new_page → SyncedReopen h image c)) ∥₁

-- a crash may leave these bytes of the files of a connection
abbrev pub MayLeave : {D : Type 0} {g : disk.Ghosts D} → Held (FileStore D g) → Image → Type 0
MayLeave conn image = (store.state conn.store).may_leave image

-- with these bytes its files open as a book of one of the contents that it may leave
abbrev pub OpensLeft : {D E : Type 0} {g : disk.Ghosts D} → disk.Ghosts E → Held (FileStore D g) → Image → Type 0
OpensLeft h conn image = ReopensAsOneOf h (store.state conn.store).page_size (held (file_state conn)).stops image

-- Whatever a crash may leave of the two files of a connection that leaves books opens, in a later run, as such a book.
abbrev pub LeftOpens : {D E : Type 0} → disk.Ghosts D → disk.Ghosts E → Type 0
LeftOpens {D} g h = (old : Held (FileStore D g)) (image : Image) → LeavesBooks (file_state old) → NumbersTrees old → MayLeave old image → OpensLeft h old image

-- After a closing they open as a book of the last commit, with the log or without it.
pub record ReopensClosed {E : Type 0} (h : disk.Ghosts E) (image : Image) (c : Content) : Type 0 where
  pub both : ∥ FilesReopen h image c ∥₁
  pub alone : ∥ FilesReopen h (record image { log = [] }) c ∥₁

-- of a connection's last commit
abbrev pub OpensClosed : {D E : Type 0} {g : disk.Ghosts D} → disk.Ghosts E → Held (FileStore D g) → Image → Type 0
OpensClosed h conn image = ReopensClosed h image (content_of (file_state conn).committed.trees)

-- a crash may leave these bytes of two files
abbrev pub MayBeLeft : {D : Type 0} → disk.Ghosts D → Files D → Image → Type 0
MayBeLeft g files image = outcomes g files.log files.db image

-- So it is of whatever a crash may leave of files into which a connection that leaves books was closed.
abbrev pub ClosedOpens : {D E : Type 0} → disk.Ghosts D → disk.Ghosts E → Type 0
ClosedOpens {D} g h = (old : Held (FileStore D g)) (files : Files D) (image : Image) → LeavesBooks (file_state old) → IsCopied old files
    → MayBeLeft g files image → OpensClosed h old image
