-- How a log ends. Its form, and the store's test of a frame, are those of the kit.
use Rattle.std.specs.Prelude.{◌≡◌, ◌≢◌, ◌↔◌, ℕ, ◌+◌, ◌-◌, ◌<◌, ◌≤◌, ◌==◌, Bool, false, List, length, slice_index}
use Rattle.std.specs.List.{list_all}
use Rattle.sqlite_wal.specs.Format.{part, be32, commit_size, IsSigned, IsFrame, IsHeader}
use Rattle.sqlite_wal.specs.PageSize.{IsPageSize}
use Rattle.sqlite_wal.specs.Recovery.{frame_at, header, frame, Passes}
use Rattle.acd_log.specs.declared.ending.Ending.{Ending}
use Rattle.acd_log.specs.declared.ending.Ending.TheVariants.{Early, Headless}

-- for private clauses: the log is as long as one with a frame, and its head is a log's, of the version that is read
abbrev pub HasHead : List ℕ → Type 0
HasHead log = (56 ≤ length log) × IsSigned (header log) × (be32 (header log) 4 ≡ 3007000)

-- the log is as long as one with a frame, and its head can be read: its pages are so long
pub record IsReadableLog (page : ℕ) (log : List ℕ) : Type 0 where
  pub long : 56 ≤ length log
  pub head : IsHeader page (header log)
  pub size : IsPageSize page

-- for private clauses: there is a whole frame here
abbrev pub HasFrame : ℕ → List ℕ → ℕ → Type 0
HasFrame page log at = at + (24 + page) ≤ length log

-- for private clauses: there is one, and it passes the store's test after this checksum
abbrev pub HasGoodFrame : ℕ → List ℕ → ℕ × ℕ → ℕ → Type 0
HasGoodFrame page log before at = HasFrame page log at × IsFrame (header log) before (part log at (24 + page))

-- frame i is whole in the log, and has the salt of its head
pub record IsSalted (page : ℕ) (log : List ℕ) (i : ℕ) : Type 0 where
  pub within : frame_at page i + (24 + page) ≤ length log
  pub salt : part (frame page log i) 8 8 ≡ part (header log) 16 8

-- the part of the log that the store reads ends before frame n, the first that doesn't pass its test
pub record IsFirstBad (page : ℕ) (log : List ℕ) (n : ℕ) : Type 0 where
  pub good : (i : ℕ) → i < n → Passes page log i
  pub bad : ¬ Passes page log n

-- After frame n a frame ends a commit, and another one follows it: so the commit was on the disk before that one was written.
pub record IsBeforeCommit (page : ℕ) (log : List ℕ) (n : ℕ) : Type 0 where
  pub last : ℕ
  pub later : ℕ
  pub after : n < last
  pub salted : IsSalted page log last
  pub ends : commit_size (frame page log last) ≢ 0
  pub further : last < later
  pub written : IsSalted page log later

abbrev pub IsDamagedIn : ℕ → List ℕ → Type 0
IsDamagedIn page log = (n : ℕ) × IsFirstBad page log n × IsBeforeCommit page log n

-- Damage: the log ends before a commit that was on the disk. All else is an end that a power cut may leave.
abbrev pub IsDamaged : List ℕ → Type 0
IsDamaged log = (page : ℕ) × IsReadableLog page log × IsDamagedIn page log

abbrev pub is_zero : ℕ → Bool
is_zero byte = byte == 0

-- There is something after the head. A log that is being emptied begins with 0 until that is done.
pub record IsFilled (log : List ℕ) : Type 0 where
  pub long : 56 ≤ length log
  pub begun : slice_index log 0 ≢ 0
  pub holds : list_all is_zero (part log 32 (length log - 32)) ≡ false

-- there is, and the head can't be read
abbrev pub IsHeadless : List ℕ → Type 0
IsHeadless log = IsFilled log × ((page : ℕ) → ¬ IsReadableLog page log)

-- the log ends so
pub record IsEndingOf (log : List ℕ) (ending : Ending) : Type 0 where
  pub early : (ending ≡ Early) ↔ IsDamaged log
  pub headless : (ending ≡ Headless) ↔ IsHeadless log
