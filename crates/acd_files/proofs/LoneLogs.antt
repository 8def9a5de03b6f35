-- A log that holds no commit.
use Rattle.std.proofs.Common.{◌≡◌, ℕ, ◌<◌, List, None, sym, refl, ◌∙◌, subst, inl, arith}
use Rattle.std.proofs.lemmas.Bool.{false≢true}
use Rattle.sqlite_wal.specs.Format.{be32}
use Rattle.sqlite_wal.specs.PageSize.{IsPageSize, Names}
use Rattle.sqlite_wal.specs.Recovery.{IsCommitted, IsIgnored}
use Rattle.sqlite_wal.proofs.RecoveryLemmas.{replays_no_fewer}
use Rattle.sqlite_wal.proofs.FormatLemmas.{be32-part}
use Rattle.acd_files.specs.Files.{HoldsCommit}

-- a log that an opening skips holds none
taken : (size frames : ℕ) (log : List ℕ) → 0 < frames → IsCommitted size log frames → ¬ IsIgnored log
taken size frames log some committed ignored =
    let none = replays_no_fewer size log frames 0 committed (inl (ignored, refl)) in
    omega (arith, some, none)

-- the head names the size of the pages
named : (size frames : ℕ) (log : List ℕ) → IsCommitted size log frames → be32 log 8 ≡ size
named size frames log committed = sym (be32-part log 0 32 8 (omega arith)) ∙ committed.head.size

pub none_named : (log : List ℕ) → (¬ IsIgnored log → Names None (be32 log 8)) → ¬ HoldsCommit log
none_named log names h =
    let none = names (taken h.0 h.1 log h.3 h.4) in
    false≢true (none.0.1 (subst IsPageSize (sym (named h.0 h.1 log h.4)) h.2))
