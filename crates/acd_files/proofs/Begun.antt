-- Two files before the store has them, step by step.
use Rattle.std.proofs.Common.{◌≡◌, ◌↔◌, ℕ, ◌<◌, ◌≤◌, Bool, false, length, Result, IfOk, IfErr, IsTrue, true≢false, refl, sym, ap, subst, subst₂, ◌∙◌, arith, List, Ok, Err}
use Rattle.std.proofs.lemmas.Bool.{and_parts}
use Rattle.std.proofs.lemmas.Result.{IfErr-weaker}
use Rattle.sqlite_disk.specs.declared.Disk.{Ghosts}
use Rattle.sqlite_disk.specs.declared.Files.{Files}
use Rattle.sqlite_wal.specs.Reads.{IsClean, AreClean, OnlyReads, are_clean}
use Rattle.sqlite_pager.specs.declared.pager.Options.{Options}
use Rattle.sqlite_store.specs.declared.store.FileStore.{FileStore}
use Rattle.sqlite_store.specs.declared.store.open.Unopened.{Unopened}
use Rattle.sqlite_store.specs.declared.error.OpenError.{OpenError}
use Rattle.sqlite_store.specs.declared.error.OpenError.TheVariants.{Refused}
use Rattle.sqlite_store.specs.Opening.{FailsToOpen}
use Rattle.sqlite_store.specs.FileStore as store
use Rattle.sqlite_store.specs.Unopened.{state_of, files_of}
use Rattle.sqlite.proofs.OpenLemmas.{pool_files}
use Rattle.acd_files.specs.Files.{new_page, created, given_back, interrupted, read_only as just_read, unchanged, unusable, IfShort, IsLone, AreReadOnly, AreReady, AreUnopened, IsCreation, IsCreated, IsInterrupted}

-- how the store treats pages, by its four numbers
abbrev pub options : ℕ → ℕ → ℕ → ℕ → Options
options cache spill frames seed = record { cache_pages = cache; spill_pages = spill; checkpoint_frames = frames; seed = seed }

pub same_options : {a b c d e f g h : ℕ} → a ≡ e → b ≡ f → c ≡ g → d ≡ h → options a b c d ≡ options e f g h
same_options {a} {b} {c} {d} {e} {f} {g} {h} p q r s =
    ap (λ (x : ℕ). options x b c d) p ∙ ap (λ (x : ℕ). options e x c d) q ∙ ap (λ (x : ℕ). options e f x d) r ∙ ap (λ (x : ℕ). options e f g x) s

-- the store refused to make a database
pub refused_so : (a b : ℕ) (L P : Type 0) (e : OpenError) → e ≡ Refused → FailsToOpen a b L P e → ¬ P
refused_so a b L P e is h = subst (FailsToOpen a b L P) is h

too_many : (n : ℕ) → new_page < n → n ≤ new_page → ⊥
too_many n more few = omega (arith, more, few)

too_few : (n : ℕ) → ¬ (n ≤ new_page) → new_page < n
too_few n more = omega (arith, more)

module _ {D : Type 0} {g : Ghosts D} where
  reads_none : (file : D) → IsTrue (g.is_usable file) → OnlyReads g file file
  reads_none file usable = record { seen = refl; clean = λ h. h; usable = usable; key = refl; rot = refl; crash = λ c may. may }

  -- nothing was done to them
  pub read_as : (old new : Files D) → ◌≡◌ {A = D × D} (new.log, new.db) (old.log, old.db) → IsTrue (g.is_usable old.log) → IsTrue (g.is_usable old.db) → AreReadOnly g old new
  read_as old new is log db = record {
    log = subst (λ (x : D). OnlyReads g old.log x) (sym (ap (λ (p : D × D). p.0) is)) (reads_none old.log log);
    db = subst (λ (x : D). OnlyReads g old.db x) (sym (ap (λ (p : D × D). p.1) is)) (reads_none old.db db);
  }

  -- the log was left alone
  pub read_only : (old new : Files D) → new.log ≡ old.log → IsTrue (g.is_usable old.log) → OnlyReads g old.db new.db → AreReadOnly g old new
  read_only old new log usable db = record { log = subst (λ (x : D). OnlyReads g old.log x) (sym log) (reads_none old.log usable); db = db }

  reads_on : (a b c : D) → OnlyReads g a b → OnlyReads g b c → OnlyReads g a c
  reads_on a b c first second = record {
    seen = second.seen ∙ first.seen;
    clean = λ h. first.clean (second.clean h);
    usable = second.usable;
    key = second.key ∙ first.key;
    rot = second.rot ∙ first.rot;
    crash = λ x may. first.crash x (second.crash x may);
  }

  pub read_on : (a b c : Files D) → AreReadOnly g a b → AreReadOnly g b c → AreReadOnly g a c
  read_on a b c first second = record { log = reads_on a.log b.log c.log first.log second.log; db = reads_on a.db b.db c.db first.db second.db }

  -- ---- what was done to files that were read before

  ready_after_read : (old mid new : Files D) → AreReadOnly g old mid → AreReady g mid new → AreReady g old new
  ready_after_read old mid new read (just_read more only) = just_read (λ still. subst (λ (bytes : List ℕ). new_page < length bytes) read.db.seen (more still)) (read_on old mid new read only)
  ready_after_read old mid new read (created again fresh only made) =
      created again (λ still. subst₂ (λ (log db : List ℕ). (length db ≤ new_page) × (¬ IsLone log db)) read.log.seen read.db.seen (fresh still)) (read_on old mid again read only) made

  pub unopened_after_read : (old mid new : Files D) → AreReadOnly g old mid → AreUnopened g mid new → AreUnopened g old new
  unopened_after_read old mid new read (unchanged only) = unchanged (read_on old mid new read only)
  unopened_after_read old mid new read (interrupted again only came) = interrupted again (read_on old mid again read only) came
  unopened_after_read old mid new read (unusable ready) = unusable (ready_after_read old mid new read ready)
  unopened_after_read old mid new read (given_back begun handed ready only back) = given_back begun handed (ready_after_read old mid begun read ready) only back

  pub err_after_read : {F : Type 0} (r : Result (Files D) (F × Files D)) (old mid : Files D) → AreReadOnly g old mid → IfErr r (λ (e : F × Files D). AreUnopened g mid e.1) → IfErr r (λ (e : F × Files D). AreUnopened g old e.1)
  err_after_read r old mid read h = IfErr-weaker r _ _ (λ e left. unopened_after_read old mid e.1 read left) h

  pub created_as : (files new : Files D) → IsTrue (g.is_usable files.log) → IsTrue (g.is_usable files.db) → IsCreation g IsInterrupted files new → AreUnopened g files new
  created_as files new log db came = interrupted files (read_as files files refl log db) came

  -- a database was to be made in files that were read before, of which the log isn't one without its file
  pub ready_beside : {F : Type 0} (r : Result (Files D) F) (old mid : Files D) → AreReadOnly g old mid → (lone : Bool) → lone ≡ false → (AreClean g mid.log mid.db → IsTrue lone ↔ IsLone (g.seen old.log) (g.seen old.db))
      → IfOk r (λ (new : Files D). AreClean g new.log new.db → AreClean g mid.log mid.db) → IfOk r (λ (new : Files D). IsCreated g mid new) → IfOk r (λ (new : Files D). IfShort g old new (AreReady g old new))
  ready_beside (Ok new) old mid read lone is whether clean made =
      λ few. created mid (λ still. (few still, λ it. true≢false (sym ((whether (clean still)).1 it) ∙ is))) read made
  ready_beside (Err e) old mid read lone is whether clean made = tt

  pub short_clean : (old mid new : Files D) → AreReadOnly g old mid → (IsClean g mid.db → length (g.seen old.db) ≤ new_page) → (AreClean g new.log new.db → AreClean g mid.log mid.db) → IfShort g mid new (AreReady g mid new) → AreReady g old new
  short_clean old mid new read few clean ready =
      ready_after_read old mid new read (ready (λ still. subst (λ (bytes : List ℕ). length bytes ≤ new_page) (sym read.db.seen) (few (and_parts (g.is_clean mid.log) (g.is_clean mid.db) (clean still)).1)))

  -- files that have more than a first page
  pub large_read : (old new : Files D) → AreReady g old new → AreClean g new.log new.db → new_page < length (g.seen old.db) → AreReadOnly g old new
  large_read old new (just_read more read) clean large = read
  large_read old new (created read fresh only made) clean large = absurd (too_many (length (g.seen old.db)) large (fresh clean).0)

  pub large_ready : (old new : Files D) → AreReadOnly g old new → (IsClean g new.db → ¬ (length (g.seen old.db) ≤ new_page)) → AreReady g old new
  large_ready old new read more = just_read (λ still. too_few (length (g.seen old.db)) (more (and_parts (g.is_clean new.log) (g.is_clean new.db) still).1)) read

  -- the files of an unopened store, or of an open one, are clean where its state is
  pub unopened_clean : (it : Unopened D g) (files : Files D) → files_of it ≡ (files.log, files.db) → (state_of it).is_clean ≡ are_clean g files.log files.db
  unopened_clean it files is = (pool_files it.pool).1 ∙ ap (λ (f : D × D). are_clean g f.0 f.1) is

  pub store_clean : (it : FileStore D g) (files : Files D) → store.files it ≡ (files.log, files.db) → (store.state it).is_clean ≡ are_clean g files.log files.db
  store_clean it files is = (pool_files it.pool).1 ∙ ap (λ (f : D × D). are_clean g f.0 f.1) is
