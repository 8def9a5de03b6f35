-- Files that hold a book open as that book, and so does whatever a crash leaves behind a connection that leaves books.
use Rattle.std.proofs.Common.{◌≡◌, ◌⊎◌, ℕ, ◌+◌, ◌<◌, pos, Bool, true, false, List, [], ◌∷◌, ◌++◌, length, take, inl, inr, Some, Ok, Err, refl, sym, ap, ap₂, subst, subst₂, ◌∙◌, if◌then◌else◌, arith}
use Rattle.std.proofs.lemmas.Bool.{and_from}
use Rattle.std.proofs.lemmas.List.{take_all}
use Rattle.std.proofs.Math.Logic.{∥∥₁_map, ∥∥₁_elim}
use Rattle.sqlite_disk.specs.declared.Disk as disk
use Rattle.sqlite_disk.specs.declared.Files.{Files}
use Rattle.sqlite_disk.specs.declared.calls.Calls as calls
use Rattle.sqlite_disk.specs.declared.modelled.Modelled.{Modelled}
use Rattle.sqlite_disk.specs.declared.start.Start as start
use Rattle.sqlite_disk.specs.Events.{Event, Model, replay}
use Rattle.sqlite_disk.specs.History.{MayLeave}
use Rattle.sqlite_disk.specs.Modelled.{start_of}
use Rattle.sqlite_std_file.specs.declared.host.Host.{Host}
use Rattle.sqlite_std_file.specs.File.{IsFresh}
use Rattle.sqlite_wal.specs.Recovery.{Image}
use Rattle.sqlite_wal.specs.Reads.{AreClean}
use Rattle.sqlite_wal.specs.Files.{outcomes, seen_image}
use Rattle.sqlite_wal.proofs.CleanLemmas.{halves}
use Rattle.sqlite_trees.specs.Tree.{Trees}
use Rattle.sqlite_trees.specs.declared.store.Store.{Ghosts}
use Rattle.sqlite_store.specs.declared.store.FileStore.{FileStore}
use Rattle.sqlite_store.specs.FileStore as store
use Rattle.sqlite.specs.Closing.{IsCopied}
use Rattle.sqlite.specs.Effect.{Database}
use Rattle.sqlite.specs.Files.{Finds, FailsToOpenFiles, HoldsDatabase, IsOpened, file_state, image_of, over_files}
use Rattle.sqlite.specs.Held.{Held, state}
use Rattle.sqlite.specs.State.{HasCleanDisk}
use Rattle.sqlite.specs.declared.error.Error.{Error}
use Rattle.sqlite.specs.declared.file.Leftover.{Leftover}
use Rattle.sqlite.proofs.OpenLemmas.{pool_files}
use Rattle.sqlite.proofs.ListingLemmas.{empty_is_sound}
use Rattle.sqlite_catalog.proofs.ReadLemmas.{lists_once}
use Rattle.sqlite_schema.specs.declared.schema.Schema.{Schema}
use Rattle.sqlite_pages.specs.PageMap.{PageMap}
use Rattle.sqlite_value.specs.declared.value.Value.TheVariants.{Int}
use Rattle.sqlite_trees.specs.Objects.{catalog_tree}
use Rattle.sqlite_trees.specs.declared.store.Shape.{Shape}
use Rattle.sqlite_trees.specs.declared.store.Shape.TheVariants as shapes
use Rattle.sqlite_store.specs.declared.catalog.Wanted.{Wanted}
use Rattle.sqlite_store.specs.declared.store.open.Unopened.{Unopened}
use Rattle.sqlite_store.specs.Unopened.{state_of, files_of, image as unopened_image, IsUnstarted, IsAsBefore, Creates}
use Rattle.sqlite_store.specs.Opening.{IsEmptyFile}
use Rattle.sqlite_store.specs.Build.{listing}
use Rattle.sqlite_store.specs.Catalog.{is_present}
use Rattle.sqlite_store.specs.Exact.{entries_of, AreRootsFor}
use Rattle.sqlite_store.specs.Db.{rows_at, roots_of}
use Rattle.sqlite_store.specs.Listed.{catalog_rows}
use Rattle.sqlite_store.specs.Listing.{listed, listed_from, IsOurs}
use Rattle.sqlite_store.proofs.ExactLemmas.{roots_fit}
use Rattle.sqlite_pool.specs.File.{in_use}
use Rattle.sqlite_pool.specs.Opening.{IsBlankFile}
use Rattle.sqlite_pool.specs.Stored.{sealed, trimmed, stored_size, Recovers, RecoversAs}
use Rattle.sqlite_pool.proofs.ProbeLemmas.{not_blank}
use Rattle.sqlite_pool.proofs.ResealLemmas.{adopts_of}
use Rattle.sqlite_pool.proofs.StateLemmas.{seen_may_be_left, size_is_allowed}
use Rattle.sqlite_wal.specs.PageSize.{IsPageSize}
use Rattle.sqlite_wal.specs.State.{State}
use Rattle.sqlite_wal.proofs.LogLemmas.{SeenMayStay}
use Rattle.sqlite_wal.proofs.RecoveryLemmas.{recovers_once as raw_once}
use Rattle.sqlite.specs.Opening.{HoldsIn}
use Rattle.acd_book.specs.Content.{Content}
use Rattle.acd_desk.specs.Contents.CarriedContent.{Archive, together}
use Rattle.acd_desk.specs.Contents.SoundContent.{IsSound}
use Rattle.acd_desk.specs.Desks.Opening.{Opens}
use Rattle.acd_sql_columns.specs.AnyRows.{has_meta}
use Rattle.acd_sql_columns.specs.Schema.{book_schema, no_schema}
use Rattle.acd_sql_columns.specs.InTables.{content_of}
use Rattle.acd_sql_columns.specs.Transactions.{IsBook}
use Rattle.acd_sqlbook.specs.Caches.{IsBlank}
use Rattle.acd_sqlbook.specs.StoreLaws.{IsAdoptAnswer, IsOverBook}
use Rattle.acd_sqlbook.specs.View.{BookView, book_seen}
use Rattle.acd_sqlbook.proofs.CachedCalls.{blank_of}
use Rattle.acd_sqlbook.proofs.ReopenedBooks.{over_book, books_are_adopted}
use Rattle.acd_sessions.specs.Desks.{in_database}
use Rattle.acd_files.specs.Files.{new_page, created, read_only, AreReadOnly, AreReady, IsMade, IsCreateRefused, IsOpenedIn}
use Rattle.acd_sessions.specs.Over.{held, LeavesBooks}
use Rattle.acd_files.proofs.Begun.{large_read, store_clean, unopened_clean}
use Rattle.acd_sessions.specs.Reopening.{DeskResult, IsDeskOf, Reopened, FailsByDisk, IsOpenedOver, IsTakenFrom, FilesReopen, NumbersTrees, AreSynced, SyncedReopen, ReopensClosed}

-- ---- a desk over a book

module _ {S : Type 0} (g : Ghosts S) (conn : Held S) (c : Content) (over : IsOverBook (state g conn) c) where
  module _ (book : BookView S) (answer : IsAdoptAnswer g conn (Ok book)) (blank : IsBlank book.cache) where
    has : HasCleanDisk (state g book.conn) → content_of (state g book.conn).committed.trees ≡ c
    has clean = (books_are_adopted g conn c over (Ok book) answer).content clean

    sound : HasCleanDisk (state g book.conn) → (book_seen g book).is_sound
    sound clean = ((answer.adopted clean).sound over.reopens.canonical, λ up. blank_of book.cache blank _)

    desk_of : (p : Archive) (result : DeskResult S) → IsSound (together p c) → Opens (in_database g) book result → IsDeskOf g c result
    desk_of p (Ok desk) is opened = λ here.
        let clean = opened.step.clean here in
        let up = opened.opened here (sound clean) in
        (up.2 ∙ has clean, up.3 ∙ ap (λ (x : Content). Some x.rows) (has clean))
    desk_of p (Err refused) is h = λ here.
        let clean = h.step.clean here in
        h.well p here (sound clean) (subst (λ (x : Content). IsSound (together p x)) (sym (has clean)) is)

  pub books_make_desks : Reopened g conn c
  books_make_desks = record {
    adopts = λ result answer. books_are_adopted g conn c over result answer;
    desks = λ p result is asked. desk_of asked.book asked.adopted asked.blank p result is asked.opens;
  }

-- a book has tables
has_tables : (db : Trees) (c : Content) → IsBook db c → db catalog_tree ≡ [] → ⊥
unfolding has_meta
has_tables db c book none =
    absurd (let no : true ≡ false = ap (λ (s : Schema). has_meta s.tables) (lists_once (db catalog_tree) book_schema no_schema book.sound.lists (empty_is_sound db none).lists) in cc no)

-- ---- files that hold a book

module _ {D : Type 0} (g : disk.Ghosts D) (files : Files D) (db : Trees) (held_there : HoldsDatabase (image_of g files) db) where
  -- an opening isn't refused for what they hold
  never_refused : (rest : Leftover D g) (e : Error) → FailsToOpenFiles files rest e → FailsByDisk files rest e
  never_refused rest e (inl memory) = inl memory
  never_refused rest e (inr (inl refused)) = absurd (refused.1 (inl (db, held_there)))
  never_refused rest e (inr (inr other)) = inr (inr other)

  over_it : (conn : Held (FileStore D g)) (c : Content) → IsOpened conn × Finds files conn → IsBook db c → IsOverBook (file_state conn) c
  over_it conn c opened book =
      over_book (file_state conn) c opened.0.0 opened.0.1
      (subst (λ (d : Trees). IsBook d c) (sym (ap (λ (d : Database). d.trees) opened.0.0.clean ∙ opened.1.holds db held_there)) book)

-- the bytes of two files
abbrev pub image_as : List ℕ → List ℕ → Image
image_as log db = record { log = log; db = db }

-- the program only read files of more than a page, before the store opened them
module _ {D : Type 0} (g : disk.Ghosts D) where
  same_bytes : (old new : Files D) → AreReadOnly g old new → image_of g new ≡ image_of g old
  same_bytes old new read = ap₂ image_as read.log.seen read.db.seen

  begun_clean : (old new : Files D) → AreReadOnly g old new → AreClean g new.log new.db → AreClean g old.log old.db
  begun_clean old new read clean = let both = halves g new.log new.db clean in and_from _ _ (read.log.clean both.0) (read.db.clean both.1)

  handed_same : (files : Files D) (conn : Held (FileStore D g)) (is : IsOpenedIn g files conn) → new_page < length (g.seen files.db) → AreClean g is.handed.log is.handed.db
      → image_of g is.handed ≡ image_of g files
  handed_same files conn is large clean = same_bytes is.begun is.handed is.read ∙ same_bytes files is.begun (large_read files is.begun is.ready (begun_clean is.begun is.handed is.read clean) large)

module _ {D : Type 0} (g : disk.Ghosts D) (image : Image) (db : Trees) (there : HoldsDatabase image db) (c : Content) (book : IsBook db c) where
  held_in : (files : Files D) → image_of g files ≡ image → HoldsDatabase (image_of g files) db
  held_in files same = subst (λ (x : Image). HoldsDatabase x db) (sym same) there

  over_files_so : (files : Files D) (conn : Held (FileStore D g)) → image_of g files ≡ image → IsOpenedOver files conn ⊎ IsTakenFrom files conn → HasCleanDisk (file_state conn) → IsOverBook (file_state conn) c
  over_files_so files conn same (inl opened) clean = over_it g files db (held_in files same) conn c (opened clean) book
  over_files_so files conn same (inr taken) clean =
      let is = taken.0 in
      let found = is.found clean in
      over_it g is.handed db (held_in is.handed (handed_same g files conn is taken.1 found.honest ∙ same)) conn c (is.opened clean, found) book

  pub files_reopen : FilesReopen g image c
  files_reopen = record {
    never = λ files rest e same. never_refused g files db (held_in files same) rest e;
    opened = λ files conn same how clean. books_make_desks over_files conn c (over_files_so files conn same how clean);
  }

-- ---- where a database was to be made in them first

-- pages of 1024 bytes need no sums
unsummed : (bytes : List ℕ) → length bytes ≡ 1024 → bytes ≡ sealed (take 1024 bytes)
unfolding sealed
unsummed bytes len = let whole : take 1024 bytes ≡ bytes = take_all 1024 bytes (omega arith) in rw (whole, len) refl

-- what stands for the same pages holds the same database
module _ (old new : Image) (db : Trees) (as_before : RecoversAs new_page old new) (there : HoldsIn new_page old db) where
  still_recovers : Recovers new_page new there.pages
  still_recovers =
      let now = as_before there.found.stored there.found.found in
      record { stored = there.found.stored; found = now; whole = there.found.whole; sealed = λ n bytes is. unsummed bytes (there.found.whole.sized n bytes is); shows = there.found.shows; present = now.present }

  still_holds : HoldsIn new_page new db
  still_holds = record { pages = there.pages; wanted = there.wanted; schema = there.schema; found = adopts_of new_page new there.pages still_recovers; ours = there.ours; reads = there.reads; sound = there.sound }

-- a list of objects with no row has none
no_rows : (rowid place : ℕ) (wanted : List Wanted) (roots : List ℕ) → AreRootsFor wanted roots → entries_of rowid wanted roots ≡ [] → listed_from place wanted ≡ []
no_rows rowid place [] roots fit none = refl
no_rows rowid place (w ∷ ws) [] fit none = absurd fit
no_rows rowid place (w ∷ ws) (r ∷ rs) fit none = go (no_rows (rowid + 1) (place + 1) ws rs fit.2) w.shape none
  where
    go : (entries_of (rowid + 1) ws rs ≡ [] → listed_from (place + 1) ws ≡ []) → (shape : Shape)
        → (if is_present shape then (Int (pos rowid) ∷ listing w r) ∷ entries_of (rowid + 1) ws rs else entries_of (rowid + 1) ws rs) ≡ []
        → listed place w shape ++ listed_from (place + 1) ws ≡ []
    go more shapes.Absent e = more e
    go more shapes.Table e = absurd (cc)
    go more (shapes.Index o) e = absurd (cc)
    go more shapes.Pageless e = absurd (cc)
    go more shapes.FrozenTable e = absurd (cc)
    go more (shapes.FrozenIndex o) e = absurd (cc)

-- files that hold a database with a table are none that has yet to be made
module _ (image : Image) (db : Trees) (there : HoldsIn new_page image db) (some : db catalog_tree ≡ [] → ⊥) where
  never_blank : IsBlankFile new_page image → ⊥
  never_blank = not_blank new_page image there.pages there.found (omega arith) there.ours.file.sound new_page (omega arith)

  same_pages : (pages : PageMap) → Recovers new_page image pages → pages ≡ there.pages
  same_pages pages found = sym found.shows ∙ ap (trimmed new_page) (raw_once 1024 image _ _ found.found there.found.found) ∙ there.found.shows

  never_empty : (pages : PageMap) → Recovers new_page image pages → IsEmptyFile new_page pages → ⊥
  unfolding roots_of
  never_empty pages found empty =
      let rows = subst (λ (p : PageMap). rows_at new_page (in_use new_page p) shapes.Table 1 ≡ []) (same_pages pages found) empty.1 in
      let entries = sym (there.ours.numbered refl).listed ∙ rows in
      some (ap (λ (d : Trees). d catalog_tree) there.reads ∙ catalog_rows new_page there.wanted (in_use new_page there.pages) ∙ no_rows 1 0 there.wanted (roots_of new_page there.wanted (in_use new_page there.pages)) (roots_fit _ there.wanted) entries)

module _ {D : Type 0} (g : disk.Ghosts D) (stays : SeenMayStay g) (files : Files D) (db : Trees) (there : HoldsIn new_page (image_of g files) db) (some : db catalog_tree ≡ [] → ⊥)
    (synced : AreSynced g files) where
  module _ (read : Files D) (only : AreReadOnly g files read) (before : Unopened D g) (of_read : files_of before ≡ (read.log, read.db)) (size : (state_of before).page_size ≡ new_page) where
    same_image : unopened_image before ≡ image_of g files
    same_image = ap (λ (f : D × D). seen_image g f.0 f.1) of_read ∙ same_bytes g files read only

    left_is : (left : Image) → (state_of before).may_leave left → left ≡ image_of g files
    left_is left may =
        let both = subst (λ (f : D × D). outcomes g f.0 f.1 left) of_read ((pool_files before.pool).2 left may) in
        ap₂ image_as (synced.0 left.log (only.log.crash left.log both.0)) (synced.1 left.db (only.db.crash left.db both.1))

    never_unstarted : IsUnstarted before → ⊥
    never_unstarted (inl blank) = never_blank (image_of g files) db there some (subst₂ IsBlankFile size same_image blank)
    never_unstarted (inr (pages, found, empty)) =
        never_empty (image_of g files) db there some pages (subst₂ (λ (n : ℕ) (x : Image). Recovers n x pages) size same_image found) (subst (λ (n : ℕ). IsEmptyFile n pages) size empty)

    kept : (left : Image) → IsAsBefore before left → HoldsIn new_page left db
    kept left h = elim h.same [
      | inl may ↦ subst (λ (x : Image). HoldsIn new_page x db) (sym (left_is left may)) there
      | inr as_before ↦ still_holds (image_of g files) left db (subst₂ (λ (n : ℕ) (x : Image). RecoversAs n x left) size same_image as_before) there
    ]

    kept_in : (new : Files D) (s : State) → Creates before s → s.may_leave (image_of g new) → HoldsIn new_page (image_of g new) db
    kept_in new s creates may = kept (image_of g new) (creates.guarded never_unstarted (image_of g new) may)

    after_all : (new : Files D) → AreClean g new.log new.db → IsMade before new ⊎ IsCreateRefused before new → HoldsIn new_page (image_of g new) db
    after_all new clean (inl made) =
        let here = store_clean made.made new made.of_made ∙ clean in
        kept_in new (store.state made.made) (made.creates here) (subst (λ (f : D × D). (store.state made.made).may_leave (seen_image g f.0 f.1)) made.of_made (seen_may_be_left made.made.pool stays here))
    after_all new clean (inr refused) =
        let here = unopened_clean refused.rest new refused.of_rest ∙ clean in
        kept_in new (state_of refused.rest) (refused.creates here) (subst (λ (f : D × D). (state_of refused.rest).may_leave (seen_image g f.0 f.1)) refused.of_rest (seen_may_be_left refused.rest.pool stays here))

  begun_holds : (new : Files D) → AreClean g new.log new.db → AreReady g files new → HoldsIn new_page (image_of g new) db
  begun_holds new clean (read_only more read) = subst (λ (x : Image). HoldsIn new_page x db) (sym (same_bytes g files new read)) there
  begun_holds new clean (created read fresh only handed) = after_all read only handed.before handed.of_old handed.size new clean handed.after

  synced_holds : (conn : Held (FileStore D g)) (is : IsOpenedIn g files conn) → AreClean g is.handed.log is.handed.db → HoldsDatabase (image_of g is.handed) db
  synced_holds conn is clean =
      let begun = begun_holds is.begun (begun_clean g is.begun is.handed is.read clean) is.ready in
      (new_page, (omega arith, omega arith, refl, refl), subst (λ (x : Image). HoldsIn new_page x db) (sym (same_bytes g is.begun is.handed is.read)) begun)

-- ---- what a command leaves

module _ {D : Type 0} (g : disk.Ghosts D) (stays : SeenMayStay g) (image : Image) (db : Trees) (there : HoldsIn new_page image db) (c : Content) (book : IsBook db c) where
  synced_reopen : SyncedReopen g image c
  synced_reopen files conn same synced is clean =
      let found = is.found clean in
      let held = synced_holds g stays files db (subst (λ (x : Image). HoldsIn new_page x db) (sym same) there) (has_tables db c book) synced conn is found.honest in
      books_make_desks over_files conn c (over_it g is.handed db held conn c (is.opened clean, found) book)

module _ {D E : Type 0} (g : disk.Ghosts D) (h : disk.Ghosts E) (stays : SeenMayStay h) (old : Held (FileStore D g)) (image : Image) where
  -- it opens so
  abbrev pub LeftSo : Type 0
  LeftSo = (c : Content) × (held (file_state old)).stops c × FilesReopen h image c × ((store.state old.store).page_size ≡ new_page → SyncedReopen h image c)

  left_so : LeavesBooks (file_state old) → (db : Trees) → (file_state old).may_leave db → IsPageSize (stored_size (store.state old.store).page_size) → HoldsIn (store.state old.store).page_size image db → LeftSo
  left_so leaves db may size there =
      let c = content_of db in
      let book = leaves.left db may in (
        c,
        (db, may, refl),
        files_reopen h image db ((store.state old.store).page_size, size, there) c book,
        λ is. synced_reopen h stays image db (subst (λ (n : ℕ). HoldsIn n image db) is there) c book,
      )

module _ {D E : Type 0} (g : disk.Ghosts D) (h : disk.Ghosts E) (stays : SeenMayStay h) where
  pub left_opens : (old : Held (FileStore D g)) (image : Image) → LeavesBooks (file_state old) → NumbersTrees old → (store.state old.store).may_leave image → ∥ LeftSo g h stays old image ∥₁
  left_opens old image leaves numbered may = ∥∥₁_elim old.store.safe squash₁ (λ all.
      let found = all image may in
      let db = store.reading old.store found.0 in
      let allowed : (file_state old).may_leave db = (image, found.0, may, ∣ found.1 ∣₁, refl) in
      ∥∥₁_elim (size_is_allowed old.store.pool) squash₁ (λ size. ∥∥₁_map found.2 (λ ours.
      left_so g h stays old image leaves db allowed size (record {
        pages = found.0;
        wanted = store.schema_in old.store found.0;
        schema = _;
        found = adopts_of _ image found.0 found.1;
        reads = refl;
        sound = (leaves.left db allowed).sound;
        ours = subst (λ (b : Bool). IsOurs (store.state old.store).page_size b (store.schema_in old.store found.0) found.0) numbered ours;
      }))))

module _ {D E : Type 0} (g : disk.Ghosts D) (h : disk.Ghosts E) where
  pub closed_opens : (old : Held (FileStore D g)) (files : Files D) (image : Image) → LeavesBooks (file_state old) → IsCopied old files → outcomes g files.log files.db image
      → ReopensClosed h image (content_of (file_state old).committed.trees)
  closed_opens old files image leaves copied may =
      let alone = copied.left image may in
      let book = leaves.committed copied.was_open in
      record {
        both = ∥∥₁_map alone.both (λ there. files_reopen h image _ there _ book);
        alone = ∥∥₁_map alone.alone (λ there. files_reopen h (record image { log = [] }) _ there _ book);
      }

-- ---- files that were just opened

module _ {S : Type 0} {g : calls.Ghosts Host} (found : start.Ghosts S) (is_log : Bool) (f : Modelled Host S g found) (fresh : IsFresh is_log f) where
  abbrev now : Model
  now = replay (start_of found f) f.calls.log.events

  reads_first : now.seen ≡ start_of found f
  reads_first = ap (λ (events : List Event). (replay (start_of found f) events).seen) fresh.1

  pub reads_found : now.seen ≡ (if is_log then found.log else found.db)
  reads_found = reads_first ∙ ap (λ (b : Bool). if b then found.log else found.db) fresh.0

  pub leaves_found : (c : List ℕ) → MayLeave found.is_mixing now.seen now.synced now.steps c → c ≡ now.seen
  leaves_found c may =
      elim (subst (λ (events : List Event). let m = replay (start_of found f) events in MayLeave found.is_mixing m.seen m.synced m.steps c) fresh.1 may)
      [ inl same ↦ same ∙ sym reads_first | inr same ↦ same ∙ sym reads_first ]
