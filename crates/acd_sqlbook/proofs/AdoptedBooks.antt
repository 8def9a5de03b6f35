-- A connection that was looked over, as a book.
use Rattle.std.proofs.Common.{◌≡◌, ◌≢◌, ◌⊎◌, ◌≤◌, inl, inr, ℕ, length, Option, None, arith, Result, Ok, Err, IsTrue, refl, sym, ap, subst, ◌∙◌}
use Rattle.sqlite_trees.specs.Tree.{Trees}
use Rattle.sqlite_schema.specs.declared.schema.Schema.{Schema}
use Rattle.sqlite_trees.specs.Objects.{catalog_tree, IsListed}
use Rattle.sqlite_trees.specs.View.{View, IsOrdered}
use Rattle.sqlite_catalog.specs.Listing.{IsSound}
use Rattle.sqlite.specs.Effect.{Database, IsDatabase}
use Rattle.sqlite.specs.declared.error.Error.{Error}
use Rattle.sqlite.specs.State.{State, HasCleanDisk}
use Rattle.acd_book.specs.Content.{Content, Within}
use Rattle.acd_book.specs.Order.{IsOrdered as IsInOrder}
use Rattle.acd_sql_schema.specs.declared.fault.AdoptFault.{AdoptFault}
use Rattle.acd_sql_schema.specs.declared.fault.AdoptFault.TheVariants.{WrongVersion, BadRow, NoMemory, Store}
use Rattle.acd_sql_columns.specs.AnyRows.{IsCanonical, IsCanonicalAs, HaveAllColumns}
use Rattle.acd_sql_schema.specs.declared.fault.Found.{Found}
use Rattle.acd_sql_schema.specs.declared.fault.Found.TheVariants.{Book, Fault}
use Rattle.acd_sql_columns.specs.InRange.{IsInRange}
use Rattle.acd_sql_schema.specs.Inspection.{IsFound, IsOfBook, IsAdoptFaultOf, IsAdoptStoreFault, IsFoundFaultOf, adopt_fault_of}
use Rattle.acd_sql_schema.specs.Migration.{FailsToMigrate, IsMigration, IsMade, IsRestored, IsVersionRefused, MayAlter}
use Rattle.std.proofs.lemmas.Bool.{cases_Bool}
use Rattle.acd_sql_statements.specs.StoreFailures.{IsMemory}
use Rattle.acd_sql_statements.specs.Looks.{HasLookCause, FailsToLook}
use Rattle.acd_sql_columns.specs.declared.tables.Table.TheVariants as table
use Rattle.acd_sql_columns.specs.declared.tables.Version.{Version}
use Rattle.acd_sql_columns.specs.declared.tables.Version.TheVariants as version
use Rattle.acd_sqlbook.specs.Adoption.{AdoptCause, failed, shut, unlike, refused, HasAllColumns, IsAdopted, IsHandedBack, IsUntouched, MayMigrate}
use Rattle.acd_sql_columns.specs.Relations.{pair_order, meta_of, relations_of}
use Rattle.acd_sql_columns.specs.Content.{Encodes, EncodesAs, Stores, part, tree_of}
use Rattle.acd_sql_columns.specs.Rows.{further_row}
use Rattle.acd_sql_columns.specs.Schema.{old_schema, book_schema}
use Rattle.acd_sql_columns.specs.InTables.{content_of}
use Rattle.acd_sql_columns.specs.DatabaseView.{HasDatabase, HasLooked}
use Rattle.acd_sql_columns.specs.Transactions.{HoldsContent}
use Rattle.acd_sqlbook.specs.State.{IsSoundState, book_state}
use Rattle.acd_book.specs.State.{BookState}
use Rattle.acd_sqlbook.proofs.BookStates.{Settles, Stays}
use Rattle.acd_sqlbook.proofs.FailureCauses.{never_limited}
use Rattle.acd_sql_columns.proofs.Rows.RowsOfRecords.{decoded, decoded_as}
use Rattle.acd_sql_columns.proofs.Writes.TransactionEnds.{holds_still, is_book}
use Rattle.acd_sql_columns.proofs.Writes.Frames.{none_heaped}
use Rattle.acd_sql_schema.proofs.Contents.{content_in, canonical_in, canonical_by_store}
use Rattle.acd_sqlbook.proofs.AscendingContent.{stored_ordered}

-- ---- what a migration leaves of a content

pub apart_schemas : book_schema ≡ old_schema → ⊥
apart_schemas e = let many : ◌≡◌ {A = ℕ} 11 9 = ap (λ (s : Schema). length s.tables) e in cc many

pub migrated_encodes : (old new : Trees) (c : Content) → EncodesAs version.First old c → IsMigration old new → Encodes new c
migrated_encodes old new c is m table.Meta = m.version_is (meta_of c.rows) (is.tables table.Meta tt)
migrated_encodes old new c is m table.Groups =
    subst (λ rows. Stores table.Groups rows (part table.Groups (relations_of c))) (sym (m.kept table.Groups tt (λ e. cc e))) (is.tables table.Groups tt)
migrated_encodes old new c is m table.Stations =
    subst (λ rows. Stores table.Stations rows (part table.Stations (relations_of c))) (sym (m.kept table.Stations tt (λ e. cc e))) (is.tables table.Stations tt)
migrated_encodes old new c is m table.Agents =
    subst (λ rows. Stores table.Agents rows (part table.Agents (relations_of c))) (sym (m.kept table.Agents tt (λ e. cc e))) (is.tables table.Agents tt)
migrated_encodes old new c is m table.Calls =
    subst (λ rows. Stores table.Calls rows (part table.Calls (relations_of c))) (sym (m.kept table.Calls tt (λ e. cc e))) (is.tables table.Calls tt)
migrated_encodes old new c is m table.Connections =
    subst (λ rows. Stores table.Connections rows (part table.Connections (relations_of c))) (sym (m.kept table.Connections tt (λ e. cc e)))
    (is.tables table.Connections tt)
migrated_encodes old new c is m table.Monitors =
    subst (λ rows. Stores table.Monitors rows (part table.Monitors (relations_of c))) (sym (m.kept table.Monitors tt (λ e. cc e))) (is.tables table.Monitors tt)
migrated_encodes old new c is m table.Events =
    subst (λ rows. Stores table.Events rows (part table.Events (relations_of c))) (sym (m.kept table.Events tt (λ e. cc e))) (is.tables table.Events tt)
migrated_encodes old new c is m table.Kept =
    subst (λ rows. Stores table.Kept rows (part table.Kept (relations_of c))) (sym (m.kept table.Kept tt (λ e. cc e))) (is.tables table.Kept tt)
migrated_encodes old new c is m table.AgentGroups =
    subst (Stores table.AgentGroups (new (tree_of table.AgentGroups))) (sym is.fits.0)
    (none_heaped pair_order further_row (new (tree_of table.AgentGroups)) m.further)
migrated_encodes old new c is m table.GroupPriority =
    subst (Stores table.GroupPriority (new (tree_of table.GroupPriority))) (sym is.fits.1) (record { rows_are = m.priorities; ascending = tt })

second_encodes : (db : Trees) (c : Content) → EncodesAs version.Second db c → Encodes db c
second_encodes db c is = λ t. is.tables t tt

pub second_canonical : (d : Database) (c : Content) → d.schema ≡ book_schema → Encodes d.trees c → IsCanonical d
second_canonical d c is stored version.First e = absurd (apart_schemas (sym is ∙ e))
second_canonical d c is stored version.Second e = canonical_in d.trees c stored

-- ---- the connection as a book, after the look

module _ (old mid : State) (settles : Settles old) (k : HasCleanDisk mid) where
  old_database : (r : Result Found Error) → HasLooked old mid r IsFound → IsTrue old.is_open → HasDatabase old old.now
  old_database r h was = record { is_open = was; now = refl; committed = sym (h.settled was) }

  pub untouched : (r : Result Found Error) → HasLooked old mid r IsFound → IsUntouched old mid
  untouched r h = record { same = λ up. h.seen.same k (old_database r h (h.seen.was_open k up)) up; stops = h.stops k }

  pub leaves : (r : Result Found Error) → HasLooked old mid r IsFound → MayMigrate old mid
  leaves r h db left = inl (h.stops k db left)

  -- the finding, and what the connection has then
  pub was_up : (f : Found) → HasLooked old mid (Ok f) IsFound → IsTrue old.is_open
  was_up f h = h.seen.was_open k (h.up k)

  pub found_in : (f : Found) → HasLooked old mid (Ok f) IsFound → IsFound old.now f
  found_in f h = h.seen.answer k (old_database (Ok f) h (was_up f h))

  pub after_look : (f : Found) → HasLooked old mid (Ok f) IsFound → HasDatabase mid old.now
  after_look f h = h.seen.same k (old_database (Ok f) h (was_up f h)) (h.up k)

  same_commit : (r : Result Found Error) → HasLooked old mid r IsFound → IsTrue old.is_open → IsTrue mid.is_open → mid.committed ≡ old.committed
  same_commit r h was up = (h.seen.same k (old_database r h was) up).committed ∙ h.settled was

  -- it is as sound as it was
  still_sound : (r : Result Found Error) → HasLooked old mid r IsFound → IsSoundState old → IsSoundState mid
  still_sound r h sound = record {
    stands = λ up.
        let was = h.seen.was_open k up in
        let held = sound.stands was in
        let database = h.seen.same k (old_database r h was) up in
        let same = same_commit r h was up in
        (held.0, holds_still old mid held.0 held.1 up (database.now ∙ h.settled was) same);
    left = λ db left. sound.left db (h.stops k db left);
  }

  same_content : (r : Result Found Error) → HasLooked old mid r IsFound → IsTrue mid.is_open
      → IsTrue old.is_open × (content_of mid.committed.trees ≡ content_of old.committed.trees)
  same_content r h up =
      let was = h.seen.was_open k up in
      (was, ap (λ (d : Database). content_of d.trees) (same_commit r h was up))

  back : (r : Result Found Error) (f : AdoptFault) → HasLooked old mid r IsFound → IsAdoptFaultOf old.now f
      → IsHandedBack old.now (book_state old 0) (book_state mid 0) f
  back r f h fault = record {
    sound = still_sound r h;
    same = same_content r h;
    stops = λ canonical c stop. (stop.0, h.stops k stop.0 stop.1, stop.2);
    cause = fault;
  }

  found_fault : (f : AdoptFault) → IsFoundFaultOf old.now f → IsAdoptFaultOf old.now f
  found_fault (WrongVersion n) h = h
  found_fault (BadRow t) h = h
  found_fault NoMemory h = tt
  found_fault Store h = tt

  pub back_found : (f : AdoptFault) → HasLooked old mid (Ok (Fault f)) IsFound → IsHandedBack old.now (book_state old 0) (book_state mid 0) f
  back_found f h = back (Ok (Fault f)) f h (found_fault f (found_in (Fault f) h))

  pub of_store : (f : AdoptFault) → IsAdoptStoreFault f → IsAdoptFaultOf old.now f
  of_store (WrongVersion n) h = absurd h
  of_store (BadRow t) h = absurd h
  of_store NoMemory h = tt
  of_store Store h = tt

  pub back_failed : (e : Error) (f : AdoptFault) → IsAdoptStoreFault f → HasLooked old mid (Err e) IsFound
      → IsHandedBack old.now (book_state old 0) (book_state mid 0) f
  back_failed e f is h = back (Err e) f h (of_store f is)

  -- the rows of a store that isn't broken rise
  pub files : (v : Version) → HasLooked old mid (Ok (Book v)) IsFound → (w : View) → old.now.trees ≡ w.trees → IsListed (w.trees catalog_tree) w.shape w.reals
      → IsOrdered w.shape w.trees → HasAllColumns old.now → IsCanonical old.now
  files v h w same listed ordered whole u is =
      let obeys : IsDatabase (record { schema = old.now.schema; trees = w.trees }) =
      subst (λ t. IsDatabase (record { schema = old.now.schema; trees = t })) same (h.obeys (was_up (Book v) h)) in
      subst (IsCanonicalAs u) (sym same) (canonical_by_store u w old.now.schema is obeys listed ordered (subst (HaveAllColumns u) same (whole u is)))

  pub adopted : Settles mid → Stays mid → HasLooked old mid (Ok (Book version.Second)) IsFound → IsAdopted old.now (book_state old 0) (book_state mid 0)
  adopted settled_after stays h =
      let up = h.up k in
      let same = same_content (Ok (Book version.Second)) h up in
      let after = after_look (Book version.Second) h in
      let found = found_in (Book version.Second) h in
      let made : IsCanonical old.now → (c : Content) × Encodes old.now.trees c × IsInRange c =
      λ canonical. let c = content_in version.Second old.now found (h.obeys same.0) (canonical version.Second found.schema_is) in
      (c.0, second_encodes old.now.trees c.0 c.1, c.2) in
      let held : (c : (c : Content) × Encodes old.now.trees c × IsInRange c) → c.0 ≡ content_of mid.committed.trees =
      λ c. sym (decoded old.now.trees c.0 c.1) ∙ sym (ap (λ (d : Database). content_of d.trees) after.committed) in
      record {
        was_open = same.0;
        live = up;
        of_book = (version.Second, found);
        content = λ canonical. same.1;
        stops = λ canonical c stop. (stop.0, h.stops k stop.0 stop.1, stop.2);
        keeps = λ canonical c stop. (mid.committed.trees, stays up, stop.2 ∙ ap content_of (settles stop.0 same.0 stop.1) ∙ sym same.1);
        canonical = λ sound. let held = sound.stands same.0 in
            second_canonical old.now held.0 (ap (λ (d : Database). d.schema) held.1.idle ∙ held.1.schema)
            (subst (λ (d : Database). Encodes d.trees held.0) (sym held.1.idle) held.1.encodes);
        sound = λ canonical.
            let c = made canonical in
            let whole : IsSound book_schema old.now.trees = subst (λ (s : Schema). IsSound s old.now.trees) found.schema_is (h.obeys same.0) in
            let held : HoldsContent mid c.0 = record {
              is_open = up;
              idle = after.now ∙ sym after.committed;
              schema = ap (λ (d : Database). d.schema) after.committed ∙ found.schema_is;
              sound = subst (λ (d : Database). IsSound book_schema d.trees) (sym after.committed) whole;
              encodes = subst (λ (d : Database). Encodes d.trees c.0) (sym after.committed) c.1;
              range = c.2;
            } in
            record { stands = λ up. (c.0, held); left = λ db left. (c.0, is_book mid c.0 db held (settled_after db up left)) };
        in_range = λ canonical. let c = made canonical in subst IsInRange (held c) c.2;
        ordered = λ canonical. let c = made canonical in subst IsInOrder (held c) (stored_ordered old.now.trees c.0 c.1 c.2);
      }

  -- it is of no other version
  pub never_first : HasLooked old mid (Ok (Book version.Second)) IsFound → old.now.schema ≡ old_schema → ⊥
  never_first h is = apart_schemas (sym (found_in (Book version.Second) h).schema_is ∙ is)

-- ---- and after the migration

module _ (old mid new : State) (settles : Settles old) (stays : Stays old) (k : HasCleanDisk mid)
    (h : HasLooked old mid (Ok (Book version.First)) IsFound) where
  first : IsOfBook version.First old.now
  first = found_in old mid settles k (Book version.First) h

  after : HasDatabase mid old.now
  after = after_look old mid settles k (Book version.First) h

  was : IsTrue old.is_open
  was = was_up old mid settles k (Book version.First) h

  pub schema_there : mid.now.schema ≡ old_schema
  schema_there = ap (λ (d : Database). d.schema) after.now ∙ first.schema_is

  -- the content that it held
  made : IsCanonical old.now → (c : Content) × EncodesAs version.First old.now.trees c × IsInRange c
  made canonical = content_in version.First old.now first (h.obeys was) (canonical version.First first.schema_is)

  held_before : (c : Content) → EncodesAs version.First old.now.trees c → content_of old.committed.trees ≡ c
  held_before c is = ap (λ (d : Database). content_of d.trees) (sym (h.settled was)) ∙ decoded_as version.First old.now.trees c is

  migrates : (db : Trees) → IsMigration mid.now.trees db → IsMigration old.now.trees db
  migrates db m = subst (λ (d : Database). IsMigration d.trees db) after.now m

  -- a migration has it too
  same_there : (db : Trees) → IsMigration old.now.trees db → IsCanonical old.now → content_of db ≡ content_of old.committed.trees
  same_there db m canonical = let c = made canonical in decoded db c.0 (migrated_encodes old.now.trees db c.0 c.1 m) ∙ sym (held_before c.0 c.1)

  second_there : (db : Trees) → IsMigration old.now.trees db → IsCanonical old.now → Encodes db (content_of old.committed.trees)
  second_there db m canonical = let c = made canonical in subst (Encodes db) (sym (held_before c.0 c.1)) (migrated_encodes old.now.trees db c.0 c.1 m)

  never_sound : IsSoundState old → ⊥
  never_sound sound = let held = sound.stands was in apart_schemas (sym (ap (λ (d : Database). d.schema) held.1.idle ∙ held.1.schema) ∙ first.schema_is)

  pub migrated : IsMade mid new → IsMade old new
  migrated m = record { is_open = m.is_open; idle = m.idle; schema_is = m.schema_is; tables = migrates new.committed.trees m.tables }

  pub may_migrate : MayAlter mid new → MayMigrate old new
  may_migrate may db left = elim (may db left) [
    | inl before ↦ inl (h.stops k db before)
    | inr m ↦ inr (record { version = first.schema_is; tables = migrates db m; content = λ canonical. second_there db (migrates db m) canonical })
  ]

  within : MayAlter mid new → IsCanonical old.now → Within (book_state new 0).stops (book_state old 0).stops
  within may canonical c stop = elim (may stop.0 stop.1) [
    | inl before ↦ (stop.0, h.stops k stop.0 before, stop.2)
    | inr m ↦ (old.committed.trees, stays was, stop.2 ∙ same_there stop.0 (migrates stop.0 m) canonical)
  ]

  pub not_whole : old.now.schema ≡ book_schema → ⊥
  not_whole is = apart_schemas (sym is ∙ first.schema_is)

  pub adopted_first : Settles new → Stays new → MayAlter mid new → IsMade mid new → IsAdopted old.now (book_state old 0) (book_state new 0)
  adopted_first settled_after stays_after may m =
      let moved = migrates new.committed.trees m.tables in
      let whole : (c : (c : Content) × EncodesAs version.First old.now.trees c × IsInRange c) → Encodes new.committed.trees c.0 =
      λ c. migrated_encodes old.now.trees new.committed.trees c.0 c.1 moved in
      let held : (c : (c : Content) × EncodesAs version.First old.now.trees c × IsInRange c) → c.0 ≡ content_of new.committed.trees =
      λ c. sym (decoded new.committed.trees c.0 (whole c)) in
      record {
        was_open = was;
        live = m.is_open;
        of_book = (version.First, first);
        canonical = λ sound. absurd (never_sound sound);
        content = λ canonical. same_there new.committed.trees moved canonical;
        stops = within may;
        keeps =
            λ canonical c stop. (
              new.committed.trees,
              stays_after m.is_open,
              stop.2 ∙ ap content_of (settles stop.0 was stop.1)
                  ∙ sym (same_there new.committed.trees moved canonical),
            );
        sound = λ canonical.
            let c = made canonical in
            let held : HoldsContent new c.0 =
            record { is_open = m.is_open; idle = m.idle; schema = m.schema_is; sound = moved.sound; encodes = whole c; range = c.2 } in
            record { stands = λ up. (c.0, held); left = λ db left. (c.0, is_book new c.0 db held (settled_after db m.is_open left)) };
        in_range = λ canonical. let c = made canonical in subst IsInRange (held c) c.2;
        ordered = λ canonical. let c = made canonical in subst IsInOrder (held c) (stored_ordered new.committed.trees c.0 (whole c) c.2);
      }

  pub back_unmade : (f : AdoptFault) → IsAdoptStoreFault f → MayAlter mid new → (IsTrue new.is_open → IsRestored mid new)
      → IsHandedBack old.now (book_state old 0) (book_state new 0) f
  back_unmade f is may restored = record {
    sound = λ sound. absurd (never_sound sound);
    same = λ up. (was, ap (λ (d : Database). content_of d.trees) ((restored up).committed ∙ after.committed ∙ h.settled was));
    stops = within may;
    cause = of_store old mid settles k f is;
  }

  pub not_alone : (f : AdoptFault) → IsAdoptStoreFault f → (old.now.schema ≢ old_schema) ⊎ (¬ (IsAdoptStoreFault f)) → IsUntouched old new
  not_alone f is (inl other) = absurd (other first.schema_is)
  not_alone f is (inr other) = absurd (other is)

-- ---- why it answers that the store has failed

-- want of memory is no failure of the store
no_memory : (e : Error) (f : AdoptFault) → f ≡ adopt_fault_of e → f ≡ Store → IsMemory e → ⊥
no_memory e f is store memory = absurd (let apart = sym store ∙ is ∙ ap adopt_fault_of memory in cc)

module _ (old mid : State) (free : old.step_limit ≡ None) (settles : Settles old) (k : HasCleanDisk mid) where
  -- a fault that a look found, where the store hasn't failed
  pub found_cause : (f : AdoptFault) → HasLooked old mid (Ok (Fault f)) IsFound → f ≡ Store → AdoptCause old mid
  found_cause f h is = unlike (subst (IsFoundFaultOf old.now) is (found_in old mid settles k (Fault f) h))

  look_cause : (e : Error) (f : AdoptFault) → f ≡ adopt_fault_of e → f ≡ Store → FailsToLook old mid e → AdoptCause old mid
  look_cause e f is store (inl memory) = absurd (no_memory e f is store memory)
  look_cause e f is store (inr (inl more)) = failed more
  look_cause e f is store (inr (inr steps)) = absurd (never_limited old.step_limit free steps)

  -- the look failed
  pub fail_cause : (e : Error) (f : AdoptFault) → f ≡ adopt_fault_of e → f ≡ Store → HasLooked old mid (Err e) IsFound
      → HasLookCause {A = Found} IsCanonical old mid (Err e) → IsCanonical old.now → AdoptCause old mid
  fail_cause e f is store h causes canonical = elim (cases_Bool old.is_open) [
    | inl up ↦ look_cause e f is store (causes.cause k old.now (old_database old mid settles k (Err e) h up) canonical)
    | inr down ↦ shut down
  ]

-- the migration failed after the look
pub unmade_cause : (old mid new : State) (free : old.step_limit ≡ None) (settles : Settles old) (k : HasCleanDisk mid) (e : Error) (f : AdoptFault)
    → f ≡ adopt_fault_of e → f ≡ Store → HasLooked old mid (Ok (Book version.First)) IsFound
    → HasLookCause {A = Found} IsCanonical old mid (Ok (Book version.First)) → mid.faults ≤ new.faults → FailsToMigrate mid new e → AdoptCause old new
unmade_cause old mid new free settles k e f is store h causes counts (inl memory) = absurd (no_memory e f is store memory)
unmade_cause old mid new free settles k e f is store h causes counts (inr (inl (inl more))) =
    failed (let first = causes.spares.counts in omega (arith, more, first))
unmade_cause old mid new free settles k e f is store h causes counts (inr (inl (inr down))) = absurd (let up = h.up k in let apart = sym up ∙ down in cc)
unmade_cause old mid new free settles k e f is store h causes counts (inr (inr unread)) =
    let same = (after_look old mid settles k (Book version.First) h).now in
    refused ((found_in old mid settles k (Book version.First) h).schema_is)
    (subst (λ (l : Option ℕ). IsVersionRefused l old.now.trees) (causes.spares.limit ∙ free)
    (subst (λ (d : Database). IsVersionRefused mid.step_limit d.trees) same unread))

-- ---- a limit of steps that was removed before makes no difference

abbrev without_limit : State → State
without_limit s = record s { step_limit = None }

module _ (s : State) where
  sound_before : IsSoundState s → IsSoundState (without_limit s)
  sound_before sound = record {
    stands = λ up. let held = sound.stands up in (
      held.0,
      record {
        is_open = held.1.is_open;
        idle = held.1.idle;
        schema = held.1.schema;
        sound = held.1.sound;
        encodes = held.1.encodes;
        range = held.1.range;
      },
    );
    left = sound.left;
  }

  pub adopted_before : (d : Database) (new : BookState) → IsAdopted d (book_state (without_limit s) 0) new → IsAdopted d (book_state s 0) new
  adopted_before d new h = record {
    was_open = h.was_open;
    live = h.live;
    of_book = h.of_book;
    canonical = λ sound. h.canonical (sound_before sound);
    content = h.content;
    stops = h.stops;
    keeps = h.keeps;
    sound = h.sound;
    in_range = h.in_range;
    ordered = h.ordered;
  }

  pub back_before : (d : Database) (new : BookState) (f : AdoptFault) → IsHandedBack d (book_state (without_limit s) 0) new f
      → IsHandedBack d (book_state s 0) new f
  back_before d new f h = record { sound = λ sound. h.sound (sound_before sound); same = h.same; stops = h.stops; cause = h.cause }

  pub untouched_before : (new : State) → IsUntouched (without_limit s) new → IsUntouched s new
  untouched_before new h = record { same = h.same; stops = h.stops }

  pub made_before : (new : State) → IsMade (without_limit s) new → IsMade s new
  made_before new h = record { is_open = h.is_open; idle = h.idle; schema_is = h.schema_is; tables = h.tables }

  pub migrates_before : (new : State) → MayMigrate (without_limit s) new → MayMigrate s new
  migrates_before new h db left = elim (h db left) [
    | inl before ↦ inl before
    | inr m ↦ inr (record { version = m.version; tables = m.tables; content = m.content })
  ]

  pub cause_before : (new : State) → AdoptCause (without_limit s) new → AdoptCause s new
  cause_before new (failed more) = failed more
  cause_before new (shut down) = shut down
  cause_before new (unlike found) = unlike found
  cause_before new (refused is unread) = refused is unread
