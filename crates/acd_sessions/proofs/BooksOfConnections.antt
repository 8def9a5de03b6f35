-- The book over a connection, by what making it or taking it left.
use Rattle.std.proofs.Common.{◌≡◌, ℕ, Bool, true, Result, Ok, Err, IfOk, IfErr, IsTrue, inl, inr, refl, sym, ap, subst, ◌∙◌, arith}
use Rattle.sqlite.specs.State.{State, HasCleanDisk}
use Rattle.acd_terms.specs.Limits.{greatest_limits}
use Rattle.acd_book.specs.State.{BookState}
use Rattle.acd_sql_schema.specs.Creation.{MayMake}
use Rattle.acd_sqlbook.specs.Adoption.{IsAdopted, MayMigrate}
use Rattle.acd_sql_columns.specs.InTables.{content_of}
use Rattle.sqlite_trees.specs.Tree.{Trees}
use Rattle.acd_book.specs.Order.{IsOrdered}
use Rattle.acd_sql_columns.specs.Transactions.{IsBook}
use Rattle.acd_desk.specs.declared.open_fault.OpenFault.{OpenFault}
use Rattle.acd_desk.specs.Desks.Opening.{Refused}
use Rattle.acd_sql_columns.specs.Schema.{no_schema}
use Rattle.acd_sqlbook.specs.declared.cache.Cache.{Cache}
use Rattle.acd_sqlbook.specs.Caches.{IsBlank, followed}
use Rattle.acd_sqlbook.specs.State.{book_state, IsNewBook}
use Rattle.acd_sqlbook.specs.View.{BookView, book_seen}
use Rattle.sqlite.specs.Held.{state}
use Rattle.sqlite_trees.specs.declared.store.Store.{Ghosts}
use Rattle.acd_sqlbook.proofs.CachedCalls.{blank_of}
use Rattle.acd_sessions.specs.Over.{OnlyAsked, before, held, made, migrated, same, unmade, Unserved}
use Rattle.acd_sessions.specs.ConnectionBook.{IsHeldBook, IsTaken}
use Rattle.acd_sessions.proofs.Asking.{only_refused}
use Rattle.acd_sessions.proofs.Called.{leaves_books}

pub of_held : (s t : State) (cache : Cache) (failures : ℕ) → (HasCleanDisk t → IsAdopted s.now (book_state s 0) (book_state t failures)) → IsBlank cache → failures ≡ 0 → (HasCleanDisk t → HasCleanDisk s)
    → IsHeldBook (held s) (followed cache (book_state t failures))
of_held s t cache failures adopted none counted clean = record {
  step = record { clean = clean; sound = λ here canonical. ((adopted here).sound canonical, λ up. blank_of cache none _); quiet = λ none. counted; counts = omega arith };
  content = λ here canonical. (adopted here).content canonical;
  stops = λ here canonical. (adopted here).stops canonical;
  keeps = λ here canonical. (adopted here).keeps canonical;
  opened = λ here canonical. (adopted here).was_open;
  live = λ here canonical. (adopted here).live;
  ordered = λ here canonical. (adopted here).ordered canonical;
}

pub of_unmade : (s t : State) (cache : Cache) (failures : ℕ) → (HasCleanDisk t → IsNewBook (book_state t failures) greatest_limits) → IsBlank cache → failures ≡ 0 → (HasCleanDisk t → HasCleanDisk s)
    → IsHeldBook (unmade s) (followed cache (book_state t failures))
of_unmade s t cache failures is_new none counted clean = record {
  step = record { clean = clean; sound = λ here _. ((is_new here).sound, λ up. blank_of cache none _); quiet = λ none. counted; counts = omega arith };
  content = λ here _. (is_new here).content;
  stops = λ here _. (is_new here).only;
  keeps = λ here _ c is. subst (book_state t failures).stops (sym is) (is_new here).stop;
  opened = λ here _. tt;
  live = λ here _. (is_new here).live;
  ordered = λ here _. subst IsOrdered (sym (is_new here).content) (record { kept = tt; events = tt });
}

-- what the opening of a book in a database says of it
module _ {S : Type 0} (store : Ghosts S) (s : State) where
  abbrev pub Adopts : BookView S → Type 0
  Adopts b = HasCleanDisk (state store b.conn) → IsAdopted s.now (book_state s 0) (book_state (state store b.conn) b.failures)

  abbrev pub CleanBefore : BookView S → Type 0
  CleanBefore b = HasCleanDisk (state store b.conn) → HasCleanDisk s

pub adopted_taken : {S E : Type 0} (store : Ghosts S) (makes : Bool) (s : State) (r : Result (BookView S) E) → IfOk r (Adopts store s) → IfOk r (λ (b : BookView S). IsBlank b.cache)
    → IfOk r (λ (b : BookView S). b.failures ≡ 0) → IfOk r (CleanBefore store s) → IfOk r (λ (b : BookView S). IsTaken makes s (book_seen store b))
adopted_taken store makes s (Ok b) adopted none counted clean = inl (record {
  tables = λ here. let book = (adopted here).of_book in (book.0, book.1.schema_is);
  of_held = of_held s (state store b.conn) b.cache b.failures adopted none counted clean;
})
adopted_taken store makes s (Err e) adopted none counted clean = tt

pub made_taken : {A E : Type 0} (r : Result A E) (stand : A → BookState) (makes : Bool) (s : State) → makes ≡ true → s.now.schema ≡ no_schema → IfOk r (λ (b : A). IsHeldBook (unmade s) (stand b))
    → IfOk r (λ (b : A). IsTaken makes s (stand b))
made_taken (Ok b) stand makes s asked empty h = inr (asked, empty, h)
made_taken (Err e) stand makes s asked empty h = tt

-- ---- where no desk is made

-- a database that was not opened may leave this
pub unserved_held : (makes : Bool) (s t : State) → (HasCleanDisk t → MayMigrate s t) → Unserved makes s t
unserved_held makes s t may = λ clean db left. elim (may clean db left) [ inl was ↦ before was | inr second ↦ migrated second.version second.tables ]

pub none_adopted : {A E : Type 0} (r : Result A E) (new : E → State) (makes : Bool) (s : State) → IfErr r (λ (e : E). HasCleanDisk (new e) → MayMigrate s (new e)) → IfErr r (λ (e : E). Unserved makes s (new e))
none_adopted (Ok b) new makes s h = tt
none_adopted (Err e) new makes s h = unserved_held makes s (new e) h

-- tables that were not made to their end may leave this
pub unserved_unmade : (makes : Bool) (s t : State) → makes ≡ true → s.now.schema ≡ no_schema → (HasCleanDisk t → MayMake s t greatest_limits) → Unserved makes s t
unserved_unmade makes s t asked empty may = λ clean db left. elim (may clean db left) [ inl was ↦ before was | inr new ↦ made asked empty new ]

pub none_made : {A E : Type 0} (r : Result A E) (new : E → State) (makes : Bool) (s : State) → makes ≡ true → s.now.schema ≡ no_schema → IfErr r (λ (e : E). HasCleanDisk (new e) → MayMake s (new e) greatest_limits)
    → IfErr r (λ (e : E). Unserved makes s (new e))
none_made (Ok b) new makes s asked empty h = tt
none_made (Err e) new makes s asked empty h = unserved_unmade makes s (new e) asked empty h

-- a book of which a desk was only asked, or that makes none, may leave this
pub unserved_asked : (makes : Bool) (s t : State) (mid : BookState) (cache : Cache) (failures : ℕ) → ((db : Trees) → IsTrue s.is_open → s.may_leave db → db ≡ s.committed.trees) → IsTaken makes s mid → OnlyAsked mid (followed cache (book_state t failures)) → Unserved makes s t
unserved_asked makes s t mid cache failures settles (inl found) asked = λ clean db left.
    let here = asked.clean clean in
    same (found.tables here) (λ canonical.
    let of = found.of_held in
    let sound = of.step.sound here canonical in
    let was = of.stops here canonical (content_of db) (asked.stops clean sound (content_of db) (db, left, refl)) in
    subst (IsBook db) (was.2 ∙ ap content_of (settles was.0 (of.opened here canonical) was.1)) ((leaves_books t cache failures (asked.sound clean sound)).left db left))
unserved_asked makes s t mid cache failures settles (inr new) asked = λ clean db left.
    let here = asked.clean clean in
    let sound = new.2.step.sound here tt in
    let empty = new.2.stops here tt (content_of db) (asked.stops clean sound (content_of db) (db, left, refl)) in
    made new.0 new.1 (subst (IsBook db) empty ((leaves_books t cache failures (asked.sound clean sound)).left db left))

pub unserved_refused : (makes : Bool) (s t : State) (mid : BookState) (cache : Cache) (failures : ℕ) (why : OpenFault) → ((db : Trees) → IsTrue s.is_open → s.may_leave db → db ≡ s.committed.trees) → IsTaken makes s mid → Refused mid why (followed cache (book_state t failures)) → Unserved makes s t
unserved_refused makes s t mid cache failures why settles of refused = unserved_asked makes s t mid cache failures settles of (only_refused mid (followed cache (book_state t failures)) why refused)

-- where it was known whether a new book may be made
pub unserved_makes : (is_new makes : Bool) (s t : State) → (is_new ≡ true → makes ≡ true) → Unserved is_new s t → Unserved makes s t
unserved_makes is_new makes s t may h = λ clean db left. elim (h clean db left) [
  | before was ↦ before was
  | migrated old tables ↦ migrated old tables
  | same tables book ↦ same tables book
  | made asked empty book ↦ made (may asked) empty book
]
