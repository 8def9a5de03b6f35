-- What comes of a connection: a book is opened over it, or it is handed back with a fault.
use Rattle.std.specs.Prelude.{◌≡◌, ◌≢◌, ◌⊎◌, false, Result, IfOk, IfErr}
use Rattle.sqlite_trees.specs.declared.store.Store.{Ghosts}
use Rattle.sqlite_schema.specs.declared.schema.Schema.{Schema}
use Rattle.sqlite.specs.Held.{Held, state}
use Rattle.sqlite.specs.State.{State, HasCleanDisk}
use Rattle.acd_terms.specs.declared.rows.Limits.{Limits}
use Rattle.acd_book.specs.declared.fault.BookFault.{BookFault}
use Rattle.acd_book.specs.declared.fault.BookFault.TheVariants as book_fault
use Rattle.acd_sql_columns.specs.AnyRows.{IsCanonical}
use Rattle.acd_sql_columns.specs.Schema.{no_schema, old_schema}
use Rattle.acd_sql_schema.specs.declared.fault.AdoptFault.{AdoptFault}
use Rattle.acd_sql_schema.specs.declared.fault.AdoptFault.TheVariants as adopt_fault
use Rattle.acd_sql_schema.specs.Inspection.{IsAdoptStoreFault}
use Rattle.acd_sql_schema.specs.Creation.{IfClean}
use Rattle.acd_sqlbook.specs.Adoption.{AdoptCause, HasAllColumns, IsAdopted, IsHandedBack, IsUntouched}
use Rattle.acd_sqlbook.specs.Causes.{StoreCause, create}
use Rattle.acd_sqlbook.specs.State.{IsNewBook, book_state}
use Rattle.acd_sqlbook.specs.View.{BookView}

-- where a book was opened, this holds of the states before and after, if no disk broke a promise
abbrev pub IfOpened : {S F : Type 0} → Ghosts S → Held S → Result (BookView S) (F × Held S) → (State → State → Type 0) → Type 0
IfOpened {S} {F} g conn result Fact = IfOk result (λ (b : BookView S). IfClean g conn b.conn Fact)

-- where the connection was handed back, this holds of the fault and of both states, if no disk broke a promise
abbrev pub IfHandedBack : {S F : Type 0} → Ghosts S → Held S → Result (BookView S) (F × Held S) → (F → State → State → Type 0) → Type 0
IfHandedBack {S} {F} g conn result Fact = IfErr result (λ (e : F × Held S). IfClean g conn e.1 (Fact e.0))

-- ---- of `create`

-- the database has no table, index or view
abbrev pub HasNoTables : {S : Type 0} → Ghosts S → Held S → Type 0
HasNoTables g conn = (state g conn).now.schema ≡ no_schema

-- the book is new and has these limits, if no disk broke a promise
abbrev pub IsNewOver : {S : Type 0} → Ghosts S → Limits → BookView S → Type 0
IsNewOver g limits b = HasCleanDisk (state g b.conn) → IsNewBook (book_state (state g b.conn) b.failures) limits

-- a fault of the store has a cause
abbrev pub HasCreateCause : Limits → BookFault → State → State → Type 0
HasCreateCause limits fault old new = fault ≡ book_fault.Store → StoreCause (create limits) old new

-- ---- of `adopt`

-- the book is the one that the connection held, if no disk broke a promise
abbrev pub IsAdoptedOver : {S : Type 0} → Ghosts S → Held S → BookView S → Type 0
IsAdoptedOver g conn b = HasCleanDisk (state g b.conn) → IsAdopted (state g conn).now (book_state (state g conn) 0) (book_state (state g b.conn) b.failures)

-- this holds if the tables were of that version
abbrev pub IfSchema : Schema → (State → State → Type 0) → State → State → Type 0
IfSchema schema Fact old new = old.now.schema ≡ schema → Fact old new

-- tables that have all columns, over a store that isn't broken, were canonical
abbrev pub WasCanonical : {S : Type 0} → Ghosts S → Held S → BookView S → Type 0
WasCanonical g conn b =
    HasCleanDisk (state g b.conn) → (g.view conn.store).is_broken ≡ false → HasAllColumns (state g conn).now → IsCanonical (state g conn).now

-- the connection is handed back as it was, if no disk broke a promise
abbrev pub IsHandedBackOver : {S : Type 0} → Ghosts S → Held S → AdoptFault × Held S → Type 0
IsHandedBackOver g conn e = HasCleanDisk (state g e.1) → IsHandedBack (state g conn).now (book_state (state g conn) 0) (book_state (state g e.1) 0) e.0

-- nothing is changed in tables that aren't those of version 1, and nothing in any where the fault was found in the tables
abbrev pub IsLeftAlone : AdoptFault → State → State → Type 0
IsLeftAlone fault old new = (old.now.schema ≢ old_schema) ⊎ (¬ (IsAdoptStoreFault fault)) → IsUntouched old new

-- a fault of the store has a cause, where the rows were canonical
abbrev pub HasAdoptCause : AdoptFault → State → State → Type 0
HasAdoptCause fault old new = IsCanonical old.now → fault ≡ adopt_fault.Store → AdoptCause old new
