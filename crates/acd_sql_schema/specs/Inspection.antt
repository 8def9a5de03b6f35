-- A connection is adopted as a book if its version is that of these tables, and each value is in its range.
use Rattle.std.specs.Prelude.{◌==◌, ◌≡◌, ◌≢◌, ◌⊎◌, ◌<◌, ◌≤◌, ℕ, Bool, true, false, List, [], ◌∷◌, Option, None, Some, Result, if◌then◌else◌, ⊤}
use Rattle.sqlite_value.specs.Order.{Row}
use Rattle.sqlite_trees.specs.Tree.{Trees}
use Rattle.sqlite_rules.specs.Lists.{Has}
use Rattle.sqlite_schema.specs.declared.schema.Schema.{Schema}
use Rattle.sqlite.specs.Effect.{Database}
use Rattle.sqlite.specs.Held.{Held, state}
use Rattle.sqlite_trees.specs.declared.store.Store.{Ghosts}
use Rattle.sqlite.specs.declared.error.Error.{Error}
use Rattle.sqlite.specs.declared.error.Error.TheVariants.{SqliteFailure}
use Rattle.sqlite.specs.declared.error.ErrorCode.TheVariants.{OutOfMemory}
use Rattle.acd_terms.specs.Lists.{Every}
use Rattle.acd_sql_columns.specs.declared.tables.Table.{Table}
use Rattle.acd_sql_columns.specs.declared.tables.Table.TheVariants as table
use Rattle.acd_sql_schema.specs.declared.fault.AdoptFault.{AdoptFault}
use Rattle.acd_sql_schema.specs.declared.fault.AdoptFault.TheVariants.{WrongVersion, BadRow, NoMemory, Store}
use Rattle.acd_sql_columns.specs.declared.tables.Log.{Log}
use Rattle.acd_sql_columns.specs.declared.tables.Version.{Version}
use Rattle.acd_sql_columns.specs.declared.tables.Version.TheVariants as version
use Rattle.acd_sql_schema.specs.declared.fault.Found.{Found}
use Rattle.acd_sql_schema.specs.declared.fault.Found.TheVariants.{Book, Fault}
use Rattle.acd_sql_schema.specs.declared.verdict.Likeness.{Likeness}
use Rattle.acd_sql_schema.specs.declared.verdict.Likeness.TheVariants.{Whole, First, Other}
use Rattle.acd_sql_schema.specs.declared.verdict.VersionRead.{VersionRead}
use Rattle.acd_sql_schema.specs.declared.verdict.VersionRead.TheVariants.{Of, Faulty}
use Rattle.acd_sql_schema.specs.declared.verdict.Page.{Page}
use Rattle.acd_sql_schema.specs.declared.verdict.Page.TheVariants.{Bad, Last, More}
use Rattle.acd_sql_columns.specs.Content.{IsIn, version_number}
use Rattle.acd_sql_columns.specs.Transactions.{Fits}
use Rattle.acd_sql_columns.specs.AnyRows.{is_good, are_good, is_good_in, is_beside, is_ranked, IsCanonicalAs, table_of_log, Numbered, AreNumbered, values_after, has_meta, BeginsAsBook, schema_of, Covers, FindsGood}
use Rattle.acd_sql_columns.specs.Schema.{book_schema, tables_1, BeginsSchema}
use Rattle.acd_sql_columns.specs.Schema as schema
use Rattle.acd_sql_columns.specs.DatabaseView.{Sees}
use Rattle.acd_sql_statements.specs.ReadsBetween.{IsBookSchema}
use Rattle.acd_sql_statements.specs.Looks.{Look, over, BeginsNine}
use Rattle.acd_sql_columns.specs.Values.{◌>>=◌, whole_at}

-- the tables of a version, in the order in which they are looked at
abbrev pub tables_of : Version → List Table
tables_of version.First = table.Meta ∷ table.Groups ∷ table.Stations ∷ table.Agents ∷ table.Calls ∷ table.Connections ∷ table.Monitors ∷ table.Events ∷ table.Kept ∷ []
tables_of version.Second =
    table.Meta ∷ table.Groups ∷ table.Stations ∷ table.Agents ∷ table.Calls ∷ table.Connections ∷ table.Monitors ∷ table.Events ∷ table.Kept
    ∷ table.AgentGroups ∷ table.GroupPriority ∷ []

-- a schema has these tables as a book has them
abbrev pub CoversAll : List Table → Schema → Type 0
CoversAll tables s = Every (Covers s) tables

-- one that isn't good or, of rows that are canonical, none
abbrev pub IsBadOf : List Table → Database → Option Table → Type 0
IsBadOf tables d None = IsCanonicalAs version.First d.trees → Every (λ t. is_good_in t d.trees ≡ true) tables
IsBadOf tables d (Some t) = Covers d.schema t × (is_good_in t d.trees ≡ false)

unfoldable pub is_good_after : Log → ℕ → List Numbered → Bool
is_good_after l n xs = are_good (table_of_log l) (values_after l n xs)

abbrev pub number_if_good : Log → Row → Option ℕ
number_if_good l r = if is_good (table_of_log l) r then whole_at r 0 else None

-- the number of the last row, where all are good
unfoldable pub last_good : Log → ℕ → List Row → Option ℕ
last_good l n [] = Some n
last_good l n (row ∷ rows) = number_if_good l row >>= (λ m. last_good l m rows)

-- the rows of a page give this
abbrev pub IsLogPage : Log → ℕ → List Row → Page → Type 0
IsLogPage l n rows Bad = last_good l n rows ≡ None
IsLogPage l n rows Last = rows ≡ []
IsLogPage l n rows (More m) = last_good l n rows ≡ Some m

-- what is left after a page
abbrev pub IsPageOfLog : Log → ℕ → Trees → Page → Type 0
IsPageOfLog l n db Bad = is_good_in (table_of_log l) db ≡ false
IsPageOfLog l n db Last = (xs : List Numbered) → AreNumbered l db xs → is_good_after l n xs ≡ true
IsPageOfLog l n db (More m) = (xs : List Numbered) → AreNumbered l db xs → is_good_after l n xs ≡ is_good_after l m xs

-- of the rows above 0
pub record FindsGoodAfter (l : Log) (db : Trees) (good : Bool) : Type 0 where
  pub bad : good ≡ false → is_good_in (table_of_log l) db ≡ false
  pub canonical : good ≡ true → (xs : List Numbered) → AreNumbered l db xs → is_good_after l 0 xs ≡ true

-- the number of its last row is above
abbrev pub IsPageAbove : ℕ → Page → Type 0
IsPageAbove n Bad = ⊤
IsPageAbove n Last = ⊤
IsPageAbove n (More m) = n < m

-- there are rows, and the number of the last one isn't above
abbrev pub HasNoRise : Log → ℕ → List Row → Type 0
HasNoRise l n rows = (rows ≢ []) × ((m : ℕ) × (last_good l n rows ≡ Some m) × (m ≤ n))

-- its number can be asked for
abbrev pub PageFits : Page → Type 0
PageFits Bad = ⊤
PageFits Last = ⊤
PageFits (More m) = Fits m

-- ---- versions

-- the tables are those of this version
abbrev pub IsSchemaOf : Version → Schema → Type 0
IsSchemaOf v s = s ≡ schema_of v

-- they are those of no version
abbrev pub IsNoBook : Schema → Type 0
IsNoBook s = (v : Version) → s ≢ schema_of v

-- how far the tables are those of a book
abbrev pub IsLike : Schema → Likeness → Type 0
IsLike s (Whole v) = s ≡ schema_of v
IsLike s First = BeginsAsBook s × IsNoBook s
IsLike s Other = (¬ (BeginsAsBook s)) × IsNoBook s

-- a row of the first table holds this version
abbrev pub IsVersionIn : Trees → Option ℕ → Type 0
IsVersionIn db version = (r : Row) × Has (db schema.meta.tree) r × (whole_at r 2 ≡ version)

-- the version of a database: 0 where it has no table `meta`, or no row in it
abbrev pub IsVersion : Database → ℕ → Type 0
IsVersion d n =
    ((has_meta d.schema.tables ≡ false) × (n ≡ 0))
    ⊎ (BeginsAsBook d.schema × (((d.trees schema.meta.tree ≡ []) × (n ≡ 0)) ⊎ IsVersionIn d.trees (Some n)))

-- a further group, or a priority, doesn't belong to the row beside it
abbrev pub IsMisplaced : Table → Trees → Type 0
IsMisplaced table.AgentGroups db = is_beside db ≡ false
IsMisplaced table.GroupPriority db = is_ranked db ≡ false
IsMisplaced _ db = ⊥

-- a value of the table is out of its range, or its rows don't belong to those of another
abbrev pub IsBadIn : Table → Database → Type 0
IsBadIn t d =
    (Covers d.schema t × (is_good_in t d.trees ≡ false)) ⊎ ((t ≡ table.Meta) × BeginsAsBook d.schema × IsVersionIn d.trees None)
    ⊎ ((d.schema ≡ book_schema) × IsMisplaced t d.trees)

abbrev pub version_read_of : Option ℕ → VersionRead
version_read_of None = Faulty (BadRow table.Meta)
version_read_of (Some n) = if n == 1 then Of version.First else if n == 2 then Of version.Second else Faulty (WrongVersion n)

-- the rows of versions give this
abbrev pub version_read_in : List Row → VersionRead
version_read_in [] = Faulty (WrongVersion 0)
version_read_in (r ∷ rows) = version_read_of (whole_at r 0)

-- the version of a book is read, and the tables are those of no version; or they are those of another
pub data IsUnlike (d : Database) : Type 0 where
  -- a table has the name `meta`, and isn't the first one as a book has it
  other : has_meta d.schema.tables ≡ true → ¬ (BeginsAsBook d.schema) → IsUnlike d
  none : (v : Version) → IsVersionIn d.trees (Some (version_number v)) → BeginsAsBook d.schema → IsNoBook d.schema → IsUnlike d
  apart : (v read : Version) → d.schema ≡ schema_of v → read ≢ v → IsVersionIn d.trees (Some (version_number read)) → IsUnlike d

-- ---- faults

-- the store refused
abbrev pub IsAdoptStoreFault : AdoptFault → Type 0
IsAdoptStoreFault (WrongVersion n) = ⊥
IsAdoptStoreFault (BadRow t) = ⊥
IsAdoptStoreFault NoMemory = ⊤
IsAdoptStoreFault Store = ⊤

-- a version that is answered is that of the database, and is none of a book; a table that is answered has a value out of
-- its range
abbrev pub IsAdoptFaultOf : Database → AdoptFault → Type 0
IsAdoptFaultOf d (WrongVersion n) = (n ≢ 1) × (n ≢ 2) × IsVersion d n
IsAdoptFaultOf d (BadRow t) = IsBadIn t d
IsAdoptFaultOf d NoMemory = ⊤
IsAdoptFaultOf d Store = ⊤

-- the same of a fault that a look found: the store hasn't failed, and where no other fault is found, the tables are unlike a book's
abbrev pub IsFoundFaultOf : Database → AdoptFault → Type 0
IsFoundFaultOf d (WrongVersion n) = IsAdoptFaultOf d (WrongVersion n)
IsFoundFaultOf d (BadRow t) = IsAdoptFaultOf d (BadRow t)
IsFoundFaultOf d NoMemory = ⊥
IsFoundFaultOf d Store = IsUnlike d

-- further groups and priorities belong to the rows beside them
abbrev pub ArePlaced : Version → Trees → Type 0
ArePlaced version.First db = ⊤
ArePlaced version.Second db = (is_beside db ≡ true) × (is_ranked db ≡ true)

-- the tables are those of a book of this version, and where their rows are canonical, each value is in its range
pub record IsOfBook (v : Version) (d : Database) : Type 0 where
  pub schema_is : d.schema ≡ schema_of v
  pub in_range : IsCanonicalAs version.First d.trees → (t : Table) → IsIn v t → is_good_in t d.trees ≡ true
  pub version : IsVersionIn d.trees (Some (version_number v))
  pub placed : ArePlaced v d.trees

-- the rows of tables that are a book's give this
abbrev pub IsRowFound : Version → Database → Option AdoptFault → Type 0
IsRowFound v d None = ArePlaced v d.trees × (IsCanonicalAs version.First d.trees → (t : Table) → IsIn v t → is_good_in t d.trees ≡ true)
IsRowFound v d (Some f) = IsFoundFaultOf d f

-- further groups and priorities give this
abbrev pub IsPlaceFound : Version → Database → Option AdoptFault → Type 0
IsPlaceFound v d None = ArePlaced v d.trees
IsPlaceFound v d (Some f) = IsFoundFaultOf d f

abbrev pub IsFound : Database → Found → Type 0
IsFound d (Book v) = IsOfBook v d
IsFound d (Fault f) = IsFoundFaultOf d f

-- the version is that of a book, or a fault
abbrev pub IsVersionRead : Database → VersionRead → Type 0
IsVersionRead d (Of v) = IsVersionIn d.trees (Some (version_number v))
IsVersionRead d (Faulty f) = IsFoundFaultOf d f

-- want of memory is no failure of the store
abbrev pub adopt_fault_of : Error → AdoptFault
adopt_fault_of (SqliteFailure OutOfMemory) = NoMemory
adopt_fault_of _ = Store

-- ---- what is looked for

-- whether each value of this table is in its range, where the table is there as a book has it
abbrev pub good_table : Table → Look Bool
good_table t = over (λ s. Covers s t) (λ (d : Database) (good : Bool). FindsGood t d.trees good)

-- the same of the table of this log
abbrev pub good_log : Log → Look Bool
good_log l = over BeginsNine (λ (d : Database) (good : Bool). FindsGood (table_of_log l) d.trees good)

-- what is left after a page of its rows, and whether all of its pages are good
abbrev pub log_page : Log → ℕ → Look Page
log_page l n = over BeginsNine (λ (d : Database) (page : Page). IsPageOfLog l n d.trees page)

abbrev pub good_pages : Log → Look Bool
good_pages l = over BeginsNine (λ (d : Database) (good : Bool). FindsGoodAfter l d.trees good)

-- the first of these tables that isn't good
abbrev pub bad_table : List Table → Look (Option Table)
bad_table tables = over (CoversAll tables) (IsBadOf tables)

-- which rows of this version's tables don't belong to the rows beside them; and the same of the priorities alone, if the further groups do
abbrev pub misplaced_in : Version → Look (Option AdoptFault)
misplaced_in v = over (IsSchemaOf v) (IsPlaceFound v)

abbrev pub ranks_misplaced : Look (Option AdoptFault)
ranks_misplaced = over IsBookSchema (λ (d : Database) (fault : Option AdoptFault). is_beside d.trees ≡ true → IsPlaceFound version.Second d fault)

-- the first fault in the rows of tables of this version
abbrev pub bad_row : Version → Look (Option AdoptFault)
bad_row v = over (IsSchemaOf v) (IsRowFound v)

-- what is found in them if they name this version too
abbrev pub found_in_rows : Version → Look Found
found_in_rows v = over (IsSchemaOf v) (λ (d : Database) (found : Found). IsVersionIn d.trees (Some (version_number v)) → IsFound d found)

-- the first table alone is as a book has it
abbrev pub IsLikeFirst : Schema → Type 0
IsLikeFirst s = IsLike s First

-- this is found in the database that the connection has
abbrev pub SeesNow : {S A : Type 0} → Ghosts S → Held S → Held S → Result A Error → (Database → A → Type 0) → Type 0
SeesNow g old new result IsAnswer = Sees (state g old).now (state g old) (state g new) result (IsAnswer (state g old).now)

-- ---- why a look fails

-- the schema is one of these, and the rows of the nine tables are canonical
abbrev pub HasCanonical : (Schema → Type 0) → Database → Type 0
HasCanonical Has d = Has d.schema × IsCanonicalAs version.First d.trees

-- the same of a table, of several, and of the tables of a version
abbrev pub HasCanonicalTable : Table → Database → Type 0
HasCanonicalTable t = HasCanonical (λ s. Covers s t)

abbrev pub HasCanonicalTables : List Table → Database → Type 0
HasCanonicalTables tables = HasCanonical (CoversAll tables)

abbrev pub HasCanonicalOf : Version → Database → Type 0
HasCanonicalOf v = HasCanonical (IsSchemaOf v)

-- the nine tables are there, and the numbers of the rows of this one rise from 0
abbrev pub IsPaged : Log → Database → Type 0
IsPaged l d = BeginsSchema tables_1 d.schema × ((xs : List Numbered) × AreNumbered l d.trees xs)

-- each value of the tables of this version is in its range
abbrev pub HasGoodTables : Version → Database → Type 0
HasGoodTables v d = (d.schema ≡ schema_of v) × ((t : Table) → IsIn v t → is_good_in t d.trees ≡ true)
