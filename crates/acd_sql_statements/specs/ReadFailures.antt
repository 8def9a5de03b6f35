-- Why a read between transactions fails.
use Rattle.std.specs.Prelude.{◌≡◌, ◌⊎◌, ℕ, ◌≤◌, false, List, [], ◌∷◌, map, take, option_to_list, Option, None, Some, Result, Ok, IfErr, IsSome, ⊤}
use Rattle.sqlite_disk.specs.Disk.{MoreFaults}
use Rattle.sqlite_value.specs.Order.{Row}
use Rattle.sqlite_rules.specs.Lists.{Has}
use Rattle.sqlite_sql.specs.Program.{ProgramOverflows}
use Rattle.sqlite_typing.specs.Types.{accepts_program}
use Rattle.sqlite_schema.specs.Program.{lets_of}
use Rattle.sqlite_schema.specs.declared.command.Command.{Command}
use Rattle.sqlite_schema.specs.declared.command.Command.TheVariants.{Select, Rows}
use Rattle.sqlite_schema.specs.declared.command.Returning.{Returning}
use Rattle.sqlite_resolve.specs.declared.compiled.Compiled.{Compiled}
use Rattle.sqlite.specs.declared.error.Error.{Error}
use Rattle.sqlite.specs.Clock.{timed}
use Rattle.sqlite.specs.Effect.{Database}
use Rattle.sqlite.specs.Listing.{understood, reads_listing, IsSourceOf}
use Rattle.sqlite.specs.State.{State, HasCleanDisk}
use Rattle.acd_terms.specs.Groups.{are_groups}
use Rattle.acd_book.specs.Content.{Content}
use Rattle.acd_sql_columns.specs.declared.meta.Meta.{Meta}
use Rattle.acd_sql_columns.specs.declared.relations.AgentRow.{AgentRow}
use Rattle.acd_sql_columns.specs.declared.tables.Table.TheVariants as table
use Rattle.acd_sql_columns.specs.AnyRows.{is_good}
use Rattle.acd_sql_columns.specs.Descriptions.{Description}
use Rattle.acd_sql_columns.specs.Transactions.{Fits, HoldsContent}
use Rattle.acd_sql_columns.specs.Relations.{joined_agent, relations_of}
use Rattle.acd_sql_columns.specs.Rows.{meta_shown}
use Rattle.acd_sql_columns.specs.Schema.{book_schema}
use Rattle.acd_sql_columns.specs.Values.{whole_at}
use Rattle.acd_sql_statements.specs.StoreFailures.{IsMemory, StoreHasFailed, IsUnreadText}
use Rattle.acd_sql_columns.specs.InRange.{IsInRange, values_of}

-- ---- of one text

-- a value is none of the kind that the query works on, or a sum is too great
abbrev pub IsUnanswered : Command → Database → Row → Type 0
IsUnanswered (Select q names) db params = (accepts_program db.schema (lets_of q) q.body params ≡ false) ⊎ ProgramOverflows db.trees params [] (lets_of q) q.body
IsUnanswered (Rows values width names) db params = ⊥
IsUnanswered _ db params = ⊤

-- it returns rows of what it writes
abbrev pub ReturnsRows : Compiled → Type 0
ReturnsRows c = (what : Returning) × (c.returning ≡ Some what)

-- a value or a sum of it is against it, in the tables or in the list of them that it reads
abbrev pub IsUnansweredOn : Database → List ℕ → Compiled → Row → Type 0
IsUnansweredOn d sql c params = (now : ℕ) × (db : Database) × IsSourceOf (reads_listing d.schema sql) d db × IsUnanswered c.command db (timed params c.formats now)

-- the store refuses to answer the text on this database
unfoldable pub RefusesToShow : Database → List ℕ → Row → Type 0
RefusesToShow d sql params = IsUnreadText d.schema sql params ⊎ ((c : Compiled) × (understood d.schema sql ≡ Ok c) × (ReturnsRows c ⊎ IsUnansweredOn d sql c params))

-- why a query fails
abbrev pub FailsToShow : State → State → List ℕ → Row → Error → Type 0
FailsToShow old new sql params e = IsMemory e ⊎ (StoreHasFailed old new ⊎ (IsSome old.step_limit ⊎ RefusesToShow old.now sql params))

-- in tables of a book the store never refuses it
abbrev pub IsAnswered : List ℕ → Row → Type 0
IsAnswered sql params = (d : Database) → d.schema ≡ book_schema → ¬ (RefusesToShow d sql params)

-- ---- of rows

-- one of them represents no record
abbrev pub HasBad : {R : Type 0} → (Row → Option R) → List Row → Type 0
HasBad in_row rows = (row : Row) × Has rows row × (in_row row ≡ None)

-- the record that the first of them stands for, where there is one
abbrev pub IsFirst : {R : Type 0} → (Row → Option R) → List Row → Option R → Type 0
IsFirst in_row rows found = map Some (option_to_list found) ≡ map in_row (take 1 rows)

-- where it is one row of limits and counters, a value is out of its range
abbrev pub HasBadMeta : List Row → Type 0
HasBadMeta rows = (m : Meta) → rows ≡ meta_shown m ∷ [] → is_good table.Meta (meta_shown m) ≡ false

-- why no records are made of them
abbrev pub FailsToDecode : {R : Type 0} → (Row → Option R) → List Row → Error → Type 0
FailsToDecode in_row rows e = IsMemory e ⊎ HasBad in_row rows

-- one of them begins with no number above what a column holds
abbrev pub HasFitting : List Row → Type 0
HasFitting rows = (one : Row) × Has rows one × ((n : ℕ) → whole_at one 0 ≡ Some n → Fits n)

-- an agent of them has more than eight groups, or some that don't ascend
abbrev pub HasStray : List (ℕ × ℕ) → List AgentRow → Type 0
HasStray further parts = (part : AgentRow) × Has parts part × (are_groups (joined_agent further part).groups ≡ false)

-- ---- of a content

-- a statement on its table's values is one on the records
abbrev pub HasTableValues : {R : Type 0} → Description R → Type 0
HasTableValues d = (c : Content) → values_of d.table c ≡ map d.values (d.records (relations_of c))

-- no memory, a fault of the store, a limit of steps that was set, or a value out of its range
abbrev pub FailsToRead : Content → State → State → Error → Type 0
FailsToRead c old new e = IsMemory e ⊎ (MoreFaults old.faults new.faults ⊎ (IsSome old.step_limit ⊎ (¬ (IsInRange c))))

-- no read changes these: its store's count doesn't fall, the limit of steps stays, and between transactions none is
-- begun
pub record Spares (old new : State) : Type 0 where
  pub counts : old.faults ≤ new.faults
  pub limit : new.step_limit ≡ old.step_limit
  pub idle : old.in_transaction ≡ false → new.in_transaction ≡ false

-- why a read fails where this holds of the content
pub record HasReadCauseIf {A : Type 0} (P : Content → Type 0) (old new : State) (result : Result A Error) : Type 0 where
  pub spares : Spares old new
  pub cause : HasCleanDisk new → (c : Content) → HoldsContent old c → P c → IfErr result (FailsToRead c old new)

-- of any content
abbrev pub HasReadCause : {A : Type 0} → State → State → Result A Error → Type 0
HasReadCause old new result = HasReadCauseIf (λ _. ⊤) old new result
