-- Why the store doesn't do what it is asked.
use Rattle.std.specs.Prelude.{◌≡◌, ◌≢◌, ◌⊎◌, ℕ, ◌≤◌, false, true, List, [], length, Option, Some, None, Ok, Err}
use Rattle.sqlite_disk.specs.Disk.{MoreFaults}
use Rattle.sqlite_value.specs.Order.{Row}
use Rattle.sqlite_schema.specs.declared.schema.Schema.{Schema}
use Rattle.sqlite_schema.specs.declared.schema.Keys.TheVariants.{Enforced}
use Rattle.sqlite_schema.specs.declared.command.Command.{Command}
use Rattle.sqlite_schema.specs.declared.command.Command.TheVariants.{Begin, Commit, Rollback, Release, RollbackTo}
use Rattle.sqlite_resolve.specs.declared.compiled.Compiled.{Compiled}
use Rattle.sqlite_resolve.specs.declared.error.CompileError.{CompileError}
use Rattle.sqlite.specs.declared.error.Error.{Error}
use Rattle.sqlite.specs.declared.error.Error.TheVariants.{SqliteFailure}
use Rattle.sqlite.specs.declared.error.ErrorCode.TheVariants.{OutOfMemory}
use Rattle.sqlite.specs.declared.run.Mode.{Mode}
use Rattle.sqlite.specs.Clock.{timed}
use Rattle.sqlite.specs.Does.{Does}
use Rattle.sqlite.specs.Effect.{Database}
use Rattle.sqlite.specs.Listing.{understood}
use Rattle.sqlite.specs.State.{State, shows_rows, text_of}
use Rattle.acd_sql_columns.specs.declared.meta.Meta.{Meta}
use Rattle.acd_sql_columns.specs.declared.texts.TheConstants.{INSERT_META, UPDATE_VERSION}
use Rattle.acd_sql_columns.specs.Rows.{meta_values}

-- a text of SQL, with its parameters
abbrev pub Text : Type 0
Text = List ℕ × Row

-- it found no memory
abbrev pub IsMemory : Error → Type 0
IsMemory e = e ≡ SqliteFailure OutOfMemory

-- the store's count of faults rose, or the connection was shut before
abbrev pub StoreHasFailed : State → State → Type 0
StoreHasFailed old new = MoreFaults old.faults new.faults ⊎ (old.is_open ≡ false)

-- the text is no statement under this schema, or has other parameters
abbrev pub IsUnreadText : Schema → List ℕ → Row → Type 0
IsUnreadText schema sql params =
    ((fault : CompileError) × (understood schema sql ≡ Err fault))
    ⊎ ((c : Compiled) × (understood schema sql ≡ Ok c) × ((¬ (length sql ≤ c.tail)) ⊎ ((length params ≢ length c.names) ⊎ (c.formats ≢ []))))

-- it begins or ends a transaction, or a part of one
abbrev pub IsEnding : Command → Type 0
IsEnding k = (k ≡ Begin) ⊎ ((k ≡ Commit) ⊎ ((k ≡ Rollback) ⊎ ((name : List ℕ) × ((k ≡ Release name) ⊎ (k ≡ RollbackTo name)))))

-- how a statement inside a transaction works
abbrev pub at_once : Mode
at_once = record { keys = Enforced; in_doubt = false; may_wait = false }

-- a rule of the tables is against it, or what it makes can't be stored
abbrev pub IsAgainst : Option ℕ → Database → List ℕ → Compiled → Row → Type 0
IsAgainst limit d sql c params =
    ((e : Error) × Does limit at_once params d (text_of sql c) c.returning c.command (Err (Some e)))
    ⊎ Does limit at_once params d (text_of sql c) c.returning c.command (Err None)

-- the store refuses to write by this text on this database
unfoldable pub Refuses : Option ℕ → Database → List ℕ → Row → Type 0
Refuses limit d sql params =
    IsUnreadText d.schema sql params
    ⊎ ((c : Compiled) × (understood d.schema sql ≡ Ok c)
    × (IsEnding c.command ⊎ ((shows_rows false c ≡ true) ⊎ ((now : ℕ) × IsAgainst limit d sql c (timed params c.formats now)))))

-- why a statement inside a transaction fails
abbrev pub FailsToWrite : State → State → List ℕ → Row → Error → Type 0
FailsToWrite old new sql params e = IsMemory e ⊎ (StoreHasFailed old new ⊎ Refuses old.step_limit old.now sql params)

-- why the first row, of the limits and the counters, isn't written
abbrev pub FailsToStart : Meta → State → State → Error → Type 0
FailsToStart m old new = FailsToWrite old new INSERT_META.now (meta_values m)

-- why version 2 isn't named
abbrev pub FailsToSetVersion : State → State → Error → Type 0
FailsToSetVersion old new = FailsToWrite old new UPDATE_VERSION.now []
