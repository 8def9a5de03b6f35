-- The oldest rows taken out of a table that grows with the history.
use Rattle.std.proofs.Common.{ℕ, [], ◌∷◌, Ok}
use Rattle.sqlite.specs.State.{State, Executes}
use Rattle.acd_sql_columns.specs.declared.tables.Log.{Log}
use Rattle.acd_sql_columns.specs.declared.tables.Log.TheVariants as log
use Rattle.acd_sql_columns.specs.declared.texts.TheConstants.{DELETE_EVENTS_UP_TO, DELETE_KEPT_UP_TO}
use Rattle.acd_sql_columns.specs.Relations.{Relations}
use Rattle.acd_sql_columns.specs.Tables.{events, kept}
use Rattle.acd_sql_columns.specs.Transactions.{HoldsUncommitted}
use Rattle.acd_sql_columns.specs.Values.{id_value}
use Rattle.acd_sql_columns.proofs.FileTables.TablesDescribed.{events_described, kept_described}
use Rattle.acd_sql_columns.proofs.FileTables.UpTo.{cleared_in, events_clears, kept_clears}
use Rattle.acd_sql_statements.specs.UpTo.{text_up_to, without_up_to}

pub removed_up_to : (l : Log) (number : ℕ) (r : Relations) (old new : State) (count : ℕ) → HoldsUncommitted old r
    → Executes (text_up_to l) (id_value number ∷ []) old new (Ok count)
    → HoldsUncommitted new (without_up_to l number r)
removed_up_to log.Events = cleared_in events events_described DELETE_EVENTS_UP_TO.now events_clears
removed_up_to log.Kept = cleared_in kept kept_described DELETE_KEPT_UP_TO.now kept_clears
