-- The oldest rows of a table that grows with the history, taken out by one statement.
use Rattle.std.specs.Prelude.{ℕ, ◌∷◌, [], List, filter, nat_lt}
use Rattle.acd_terms.specs.declared.event.Event.{Event}
use Rattle.acd_book.specs.declared.kept.Kept.{Kept}
use Rattle.acd_sql_columns.specs.Content.{with_part}
use Rattle.acd_sql_columns.specs.Relations.{Relations}
use Rattle.acd_sql_columns.specs.Values.{id_value}
use Rattle.acd_sql_columns.specs.declared.tables.Log.{Log}
use Rattle.acd_sql_columns.specs.declared.tables.Log.TheVariants as log
use Rattle.acd_sql_columns.specs.declared.tables.Table.TheVariants as table
use Rattle.acd_sql_columns.specs.declared.texts.TheConstants.{DELETE_EVENTS_UP_TO, DELETE_KEPT_UP_TO}
use Rattle.acd_sql_statements.specs.WriteRefusals.{RefusesOn}
use Rattle.acd_sql_statements.specs.StatementEffects.{Writing}

-- the text that takes out the rows up to a number
abbrev pub text_up_to : Log → List ℕ
text_up_to log.Events = DELETE_EVENTS_UP_TO.now
text_up_to log.Kept = DELETE_KEPT_UP_TO.now

-- without the events up to a number, or the kept records up to a stamp
abbrev pub without_up_to : Log → ℕ → Relations → Relations
without_up_to log.Events number r = with_part table.Events (filter (λ (e : Event). nat_lt number e.number) r.events) r
without_up_to log.Kept stamp r = with_part table.Kept (filter (λ (k : Kept). nat_lt stamp k.stamp) r.kept) r

-- the statement that takes them out
abbrev pub removing_up_to : Log → ℕ → Writing
removing_up_to l number = record { change = without_up_to l number; Refused = RefusesOn (text_up_to l) (id_value number ∷ []) }
