-- Several events put by one statement, four at most.
use Rattle.std.specs.Prelude.{ℕ, ◌==◌, ◌++◌, List, [], ◌∷◌, Option, cond, length, take}
use Rattle.sqlite_value.specs.Order.{Row}
use Rattle.sqlite_value.specs.declared.value.ValueRef.{ValueRef}
use Rattle.sqlite.specs.Values.{bound}
use Rattle.acd_terms.specs.declared.event.Event.{Event}
use Rattle.acd_sql_columns.specs.Relations.{Relations}
use Rattle.acd_sql_columns.specs.Tables.{events}
use Rattle.acd_sql_columns.specs.declared.texts.TheConstants.{INSERT_EVENT}
use Rattle.acd_sql_statements.specs.WriteRefusals.{RefusesOn}
use Rattle.acd_sql_statements.specs.StatementEffects.{Writing, with_put}
use Rattle.acd_sql_statements.specs.declared.several.TheConstants.{INSERT_TWO_EVENTS, INSERT_THREE_EVENTS, INSERT_FOUR_EVENTS}

-- the first so many of these values, as they are bound
abbrev pub bound_to : ℕ → List ValueRef → Row
bound_to n values = bound (take n values)

-- the values of each, one after the other
abbrev pub several_values : List Event → Row
several_values [] = []
several_values (e ∷ es) = events.values e ++ several_values es

-- the text that puts so many
abbrev pub several_text : ℕ → List ℕ
several_text n = cond (n == 1) INSERT_EVENT.now (cond (n == 2) INSERT_TWO_EVENTS.now (cond (n == 3) INSERT_THREE_EVENTS.now INSERT_FOUR_EVENTS.now))

-- one put after the other
abbrev pub with_all_events : List Event → Relations → Relations
with_all_events [] r = r
with_all_events (e ∷ es) r = with_all_events es (with_put events e r)

-- the store refuses to put them
abbrev pub RefusesEvents : List Event → Option ℕ → Relations → Type 0
RefusesEvents es limit r = RefusesOn (several_text (length es)) (several_values es) limit r

-- the statement that puts them
abbrev pub inserting_events : List Event → Writing
inserting_events es = record { change = with_all_events es; Refused = RefusesEvents es }
