-- Several events put by one statement.
use Rattle.std.proofs.Common.{◌≡◌, ◌≢◌, ℕ, zero, suc, ◌+◌, ◌/◌, ◌≤◌, List, [], ◌∷◌, ◌++◌, length, map, drop, Ok, refl, ap, ap₂, subst, ◌∙◌, arith}
use Rattle.sqlite_value.specs.declared.value.Value.TheVariants.{Null}
use Rattle.sqlite_value.specs.Order.{Row}
use Rattle.sqlite_trees.specs.Tree.{put_row}
use Rattle.sqlite_sql.specs.Term.{Term, lit, col}
use Rattle.sqlite_schema.specs.declared.command.Source.TheVariants.{Values}
use Rattle.sqlite_schema.specs.declared.command.Command.TheVariants.{Insert}
use Rattle.sqlite_rules.specs.declared.error.Rowids.TheVariants.{Chosen}
use Rattle.sqlite_rules.specs.Cast.{cast_row}
use Rattle.sqlite_rules.specs.Edit.{edit_of, edited, put_all, numbered}
use Rattle.sqlite_tied.specs.Compute.{everything}
use Rattle.sqlite.specs.Effect.{value_rows}
use Rattle.sqlite.specs.Listing.{understood}
use Rattle.sqlite.specs.State.{State, Executes}
use Rattle.sqlite.proofs.Callers.{IsPlain, command_of}
use Rattle.acd_terms.specs.Lists.{IsAscending, put_by}
use Rattle.acd_terms.specs.declared.event.Event.{Event}
use Rattle.acd_lemmas.proofs.Lists.{ascending-put}
use Rattle.acd_sql_columns.specs.declared.tables.Table.TheVariants as table
use Rattle.acd_sql_columns.specs.declared.texts.TheConstants.{INSERT_EVENT}
use Rattle.acd_sql_columns.specs.Content.{with_part}
use Rattle.acd_sql_columns.specs.Transactions.{HoldsUncommitted}
use Rattle.acd_sql_columns.specs.Relations.{Relations}
use Rattle.acd_sql_columns.specs.Rows.{event_row}
use Rattle.acd_sql_columns.specs.Schema.{book_schema, table_of}
use Rattle.acd_sql_columns.specs.Schema as schema
use Rattle.acd_sql_columns.proofs.Writes.Common.{run, inert}
use Rattle.acd_sql_columns.proofs.Writes.Frames.{holds_replaced}
use Rattle.acd_sql_columns.proofs.OneTable.KeyedRows.{by_key, by_key_total, puts}
use Rattle.acd_sql_columns.proofs.Writes.Statements.{Insertion, insertion_edit, inserted, replaces, inert_works}
use Rattle.acd_sql_columns.proofs.FileTables.TablesDescribed.{events_described}
use Rattle.acd_sql_statements.specs.SeveralEvents.{several_values, several_text, with_all_events}
use Rattle.acd_sql_statements.specs.declared.several.TheConstants.{INSERT_TWO_EVENTS, INSERT_THREE_EVENTS, INSERT_FOUR_EVENTS}

abbrev number : Event → ℕ
number e = e.number

-- ---- the rows that it puts

-- the parameters of so many rows, from this one on
abbrev rows_from : ℕ → ℕ → List Term
rows_from start zero = []
rows_from start (suc n) = col 0 start ∷ lit Null ∷ run (start + 1) 9 ++ rows_from (start + 10) n

-- the text puts the rows of the events
record Puts (text : List ℕ) (terms : List Term) (es : List Event) : Type 0 where
  pub command : command_of (understood book_schema text) ≡ Insert 7 (Values terms 11)
  pub plain : IsPlain (understood book_schema text)
  pub source : value_rows (several_values es) 11 (length terms / 11) terms ≡ map event_row es

puts_one : (a : Event) → Puts INSERT_EVENT.now (rows_from 0 1) (a ∷ [])
unfolding understood everything
puts_one a = record { command = refl; plain = (refl, refl); source = refl }

puts_two : (a b : Event) → Puts INSERT_TWO_EVENTS.now (rows_from 0 2) (a ∷ b ∷ [])
unfolding understood everything
puts_two a b = record { command = refl; plain = (refl, refl); source = refl }

puts_three : (a b c : Event) → Puts INSERT_THREE_EVENTS.now (rows_from 0 3) (a ∷ b ∷ c ∷ [])
unfolding understood everything
puts_three a b c = record { command = refl; plain = (refl, refl); source = refl }

puts_four : (a b c d : Event) → Puts INSERT_FOUR_EVENTS.now (rows_from 0 4) (a ∷ b ∷ c ∷ d ∷ [])
unfolding understood everything
puts_four a b c d = record { command = refl; plain = (refl, refl); source = refl }

-- ---- what the table has after it

-- one put after the other
abbrev all_put : List Event → List Event → List Event
all_put [] rs = rs
all_put (e ∷ es) rs = all_put es (put_by (by_key number e) rs e)

are_cast : (es : List Event) → map (λ s. cast_row (table_of schema.events_layout) (drop 0 s)) (map event_row es) ≡ map event_row es
are_cast [] = refl
are_cast (e ∷ es) = ap₂ (λ (x : Row) (xs : List Row). x ∷ xs) (events_described.casts e) (are_cast es)

have_numbers : (rows : List Row) (es : List Event) → numbered Chosen rows (map event_row es) ≡ map event_row es
have_numbers rows [] = refl
have_numbers rows (e ∷ es) = ap (λ (l : List Row). event_row e ∷ l) (have_numbers (put_row (event_row e) rows) es)

are_numbered : (rows : List Row) (es : List Event)
    → numbered Chosen rows (map (λ s. cast_row (table_of schema.events_layout) (drop 0 s)) (map event_row es)) ≡ map event_row es
are_numbered rows es = ap (numbered Chosen rows) (are_cast es) ∙ have_numbers rows es

rows_put : (es rs : List Event) → put_all (map event_row rs) (map event_row es) ≡ map event_row (all_put es rs)
rows_put [] rs = refl
rows_put (e ∷ es) rs =
    ap (λ (rows : List Row). put_all rows (map event_row es)) (puts number event_row (λ x. refl) e rs) ∙ rows_put es (put_by (by_key number e) rs e)

still_ascending : (es rs : List Event) → IsAscending (by_key number) rs → IsAscending (by_key number) (all_put es rs)
still_ascending [] rs up = up
still_ascending (e ∷ es) rs up = still_ascending es (put_by (by_key number e) rs e) (ascending-put (by_key number) (by_key_total number) e rs up)

all_are : (es : List Event) (r : Relations) → with_part table.Events (all_put es r.events) r ≡ with_all_events es r
all_are [] r = refl
all_are (e ∷ es) r = all_are es (with_part table.Events (put_by (by_key number e) r.events e) r)

module _ (text : List ℕ) (terms : List Term) (es : List Event) (p : Puts text terms es) where
  abbrev insertion : Insertion book_schema text
  insertion = record {
    at = 7;
    layout = schema.events_layout;
    terms = terms;
    width = 11;
    place = refl;
    command = p.command;
    plain = p.plain;
    inert = inert_works book_schema inert schema.events_layout.tree;
  }

  put_at_once : (r : Relations) (old new : State) (count : ℕ) → HoldsUncommitted old r → Executes text (several_values es) old new (Ok count)
      → HoldsUncommitted new (with_all_events es r)
  put_at_once r old new count d ran =
      let db = old.now.trees in
      let are = d.tables table.Events in
      let made = inserted book_schema text insertion (several_values es) old new count d.schema ran in
      let rows = db schema.events_layout.tree in
      let source = ap (λ (l : List Row). edited db (edit_of db (table_of schema.events_layout) [] Chosen 0 l)) p.source in
      let numbers = ap (put_all rows) (are_numbered rows es) in
      let before = ap (λ (l : List Row). put_all l (map event_row es)) are.rows_are in
      subst (HoldsUncommitted new) (all_are es r)
      (holds_replaced table.Events (all_put es r.events) (map event_row (all_put es r.events)) old new r
      (record { rows_are = refl; ascending = still_ascending es r.events are.ascending })
      (replaces book_schema old new (insertion_edit insertion (several_values es) db) (map event_row (all_put es r.events)) made
      (source ∙ numbers ∙ before ∙ rows_put es r.events))
      d)

pub put_several : (es : List Event) → es ≢ [] → length es ≤ 4 → (r : Relations) (old new : State) (count : ℕ) → HoldsUncommitted old r
    → Executes (several_text (length es)) (several_values es) old new (Ok count) → HoldsUncommitted new (with_all_events es r)
put_several [] some few = absurd (some refl)
put_several (a ∷ []) some few = put_at_once _ _ _ (puts_one a)
put_several (a ∷ b ∷ []) some few = put_at_once _ _ _ (puts_two a b)
put_several (a ∷ b ∷ c ∷ []) some few = put_at_once _ _ _ (puts_three a b c)
put_several (a ∷ b ∷ c ∷ d ∷ []) some few = put_at_once _ _ _ (puts_four a b c d)
put_several (a ∷ b ∷ c ∷ d ∷ e ∷ es) some few = absurd (omega (arith, few))
