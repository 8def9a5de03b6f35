-- The book of an archive, of which nothing is changed.
use Rattle.std.proofs.Common.{◌≡◌, ◌≢◌, ◌⊎◌, true, false, Result, Ok, Err, IfOk, IfErr, refl, inl, sym, ap, ◌∙◌, codes, true≢false}
use Rattle.std.specs.Prelude.{is_some}
use Rattle.sqlite_schema.specs.Names.{table_named, same_name}
use Rattle.sqlite_schema.specs.declared.schema.Schema.{Schema}
use Rattle.sqlite.specs.State.{State, HasCleanDisk}
use Rattle.sqlite.specs.Held.{Held, state}
use Rattle.sqlite_trees.specs.declared.store.Store.{Ghosts}
use Rattle.sqlite.specs.declared.error.Error.{Error}
use Rattle.acd_sql_columns.specs.AnyRows.{schema_of}
use Rattle.acd_sql_columns.specs.DatabaseView.{HasLooked}
use Rattle.acd_sql_schema.specs.Inspection.{IsFound}
use Rattle.acd_sql_schema.specs.declared.fault.Found.{Found}
use Rattle.acd_sql_columns.specs.Schema.{book_schema, old_schema}
use Rattle.acd_sql_columns.specs.declared.tables.Version.{Version}
use Rattle.acd_sql_columns.specs.declared.tables.Version.TheVariants as version
use Rattle.acd_sqlbook.specs.Adoption.{IsAdopted, IsUntouched}
use Rattle.acd_sqlbook.specs.State.{book_state}
use Rattle.acd_sqlbook.specs.View.{BookView}

-- a look changes nothing
pub looked_untouched : (old new : State) (r : Result Found Error) → HasCleanDisk new → HasLooked old new r IsFound → IsUntouched old new
looked_untouched old new r clean h = record {
  same = λ up.
      let was = h.seen.was_open clean up in
      h.seen.same clean (record { is_open = was; now = refl; committed = sym (h.settled was) }) up;
  stops = h.stops clean;
}

-- tables of version 1 have none of that name
old_has_none : is_some (table_named old_schema (codes "agent_groups")) ≡ false
unfolding same_name
old_has_none = refl

pub not_old : (s : Schema) → is_some (table_named s (codes "agent_groups")) ≡ true → s ≢ old_schema
not_old s some is = true≢false (sym some ∙ ap (λ (x : Schema). is_some (table_named x (codes "agent_groups"))) is ∙ old_has_none)

-- so they are those of version 2
second : (s : Schema) (v : Version) → s ≢ old_schema → s ≡ schema_of v → s ≡ book_schema
second s version.First other is = absurd (other is)
second s version.Second other is = is

pub adopted_untouched : {S E : Type 0} (store : Ghosts S) (s : State) (r : Result (BookView S) E) → s.now.schema ≢ old_schema → IfOk r (λ (b : BookView S). HasCleanDisk (state store b.conn) → IsAdopted s.now (book_state s 0) (book_state (state store b.conn) b.failures))
    → IfOk r (λ (b : BookView S). HasCleanDisk (state store b.conn) → s.now.schema ≡ book_schema → IsUntouched s (state store b.conn)) → IfOk r (λ (b : BookView S). HasCleanDisk (state store b.conn) → IsUntouched s (state store b.conn))
adopted_untouched store s (Ok b) other adopted same = λ clean. let book = (adopted clean).of_book in same clean (second s.now.schema book.0 other book.1.schema_is)
adopted_untouched store s (Err e) other adopted same = tt

pub refused_untouched : {F S : Type 0} {A : Type 0} (store : Ghosts S) (s : State) (r : Result A (F × Held S)) (Alone : F → Type 0) → s.now.schema ≢ old_schema
    → IfErr r (λ (e : F × Held S). HasCleanDisk (state store e.1) → (s.now.schema ≢ old_schema) ⊎ Alone e.0 → IsUntouched s (state store e.1)) → IfErr r (λ (e : F × Held S). HasCleanDisk (state store e.1) → IsUntouched s (state store e.1))
refused_untouched store s (Ok b) Alone other h = tt
refused_untouched store s (Err e) Alone other h = λ clean. h clean (inl other)
