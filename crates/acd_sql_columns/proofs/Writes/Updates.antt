-- UPDATE of the rows of a table that pass its tests.
use Rattle.std.proofs.Common.{◌≡◌, ℕ, List, [], ◌∷◌, length, map, slice_get, suc, Some, None, Option, unwrap_or, Ok, refl, sym, ap, subst, ◌∙◌}
use Rattle.std.specs.List.Sorted.{IsPermutation}
use Rattle.sqlite_value.specs.Order.{Row}
use Rattle.sqlite_trees.specs.Tree.{Trees, put_row}
use Rattle.sqlite_sql.specs.Term.{Term}
use Rattle.sqlite_schema.specs.declared.program.Program.{Program}
use Rattle.sqlite_schema.specs.declared.schema.Table.{Table}
use Rattle.sqlite_schema.specs.declared.schema.Schema.{Schema}
use Rattle.sqlite_schema.specs.declared.schema.Keys.TheVariants.{Enforced}
use Rattle.sqlite_schema.specs.declared.command.Command.TheVariants.{Update}
use Rattle.sqlite_rules.specs.Calls.{ids_of}
use Rattle.sqlite_rules.specs.declared.error.Rowids.TheVariants.{Given}
use Rattle.sqlite_rules.specs.declared.error.Rowids.{Rowids}
use Rattle.sqlite_rules.specs.Edit.{Edit, edit_of, numbered, with_rowid, taken_by, Applies}
use Rattle.sqlite_rules.specs.Action as action
use Rattle.sqlite.specs.Does.{Tally, Does, OnRows}
use Rattle.sqlite.specs.Rows.{Written}
use Rattle.sqlite.specs.Effect.{Database}
use Rattle.sqlite.specs.Listing.{understood}
use Rattle.sqlite.specs.State.{State, mode_of, Executes}
use Rattle.sqlite.proofs.Callers.{IsPlain, command_of, statement_of, runs_as, one_step}
use Rattle.acd_sql_columns.specs.Schema.{Layout, table_of}
use Rattle.acd_sql_columns.proofs.OneTable.Scans.{scan, scanned, showing, passing}
use Rattle.acd_sql_columns.proofs.Writes.Statements.{went, same_value, at_place, obeyed, Changed}

-- the table of an UPDATE, its tests, and what a row that passes shows: its number, and the row that it becomes
pub record Updating (schema : Schema) (text : List ℕ) : Type 0 where
  pub at : ℕ
  pub layout : Layout
  pub terms : List Term
  pub project : List Term
  pub place : slice_get schema.tables at ≡ Some (table_of layout)
  pub command : command_of (understood schema text) ≡ Update at (record { lets = []; body = scan layout.tree terms project [] })
  pub plain : IsPlain (understood schema text)
  pub inert : (olds news : List Row) → action.works schema Enforced 0 layout.tree olds news ≡ []

abbrev pub updating_edit : Trees → Layout → List Row → Edit
updating_edit db layout rows = edit_of db (table_of layout) (ids_of rows) Given 1 rows

numbered_many : (rowids : Rowids) (f : Row → Row) (rows sources : List Row) → length (numbered rowids rows (map f sources)) ≡ length sources
numbered_many rowids f rows [] = refl
numbered_many rowids f rows (s ∷ more) = ap suc (numbered_many rowids f (put_row (with_rowid rowids rows (f s)) rows) more)

pub record Updated {schema : Schema} {text : List ℕ} (it : Updating schema text) (params : Row) (count : ℕ) (old new : State) : Type 0 where
  pub rows : List Row
  pub counted : count ≡ length rows
  pub found : IsPermutation (map (showing params it.project) (passing params it.terms (old.now.trees it.layout.tree))) rows
  pub changed : Changed schema old new (updating_edit old.now.trees it.layout rows)

pub updated : (schema : Schema) (text : List ℕ) (it : Updating schema text) (params : Row) (old new : State) (count : ℕ) → old.now.schema ≡ schema
    → Executes text params old new (Ok count) → Updated it params count old new
updated schema text it params old new count has h =
    let db = old.now.trees in
    let q : Program = record { lets = []; body = scan it.layout.tree it.terms it.project [] } in
    let command = Update it.at q in
    let w = runs_as text params old new schema has command it.command it.plain count h in
    let words = statement_of text (understood schema text) in
    let does = subst (λ s. Does old.step_limit (mode_of old) params (record old.now { schema = s }) words None command (Ok (w.tally, new.now))) has w.changed in
    let done =
    went (at_place
    (λ (t : Table). OnRows (record {
      limit = old.step_limit;
      keys = Enforced;
      schema = schema;
      table = t;
      params = params;
    }) (mode_of old) None command db)
    (slice_get schema.tables it.at) (table_of it.layout) (w.tally, new.now) it.place does) in
    let now : new.now ≡ record { schema = schema; trees = done.0.trees } = ap (λ (p : Tally × Database). p.1) (same_value (went (went done.2).2).2) in
    let read = went done.1 in
    let edit = updating_edit db it.layout read.0 in
    let next = went read.2 in
    let trees : done.0.trees ≡ next.0 = ap (λ (it : Written). it.trees) (same_value next.2) in
    let tally : w.tally.rows ≡ Some (length done.0.rows) = ap (λ (p : Tally × Database). p.0.rows) (same_value (went (went done.2).2).2) in
    let many : length done.0.rows ≡ length edit.news = ap (λ (it : Written). length it.rows) (same_value next.2) in
    record {
      rows = read.0;
      counted = w.counted ∙ ap (λ (o : Option ℕ). unwrap_or o 0) tally ∙ many ∙ numbered_many Given _ _ read.0;
      found = scanned it.layout.tree it.terms it.project [] db params read.0 read.1.answer;
      changed = record {
        shown = w.shown;
        marks = w.marks;
        schema_is = ap (λ (d : Database). d.schema) now;
        sound = obeyed schema new (ap (λ (d : Database). d.schema) now) w.sound;
        applies =
            subst (Applies schema Enforced db edit) (sym (ap (λ (d : Database). d.trees) now ∙ trees))
            (one_step schema Enforced db next.0 edit (it.inert (taken_by db edit) edit.news) next.1);
      };
    }
