-- CREATE TABLE, of any schema.
use Rattle.std.proofs.Common.{◌≡◌, ℕ, List, [], ◌∷◌, ◌++◌, true, false, None, Ok, refl, sym, ap, subst, ◌∙◌}
use Rattle.std.specs.List.{AllByRecursion}
use Rattle.sqlite_value.specs.Order.{Row}
use Rattle.sqlite_trees.specs.Tree.{Trees}
use Rattle.sqlite_schema.specs.declared.schema.Table.{Table}
use Rattle.sqlite_schema.specs.declared.schema.Schema.{Schema}
use Rattle.sqlite_schema.specs.declared.command.Command.TheVariants.{CreateTable}
use Rattle.sqlite.specs.Change.{created, next_tree}
use Rattle.sqlite.specs.Does.{Tally, lacks_sequence}
use Rattle.sqlite.specs.Effect.{Database}
use Rattle.sqlite.specs.State.{State, Writes, Executes}
use Rattle.sqlite.proofs.Callers.{runs_as}
use Rattle.acd_sql_columns.specs.SchemaSteps.{MakesTable, Builds, HasRows}
use Rattle.acd_sql_columns.proofs.Writes.Statements.{went, same_value}

-- the kept rows are those that were there, and the last table's come after them
all_rows : (old new : Trees) (ts : List Table) (rows : List (List Row)) (t : Table) → AllByRecursion (λ u. new u.tree ≡ old u.tree) ts → HasRows old ts rows
    → new t.tree ≡ [] → HasRows new (ts ++ t ∷ []) (rows ++ [] ∷ [])
all_rows old new [] [] t kept old_rows none = (none, tt)
all_rows old new [] (r ∷ rows) t kept old_rows none = absurd old_rows
all_rows old new (u ∷ ts) [] t kept old_rows none = absurd old_rows
all_rows old new (u ∷ ts) (r ∷ rows) t kept old_rows none = (kept.0 ∙ old_rows.0, all_rows old new ts rows t kept.1 old_rows.1 none)

pub builds : (schema : Schema) (text : List ℕ) (table : Table) (rows : List (List Row)) (it : MakesTable schema text table) (old new : State) (count : ℕ)
    → Builds old schema rows → Executes text [] old new (Ok count)
    → Builds new (created schema table) (rows ++ [] ∷ [])
builds schema text table rows it old new count b h =
    let w =
    subst (λ t. Writes old new None CreateTable t [] count) it.statement
    (runs_as text [] old new schema b.schema_is CreateTable it.command it.plain count h) in
    let all = went w.changed in
    let first = went all.1 in
    let made = first.1 in
    let both : Ok made.table ≡ Ok table = sym made.defined ∙ it.defined in
    let same : made.table ≡ table = cc in
    let schema_at : first.0.schema ≡ created schema table = made.is ∙ ap (λ s. created s made.table) b.schema_is ∙ ap (created schema) same in
    let plain : lacks_sequence first.0.schema ≡ false = ap lacks_sequence schema_at ∙ it.uncounted in
    let now : new.now ≡ first.0 = ap (λ (p : Tally × Database). p.1) (same_value all.2) ∙ same_value (rw plain at first.2) in
    let trees : new.now.trees ≡ first.0.trees = ap (λ (d : Database). d.trees) now in
    let others = subst (λ (s : Schema). AllByRecursion (λ t. first.0.trees t.tree ≡ old.now.trees t.tree) s.tables) b.schema_is made.others in
    let last = subst (λ s. first.0.trees (next_tree s) ≡ []) b.schema_is made.empty in
    record {
      inside = w.shown.mode ∙ b.inside;
      schema_is = ap (λ (d : Database). d.schema) now ∙ schema_at;
      rows_are = subst (λ (t : Trees). HasRows t (created schema table).tables (rows ++ [] ∷ [])) (sym trees)
          (all_rows old.now.trees first.0.trees schema.tables rows (record table { tree = next_tree schema }) others b.rows_are last);
    }

-- a transaction begins
pub begins_with : (old : State) (schema : Schema) (rows : List (List Row)) → old.now.schema ≡ schema → HasRows old.now.trees schema.tables rows
    → Builds (record old { in_transaction = true }) schema rows
begins_with old schema rows is old_rows = record { inside = refl; schema_is = is; rows_are = old_rows }
