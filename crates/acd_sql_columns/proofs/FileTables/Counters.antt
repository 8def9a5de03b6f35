-- The statements that put the limits and the counters.
use Rattle.std.proofs.Common.{◌≡◌, ◌+◌, ℕ, pos, List, [], ◌∷◌, length, not, cond, drop, map, Ok, Err, Result, OnOk, refl, ap, subst, ◌∙◌}
use Rattle.sqlite_value.specs.declared.value.Value.TheVariants.{Null}
use Rattle.sqlite_value.specs.declared.keys.Collation.TheVariants.{Binary}
use Rattle.sqlite_value.specs.Order.{Row}
use Rattle.std.specs.List.Sorted.{IsPermutation}
use Rattle.sqlite_sql.specs.Term.{Term, lit, col, op2}
use Rattle.sqlite_sql.specs.Ops.{binary}
use Rattle.sqlite_sql.specs.declared.ops.BinaryOp.TheVariants.{Compare}
use Rattle.sqlite_sql.specs.declared.ops.CompareOp.TheVariants.{Eq}
use Rattle.sqlite_rules.specs.Edit.{edited, without_all}
use Rattle.sqlite_trees.specs.Tree.{Trees, put_row}
use Rattle.sqlite.specs.declared.error.Error.{Error}
use Rattle.sqlite.specs.Listing.{understood}
use Rattle.sqlite.specs.State.{State, Executes}
use Rattle.sqlite.proofs.Callers.{one_permutation}
use Rattle.sqlite_tied.specs.Compute.{everything}
use Rattle.acd_sql_columns.specs.declared.meta.Meta.{Meta}
use Rattle.acd_book.specs.Content.{empty_content}
use Rattle.acd_sql_columns.specs.declared.tables.Table.TheVariants as table
use Rattle.acd_sql_columns.specs.Schema.{book_schema, further_columns}
use Rattle.acd_sql_columns.specs.Schema as schema
use Rattle.acd_sql_columns.specs.Values.{id_value}
use Rattle.acd_sql_columns.specs.Rows.{meta_fields, meta_values, meta_row, meta_row_as}
use Rattle.acd_sql_columns.proofs.Results.QueryAnswers.{columns}
use Rattle.acd_sql_columns.specs.Relations.{Relations, relations_of}
use Rattle.acd_sql_columns.specs.Content.{with_part, AreRows}
use Rattle.acd_sql_columns.specs.SchemaSteps.{Builds, no_rows, SetsSecondVersion}
use Rattle.acd_sql_columns.specs.Transactions.{HoldsUncommitted, RanStatement}
use Rattle.acd_sql_columns.specs.declared.texts.TheConstants.{INSERT_META, UPDATE_META, UPDATE_VERSION}
use Rattle.acd_sql_columns.proofs.Writes.Frames.{holds_replaced, only_meta}
use Rattle.acd_sql_columns.proofs.OneTable.Scans.{showing, passing}
use Rattle.acd_sql_columns.proofs.OneTable.KeyedRows.{id_tied}
use Rattle.acd_sql_columns.proofs.Writes.Common.{run, inert, cast_id, cast_null}
use Rattle.acd_sql_columns.proofs.Rows.FieldLaws.{casts_all}
use Rattle.acd_sql_columns.proofs.FileTables.DescribedTable.{by_id}
use Rattle.acd_sql_columns.proofs.Writes.Puts.{Inserts, RanOver, inserted_row}
use Rattle.acd_sql_columns.proofs.Rows.ValuesInRange.{beside}
use Rattle.acd_sql_columns.proofs.Writes.Statements.{Insertion, inert_works, replaces}
use Rattle.acd_sql_columns.proofs.Writes.Updates.{Updating, updating_edit, updated}

meta_text : Insertion book_schema INSERT_META.now
unfolding understood everything
meta_text = record {
  at = 0;
  layout = schema.meta;
  terms = col 0 0 ∷ lit Null ∷ run 1 (further_columns schema.meta);
  width = further_columns schema.meta + 2;
  place = refl;
  command = refl;
  plain = (refl, refl);
  inert = inert_works book_schema inert schema.meta.tree;
}

meta_put : Inserts book_schema INSERT_META.now (λ (m : Meta). 1) meta_row meta_values
unfolding meta_text
meta_put = record {
  it = meta_text;
  files = record {
    headed = λ m. refl;
    casts = λ m. beside _ _ _ _ (cast_id 1) (beside _ _ _ _ cast_null (beside _ _ _ _ (cast_id 2) (casts_all (drop 2 schema.meta.columns) meta_fields m refl)));
  };
  source = λ m. refl;
}

-- the values that an UPDATE binds: the limits and the counters, without the key and the version, which stay
abbrev pub set_values : Meta → Row
set_values m = drop 2 (meta_values m)

abbrev only_row : List Term
only_row = op2 (Compare Eq Binary) (col 1 0) (lit (id_value 1)) ∷ []

abbrev reset : List Term
reset = col 1 0 ∷ col 1 0 ∷ lit Null ∷ col 1 2 ∷ run 0 (length (drop 2 schema.meta.columns))

meta_set : Updating book_schema UPDATE_META.now
unfolding understood everything
meta_set = record {
  at = 0;
  layout = schema.meta;
  terms = only_row;
  project = reset;
  place = refl;
  command = refl;
  plain = (refl, refl);
  inert = inert_works book_schema inert schema.meta.tree;
}

-- the one row passes, and the row that it becomes takes its place
one_set : (m was : Meta) (db : Trees) (rows : List Row) → db schema.meta.tree ≡ meta_row was ∷ []
    → IsPermutation (map (showing (set_values m) reset) (passing (set_values m) only_row (db schema.meta.tree))) rows
    → edited db (updating_edit db schema.meta rows) ≡ meta_row m ∷ []
unfolding binary meta_put meta_text
one_set m was db rows is found =
    let one = ap (passing (set_values m) only_row) is ∙ ap (λ b. cond b (meta_row was ∷ []) []) (by_id 1 1) in
    let rows_are : rows ≡ (id_value 1 ∷ meta_row m) ∷ [] =
    one_permutation _ rows (subst (λ l. IsPermutation l rows) (ap (map (showing (set_values m) reset)) one) found) in
    let left : without_all (db schema.meta.tree) (pos 1 ∷ []) ≡ [] =
    ap (λ l. without_all l (pos 1 ∷ [])) is ∙ ap (λ b. cond (not b) (meta_row was ∷ []) []) (id_tied 1 1) in
    ap (λ l. edited db (updating_edit db schema.meta l)) rows_are
    ∙ ap (λ k. put_row k (without_all (db schema.meta.tree) (pos 1 ∷ []))) (meta_put.files.casts m)
    ∙ ap (put_row (meta_row m)) left

pub sets_meta : (m : Meta) (c : Relations) (old new : State) (count : ℕ) → HoldsUncommitted old c → Executes UPDATE_META.now (set_values m) old new (Ok count)
    → HoldsUncommitted new (with_part table.Meta m c)
unfolding meta_set
sets_meta m c old new count d ran =
    let made = updated book_schema UPDATE_META.now meta_set (set_values m) old new count d.schema ran in
    let rows_are = one_set m c.meta old.now.trees made.rows (d.tables table.Meta) made.found in
    holds_replaced table.Meta m (meta_row m ∷ []) old new c refl
    (replaces book_schema old new (updating_edit old.now.trees schema.meta made.rows) (meta_row m ∷ []) made.changed rows_are) d

-- ---- the version

-- the columns of a row, but for the version
abbrev with_second : List Term
with_second = col 1 0 ∷ col 1 0 ∷ lit Null ∷ lit (id_value 2) ∷ columns 3 (length (drop 2 schema.meta.columns))

version_set : Updating book_schema UPDATE_VERSION.now
unfolding understood everything
version_set = record {
  at = 0;
  layout = schema.meta;
  terms = only_row;
  project = with_second;
  place = refl;
  command = refl;
  plain = (refl, refl);
  inert = inert_works book_schema inert schema.meta.tree;
}

one_version_set : (m : Meta) (db : Trees) (rows : List Row) → db schema.meta.tree ≡ meta_row_as 1 m ∷ []
    → IsPermutation (map (showing [] with_second) (passing [] only_row (db schema.meta.tree))) rows
    → edited db (updating_edit db schema.meta rows) ≡ meta_row m ∷ []
unfolding binary meta_put meta_text
one_version_set m db rows is found =
    let one = ap (passing [] only_row) is ∙ ap (λ b. cond b (meta_row_as 1 m ∷ []) []) (by_id 1 1) in
    let rows_are : rows ≡ (id_value 1 ∷ meta_row m) ∷ [] =
    one_permutation _ rows (subst (λ l. IsPermutation l rows) (ap (map (showing [] with_second)) one) found) in
    let left : without_all (db schema.meta.tree) (pos 1 ∷ []) ≡ [] =
    ap (λ l. without_all l (pos 1 ∷ [])) is ∙ ap (λ b. cond (not b) (meta_row_as 1 m ∷ []) []) (id_tied 1 1) in
    ap (λ l. edited db (updating_edit db schema.meta l)) rows_are
    ∙ ap (λ k. put_row k (without_all (db schema.meta.tree) (pos 1 ∷ []))) (meta_put.files.casts m)
    ∙ ap (put_row (meta_row m)) left

sets_second_version : (old new : State) (count : ℕ) → old.now.schema ≡ book_schema → Executes UPDATE_VERSION.now [] old new (Ok count)
    → SetsSecondVersion old new
unfolding version_set
sets_second_version old new count has ran =
    let made = updated book_schema UPDATE_VERSION.now version_set [] old new count has ran in
    let edit = updating_edit old.now.trees schema.meta made.rows in
    let put = replaces book_schema old new edit (edited old.now.trees edit) made.changed refl in
    record {
      inside = put.mode;
      schema_is = put.schema_is;
      sound = put.sound;
      others = put.others;
      version_is = λ m is. put.rows_are ∙ one_version_set m old.now.trees made.rows is made.found;
    }

pub second_version_set : (old new : State) (r : Result (Unit {0}) Error) → OnOk r (RanStatement UPDATE_VERSION.now [] old new)
    → OnOk r (old.now.schema ≡ book_schema → SetsSecondVersion old new)
second_version_set old new (Err e) ran = tt
second_version_set old new (Ok x) ran = λ (has : old.now.schema ≡ book_schema). sets_second_version old new ran.0 has ran.1

-- ---- the first row of a new book

pub starts_meta : (m : Meta) (old new : State) (count : ℕ) → Builds old book_schema (no_rows 11) → Executes INSERT_META.now (meta_values m) old new (Ok count)
    → HoldsUncommitted new (with_part table.Meta m (relations_of (empty_content m.limits)))
unfolding meta_put meta_text
starts_meta m old new count b ran =
    let none : AreRows (λ (m : Meta). 1) meta_row (old.now.trees schema.meta.tree) [] = record { rows_are = b.rows_are.0; ascending = tt } in
    let over : RanOver book_schema INSERT_META.now schema.meta.tree (λ (m : Meta). 1) meta_row (meta_values m)
    = record { old = old; new = new; records = []; count = count; schema_is = b.schema_is; are_rows = none; ran = ran } in
    let made = (inserted_row book_schema INSERT_META.now (λ (m : Meta). 1) meta_row meta_values meta_put m over).replaces in
    record {
      inside = made.mode ∙ b.inside;
      schema = made.schema_is;
      sound = made.sound;
      tables = only_meta m old.now.trees new.now.trees b.rows_are made.rows_are made.others;
    }

pub starts : (m : Meta) (old new : State) (r : Result (Unit {0}) Error) → OnOk r (RanStatement INSERT_META.now (meta_values m) old new)
    → OnOk r (Builds old book_schema (no_rows 11) → HoldsUncommitted new (with_part table.Meta m (relations_of (empty_content m.limits))))
starts m old new (Err e) ran = tt
starts m old new (Ok x) ran = λ (b : Builds old book_schema (no_rows 11)). starts_meta m old new ran.0 b ran.1
