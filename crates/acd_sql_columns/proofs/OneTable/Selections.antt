-- Queries over one table.
use Rattle.std.proofs.Common.{◌≡◌, ℕ, List, [], ◌∷◌, drop, map, false, Ok, Err, Result, IfOk, refl, sym, ap, subst, ◌∙◌}
use Rattle.std.specs.Prelude.{Vec}
use Rattle.std.specs.declared.alloc.Global.{Global}
use Rattle.std.specs.List.Sorted.{IsPermutation}
use Rattle.sqlite_value.specs.declared.keys.Key.{Key}
use Rattle.sqlite_value.specs.Order.{Row}
use Rattle.sqlite_sql.specs.Term.{Term, col}
use Rattle.sqlite_schema.specs.declared.schema.Table.{Table as Made}
use Rattle.sqlite_schema.specs.declared.schema.Schema.{Schema}
use Rattle.sqlite_schema.specs.declared.command.Command.TheVariants.{Select}
use Rattle.sqlite.specs.declared.error.Error.{Error}
use Rattle.sqlite.specs.Effect.{Database}
use Rattle.sqlite.specs.Listing.{understood, reads_listing}
use Rattle.sqlite.specs.State.{State, Shown}
use Rattle.sqlite.proofs.Callers.{IsPlain, command_of, reads_as, one_permutation}
use Rattle.sqlite_tied.specs.Compute.{everything}
use Rattle.acd_book.specs.Content.{Content}
use Rattle.acd_sql_columns.specs.declared.tables.Table.TheVariants as table
use Rattle.acd_sql_columns.specs.Schema.{book_schema, tables_1, added_in_2, with_later, BeginsSchema, names_of}
use Rattle.acd_sql_columns.specs.Schema as schema
use Rattle.acd_sql_columns.specs.Rows.{meta_shown}
use Rattle.acd_sql_columns.specs.Relations.{meta_of}
use Rattle.acd_sql_columns.specs.Transactions.{HoldsContent}
use Rattle.acd_sql_columns.proofs.OneTable.Listings.{begun}
use Rattle.acd_sql_columns.proofs.OneTable.Scans.{scan, scanned, showing, passing}
use Rattle.acd_sql_columns.specs.declared.texts.TheConstants.{SELECT_META}
use Rattle.acd_lemmas.proofs.Lists.{filter_true}

-- the tests, columns and order of a query
pub record Selection (schema : Schema) (text : List ℕ) : Type 0 where
  pub tree : ℕ
  pub terms : List Term
  pub project : List Term
  pub order : List (Term × Key)
  pub names : List (List ℕ)
  pub command : command_of (understood schema text) ≡ Select (record { lets = []; body = scan tree terms project order }) names
  pub plain : IsPlain (understood schema text)
  pub unlisted : reads_listing schema text ≡ false

-- the rows that pass, in some order
pub selected : (schema : Schema) (text : List ℕ) (it : Selection schema text) (params : Row) (old new : State) (rows : List Row) → old.now.schema ≡ schema
    → Shown text params old new rows
    → IsPermutation (map (showing params it.project) (passing params it.terms (old.now.trees it.tree))) rows
selected schema text it params old new rows has h =
    let read = reads_as text params old new schema has _ it.command it.plain it.unlisted rows h in
    scanned it.tree it.terms it.project it.order old.now.trees params rows read.answer

-- ---- the limits and the counters

unfoldable pub meta_selection : (rest : List Made) (s : Schema) → Selection (with_later tables_1 rest s) SELECT_META.now
unfolding understood everything
meta_selection rest s = record {
  tree = schema.meta.tree;
  terms = [];
  project = col 1 3 ∷ col 1 4 ∷ col 1 5 ∷ col 1 6 ∷ col 1 7 ∷ col 1 8 ∷ col 1 9 ∷ col 1 10 ∷ col 1 11 ∷ col 1 12 ∷ col 1 13 ∷ [];
  order = [];
  names = drop 2 (names_of schema.meta);
  command = refl;
  plain = (refl, refl);
  unlisted = refl;
}

pub meta_plain : (s : Schema) → BeginsSchema tables_1 s → IsPlain (understood s SELECT_META.now)
meta_plain s b = subst (λ (x : Schema). IsPlain (understood x SELECT_META.now)) (sym (begun tables_1 s b)) (meta_selection b.0 s).plain

reads_meta : (old new : State) (rows : List Row) → Shown SELECT_META.now [] old new rows → (c : Content) → HoldsContent old c
    → rows ≡ meta_shown (meta_of c.rows) ∷ []
unfolding meta_selection
reads_meta old new rows h c held =
    let has = ap (λ (d : Database). d.schema) held.idle ∙ held.schema in
    let table_is = ap (λ (d : Database). d.trees schema.meta.tree) held.idle ∙ held.encodes table.Meta in
    let it = meta_selection added_in_2 book_schema in
    let found = selected book_schema SELECT_META.now it [] old new rows has h in
    one_permutation _ rows
    (subst (λ l. IsPermutation l rows) (ap (map (showing [] it.project)) (filter_true (old.now.trees schema.meta.tree) ∙ table_is)) found)

pub reads_meta_if : (old new : State) (r : Result (Vec Row Global) Error) → IfOk r (λ rows. Shown SELECT_META.now [] old new rows.items)
    → IfOk r (λ rows. (c : Content) → HoldsContent old c → rows.items ≡ meta_shown (meta_of c.rows) ∷ [])
reads_meta_if old new (Err e) h = tt
reads_meta_if old new (Ok rows) h = reads_meta old new rows.items h
