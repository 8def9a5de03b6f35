-- Queries over one table whose rows represent records: they show the records that pass, in order.
use Rattle.std.proofs.Common.{◌≡◌, ◌++◌, ℕ, List, [], ◌∷◌, map, filter, false, Bool, Ok, Err, Result, IfOk, OnOk, IsTrue, refl, sym, ap, subst, ◌∙◌}
use Rattle.std.specs.Prelude.{Vec}
use Rattle.std.specs.declared.alloc.Global.{Global}
use Rattle.std.specs.declared.cmp.Ordering.{Ordering}
use Rattle.std.specs.declared.cmp.Ordering.TheVariants.{Less, Equal, Greater}
use Rattle.std.specs.Ordering.{ordering_then}
use Rattle.std.specs.List.{list_all}
use Rattle.sqlite_value.specs.declared.keys.Key.{Key}
use Rattle.sqlite_value.specs.Order.{Row, value_cmp}
use Rattle.sqlite_trees.specs.Tree.{rowid}
use Rattle.sqlite_sql.specs.Term.{Term, eval, holds}
use Rattle.sqlite_sql.specs.Query.{Query, output_cmp, Output, limited, as_count}
use Rattle.sqlite_schema.specs.declared.schema.Table.{Table as Made}
use Rattle.sqlite_schema.specs.declared.schema.Schema.{Schema}
use Rattle.sqlite_schema.specs.declared.command.Command.TheVariants.{Select}
use Rattle.sqlite_keyed.proofs.ListLemmas.{map-map, map_same, IsPermutation-same}
use Rattle.sqlite.specs.declared.error.Error.{Error}
use Rattle.sqlite.specs.Effect.{Database}
use Rattle.sqlite.specs.Listing.{understood, reads_listing}
use Rattle.sqlite.specs.State.{State, HasCleanDisk, Shown}
use Rattle.sqlite.proofs.Callers.{IsPlain, command_of, reads_as}
use Rattle.acd_lemmas.proofs.Lists.{ascending-filter}
use Rattle.acd_book.specs.Content.{Content}
use Rattle.acd_sql_columns.specs.Schema.{book_schema, tables_1, added_in_2, with_later, BeginsSchema}
use Rattle.acd_sql_columns.specs.Values.{id_value}
use Rattle.acd_sql_columns.specs.declared.tables.Table.{Table}
use Rattle.acd_sql_columns.specs.declared.tables.Version.{Version}
use Rattle.acd_sql_columns.specs.declared.tables.Version.TheVariants as version
use Rattle.acd_sql_columns.specs.AnyRows.{schema_of}
use Rattle.acd_sql_columns.specs.Relations.{relations_of}
use Rattle.acd_sql_columns.specs.Content.{AreRows, Stores, tree_of, part}
use Rattle.acd_sql_columns.specs.Transactions.{HoldsContent, Quiet, NoStop}
use Rattle.acd_sql_columns.specs.ReadResults.{Finds}
use Rattle.acd_sql_columns.proofs.OneTable.KeyedRows.{by_key, by_key_total, id_cmp}
use Rattle.acd_sql_columns.proofs.OneTable.OrderedQueries.{asking, given, in_its_order, answered}
use Rattle.acd_sql_columns.proofs.OneTable.Scans.{showing, passing, filter_like, each, filter_mapped}

-- a text asks for this: the tests, the columns, the order and the limit of a query over one table; and so it does whatever tables come later than
-- these
pub record Listing (base : List Made) (text : List ℕ) : Type 0 where
  pub tree : ℕ
  pub terms : List Term
  pub project : List Term
  pub order : List (Term × Key)
  pub limit : Term
  pub names : List (List ℕ)
  pub command : (rest : List Made) (s : Schema)
      → command_of (understood (with_later base rest s) text) ≡ Select (record { lets = []; body = asking tree terms project order limit }) names
  pub plain : (rest : List Made) (s : Schema) → IsPlain (understood (with_later base rest s) text)
  pub unlisted : (rest : List Made) (s : Schema) → reads_listing (with_later base rest s) text ≡ false

pub begun : (base : List Made) (s : Schema) (b : BeginsSchema base s) → s ≡ with_later base b.0 s
begun base s b = ap (λ ts. record s { tables = ts }) b.1

pub plain_of : (base : List Made) (text : List ℕ) → Listing base text → (s : Schema) → BeginsSchema base s → IsPlain (understood s text)
plain_of base text it s b = subst (λ (x : Schema). IsPlain (understood x text)) (sym (begun base s b)) (it.plain b.0 s)

pub book_begins : (s : Schema) → s ≡ book_schema → BeginsSchema tables_1 s
book_begins s is = subst (BeginsSchema tables_1) (sym is) (added_in_2, refl)

-- of each version
pub version_begins : (v : Version) (s : Schema) → s ≡ schema_of v → BeginsSchema tables_1 s
version_begins version.First s is = subst (BeginsSchema tables_1) (sym is) ([], refl)
version_begins version.Second s is = book_begins s is

-- all eleven
pub whole_begins : (s : Schema) → s ≡ book_schema → BeginsSchema (tables_1 ++ added_in_2) s
whole_begins s is = subst (BeginsSchema (tables_1 ++ added_in_2)) (sym is) ([], refl)

abbrev pub query_of : {base : List Made} {text : List ℕ} → Listing base text → Query
query_of it = asking it.tree it.terms it.project it.order it.limit

pub schema_is : (old : State) (c : Content) → HoldsContent old c → old.now.schema ≡ book_schema
schema_is old c held = ap (λ (d : Database). d.schema) held.idle ∙ held.schema

pub held_begins : (old : State) (c : Content) → HoldsContent old c → BeginsSchema tables_1 old.now.schema
held_begins old c held = book_begins old.now.schema (schema_is old c held)

pub stored : (t : Table) (old : State) (c : Content) → HoldsContent old c → Stores t (old.now.trees (tree_of t)) (part t (relations_of c))
stored t old c held = subst (λ (d : Database). Stores t (d.trees (tree_of t)) (part t (relations_of c))) (sym held.idle) (held.encodes t)

pub end_of : (o : Ordering) → ordering_then o Equal ≡ o
end_of Less = refl
end_of Equal = refl
end_of Greater = refl

module _ {R : Type 0} {base : List Made} (text : List ℕ) (it : Listing base text) (key : R → ℕ) (row values : R → Row) (params : Row) (P : R → Bool) where
  -- it asks for the values of the records that pass, in the order of their keys
  pub record Lists : Type 0 where
    pub keyed : (r : R) → rowid (row r) ≡ id_value (key r)
    pub ranks : (a b : R)
        → output_cmp (query_of it) (given (query_of it) params (row a)) (given (query_of it) params (row b))
        ≡ ordering_then (value_cmp (rowid (row a)) (rowid (row b))) Equal
    pub tests : (r : R) → list_all (holds (params ∷ row r ∷ [])) it.terms ≡ P r
    pub shows : (r : R) → showing params it.project (row r) ≡ values r

  module _ (l : Lists) where
    abbrev out : R → Output
    out r = given (query_of it) params (row r)

    same : (a b : R) → output_cmp (query_of it) (out a) (out b) ≡ by_key key a b
    same a b =
        l.ranks a b ∙ end_of (value_cmp (rowid (row a)) (rowid (row b))) ∙ ap (λ v. value_cmp v (rowid (row b))) (l.keyed a)
        ∙ ap (value_cmp (id_value (key a))) (l.keyed b) ∙ id_cmp (key a) (key b)

    passed : (rows : List Row) (rs : List R) → rows ≡ map row rs → map (given (query_of it) params) (passing params it.terms rows) ≡ map out (filter P rs)
    passed rows rs is =
        ap (λ l. map (given (query_of it) params) (passing params it.terms l)) is
        ∙ ap (map (given (query_of it) params))
        (filter_mapped (λ r. list_all (holds (params ∷ r ∷ [])) it.terms) row rs ∙ ap (map row) (filter_like _ P rs (each _ rs l.tests)))
        ∙ map-map (given (query_of it) params) row (filter P rs)

    pub listed : (old new : State) (rows : List Row) (rs : List R) → BeginsSchema base old.now.schema → AreRows key row (old.now.trees it.tree) rs
        → Shown text params old new rows
        → rows ≡ limited (as_count (eval it.limit (params ∷ []))) (map values (filter P rs))
    listed old new rows rs b are h =
        let whole_schema = with_later base b.0 old.now.schema in
        let read =
        reads_as text params old new whole_schema (begun base old.now.schema b) _ (it.command b.0 old.now.schema) (it.plain b.0 old.now.schema)
        (it.unlisted b.0 old.now.schema) rows h in
        let moved = IsPermutation-same _ _ (sym (passed (old.now.trees it.tree) rs are.rows_are)) in
        answered (by_key key) (by_key_total key) (query_of it) params out (filter P rs) _ rows
        (record { alike = same; ascending = ascending-filter (by_key key) P rs are.ascending; all = moved })
        (in_its_order it.tree it.terms it.project it.order it.limit old.now.trees params rows read.answer)
        ∙ ap (limited (as_count (eval it.limit (params ∷ [])))) (map_same (λ r. showing params it.project (row r)) values l.shows (filter P rs))

-- ---- the read

-- a query that ran, as the store says it of a plain text
pub record Queried (text : List ℕ) (params : Row) (old new : State) (r : Result (Vec Row Global) Error) : Type 0 where
  pub up : HasCleanDisk new → OnOk r (IsTrue new.is_open)
  pub quiet : IsPlain (understood book_schema text) → Quiet old new
  pub stops : HasCleanDisk new → IsPlain (understood book_schema text) → (c : Content) → HoldsContent old c → NoStop old new
  pub shown : HasCleanDisk new → IfOk r (λ rows. Shown text params old new rows.items)

pub finds : (text : List ℕ) (params : Row) (old new : State) (r : Result (Vec Row Global) Error) (plain : IsPlain (understood book_schema text))
    (IsAnswer : Content → List Row → Type 0)
    → Queried text params old new r
    → ((rows : List Row) (c : Content) → HoldsContent old c → Shown text params old new rows → IsAnswer c rows)
    → Finds old new r (λ c rows. IsAnswer c rows.items)
finds text params old new r plain IsAnswer q answer = record {
  up = q.up;
  quiet = q.quiet plain;
  stops = λ clean. q.stops clean plain;
  answer = λ clean. go r (q.shown clean);
}
  where
    go : (r : Result (Vec Row Global) Error) → IfOk r (λ rows. Shown text params old new rows.items)
        → IfOk r (λ rows. (c : Content) → HoldsContent old c → IsAnswer c rows.items)
    go (Err e) h = tt
    go (Ok rows) h = λ (c : Content) (held : HoldsContent old c). answer rows.items c held h
