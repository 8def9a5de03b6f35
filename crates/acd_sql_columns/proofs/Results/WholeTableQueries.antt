-- The result of the query of a whole table, whatever its rows hold.
use Rattle.std.proofs.Common.{◌≡◌, List, [], map, Result, ap, subst, ◌∙◌, ℕ}
use Rattle.std.specs.Prelude.{Vec}
use Rattle.std.specs.declared.alloc.Global.{Global}
use Rattle.std.specs.List.Sorted.{IsPermutation}
use Rattle.sqlite_value.specs.Order.{Row}
use Rattle.sqlite_keyed.proofs.ListLemmas.{map_same}
use Rattle.sqlite_schema.specs.declared.schema.Table.{Table as Made}
use Rattle.sqlite_sql.specs.Program.{IsProgramAnswer}
use Rattle.sqlite.specs.declared.error.Error.{Error}
use Rattle.sqlite.specs.Effect.{Database}
use Rattle.sqlite.specs.State.{State, Shown}
use Rattle.sqlite.proofs.Callers.{reads_as}
use Rattle.acd_sql_columns.specs.declared.tables.Table.{Table}
use Rattle.acd_sql_columns.specs.AnyRows.{values_in, rows_in}
use Rattle.acd_sql_columns.specs.Content.{tree_of}
use Rattle.acd_sql_columns.specs.Schema.{with_later, BeginsSchema}
use Rattle.acd_sql_columns.specs.DatabaseView.{HasDatabase, Sees}
use Rattle.acd_sql_columns.proofs.Results.QueryAnswers.{no_limit}
use Rattle.acd_sql_columns.proofs.Results.SnapshotReads.{sees_so}
use Rattle.acd_sql_columns.proofs.OneTable.Listings.{Listing, query_of, begun}
use Rattle.acd_sql_columns.proofs.OneTable.Scans.{scanned, showing, passing}
use Rattle.acd_lemmas.proofs.Lists.{filter_true}

module _ (base : List Made) (text : List ℕ) (it : Listing base text) (params : Row) (d : Database) (old new : State) (rows : List Row)
    (old_database : HasDatabase old d) (b : BeginsSchema base d.schema) (h : Shown text params old new rows) where
  pub answer_in : IsProgramAnswer [] (query_of it) d.trees params rows
  answer_in =
      let whole_schema = with_later base b.0 d.schema in
      let read =
      reads_as text params old new whole_schema (ap (λ (x : Database). x.schema) old_database.now ∙ begun base d.schema b) _ (it.command b.0 d.schema)
      (it.plain b.0 d.schema) (it.unlisted b.0 d.schema) rows h in
      subst (λ (x : Database). IsProgramAnswer [] (query_of it) x.trees params rows) old_database.now read.answer

-- the text asks for the values of all rows of the table
pub record AsksAll (t : Table) (base : List Made) (text : List ℕ) (it : Listing base text) : Type 0 where
  pub tree : it.tree ≡ tree_of t
  pub all : it.terms ≡ []
  pub unlimited : it.limit ≡ no_limit
  pub shows : (r : Row) → showing [] it.project r ≡ values_in t r

pub shown_all : (t : Table) (base : List Made) (text : List ℕ) (it : Listing base text) → AsksAll t base text it
    → (d : Database) (old new : State) (rows : List Row) → HasDatabase old d → BeginsSchema base d.schema → Shown text [] old new rows
    → IsPermutation (rows_in t d.trees) rows
shown_all t base text it asks d old new rows old_database b h =
    let all = scanned it.tree it.terms it.project it.order d.trees [] rows
    (subst (λ l. IsProgramAnswer [] (record (query_of it) { limit = l }) d.trees [] rows) asks.unlimited
    (answer_in base text it [] d old new rows old_database b h)) in
    let same : map (showing [] it.project) (passing [] it.terms (d.trees it.tree)) ≡ rows_in t d.trees =
    ap (λ ts. map (showing [] it.project) (passing [] ts (d.trees it.tree))) asks.all
    ∙ ap (map (showing [] it.project)) (filter_true (d.trees it.tree))
    ∙ map_same (showing [] it.project) (values_in t) asks.shows (d.trees it.tree)
    ∙ ap (λ n. map (values_in t) (d.trees n)) asks.tree in
    subst (λ l. IsPermutation l rows) same all

pub sees_all : (d : Database) (old new : State) (r : Result (Vec Row Global) Error) (t : Table) (base : List Made) (text : List ℕ) (it : Listing base text)
    → AsksAll t base text it → BeginsSchema base d.schema
    → Sees d old new r (λ rows. Shown text [] old new rows.items) → Sees d old new r (λ rows. IsPermutation (rows_in t d.trees) rows.items)
sees_all d old new r t base text it asks b h =
    sees_so d old new r (λ rows. Shown text [] old new rows.items) (λ rows. IsPermutation (rows_in t d.trees) rows.items)
    (λ old_database rows shown. shown_all t base text it asks d old new rows.items old_database b shown) h
