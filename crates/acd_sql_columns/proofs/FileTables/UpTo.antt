-- Records taken out of the table of their kind, up to a key.
use Rattle.std.proofs.Common.{◌≡◌, ℕ, List, [], ◌∷◌, map, filter, nat_lt, not, Bool, true, false, Ok, refl, sym, ap, subst, ◌∙◌, arith, Option}
use Rattle.std.specs.List.{list_all}
use Rattle.std.specs.Ordering.{is_le, nat_cmp}
use Rattle.std.proofs.lemmas.Bool.Decides.{nat_tests}
use Rattle.sqlite_value.specs.declared.keys.Collation.TheVariants.{Binary}
use Rattle.sqlite_value.specs.Order.{Row, column, value_cmp}
use Rattle.sqlite_trees.proofs.ListLemmas.{ascending-filter}
use Rattle.sqlite_sql.specs.Ops.{binary}
use Rattle.sqlite_sql.specs.Term.{Term, col, op2, holds}
use Rattle.sqlite_sql.specs.declared.ops.BinaryOp.TheVariants.{Compare}
use Rattle.sqlite_sql.specs.declared.ops.CompareOp.TheVariants.{Le}
use Rattle.sqlite_schema.specs.declared.schema.Table.{Table as MadeTable}
use Rattle.sqlite_schema.specs.declared.command.Command.{Command}
use Rattle.sqlite_schema.specs.declared.command.Command.TheVariants.{Delete}
use Rattle.sqlite.specs.Listing.{understood}
use Rattle.sqlite.specs.State.{State, Executes}
use Rattle.sqlite.proofs.Callers.{IsPlain, command_of}
use Rattle.sqlite_tied.specs.Compute.{everything}
use Rattle.acd_lemmas.proofs.Lists.{every-filter}
use Rattle.acd_sql_columns.specs.Content.{AreRows}
use Rattle.acd_sql_columns.specs.Descriptions.{Description, row_of}
use Rattle.acd_sql_columns.specs.Relations.{Relations}
use Rattle.acd_sql_columns.specs.Schema.{book_schema}
use Rattle.acd_sql_columns.specs.Tables.{events, kept}
use Rattle.acd_sql_columns.specs.declared.texts.TheConstants.{DELETE_EVENTS_UP_TO, DELETE_KEPT_UP_TO}
use Rattle.acd_sql_columns.specs.Transactions.{HoldsUncommitted}
use Rattle.acd_sql_columns.specs.Values.{id_value}
use Rattle.acd_sql_columns.proofs.Writes.Common.{inert}
use Rattle.acd_sql_columns.proofs.FileTables.DescribedTable.{Described, headed}
use Rattle.acd_sql_columns.proofs.OneTable.KeyedRows.{id_cmp}
use Rattle.acd_sql_columns.proofs.Writes.Puts.{truth_back}
use Rattle.acd_sql_columns.proofs.OneTable.Scans.{scan, taken_out, filter_like, each}
use Rattle.acd_sql_columns.proofs.Writes.Statements.{Deletion, deletion_edit, deleted, replaces, inert_works}
use Rattle.acd_sql_columns.proofs.FileTables.TablesDescribed.{kept_described, events_described}

abbrev pub up_to_parameter : List Term
up_to_parameter = op2 (Compare Le Binary) (col 1 0) (col 0 0) ∷ []

up_to : (n k : ℕ) → is_le (value_cmp (id_value k) (id_value n)) ≡ not (nat_lt n k)
up_to n k = ap is_le (id_cmp k n) ∙ lesser n k
  where
    lesser : (n k : ℕ) → is_le (nat_cmp k n) ≡ not (nat_lt n k)
    lesser n k = grind (arith, nat_tests)

up_to_number : (n k : ℕ) (row : Row) → list_all (holds ((id_value n ∷ []) ∷ (id_value k ∷ row) ∷ [])) up_to_parameter ≡ not (nat_lt n k)
unfolding binary
up_to_number n k row = truth_back _ ∙ up_to n k

is_up_to : (n k : ℕ) (row rest : Row) → row ≡ id_value k ∷ rest → list_all (holds ((id_value n ∷ []) ∷ row ∷ [])) up_to_parameter ≡ not (nat_lt n k)
is_up_to n k row rest h = subst (λ r. list_all (holds ((id_value n ∷ []) ∷ r ∷ [])) up_to_parameter ≡ not (nat_lt n k)) (sym h) (up_to_number n k rest)

not_not : (b : Bool) → not (not b) ≡ b
not_not true = refl
not_not false = refl

module _ {R : Type 0} (d : Description R) (f : Described d) where
  -- a text that removes the rows up to a key
  pub record Clears (text : List ℕ) : Type 0 where
    pub clears : command_of (understood book_schema text) ≡ Delete d.place (record { lets = []; body = scan d.layout.tree up_to_parameter (col 1 0 ∷ []) [] })
    pub plain : IsPlain (understood book_schema text)

  abbrev rest : ℕ → List R → List R
  rest n rs = filter (λ r. nat_lt n (d.key r)) rs

  module _ (text : List ℕ) (t : Clears text) where
    deletion : Deletion book_schema text
    deletion = record {
      at = d.place;
      layout = d.layout;
      terms = up_to_parameter;
      place = ap (λ (t : Option MadeTable × ℕ × Command). t.0) f.computes;
      command = t.clears;
      plain = t.plain;
      inert = inert_works book_schema inert d.layout.tree;
    }

    pub cleared_in : (n : ℕ) (c : Relations) (old new : State) (count : ℕ) → HoldsUncommitted old c → Executes text (id_value n ∷ []) old new (Ok count)
        → HoldsUncommitted new (d.with_records (rest n (d.records c)) c)
    unfolding deletion
    cleared_in n c old new count uncommitted ran =
        let db = old.now.trees in
        let old_rows = f.held c db uncommitted.tables in
        let made = deleted book_schema text deletion (id_value n ∷ []) old new count uncommitted.schema ran in
        let keyed = λ (r : R). ap (λ (k : Row). column k 0) (headed d f r) in
        let left =
        taken_out d.key (row_of d) keyed (λ x. not (nat_lt n (d.key x))) (λ a b e. ap (λ k. not (nat_lt n k)) e) (id_value n ∷ []) up_to_parameter
        (λ r. is_up_to n (d.key r) (row_of d r) _ (headed d f r)) (col 1 0 ∷ []) keyed (d.records c) (db d.layout.tree) made.rows old_rows.0.rows_are
        made.found in
        let same =
        filter_like (λ r. not (not (nat_lt n (d.key r)))) (λ r. nat_lt n (d.key r)) (d.records c)
        (each _ (d.records c) (λ r. not_not (nat_lt n (d.key r)))) in
        let replaced =
        replaces book_schema old new (deletion_edit deletion made.rows db) (map (row_of d) (rest n (d.records c))) made.changed
        (left ∙ ap (map (row_of d)) same) in
        let are : AreRows d.key (row_of d) (map (row_of d) (rest n (d.records c))) (rest n (d.records c)) = record {
          rows_are = refl;
          ascending = ascending-filter (λ a b. nat_cmp (d.key a) (d.key b) ≡ _) (λ r. nat_lt n (d.key r)) (d.records c) old_rows.0.ascending;
        } in
        record {
          inside = replaced.mode ∙ uncommitted.inside;
          schema = replaced.schema_is;
          sound = replaced.sound;
          tables =
              f.framed (rest n (d.records c)) _ old.now.trees new.now.trees c are (every-filter d.IsRead (λ r. nat_lt n (d.key r)) (d.records c) old_rows.1)
              replaced.rows_are replaced.others uncommitted.tables;
        }

pub kept_clears : Clears kept kept_described DELETE_KEPT_UP_TO.now
unfolding understood everything
kept_clears = record { clears = refl; plain = (refl, refl) }

pub events_clears : Clears events events_described DELETE_EVENTS_UP_TO.now
unfolding understood everything
events_clears = record { clears = refl; plain = (refl, refl) }
