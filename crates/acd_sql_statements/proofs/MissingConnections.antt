-- A connection that an UPDATE didn't find has no row.
use Rattle.std.proofs.Common.{◌≡◌, inl, ℕ, ◌==◌, ◌&&◌, List, [], ◌∷◌, length, map, filter, drop, Bool, true, Option, Ok, refl, sym, ap, subst, ◌∙◌, arith}
use Rattle.std.specs.List.{list_all}
use Rattle.std.proofs.lemmas.List.Sorted.{length_permutation}
use Rattle.sqlite_value.specs.Order.{Row}
use Rattle.sqlite_sql.specs.Term.{holds}
use Rattle.sqlite_schema.specs.declared.schema.Table.{Table as MadeTable}
use Rattle.sqlite_schema.specs.declared.command.Command.{Command}
use Rattle.sqlite_schema.specs.declared.command.Command.TheVariants.{Update}
use Rattle.sqlite_rules.specs.Lists.{Has}
use Rattle.sqlite_rules.proofs.ListLemmas.{has_kept}
use Rattle.sqlite_tied.specs.Compute.{everything}
use Rattle.sqlite.specs.Listing.{understood}
use Rattle.sqlite.specs.State.{State, Executes}
use Rattle.sqlite.proofs.Callers.{IsPlain, command_of}
use Rattle.acd_terms.specs.Lists.{Among}
use Rattle.acd_terms.specs.declared.record.ConnectionRecord.{ConnectionRecord}
use Rattle.acd_lemmas.proofs.Lists.{filter_among}
use Rattle.acd_sql_columns.specs.Descriptions.{after_both, numbered_row}
use Rattle.acd_sql_columns.specs.Transactions.{HoldsUncommitted}
use Rattle.acd_sql_columns.specs.Relations.{Relations}
use Rattle.acd_sql_columns.specs.Rows.{connection_values}
use Rattle.acd_sql_columns.specs.Schema.{book_schema}
use Rattle.acd_sql_columns.specs.Tables.{connections}
use Rattle.acd_sql_columns.specs.declared.texts.TheConstants.{UPDATE_CONNECTION}
use Rattle.acd_sql_columns.proofs.Writes.Common.{inert}
use Rattle.acd_sql_columns.proofs.FileTables.Connections.{connections_heaped}
use Rattle.acd_sql_columns.proofs.FileTables.CompositeKeyed.{by_two, columns_given, of_two}
use Rattle.acd_sql_columns.proofs.OneTable.Scans.{scan, showing, passing}
use Rattle.acd_sql_columns.proofs.Writes.Statements.{inert_works}
use Rattle.acd_sql_columns.proofs.Writes.Updates.{Updating, updated}
use Rattle.acd_sql_statements.specs.WriteRefusals.{HasNoConnection}

updates : command_of (understood book_schema UPDATE_CONNECTION.now) ≡ Update connections.place (record {
  lets = [];
  body = scan connections.layout.tree by_two (columns_given (after_both connections)) [];
})
unfolding understood everything
updates = refl

plain : IsPlain (understood book_schema UPDATE_CONNECTION.now)
unfolding understood everything
plain = (refl, refl)

abbrev updating : Updating book_schema UPDATE_CONNECTION.now
updating = record {
  at = connections.place;
  layout = connections.layout;
  terms = by_two;
  project = columns_given (after_both connections);
  place = ap (λ (t : Option MadeTable × ℕ × Command). t.0) connections_heaped.computes;
  command = updates;
  plain = plain;
  inert = inert_works book_schema inert connections.layout.tree;
}

none_shown : {X Y : Type 0} (f : X → Y) (xs : List X) → length (map f xs) ≡ 0 → xs ≡ []
none_shown f [] e = refl
none_shown f (x ∷ xs) e = absurd (omega (arith, e))

none_left : {X : Type 0} (p : X → Bool) (xs left : List X) → filter p xs ≡ left → ((x : X) → Among x xs → p x ≡ true → ⊥) → filter p xs ≡ []
none_left p xs [] is never = is
none_left p xs (x ∷ left) is never = absurd (let met = filter_among p xs x (subst (Among x) (sym is) (inl refl)) in never x met.0 met.1)

pub none_connected : (x : ConnectionRecord) (r : Relations) (old mid : State) (none : ℕ) → HoldsUncommitted old r
    → Executes UPDATE_CONNECTION.now (connection_values x) old mid (Ok none) → none ≡ 0 → HasNoConnection x r
none_connected x r old mid none uncommitted ran missed =
    let rows = old.now.trees connections.layout.tree in
    let passes : Row → Bool = λ (row : Row). list_all (holds (connection_values x ∷ row ∷ [])) by_two in
    let made = updated book_schema UPDATE_CONNECTION.now updating (connection_values x) old mid none uncommitted.schema ran in
    let shows = showing (connection_values x) (columns_given (after_both connections)) in
    let same = length_permutation (map shows (passing (connection_values x) by_two rows)) made.rows made.found in
    let empty : filter passes rows ≡ [] = none_shown shows (filter passes rows) (sym same ∙ (sym made.counted ∙ missed)) in
    let are = connections_heaped.held r old.now.trees uncommitted.tables in
    none_left (λ (y : ConnectionRecord). (y.call == x.call) && (y.device == x.device)) r.connections _ refl (λ y among met.
    let at = are.stored y among in
    let row = numbered_row connections at.0 y in
    let passed : passes row ≡ true = of_two connections connections_heaped x.call x.device (drop 2 (connection_values x)) at.0 y ∙ met in
    subst (λ l. Has l row) empty (has_kept passes rows row at.1 passed))
