-- The statements that put connections and take them out, and the query of all of them.
use Rattle.std.proofs.Common.{◌≡◌, ◌==◌, ◌&&◌, ℕ, [], ◌∷◌, List, map, not, true, Ok, Err, Result, OnOk, refl, sym, subst}
use Rattle.std.specs.List.{AllByRecursion}
use Rattle.sqlite_value.specs.Order.{Row}
use Rattle.sqlite_trees.specs.Tree.{Trees}
use Rattle.sqlite_schema.specs.declared.schema.Constraint.TheVariants.{Unique}
use Rattle.sqlite_schema.specs.Rules.{Keeps}
use Rattle.sqlite.specs.declared.error.Error.{Error}
use Rattle.sqlite.specs.Listing.{understood}
use Rattle.sqlite.specs.State.{State, Executes, Shown}
use Rattle.sqlite.proofs.Callers.{IsPlain}
use Rattle.sqlite_tied.specs.Compute.{everything}
use Rattle.acd_terms.specs.Lists.{put_by, remove_by}
use Rattle.acd_terms.specs.declared.record.ConnectionRecord.{ConnectionRecord}
use Rattle.acd_model.specs.Scans.{at_connection}
use Rattle.acd_lemmas.proofs.KeyedLists.{others_left}
use Rattle.acd_lemmas.proofs.State.{by_connection}
use Rattle.acd_book.specs.Content.{Content}
use Rattle.acd_sql_columns.specs.declared.tables.Table.TheVariants as table
use Rattle.acd_sql_columns.specs.declared.tables.Version.{Version}
use Rattle.acd_sql_columns.specs.declared.tables.Version.TheVariants as version
use Rattle.acd_sql_columns.specs.declared.texts.TheConstants.{INSERT_CONNECTION, UPDATE_CONNECTION, DELETE_CONNECTION, SELECT_CONNECTIONS}
use Rattle.acd_sql_columns.specs.AnyRows.{schema_of}
use Rattle.acd_sql_columns.specs.Content.{with_part}
use Rattle.acd_sql_columns.specs.Transactions.{HoldsUncommitted, HoldsContent}
use Rattle.acd_sql_columns.specs.Relations.{Relations}
use Rattle.acd_sql_columns.specs.Rows.{connection_fields, connection_values}
use Rattle.acd_sql_columns.specs.Schema.{tables_1, added_in_2, book_schema}
use Rattle.acd_sql_columns.specs.Schema as schema
use Rattle.acd_sql_columns.specs.Tables.{connections}
use Rattle.acd_sql_columns.specs.Values.{id_value}
use Rattle.acd_sql_columns.proofs.Writes.Common.{ChangesEach}
use Rattle.acd_sql_columns.proofs.Rows.FieldLaws.{casts_all}
use Rattle.acd_sql_columns.proofs.Writes.Frames.{framed}
use Rattle.acd_sql_columns.proofs.FileTables.CompositeKeyed.{Heaped, UpdatesOne, DeletesThose, SelectsAll, by_two, has_twin, inserted_in, updated_in, unchanged_in, deleted_in, of_two, listing, shows_all}
use Rattle.acd_sql_columns.proofs.OneTable.Listings.{Listing, held_begins}
use Rattle.acd_sql_columns.proofs.Rows.Records.{connection_stored}

connections_alone : (v : Version) (db : Trees) → Keeps Unique (schema_of v) db
    → AllByRecursion (λ row. (not (has_twin (db schema.connections_layout.tree) row) && true) ≡ true) (db schema.connections_layout.tree)
connections_alone version.First db keeps = keeps.1.1.1.1.1.0
connections_alone version.Second db keeps = keeps.1.1.1.1.1.0

pub connections_heaped : Heaped connections
unfolding understood everything
connections_heaped = record {
  computes = refl;
  plain = (refl, refl);
  of_record = λ x. refl;
  shows = λ id x. refl;
  of_row = λ row. refl;
  casts = λ x. casts_all schema.connections_layout.columns connection_fields x refl;
  stored = connection_stored;
  alone = λ v there db keeps. connections_alone v db keeps;
  held = λ c db encodes. encodes table.Connections;
  framed = λ rs rows old new c are. framed table.Connections rs rows old new c are;
  unchanged = λ c. refl;
}

connections_updates : UpdatesOne connections UPDATE_CONNECTION.now
unfolding understood everything
connections_updates = record { updates = refl; plain = (refl, refl); changes = λ id new x. refl }

connections_deletes : DeletesThose connections DELETE_CONNECTION.now by_two
unfolding understood everything
connections_deletes = record { deletes = refl; plain = (refl, refl) }

pub connections_selects : SelectsAll connections tables_1 SELECT_CONNECTIONS.now
unfolding understood everything
connections_selects = record { selects = λ rest s. refl; plain = λ rest s. (refl, refl); unlisted = λ rest s. refl }

-- ---- the statements

pub inserts_connection : (x : ConnectionRecord) (c : Relations) (old new : State) (count : ℕ) → HoldsUncommitted old c
    → Executes INSERT_CONNECTION.now (connection_values x) old new (Ok count)
    → HoldsUncommitted new (with_part table.Connections (put_by (at_connection x.call x.device) c.connections x) c)
inserts_connection x c old new count d ran = inserted_in connections connections_heaped tt x c old new count d ran

pub sets_connection : (x : ConnectionRecord) (c : Relations) (old new : State) (count : ℕ) → HoldsUncommitted old c
    → Executes UPDATE_CONNECTION.now (connection_values x) old new (Ok count) → (count ≡ 0 → ⊥)
    → HoldsUncommitted new (with_part table.Connections (put_by (at_connection x.call x.device) c.connections x) c)
sets_connection x c old new count d ran some = updated_in connections connections_heaped UPDATE_CONNECTION.now connections_updates x c old new count d ran some

-- where the UPDATE changed no row, an INSERT after it makes what it would make of the rows before
pub after_none : (x : ConnectionRecord) (change : Relations → Relations) (old mid new : State) (none : ℕ) (result : Result (Unit {0}) Error)
    → Executes UPDATE_CONNECTION.now (connection_values x) old mid (Ok none) → none ≡ 0
    → OnOk result (ChangesEach change mid new) → OnOk result (ChangesEach (λ c. change (with_part table.Connections c.connections c)) old new)
after_none x change old mid late none (Err e) ran missed put = tt
after_none x change old mid late none (Ok done) ran missed put = λ (c : Relations) (d : HoldsUncommitted old c).
    put (with_part table.Connections c.connections c)
    (unchanged_in connections connections_heaped UPDATE_CONNECTION.now connections_updates x c old mid none d ran missed)

pub drops_connection : (call device : ℕ) (c : Relations) (old new : State) (count : ℕ) → HoldsUncommitted old c
    → Executes DELETE_CONNECTION.now (id_value call ∷ id_value device ∷ []) old new (Ok count)
    → HoldsUncommitted new (with_part table.Connections (remove_by (at_connection call device) c.connections) c)
drops_connection call device c old new count d ran =
    subst (λ (xs : List ConnectionRecord). HoldsUncommitted new (with_part table.Connections xs c))
    (sym (others_left by_connection c.connections (d.tables table.Connections).ascending (call, device)))
    (deleted_in connections connections_heaped DELETE_CONNECTION.now by_two connections_deletes (id_value call ∷ id_value device ∷ [])
    (λ (x : ConnectionRecord). (x.call == call) && (x.device == device))
    (of_two connections connections_heaped call device []) c old new count d ran)

-- ---- the query

unfoldable pub connections_listing : Listing tables_1 SELECT_CONNECTIONS.now
connections_listing = listing connections connections_heaped SELECT_CONNECTIONS.now connections_selects

pub connections_plain : IsPlain (understood book_schema SELECT_CONNECTIONS.now)
connections_plain = connections_selects.plain added_in_2 book_schema

pub shows_connections : (old new : State) (rows : List Row) (c : Content) → HoldsContent old c → Shown SELECT_CONNECTIONS.now [] old new rows
    → rows ≡ map connection_values c.rows.connections
shows_connections old new rows c held shown =
    shows_all connections connections_heaped SELECT_CONNECTIONS.now connections_selects old new rows c held (held_begins old c held) shown
