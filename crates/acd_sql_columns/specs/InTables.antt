-- The content that the tables of a database represent, whatever their rows hold.
use Rattle.std.specs.Prelude.{ℕ, ◌==◌, if◌then◌else◌, List, [], ◌∷◌, drop, map}
use Rattle.std.specs.declared.cmp.Ordering.{Ordering}
use Rattle.sqlite_value.specs.Order.{Row, column}
use Rattle.sqlite_trees.specs.Tree.{Trees}
use Rattle.acd_terms.specs.Lists.{put_by}
use Rattle.acd_terms.specs.declared.rows.Rows.{Rows}
use Rattle.acd_terms.specs.declared.record.ConnectionRecord.{ConnectionRecord}
use Rattle.acd_model.specs.Rules.Plan.{connection_order}
use Rattle.acd_book.specs.Content.{Content}
use Rattle.acd_sql_columns.specs.declared.relations.GroupPriority.{GroupPriority}
use Rattle.acd_sql_columns.specs.Relations.{pair_order, joined_group, joined_agent}
use Rattle.acd_sql_columns.specs.Values.{number_or_zero}
use Rattle.acd_sql_columns.specs.declared.tables.Table.TheVariants as table
use Rattle.acd_sql_columns.specs.declared.meta.Meta.{Meta}
use Rattle.acd_sql_columns.specs.Content.{tree_of}
use Rattle.acd_sql_columns.specs.Decoding.{as_priority, as_further, as_group, as_station, as_agent, as_call, as_connection, as_monitor, as_event, as_kept, as_meta}

-- the number of the row is in the place of its key
abbrev pub unkeyed : Row → Row
unkeyed (key ∷ empty ∷ values) = key ∷ values
unkeyed row = row

abbrev pub records_in : {R : Type 0} → (Row → R) → List Row → List R
records_in read rows = map (λ row. read (unkeyed row)) rows

abbrev pub in_order : {R : Type 0} → (R → R → Ordering) → List R → List R
in_order order [] = []
in_order order (x ∷ xs) = put_by (order x) (in_order order xs) x

-- in the order of their keys
abbrev pub connections_in : List Row → List ConnectionRecord
connections_in rows = in_order connection_order (map (λ row. as_connection (drop 1 row)) rows)

-- the one row of the limits and the counters, after its key and the version
abbrev pub meta_stored : List Row → Meta
meta_stored [] = as_meta []
meta_stored (row ∷ rows) = as_meta (drop 2 (unkeyed row))

-- the version that the first table holds
abbrev pub version_in : List Row → ℕ
version_in [] = 0
version_in (first ∷ rows) = number_or_zero (column first 2)

-- version 1 has no further groups and no priorities
abbrev pub pairs_in : Trees → List (ℕ × ℕ)
pairs_in db =
    if version_in (db (tree_of table.Meta)) == 1 then []
    else in_order pair_order (map (λ row. as_further (drop 1 row)) (db (tree_of table.AgentGroups)))

abbrev pub ranks_in : Trees → List GroupPriority
ranks_in db = if version_in (db (tree_of table.Meta)) == 1 then [] else records_in as_priority (db (tree_of table.GroupPriority))

abbrev pub rows_from : Meta → Trees → Rows
rows_from m db = record {
  limits = m.limits;
  groups = map (joined_group (ranks_in db)) (records_in as_group (db (tree_of table.Groups)));
  stations = records_in as_station (db (tree_of table.Stations));
  agents = map (joined_agent (pairs_in db)) (records_in as_agent (db (tree_of table.Agents)));
  calls = records_in as_call (db (tree_of table.Calls));
  connections = connections_in (db (tree_of table.Connections));
  monitors = records_in as_monitor (db (tree_of table.Monitors));
  last_stamp = m.last_stamp;
  last_moment = m.last_moment;
  last_call = m.last_call;
  last_monitor = m.last_monitor;
  last_event = m.last_event;
}

-- the content that the tables of a database represent
unfoldable pub content_of : Trees → Content
content_of db = record {
  rows = rows_from (meta_stored (db (tree_of table.Meta))) db;
  events = records_in as_event (db (tree_of table.Events));
  kept = records_in as_kept (db (tree_of table.Kept));
}
