-- The statements that put the further groups of agents and take them out, and the query of all of them.
use Rattle.std.proofs.Common.{◌≡◌, ◌==◌, ◌&&◌, ◌++◌, ℕ, [], ◌∷◌, List, filter, map, not, true, Ok, refl}
use Rattle.std.specs.List.{AllByRecursion}
use Rattle.sqlite_value.specs.Order.{Row}
use Rattle.sqlite_trees.specs.Tree.{Trees}
use Rattle.sqlite_schema.specs.declared.schema.Constraint.TheVariants.{Unique}
use Rattle.sqlite_schema.specs.Rules.{Keeps}
use Rattle.sqlite.specs.Listing.{understood}
use Rattle.sqlite.specs.State.{State, Executes, Shown}
use Rattle.sqlite.proofs.Callers.{IsPlain}
use Rattle.sqlite_tied.specs.Compute.{everything}
use Rattle.acd_terms.specs.Lists.{put_by}
use Rattle.acd_book.specs.Content.{Content}
use Rattle.acd_sql_columns.specs.declared.tables.Table.TheVariants as table
use Rattle.acd_sql_columns.specs.declared.tables.Version.{Version}
use Rattle.acd_sql_columns.specs.declared.tables.Version.TheVariants as version
use Rattle.acd_sql_columns.specs.declared.texts.TheConstants.{INSERT_AGENT_GROUP, DELETE_AGENT_GROUPS, SELECT_AGENT_GROUPS}
use Rattle.acd_sql_columns.specs.AnyRows.{schema_of}
use Rattle.acd_sql_columns.specs.Content.{IsIn, with_part}
use Rattle.acd_sql_columns.specs.Transactions.{HoldsUncommitted, HoldsContent}
use Rattle.acd_sql_columns.specs.Relations.{pair_order, Relations, relations_of}
use Rattle.acd_sql_columns.specs.Rows.{further_values}
use Rattle.acd_sql_columns.specs.Schema.{book_schema, tables_1, added_in_2}
use Rattle.acd_sql_columns.specs.Schema as schema
use Rattle.acd_sql_columns.specs.Tables.{agent_groups}
use Rattle.acd_sql_columns.specs.Values.{id_value}
use Rattle.acd_sql_columns.proofs.Writes.Common.{cast_id}
use Rattle.acd_sql_columns.proofs.Writes.Frames.{framed}
use Rattle.acd_sql_columns.proofs.FileTables.CompositeKeyed.{Heaped, DeletesThose, SelectsAll, by_one, has_twin, inserted_in, deleted_in, of_one, shows_all}
use Rattle.acd_sql_columns.proofs.Rows.Records.{further_stored}
use Rattle.acd_sql_columns.proofs.OneTable.Listings.{schema_is, whole_begins}

groups_alone : (v : Version) → IsIn v table.AgentGroups → (db : Trees) → Keeps Unique (schema_of v) db
    → AllByRecursion (λ row. (not (has_twin (db schema.agent_groups_layout.tree) row) && true) ≡ true) (db schema.agent_groups_layout.tree)
groups_alone version.First there db keeps = absurd there
groups_alone version.Second there db keeps = keeps.1.1.1.1.1.1.1.1.1.0

pub groups_heaped : Heaped agent_groups
unfolding understood everything
groups_heaped = record {
  computes = refl;
  plain = (refl, refl);
  of_record = λ p. refl;
  shows = λ id p. refl;
  of_row = λ row. refl;
  casts = λ p. rw (cast_id p.0, cast_id p.1) refl;
  stored = further_stored;
  alone = groups_alone;
  held = λ c db encodes. encodes table.AgentGroups;
  framed = λ rs rows old new c are. framed table.AgentGroups rs rows old new c are;
  unchanged = λ c. refl;
}

groups_deletes : DeletesThose agent_groups DELETE_AGENT_GROUPS.now by_one
unfolding understood everything
groups_deletes = record { deletes = refl; plain = (refl, refl) }

pub groups_selects : SelectsAll agent_groups (tables_1 ++ added_in_2) SELECT_AGENT_GROUPS.now
unfolding understood everything
groups_selects = record { selects = λ rest s. refl; plain = λ rest s. (refl, refl); unlisted = λ rest s. refl }

pub inserts_group : (p : ℕ × ℕ) (c : Relations) (old new : State) (count : ℕ) → HoldsUncommitted old c
    → Executes INSERT_AGENT_GROUP.now (further_values p) old new (Ok count)
    → HoldsUncommitted new (with_part table.AgentGroups (put_by (pair_order p) c.further p) c)
inserts_group p c old new count d ran = inserted_in agent_groups groups_heaped tt p c old new count d ran

-- all of an agent
pub drops_groups : (agent : ℕ) (c : Relations) (old new : State) (count : ℕ) → HoldsUncommitted old c
    → Executes DELETE_AGENT_GROUPS.now (id_value agent ∷ []) old new (Ok count)
    → HoldsUncommitted new (with_part table.AgentGroups (filter (λ (p : ℕ × ℕ). not (p.0 == agent)) c.further) c)
drops_groups agent c old new count d ran =
    deleted_in agent_groups groups_heaped DELETE_AGENT_GROUPS.now by_one groups_deletes (id_value agent ∷ []) (λ (p : ℕ × ℕ). p.0 == agent)
    (of_one agent_groups groups_heaped agent) c old new count d ran

pub shows_groups : (old new : State) (rows : List Row) (c : Content) → HoldsContent old c → Shown SELECT_AGENT_GROUPS.now [] old new rows
    → rows ≡ map further_values (relations_of c).further
shows_groups old new rows c held shown =
    shows_all agent_groups groups_heaped SELECT_AGENT_GROUPS.now groups_selects old new rows c held (whole_begins old.now.schema (schema_is old c held)) shown

pub groups_plain : IsPlain (understood book_schema SELECT_AGENT_GROUPS.now)
groups_plain = groups_selects.plain [] book_schema
