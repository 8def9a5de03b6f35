-- The statements inside a transaction that saw the relations of a book: what each makes of them, and what of it the store refuses.
use Rattle.std.specs.Prelude.{ℕ, ◌∷◌, [], List}
use Rattle.acd_terms.specs.Lists.{put_by}
use Rattle.acd_terms.specs.declared.record.AgentRecord.{AgentRecord}
use Rattle.acd_terms.specs.declared.record.ConnectionRecord.{ConnectionRecord}
use Rattle.acd_terms.specs.declared.record.GroupRecord.{GroupRecord}
use Rattle.acd_book.specs.declared.kept.Kept.{Kept}
use Rattle.acd_sql_columns.specs.declared.meta.Meta.{Meta}
use Rattle.acd_sql_columns.specs.declared.tables.Table.TheVariants as table
use Rattle.acd_sql_columns.specs.declared.texts.TheConstants.{DELETE_AGENT_GROUPS, DELETE_CONNECTION, INSERT_AGENT_GROUP, INSERT_CONNECTION, INSERT_KEPT, UPDATE_META}
use Rattle.acd_sql_columns.specs.Content.{with_part}
use Rattle.acd_sql_columns.specs.Descriptions.{Description, the_text}
use Rattle.acd_sql_columns.specs.Relations.{pair_order, with_agent_parts, with_group_parts, with_priority_of}
use Rattle.acd_sql_columns.specs.Rows.{connection_values, further_values, kept_values, meta_shown}
use Rattle.acd_sql_columns.specs.Values.{id_value}
use Rattle.acd_sql_statements.specs.WriteRefusals.{RefusesAgent, RefusesFurther, RefusesGroup, RefusesOn, RefusesPriority, RefusesPut, RefusesPutConnection, with_further_groups, without_further}
use Rattle.acd_sql_statements.specs.StatementEffects.{Writing, with_connection_row, with_kept_row, with_put, without, without_connection_row}

-- ---- of a record whose key is the number of its row

-- one that has no row
abbrev pub inserting : {R : Type 0} → Description R → R → Writing
inserting d x = record { change = with_put d x; Refused = RefusesOn d.insert (d.values x) }

-- in place of one that has a row
abbrev pub putting : {R : Type 0} → Description R → R → Writing
putting d x = record { change = with_put d x; Refused = RefusesPut d (the_text d.update) x }

-- the one that has the key, if any
abbrev pub removing : {R : Type 0} → Description R → ℕ → Writing
removing d key = record { change = without d key; Refused = RefusesOn (the_text d.delete) (id_value key ∷ []) }

-- ---- of groups and agents, each with its rows in another table

abbrev pub putting_priority : GroupRecord → Writing
putting_priority g = record { change = λ r. record r { priorities = with_priority_of g r.priorities }; Refused = RefusesPriority g }

abbrev pub putting_group : GroupRecord → Writing
putting_group g = record { change = with_group_parts g; Refused = RefusesGroup g }

-- one further group of an agent that has no row, several, and none any more
abbrev pub inserting_further : ℕ → ℕ → Writing
inserting_further agent group = record {
  change = λ r. with_part table.AgentGroups (put_by (pair_order (agent, group)) r.further (agent, group)) r;
  Refused = RefusesOn INSERT_AGENT_GROUP.now (further_values (agent, group));
}

abbrev pub inserting_all : ℕ → List ℕ → Writing
inserting_all agent groups = record { change = with_further_groups agent groups; Refused = RefusesFurther agent groups }

abbrev pub dropping_further : ℕ → Writing
dropping_further agent = record { change = without_further agent; Refused = RefusesOn DELETE_AGENT_GROUPS.now (id_value agent ∷ []) }

abbrev pub putting_agent : AgentRecord → Writing
putting_agent a = record { change = with_agent_parts a; Refused = RefusesAgent a }

-- ---- of the tables whose key isn't one number, of kept records and the counters

abbrev pub inserting_kept : Kept → Writing
inserting_kept k = record { change = with_kept_row k; Refused = RefusesOn INSERT_KEPT.now (kept_values k) }

abbrev pub setting_meta : Meta → Writing
setting_meta m = record { change = with_part table.Meta m; Refused = RefusesOn UPDATE_META.now (meta_shown m) }

abbrev pub putting_connection : ConnectionRecord → Writing
putting_connection x = record { change = with_connection_row x; Refused = RefusesPutConnection x }

abbrev pub inserting_connection : ConnectionRecord → Writing
inserting_connection x = record { change = with_connection_row x; Refused = RefusesOn INSERT_CONNECTION.now (connection_values x) }

abbrev pub dropping_connection : ℕ → ℕ → Writing
dropping_connection call device = record {
  change = without_connection_row call device;
  Refused = RefusesOn DELETE_CONNECTION.now (id_value call ∷ id_value device ∷ []);
}
