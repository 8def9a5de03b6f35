-- What the queries find: in the content of a book, and in a database, whatever that holds.
use Rattle.std.specs.Prelude.{◌≡◌, ℕ, Bool, ◌∷◌, [], List, Vec, map, take, filter, Option, Some, option_to_list, IsPermutation, Result}
use Rattle.std.specs.declared.alloc.Global.{Global}
use Rattle.sqlite_value.specs.Order.{Row, column}
use Rattle.sqlite_trees.specs.declared.store.Store.{Ghosts}
use Rattle.sqlite.specs.Effect.{Database}
use Rattle.sqlite.specs.Held.{Held}
use Rattle.sqlite.specs.declared.error.Error.{Error}
use Rattle.acd_terms.specs.declared.event.Event.{Event}
use Rattle.acd_terms.specs.declared.record.AgentRecord.{AgentRecord}
use Rattle.acd_terms.specs.declared.record.CallRecord.{CallRecord}
use Rattle.acd_terms.specs.declared.record.ConnectionRecord.{ConnectionRecord}
use Rattle.acd_terms.specs.declared.record.GroupRecord.{GroupRecord}
use Rattle.acd_terms.specs.declared.record.MonitorRecord.{MonitorRecord}
use Rattle.acd_terms.specs.declared.record.StationRecord.{StationRecord}
use Rattle.acd_terms.specs.declared.rows.Rows.{Rows}
use Rattle.acd_model.specs.Scans.{monitor_of}
use Rattle.acd_book.specs.Content.{Content, events_page, is_at_after, kept_under, records_page}
use Rattle.acd_sql_columns.specs.declared.meta.Meta.{Meta}
use Rattle.acd_sql_columns.specs.declared.relations.AgentRow.{AgentRow}
use Rattle.acd_sql_columns.specs.declared.relations.GroupRow.{GroupRow}
use Rattle.acd_sql_columns.specs.declared.relations.GroupPriority.{GroupPriority}
use Rattle.acd_sql_columns.specs.declared.tables.Log.{Log}
use Rattle.acd_sql_columns.specs.declared.tables.Table.{Table}
use Rattle.acd_sql_columns.specs.declared.tables.Table.TheVariants as table
use Rattle.acd_sql_columns.specs.AnyRows.{rows_in, is_beside, is_ranked, BeginsAsBook, Covers, FindsGood, FindsLow, IsPageRows}
use Rattle.acd_sql_columns.specs.Content.{tree_of}
use Rattle.acd_sql_columns.specs.Decoding.{as_agent, as_further, as_group}
use Rattle.acd_sql_columns.specs.Descriptions.{Description, the_text}
use Rattle.acd_sql_columns.specs.ReadResults.{joined_rows}
use Rattle.acd_sql_columns.specs.Relations.{agent_part, group_part, are_after, are_of_groups, further_in, meta_of, relations_of, groups_beside, after_first}
use Rattle.acd_sql_columns.specs.Rows.{connection_values, event_values, further_values, kept_values, meta_shown, monitor_values}
use Rattle.acd_sql_columns.specs.Schema.{BeginsSchema}
use Rattle.acd_sql_statements.specs.ReadsBetween.{HasReadCauseIn, IsBookSchema}
use Rattle.acd_sql_statements.specs.Looks.{Look, over, BeginsNine, HasGood, HasLookCauseIn, IsAnsweredOver}
use Rattle.acd_sql_statements.specs.ReadFailures.{HasTableValues, IsAnswered}

-- ---- of a content

-- the first events at a device above a number
abbrev pub events_page_at : ℕ → ℕ → ℕ → Content → List Event
events_page_at device number limit c = take limit (filter (is_at_after (Some device) number) c.events)

-- the running monitor of this number
abbrev pub monitor_at : ℕ → Content → Option MonitorRecord
monitor_at number c = monitor_of c.rows number

-- ---- the values of their rows

abbrev pub event_rows : ℕ → ℕ → Content → List Row
event_rows number limit c = map event_values (events_page number limit c)

abbrev pub event_rows_at : ℕ → ℕ → ℕ → Content → List Row
event_rows_at device number limit c = map event_values (events_page_at device number limit c)

abbrev pub kept_rows : ℕ → ℕ → Content → List Row
kept_rows stamp limit c = map kept_values (records_page stamp limit c)

abbrev pub found_kept_row : List ℕ → ℕ → Content → List Row
found_kept_row requester invoke c = map kept_values (option_to_list (kept_under requester invoke c))

abbrev pub found_monitor_row : ℕ → Content → List Row
found_monitor_row number c = map monitor_values (option_to_list (monitor_at number c))

abbrev pub connection_rows : Content → List Row
connection_rows c = map connection_values c.rows.connections

abbrev pub further_rows : Content → List Row
further_rows c = map further_values (further_in c.rows.agents)

abbrev pub meta_rows : Content → List Row
meta_rows c = meta_shown (meta_of c.rows) ∷ []

-- of the records that are described
abbrev pub described_rows : {R : Type 0} → Description R → Content → List Row
described_rows d c = map d.values (d.records (relations_of c))

-- ---- what is joined of several tables

-- the groups are those of the content, where the parts are
abbrev pub AreGroupsOf : List GroupRow → Content → Vec GroupRecord Global → Type 0
AreGroupsOf parts c groups = parts ≡ map group_part c.rows.groups → groups.items ≡ c.rows.groups

-- these are the parts of the agents of the content
abbrev pub AreAgentParts : List AgentRow → Content → Type 0
AreAgentParts parts c = parts ≡ map agent_part c.rows.agents

-- the agents are those of the content, where the parts are
abbrev pub AreAgentsOf : List AgentRow → Content → Vec AgentRecord Global → Type 0
AreAgentsOf parts c agents = AreAgentParts parts c → agents.items ≡ c.rows.agents

-- the groups of an agent: its first one, and those beside it
abbrev pub groups_joined : List (ℕ × ℕ) → AgentRow → List ℕ
groups_joined further part = after_first part.group (groups_beside further part.agent)

-- the groups, the stations and the agents of a content
abbrev pub Plan : Type 0
Plan = Vec GroupRecord Global × Vec StationRecord Global × Vec AgentRecord Global

-- they are those of this content
abbrev pub IsPlan : Content → Plan → Type 0
IsPlan c t = (t.0.items ≡ c.rows.groups) × (t.1.items ≡ c.rows.stations) × (t.2.items ≡ c.rows.agents)

-- its calls, its connections and its monitors
abbrev pub Traffic : Type 0
Traffic = Vec CallRecord Global × Vec ConnectionRecord Global × Vec MonitorRecord Global

-- they are those of this content
abbrev pub IsTraffic : Content → Traffic → Type 0
IsTraffic c t = (t.0.items ≡ c.rows.calls) × (t.1.items ≡ c.rows.connections) × (t.2.items ≡ c.rows.monitors)

-- the state of these
abbrev pub rows_joined : Meta → Plan → Traffic → Rows
rows_joined m plan traffic = joined_rows m plan.0.items plan.1.items plan.2.items traffic.0.items traffic.1.items traffic.2.items

-- ---- of any database

-- the rows of the table, in any order
abbrev pub table_rows : Table → Look (Vec Row Global)
table_rows t = over (λ s. Covers s t) (λ (d : Database) (rows : Vec Row Global). IsPermutation (rows_in t d.trees) rows.items)

-- the versions that the first table names
abbrev pub versions : Look (Vec Row Global)
versions = over BeginsAsBook (λ (d : Database) (rows : Vec Row Global). IsPermutation (map (λ r. column r 2 ∷ []) (d.trees (tree_of table.Meta))) rows.items)

-- a row whose number is below 1
abbrev pub low_rows : Log → Look (Vec Row Global)
low_rows log = over BeginsNine (λ (d : Database) (rows : Vec Row Global). FindsLow log d.trees rows.items)

-- the first rows above a number
abbrev pub page_rows : Log → ℕ → ℕ → Look (Vec Row Global)
page_rows log number limit = over BeginsNine (λ (d : Database) (rows : Vec Row Global). IsPageRows log number limit d.trees rows.items)

-- the further groups with their agents, in any order
abbrev pub pairs_there : Look (Vec (ℕ × ℕ) Global)
pairs_there = over IsBookSchema (λ (d : Database) (pairs : Vec (ℕ × ℕ) Global). IsPermutation (map as_further (rows_in table.AgentGroups d.trees)) pairs.items)

-- whether such pairs belong to the agents of the table, and priorities to the groups
abbrev pub pairs_of_agents : List (ℕ × ℕ) → Look Bool
pairs_of_agents pairs = over BeginsNine (λ (d : Database) (placed : Bool). placed ≡ are_after (map as_agent (rows_in table.Agents d.trees)) pairs)

abbrev pub priorities_of_groups : List GroupPriority → Look Bool
priorities_of_groups priorities = over BeginsNine (λ (d : Database) (placed : Bool). placed ≡ are_of_groups (map as_group (rows_in table.Groups d.trees)) priorities)

-- whether those of the tables do
abbrev pub placed_pairs : Look Bool
placed_pairs = over IsBookSchema (λ (d : Database) (placed : Bool). placed ≡ is_beside d.trees)

abbrev pub placed_priorities : Look Bool
placed_priorities = over IsBookSchema (λ (d : Database) (placed : Bool). placed ≡ is_ranked d.trees)

-- each value of what they are compared by is in its range
abbrev pub HasGoodPairs : Database → Type 0
HasGoodPairs = HasGood IsBookSchema (table.AgentGroups ∷ table.Agents ∷ [])

abbrev pub HasGoodPriorities : Database → Type 0
HasGoodPriorities = HasGood IsBookSchema (table.GroupPriority ∷ table.Groups ∷ [])

-- ---- of the table that is described

-- its rows, in any order
abbrev pub rows_there : {R : Type 0} → Description R → Look (Vec Row Global)
rows_there d = over (BeginsSchema d.base) (λ (x : Database) (rows : Vec Row Global). IsPermutation (rows_in d.table x.trees) rows.items)

-- its records
abbrev pub records_there : {R : Type 0} → Description R → Look (Vec R Global)
records_there {R} d = over (BeginsSchema d.base) (λ (x : Database) (found : Vec R Global). IsPermutation (rows_in d.table x.trees) (map d.values found.items))

-- whether each of its values is in its range
abbrev pub good_there : {R : Type 0} → Description R → Look Bool
good_there d = over (BeginsSchema d.base) (λ (x : Database) (good : Bool). FindsGood d.table x.trees good)

-- why the records of a content aren't read, where the store never refuses the query
abbrev pub HasRecordsCause : {S R A : Type 0} → Description R → Ghosts S → Held S → Held S → Result A Error → Type 0
HasRecordsCause d g old new result = IsAnswered (the_text d.select) [] → HasTableValues d → HasReadCauseIn g old new result

-- why a look at its rows fails, or one at its records, where the store never refuses the query
abbrev pub HasRowsLookCause : {S R A : Type 0} → Description R → Ghosts S → Held S → Held S → Result A Error → Type 0
HasRowsLookCause d g old new result = IsAnsweredOver d.base (the_text d.select) [] → HasLookCauseIn (HasGood (BeginsSchema d.base) []) g old new result

abbrev pub HasRecordsLookCause : {S R A : Type 0} → Description R → Ghosts S → Held S → Held S → Result A Error → Type 0
HasRecordsLookCause d g old new result = IsAnsweredOver d.base (the_text d.select) [] → HasLookCauseIn (HasGood (BeginsSchema d.base) (d.table ∷ [])) g old new result
