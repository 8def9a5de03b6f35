-- Why a part of a commit isn't written, inside a transaction that saw the relations of a book.
use Rattle.std.specs.Prelude.{◌≡◌, ◌⊎◌, ℕ, ◌<◌, ◌==◌, ◌&&◌, ◌∷◌, [], List, filter, get_or, length, map, not, take, Option, Result, IfErr}
use Rattle.sqlite_value.specs.Order.{Row}
use Rattle.sqlite.specs.declared.error.Error.{Error}
use Rattle.sqlite.specs.Effect.{Database}
use Rattle.sqlite.specs.State.{State, HasCleanDisk}
use Rattle.acd_terms.specs.declared.record.AgentRecord.{AgentRecord}
use Rattle.acd_terms.specs.declared.record.ConnectionRecord.{ConnectionRecord}
use Rattle.acd_terms.specs.declared.record.GroupRecord.{GroupRecord}
use Rattle.acd_terms.specs.Groups.{further_groups}
use Rattle.acd_sql_columns.specs.Content.{AreTables, with_part}
use Rattle.acd_sql_columns.specs.Descriptions.{Description}
use Rattle.acd_sql_columns.specs.Transactions.{HoldsUncommitted}
use Rattle.acd_sql_columns.specs.Relations.{Relations, all_put, agent_part, group_part, priority_part}
use Rattle.acd_sql_columns.specs.Rows.{connection_values, further_values}
use Rattle.acd_sql_columns.specs.Schema.{book_schema}
use Rattle.acd_sql_columns.specs.Tables.{agents, group_priority, groups}
use Rattle.acd_sql_columns.specs.Values.{id_value}
use Rattle.acd_sql_columns.specs.declared.tables.Table.TheVariants as table
use Rattle.acd_sql_columns.specs.declared.texts.TheConstants.{DELETE_AGENT_GROUPS, DELETE_GROUP_PRIORITY, INSERT_AGENT_GROUP, INSERT_CONNECTION, UPDATE_AGENT, UPDATE_CONNECTION, UPDATE_GROUP, UPDATE_GROUP_PRIORITY}
use Rattle.acd_sql_statements.specs.StoreFailures.{IsMemory, StoreHasFailed, Refuses}
use Rattle.acd_sql_statements.specs.StatementEffects.{with_put}

-- with this limit of steps, the store refuses to write by this text on tables of a book that hold these relations
pub record RefusesOn (sql : List ℕ) (params : Row) (limit : Option ℕ) (r : Relations) : Type 0 where
  pub database : Database
  pub schema : database.schema ≡ book_schema
  pub tables : AreTables database.trees r
  pub refuses : Refuses limit database sql params

-- the further groups of an agent removed
abbrev pub without_further : ℕ → Relations → Relations
without_further agent r = with_part table.AgentGroups (filter (λ (p : ℕ × ℕ). not (p.0 == agent)) r.further) r

-- further groups of an agent put in
abbrev pub with_further_groups : ℕ → List ℕ → Relations → Relations
with_further_groups agent gs r = with_part table.AgentGroups (all_put (map (λ (g : ℕ). (agent, g)) gs) r.further) r

-- no record has its key
abbrev pub HasNoRecord : {R : Type 0} → Description R → R → Relations → Type 0
HasNoRecord d x r = filter (λ y. d.key y == d.key x) (d.records r) ≡ []

-- it refuses to change the row of the record or, where there is none, to insert one
abbrev pub RefusesPut : {R : Type 0} → Description R → List ℕ → R → Option ℕ → Relations → Type 0
RefusesPut d update x limit r = RefusesOn update (d.values x) limit r ⊎ (HasNoRecord d x r × RefusesOn d.insert (d.values x) limit r)

-- no connection is of its call at its device
abbrev pub HasNoConnection : ConnectionRecord → Relations → Type 0
HasNoConnection x r = filter (λ (y : ConnectionRecord). (y.call == x.call) && (y.device == x.device)) r.connections ≡ []

abbrev pub RefusesPutConnection : ConnectionRecord → Option ℕ → Relations → Type 0
RefusesPutConnection x limit r =
    RefusesOn UPDATE_CONNECTION.now (connection_values x) limit r
    ⊎ (HasNoConnection x r × RefusesOn INSERT_CONNECTION.now (connection_values x) limit r)

-- it refuses the priority of a group: to take its row out, or to put one
abbrev pub RefusesPriority : GroupRecord → Option ℕ → Relations → Type 0
RefusesPriority g limit r =
    RefusesOn DELETE_GROUP_PRIORITY.now (id_value g.device ∷ []) limit r ⊎ RefusesPut group_priority UPDATE_GROUP_PRIORITY.now (priority_part g) limit r

-- a group, or its priority after it
abbrev pub RefusesGroup : GroupRecord → Option ℕ → Relations → Type 0
RefusesGroup g limit r = RefusesPut groups UPDATE_GROUP.now (group_part g) limit r ⊎ RefusesPriority g limit (with_put groups (group_part g) r)

-- one of an agent's further groups, after those before it
abbrev pub RefusesFurther : ℕ → List ℕ → Option ℕ → Relations → Type 0
RefusesFurther agent gs limit r =
    (i : ℕ) × (i < length gs) × RefusesOn INSERT_AGENT_GROUP.now (further_values (agent, get_or gs i 0)) limit (with_further_groups agent (take i gs) r)

-- an agent, its further groups that are removed after it, or those that are put after that
abbrev pub RefusesAgent : AgentRecord → Option ℕ → Relations → Type 0
RefusesAgent a limit r =
    RefusesPut agents UPDATE_AGENT.now (agent_part a) limit r
    ⊎ (RefusesOn DELETE_AGENT_GROUPS.now (id_value a.agent ∷ []) limit (with_put agents (agent_part a) r)
    ⊎ RefusesFurther a.agent (further_groups a.groups) limit (without_further a.agent (with_put agents (agent_part a) r)))

-- why it fails, where `R limit r` says what of it is refused
abbrev pub FailsToLeave : (Option ℕ → Relations → Type 0) → Relations → State → State → Error → Type 0
FailsToLeave R r old new e = IsMemory e ⊎ (StoreHasFailed old new ⊎ R old.step_limit r)

-- it fails by this alone
abbrev pub HasWriteCause : {A : Type 0} → (Option ℕ → Relations → Type 0) → State → State → Result A Error → Type 0
HasWriteCause R old new result = HasCleanDisk new → (r : Relations) → HoldsUncommitted old r → IfErr result (FailsToLeave R r old new)
