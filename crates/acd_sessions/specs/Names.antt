-- Names that fault lines print.
use Rattle.std.specs.Prelude.{ℕ, List, codes}
use Rattle.acd_sql_columns.specs.declared.tables.Table.{Table}
use Rattle.acd_sql_columns.specs.declared.tables.Table.TheVariants as table
use Rattle.acd_terms.specs.declared.rows.Rule.{Rule}
use Rattle.acd_terms.specs.declared.rows.Rule.TheVariants as rule

-- of a table, as it is in the file
abbrev pub table_name : Table → List ℕ
table_name table.Meta = codes "meta"
table_name table.Groups = codes "acd_groups"
table_name table.Stations = codes "stations"
table_name table.Agents = codes "agents"
table_name table.Calls = codes "calls"
table_name table.Connections = codes "connections"
table_name table.Monitors = codes "monitors"
table_name table.Events = codes "events"
table_name table.Kept = codes "kept"
table_name table.AgentGroups = codes "agent_groups"
table_name table.GroupPriority = codes "group_priority"

-- of a rule, its first word
abbrev pub rule_name : Rule → List ℕ
rule_name rule.Limits = codes "limits"
rule_name rule.Order = codes "order"
rule_name rule.Device = codes "device"
rule_name rule.Agent = codes "agent"
rule_name rule.Call = codes "call"
rule_name rule.Connection = codes "connection"
rule_name rule.Parties = codes "parties"
rule_name rule.Live = codes "live"
rule_name rule.Occupied = codes "occupied"
rule_name rule.Counters = codes "counters"
rule_name rule.Offer = codes "offer"
rule_name rule.Monitor = codes "monitor"
rule_name rule.Balance = codes "balance"
