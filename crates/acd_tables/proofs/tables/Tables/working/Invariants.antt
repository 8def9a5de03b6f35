use Rattle.std.proofs.Common.{◌≡◌, ◌++◌}
use Rattle.std.specs.Prelude.{filter}
use Rattle.std.specs.List.{filter_map}
use Rattle.acd_model.specs.Scans.{agent_of}
use Rattle.acd_tables.specs.IndexedRows.{is_working}
use Rattle.acd_tables.specs.Uses.{if_passes}
use Rattle.acd_tables.proofs.tables.Tables.working.Given as goal

abbrev pub invariant-loop-number : goal.invariant-loop-number
invariant-loop-number l = l.working.items ++ filter_map (λ n. if_passes is_working (agent_of l.self n)) l.number-iterator ≡ filter is_working l.self.agents
