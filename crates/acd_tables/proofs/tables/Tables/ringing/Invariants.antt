use Rattle.std.proofs.Common.{◌≡◌, ◌++◌}
use Rattle.std.specs.Prelude.{filter}
use Rattle.std.specs.List.{filter_map}
use Rattle.acd_model.specs.Scans.{connection_of}
use Rattle.acd_tables.specs.IndexedRows.{is_ringing}
use Rattle.acd_tables.specs.Uses.{if_passes}
use Rattle.acd_tables.proofs.tables.Tables.ringing.Given as goal

abbrev pub invariant-loop-key : goal.invariant-loop-key
invariant-loop-key l = l.ringing.items ++ filter_map (λ p. if_passes is_ringing (connection_of l.self p.0 p.1)) l.key-iterator ≡ filter is_ringing l.self.connections
