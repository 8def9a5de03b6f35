use Rattle.std.proofs.Common.{◌≡◌, ◌++◌}
use Rattle.std.specs.List.{filter_map}
use Rattle.acd_tables.specs.AtDevice.{line_at}
use Rattle.acd_tables.proofs.tables.Tables.connections_among.Given as goal

abbrev pub invariant-loop-key : goal.invariant-loop-key
invariant-loop-key l = l.found.items ++ filter_map (line_at l.self l.device) l.key-iterator ≡ filter_map (line_at l.self l.device) l.fn.lines
