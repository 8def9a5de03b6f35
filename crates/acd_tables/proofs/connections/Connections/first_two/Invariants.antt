use Rattle.std.proofs.Common.{◌≡◌, ◌++◌}
use Rattle.std.specs.List.{filter_map}
use Rattle.acd_model.proofs.OptionLists.{as_list}
use Rattle.acd_tables.specs.Near.{of_key}
use Rattle.acd_tables.proofs.connections.Connections.first_two.Given as goal

abbrev pub invariant-loop-key : goal.invariant-loop-key
invariant-loop-key l = as_list l.first ++ filter_map (of_key l.self l.call) l.key-iterator ≡ filter_map (of_key l.self l.call) l.fn.keys
