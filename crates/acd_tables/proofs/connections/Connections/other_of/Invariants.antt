use Rattle.std.proofs.Common.{◌≡◌}
use Rattle.std.specs.Prelude.{find, not, ◌==◌, ◌&&◌}
use Rattle.std.specs.List.{filter_map}
use Rattle.acd_tables.specs.Near.{of_key}
use Rattle.acd_tables.proofs.connections.Connections.other_of.Given as goal

abbrev pub invariant-loop-key : goal.invariant-loop-key
invariant-loop-key l =
    find (λ y. not (y.device == l.connection.device)) (filter_map (of_key l.self l.connection.call) l.key-iterator)
    ≡ find (λ y. y.call == l.connection.call && not (y.device == l.connection.device)) l.self
