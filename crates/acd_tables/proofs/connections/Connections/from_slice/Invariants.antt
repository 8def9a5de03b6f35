use Rattle.std.proofs.Common.{◌≡◌, take}
use Rattle.acd_tables.proofs.connections.Connections.from_slice.Given as goal

abbrev pub invariant-loop-connection : goal.invariant-loop-connection
invariant-loop-connection l = l.table ≡ take l.connection-index l.connections
