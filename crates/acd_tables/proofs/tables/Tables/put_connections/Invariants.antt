use Rattle.std.proofs.Common.{◌≡◌, take}
use Rattle.acd_tables.proofs.tables.Tables.put_connections.Given as goal

abbrev pub invariant-loop-connection : goal.invariant-loop-connection
invariant-loop-connection l = l.self ≡ record l.fn.self { connections = take l.connection-index l.connections }
