use Rattle.std.proofs.Common.{◌≡◌, take}
use Rattle.acd_tables.proofs.tables.Tables.put_groups.Given as goal

abbrev pub invariant-loop-group : goal.invariant-loop-group
invariant-loop-group l = l.self ≡ record l.fn.self { groups = take l.group-index l.groups }
