use Rattle.std.proofs.Common.{◌≡◌}
use Rattle.std.specs.Prelude.{◌==◌}
use Rattle.std.specs.List.{list_any}
use Rattle.acd_tables.proofs.tables.Tables.is_calling.Given as goal

abbrev pub invariant-loop-c : goal.invariant-loop-c
invariant-loop-c l = list_any (λ c. c.caller == l.device) l.c-iterator ≡ list_any (λ c. c.caller == l.device) l.self.calls
