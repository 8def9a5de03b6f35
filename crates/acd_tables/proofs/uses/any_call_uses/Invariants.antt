use Rattle.std.proofs.Common.{◌≡◌}
use Rattle.std.specs.Prelude.{not, ◌&&◌}
use Rattle.std.specs.List.{list_any}
use Rattle.acd_model.specs.Scans.{connection_of, has}
use Rattle.acd_tables.specs.Uses.{uses, is_there_and}
use Rattle.acd_tables.proofs.uses.any_call_uses.Given as goal

abbrev pub invariant-loop-key : goal.invariant-loop-key
invariant-loop-key l =
    list_any (λ k. not (has l.but k.1) && is_there_and (uses l.kind) (connection_of l.records k.1 l.device)) l.key-iterator
    ≡ list_any (λ k. not (has l.but k.1) && is_there_and (uses l.kind) (connection_of l.records k.1 l.device)) l.fn.lines
