use Rattle.std.proofs.Common.{◌≡◌, ◌++◌}
use Rattle.std.specs.List.{filter_map}
use Rattle.acd_model.specs.Scans.{connection_of}
use Rattle.acd_desk.proofs.table_reads.waiting_in.Given as goal

abbrev pub invariant-loop-call : goal.invariant-loop-call
invariant-loop-call l =
    l.waiting.items ++ filter_map (λ p. connection_of l.tables p.1 l.group) l.call-iterator ≡ filter_map (λ p. connection_of l.tables p.1 l.group) l.queue.keys
