use Rattle.std.proofs.Common.{◌≡◌, ◌++◌, map, drop}
use Rattle.acd_desk.specs.Reads.ReadAnswers.{live_call}
use Rattle.acd_desk.proofs.table_reads.live_calls.Given as goal

abbrev pub invariant-loop-call : goal.invariant-loop-call
invariant-loop-call l = l.live.items ++ map (live_call l.tables) (drop l.call-index l.calls) ≡ map (live_call l.tables) l.calls
