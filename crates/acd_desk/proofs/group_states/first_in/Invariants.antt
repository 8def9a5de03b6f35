use Rattle.std.proofs.Common.{◌≡◌}
use Rattle.acd_desk.specs.Reads.GroupStates.{first_of, lesser_number}
use Rattle.acd_desk.proofs.group_states.first_in.Given as goal

abbrev pub invariant-loop-call : goal.invariant-loop-call
invariant-loop-call l = lesser_number l.first (first_of l.tables l.group l.call-iterator) ≡ first_of l.tables l.group l.queue.keys
