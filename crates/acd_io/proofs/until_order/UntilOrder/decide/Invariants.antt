use Rattle.std.specs.Io.KnownBytes.{Keeps}
use Rattle.acd_io.specs.RestOfInput.{input_left, reads_left}
use Rattle.acd_io.proofs.until_order.UntilOrder.decide.Given as goal

abbrev pub invariant-loop-self : goal.invariant-loop-self
invariant-loop-self g l = Keeps (input_left g.R.Read.remaining l.fn.self) (input_left g.R.Read.remaining l.self)

abbrev pub decreases-loop-self : goal.decreases-loop-self
decreases-loop-self g l = reads_left l.self
