use Rattle.std.specs.Io.KnownBytes.{Consumes}
use Rattle.acd_http.proofs.receive.read_head.Given as goal

abbrev pub invariant-loop-input : goal.invariant-loop-input
invariant-loop-input g l = Consumes (g.R.Read.remaining l.fn.reader) (g.R.Read.remaining l.reader) l.input

abbrev pub decreases-loop-input : goal.decreases-loop-input
decreases-loop-input g l = l.calls
