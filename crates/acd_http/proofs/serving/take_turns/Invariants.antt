use Rattle.std.specs.Prelude.{is_some}
use Rattle.std.specs.Option.{is_none}
use Rattle.acd_desk.specs.Desks.DeskCalls.{state_of}
use Rattle.acd_io.specs.SentBytes.{WasSent}
use Rattle.acd_http.specs.Turns.{TurnsTaken}
use Rattle.acd_http.proofs.serving.take_turns.Given as goal

abbrev pub invariant-loop-before : goal.invariant-loop-before
invariant-loop-before g l =
    TurnsTaken (state_of g.B.Book) (is_some l.fn.span.step) (is_none l.fn.span.connections) l.before l.fn.desk l.desk
    (WasSent l.watch.printed (g.E.Write.contents l.fn.errors) (g.E.Write.contents l.errors))
