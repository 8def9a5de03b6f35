use Rattle.std.specs.Prelude.{is_some}
use Rattle.std.specs.Option.{is_none}
use Rattle.acd_desk.specs.Desks.DeskCalls.{state_of}
use Rattle.acd_lines.specs.Lines.{output}
use Rattle.acd_http.specs.Turns.{AddsLooks}
use Rattle.acd_http.proofs.serving.next_peer.Given as goal

abbrev pub invariant-loop : goal.invariant-loop
invariant-loop g l =
    AddsLooks (state_of g.B.Book) (is_some l.fn.span.step, is_none l.fn.span.connections) (l.fn.desk, l.desk) (l.fn.watch.printed, l.watch.printed)
    (output g.E.Write.contents l.fn.errors l.errors)
