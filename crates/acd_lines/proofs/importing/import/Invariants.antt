use Rattle.std.proofs.Common.{take}
use Rattle.acd_desk.specs.Desks.DeskCalls.{state_of}
use Rattle.acd_lines.specs.Parts.{Imports}
use Rattle.acd_lines.proofs.importing.import.Given as goal

abbrev pub invariant-loop-request : goal.invariant-loop-request
invariant-loop-request g l =
    Imports (state_of g.B.Book) l.fn.desk (take l.request-index l.requests) l.desk (g.W.Write.contents l.fn.writer) (g.W.Write.contents l.writer) l.outbox.waiting.items
