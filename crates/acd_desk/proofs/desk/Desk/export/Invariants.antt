use Rattle.std.proofs.Common.{◌≡◌, ◌++◌, Ok, string_bytes}
use Rattle.acd_reports.specs.Export.{records_text, events_csv}
use Rattle.acd_desk.specs.Desks.DeskState.{state_of}
use Rattle.acd_desk.specs.Reads.DeskReads.{ReadDone}
use Rattle.acd_desk.specs.Reads.ReadAnswers.{Rise, above}
use Rattle.acd_desk.proofs.desk.Desk.export.Given as goal

abbrev pub invariant-loop : goal.invariant-loop
invariant-loop g l =
    ReadDone {A = Unit {0}} (state_of g.B.Book l.fn.self) (state_of g.B.Book l.self) (Ok tt)
    (λ c done. Rise 0 c.events → string_bytes l.export ++ records_text (above c.events l.after) ≡ events_csv c.events)
