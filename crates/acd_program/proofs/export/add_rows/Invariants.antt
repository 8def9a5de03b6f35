use Rattle.std.proofs.Common.{◌≡◌, ◌++◌, Ok, string_bytes}
use Rattle.acd_book.specs.Content.{Content}
use Rattle.acd_reports.specs.Export.{records_text}
use Rattle.acd_book.specs.BookReads.{ReadsIfOpen}
use Rattle.acd_desk.specs.Reads.ReadAnswers.{Rise, above}
use Rattle.acd_program.proofs.export.add_rows.Given as goal

abbrev pub invariant-loop : goal.invariant-loop
invariant-loop g l =
    ReadsIfOpen {A = Unit {0}} (g.B.Book.state l.fn.book) (g.B.Book.state l.book) (Ok tt)
    (λ (c : Content) (done : Unit {0}). Rise 0 c.events → string_bytes l.text ++ records_text (above c.events l.above) ≡ string_bytes l.fn.text ++ records_text (above c.events l.fn.after))
