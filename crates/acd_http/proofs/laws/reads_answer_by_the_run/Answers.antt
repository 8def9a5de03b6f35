use Rattle.acd_desk.specs.Desks.DeskState.{state_of}
use Rattle.acd_http.proofs.LineReads.{lines_lead_to_the_run, reads_answer_by_the_content, reads_answer_by_the_run}
use Rattle.acd_http.proofs.laws.reads_answer_by_the_run.Goals as goal

pub returns-clause-run : goal.returns-clause-run
returns-clause-run g c = lines_lead_to_the_run (state_of g.B.Book) (λ (d : _). g.met.B.Book.settled d.book)

pub returns-clause-content : goal.returns-clause-content
returns-clause-content g c = reads_answer_by_the_content (state_of g.B.Book) (λ (d : _). g.met.B.Book.settled d.book)

pub returns-clause-reads : goal.returns-clause-reads
returns-clause-reads g c = reads_answer_by_the_run (state_of g.B.Book) (λ (d : _). g.met.B.Book.settled d.book)
