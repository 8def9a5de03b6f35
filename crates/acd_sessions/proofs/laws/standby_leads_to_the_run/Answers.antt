use Rattle.acd_desk.specs.Desks.DeskState.{state_of}
use Rattle.acd_sessions.proofs.StandbyRuns.{standby_leads}
use Rattle.acd_sessions.proofs.laws.standby_leads_to_the_run.Goals as goal

pub returns : goal.returns
returns g c = standby_leads (state_of g.B.Book) (λ (d : _). g.met.B.Book.settled d.book) c.reads_answer_by_the_run.ensures.run
