use Rattle.acd_sessions.proofs.Inputs.{lines_are_from_nothing}
use Rattle.acd_sessions.proofs.laws.lines_are_from_nothing.Goals as goal

pub returns : goal.returns
returns g c = lines_are_from_nothing g.R.Read.remaining g.W.Write.contents c.requests_run.ensures
