use Rattle.acd_sessions.proofs.LinesOver.{lines_are_sessions}
use Rattle.acd_sessions.proofs.laws.lines_are_sessions.Goals as goal

pub returns : goal.returns
returns g c = lines_are_sessions g.S.Store g.R.Read.remaining g.W.Write.contents c.requests_run.ensures
