use Rattle.acd_sessions.proofs.Reopening.{closed_opens}
use Rattle.acd_sessions.proofs.laws.closed_opens.Goals as goal

pub returns : goal.returns
returns g c old files image leaves copied may = closed_opens g.D.Disk g.E.Disk old files image leaves copied may
