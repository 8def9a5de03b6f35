use Rattle.acd_sessions.proofs.Reopening.{left_opens}
use Rattle.acd_sessions.proofs.laws.left_opens.Goals as goal

pub returns : goal.returns
returns g c old image leaves numbered may = left_opens g.D.Disk g.E.Disk g.met.E.Disk.seen_may_stay old image leaves numbered may
