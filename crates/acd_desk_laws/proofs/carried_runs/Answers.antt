use Rattle.acd_desk_laws.proofs.CarriedRuns.{runs_together}
use Rattle.acd_desk_laws.proofs.carried_runs.Goals as goal

pub returns : goal.returns
returns g c = runs_together g.B.Book
