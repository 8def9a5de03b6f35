use Rattle.acd_desk_laws.proofs.Following.{snapshot_leads_on}
use Rattle.acd_desk_laws.proofs.snapshot_leads_on.Goals as goal

pub returns : goal.returns
returns c = snapshot_leads_on
