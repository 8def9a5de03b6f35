use Rattle.acd_desk.proofs.Contents.SoundRuns.{ran_kept}
use Rattle.acd_desk_laws.proofs.keeps_firsts.Goals as goal

pub returns : goal.returns
returns c = ran_kept
