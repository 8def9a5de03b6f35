use Rattle.acd_desk.proofs.Contents.Runs.{after_firsts}
use Rattle.acd_desk_laws.proofs.one_more_arrival.Goals as goal

pub returns : goal.returns
returns c = after_firsts
