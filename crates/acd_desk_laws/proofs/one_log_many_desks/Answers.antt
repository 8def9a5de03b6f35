use Rattle.acd_desk_laws.proofs.Feeding.{again_adds_nothing, fed_holds_the_log, desks_agree}
use Rattle.acd_desk_laws.proofs.one_log_many_desks.Goals as goal

pub returns : goal.returns
returns c = record { again = again_adds_nothing; holds = fed_holds_the_log; agree = desks_agree }
