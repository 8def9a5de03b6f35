use Rattle.acd_desk.proofs.Contents.OlderRecords.{goes_on, cut_again}
use Rattle.acd_desk_laws.proofs.CarriedRuns.{run_of_all, opens_alone}
use Rattle.acd_desk_laws.proofs.carried_goes_on.Goals as goal

pub returns : goal.returns
returns c = record { on = goes_on; all = run_of_all; again = cut_again; opens = opens_alone }
