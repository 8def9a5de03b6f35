use Rattle.acd_desk.proofs.Archives.NewerRuns.{led_holds}
use Rattle.acd_desk.proofs.Archives.Pruning.{prune_loses_nothing}
use Rattle.acd_desk_laws.proofs.CarriedRuns.{prune_carries_further}
use Rattle.acd_desk_laws.proofs.pruned_is_carried.Goals as goal

pub returns : goal.returns
returns c = record { holds = led_holds; gone = prune_loses_nothing; further = prune_carries_further }
