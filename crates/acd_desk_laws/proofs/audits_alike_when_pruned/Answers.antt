use Rattle.acd_desk.proofs.Archives.Pruning.{prune_stays_sound, prune_stays_led, prune_stays_sent_again}
use Rattle.acd_desk_laws.proofs.audits_alike_when_pruned.Goals as goal

pub returns : goal.returns
returns c = record { sound = prune_stays_sound; led = prune_stays_led; again = prune_stays_sent_again }
