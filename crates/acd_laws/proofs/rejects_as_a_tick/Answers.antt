-- The law of a rejected call that rang too long.
use Rattle.acd_laws.proofs.Offers.RejectedOffer.{rejects_as_a_tick}
use Rattle.acd_laws.proofs.rejects_as_a_tick.Goals as goal

pub returns : goal.returns
returns c = rejects_as_a_tick
