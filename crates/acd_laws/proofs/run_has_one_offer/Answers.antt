-- The law that no agent has two distributed calls, after every run.
use Rattle.acd_laws.proofs.Offers.OneOffer.{run_has_one_offer}
use Rattle.acd_laws.proofs.run_has_one_offer.Goals as goal

pub returns : goal.returns
returns c = run_has_one_offer
