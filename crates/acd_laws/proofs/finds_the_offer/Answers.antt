-- The law of the offer that is found.
use Rattle.acd_laws.proofs.Offers.FoundOffer.{finds_the_offer}
use Rattle.acd_laws.proofs.finds_the_offer.Goals as goal

pub returns : goal.returns
returns c = finds_the_offer
