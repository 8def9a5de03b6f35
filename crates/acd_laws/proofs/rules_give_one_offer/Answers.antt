-- The law that no agent has two distributed calls, where the rules are kept.
use Rattle.acd_laws.proofs.Rules.AllRuleTests.{rules_are_kept}
use Rattle.acd_laws.proofs.Offers.OneOffer.{rules_give_one_offer}
use Rattle.acd_laws.proofs.rules_give_one_offer.Goals as goal

pub returns : goal.returns
returns c = λ s kept. rules_give_one_offer s (rules_are_kept s kept)
