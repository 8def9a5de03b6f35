-- The law that no agent has two distributed calls, by a step.
use Rattle.acd_laws.proofs.Rules.AllRuleTests.{rules_are_kept}
use Rattle.acd_laws.proofs.Offers.OneOffer.{step_keeps_one_offer}
use Rattle.acd_laws.proofs.step_keeps_one_offer.Goals as goal

pub returns : goal.returns
returns c = λ s moment command kept. step_keeps_one_offer s moment command (rules_are_kept s kept)
