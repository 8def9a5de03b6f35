-- The law of what a distribution is.
use Rattle.acd_laws.proofs.Rules.AllRuleTests.{within_read}
use Rattle.acd_laws.proofs.Offers.DistributionSteps.{finds_the_distribution}
use Rattle.acd_laws.proofs.finds_the_distribution.Goals as goal

pub returns : goal.returns
returns c = λ s m moves kept. finds_the_distribution s m moves (within_read s kept)
