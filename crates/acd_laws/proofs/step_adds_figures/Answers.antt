-- The law of figures that grow in a step.
use Rattle.acd_laws.proofs.Rules.AllRuleTests.{rules_are_kept}
use Rattle.acd_laws.proofs.Figures.FigureCounts.{step_adds_figures}
use Rattle.acd_laws.proofs.step_adds_figures.Goals as goal

pub returns : goal.returns
returns c = λ s moment command d g kept. step_adds_figures s moment command d g (rules_are_kept s kept)
