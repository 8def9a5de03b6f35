-- The law of figures, by a step.
use Rattle.acd_laws.proofs.Rules.AllRuleTests.{rules_are_kept}
use Rattle.acd_laws.proofs.Figures.FigureCounts.{step_keeps_figures}
use Rattle.acd_laws.proofs.step_keeps_figures.Goals as goal

pub returns : goal.returns
returns c = λ s events moment command kept. step_keeps_figures s events moment command (rules_are_kept s kept)
