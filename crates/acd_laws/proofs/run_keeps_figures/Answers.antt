-- The law of figures, after every run.
use Rattle.acd_laws.proofs.Figures.FigureCounts.{run_keeps_figures}
use Rattle.acd_laws.proofs.run_keeps_figures.Goals as goal

pub returns : goal.returns
returns c = run_keeps_figures
