use Rattle.std.proofs.Common.{sym, ap, subst, ◌∙◌}
use Rattle.acd_terms.specs.declared.record.Figures.{Figures}
use Rattle.acd_terms.specs.declared.record.GroupRecord.{GroupRecord}
use Rattle.acd_model.specs.Figures.{sum_of_figures}
use Rattle.acd_switch.specs.FigureSums.{AreFitting}
use Rattle.acd_switch.proofs.RoomOfFigures.{figures_of_one}
use Rattle.acd_switch.proofs.figures.counting.Goals as goal

pub sum_of-figures-requires : goal.sum_of-figures-requires
sum_of-figures-requires c =
    subst (λ (f : Figures). AreFitting (sum_of_figures c.args.group.figures f)) (figures_of_one c.args.group.device c.args.event.now ∙ sym c.figures_by.ensures)
    c.requires

pub returns : goal.returns
returns c =
    ap (λ (f : Figures). let g : GroupRecord = record c.args.group { figures = f } in g)
    (c.sum_of-figures.ensures ∙ ap (sum_of_figures c.args.group.figures) (c.figures_by.ensures ∙ sym (figures_of_one c.args.group.device c.args.event.now)))
