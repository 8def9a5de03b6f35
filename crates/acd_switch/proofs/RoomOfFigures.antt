-- Figures that grow event by event have room, where all events together leave it.
use Rattle.std.proofs.Common.{◌≡◌, ℕ, List, [], ◌∷◌, Some, sym, ◌∙◌, subst, map, arith}
use Rattle.acd_terms.specs.Lists.{Every, Among, IsAscending}
use Rattle.acd_terms.specs.declared.rows.Rows.{Rows}
use Rattle.acd_terms.specs.declared.record.Figures.{Figures}
use Rattle.acd_terms.specs.declared.record.GroupRecord.{GroupRecord}
use Rattle.acd_terms.specs.declared.event.Event.{Event}
use Rattle.acd_model.specs.Scans.{at_group, group_of}
use Rattle.acd_model.specs.Changes.{changed_by, growth_by}
use Rattle.acd_model.specs.Figures.{figures_of, sum_of_figures, counting, with_figures}
use Rattle.acd_model.specs.Rules.Plan.{group_order}
use Rattle.acd_lemmas.proofs.Lists.{every_among, found_among}
use Rattle.acd_laws.proofs.StepChanges.ChangedRows.{one_grown, counting_more, counting_both}
use Rattle.acd_laws.proofs.Figures.EventCounts.{no_events, sum_nothing}
use Rattle.acd_switch.specs.FigureSums.{figures_by, AreFitting, AllFit, CountingFits}

-- the counts of one event
pub figures_of_one : (g : ℕ) (e : Event) → figures_of g (e ∷ []) ≡ figures_by g e.report
unfolding figures_of figures_by
figures_of_one g e = sum_nothing (figures_by g e.report) (figures_of g []) (no_events g)

-- a part of a sum that fits, fits
fitting_part : (a b : Figures) → AreFitting (sum_of_figures a b) → AreFitting a
fitting_part a b fit = record {
  entered = omega (arith, fit.entered);
  answered = omega (arith, fit.answered);
  abandoned = omega (arith, fit.abandoned);
  moved = omega (arith, fit.moved);
  waited = omega (arith, fit.waited);
}

first_fits : (e : Event) (es : List Event) (gs : List GroupRecord) → AllFit (map (counting (e ∷ es)) gs) → AllFit (map (counting (e ∷ [])) gs)
first_fits e es [] h = tt
first_fits e es (g ∷ gs) h = (
  fitting_part (counting (e ∷ []) g).figures (figures_of g.device es) (subst (λ (x : GroupRecord). AreFitting x.figures) (sym (counting_more e es g)) h.0),
  first_fits e es gs h.1,
)

pub one_fits : (s : Rows) (e : Event) (es : List Event) → CountingFits s (e ∷ es) → CountingFits s (e ∷ [])
one_fits s e es h = first_fits e es s.groups h

-- after the first event the others fit
pub others_fit : (s t : Rows) (e : Event) (es : List Event) → IsAscending group_order s.groups → t ≡ changed_by s (growth_by s e) → CountingFits s (e ∷ es)
    → CountingFits t es
unfolding with_figures
others_fit s t e es a k h = subst (λ (r : Rows). CountingFits r es) (sym (k ∙ one_grown s e a)) (subst AllFit (sym (counting_both e es s.groups)) h)

mapped_fit : (es : List Event) (gs : List GroupRecord) (g : GroupRecord) → AllFit (map (counting es) gs) → Among g gs → AreFitting (counting es g).figures
mapped_fit es gs g h a = every_among (λ (x : GroupRecord). AreFitting (counting es x).figures) gs g (under es gs h) a
  where
    under : (es : List Event) (gs : List GroupRecord) → AllFit (map (counting es) gs) → Every (λ (x : GroupRecord). AreFitting (counting es x).figures) gs
    under es [] h = tt
    under es (x ∷ xs) h = (h.0, under es xs h.1)

-- the figures of a group that is found
pub found_fits : (s : Rows) (e : Event) (d : ℕ) (g : GroupRecord) → CountingFits s (e ∷ []) → group_of s d ≡ Some g → AreFitting (counting (e ∷ []) g).figures
unfolding group_of
found_fits s e d g h f = mapped_fit (e ∷ []) s.groups g h (found_among (at_group d) s.groups g f)
