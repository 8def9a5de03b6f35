use Rattle.std.proofs.Common.{◌≡◌, ◌+◌, ◌∷◌, ◌++◌, drop, arith, sym, ap, subst, ◌∙◌, append_assoc, length, ◌≤◌, List}
use Rattle.std.proofs.lemmas.Grind.{common_steps}
use Rattle.std.proofs.lemmas.List.{drop_all}
use Rattle.acd_terms.specs.declared.rows.Rows.{Rows}
use Rattle.acd_terms.specs.declared.event.Event.{Event}
use Rattle.acd_terms.specs.Lists.{IsAscending}
use Rattle.acd_model.specs.Figures.{with_figures}
use Rattle.acd_model.specs.Changes.{changed_by, growth_by, growth}
use Rattle.acd_model.specs.Rules.Plan.{group_order}
use Rattle.acd_laws.proofs.StepChanges.ChangedRows.{one_grown, figures_more, figures_none, ascending_grown}
use Rattle.acd_switch.specs.FigureSums.{CountingFits}
use Rattle.acd_switch.proofs.RoomOfFigures.{one_fits, others_fit}
use Rattle.acd_switch.proofs.journal.grow_by_all.Goals as goal

pub grow_by-requires : goal.grow_by-requires
grow_by-requires c =
    let i = c.loop-event.event-index in
    let x = c.event-item.result in
    let rest = drop (i + 1) c.args.events.now in
    let parts : drop i c.args.events.now ≡ x ∷ rest = grind (arith, common_steps) in
    one_fits c.loop-event.tables x rest (subst (λ (es : List Event). CountingFits c.loop-event.tables es) parts c.loop-event.invariant.room)

pub loop-event-preserved : goal.loop-event-preserved
loop-event-preserved c =
    let i = c.loop-event.event-index in
    let x = c.event-item.result in
    let s = c.loop-event.tables in
    let t = c.grow_by.new.tables in
    let rest = drop (i + 1) c.args.events.now in
    let before = c.loop-event.changes.items in
    let parts : drop i c.args.events.now ≡ x ∷ rest = grind (arith, common_steps) in
    let order = c.loop-event.invariant.order in
    let grown : t ≡ changed_by s (growth_by s x) = c.in_ok-grow_by.ensures.rows in
    record {
      rows =
          ap (λ (r : Rows). with_figures r rest) (grown ∙ one_grown s x order) ∙ figures_more s x rest ∙ ap (with_figures s) (sym parts)
          ∙ c.loop-event.invariant.rows;
      recorded = ap (λ l. l ++ growth t rest) c.in_ok-grow_by.ensures.changes ∙ append_assoc before (growth_by s x) (growth t rest)
          ∙ ap (λ (r : Rows). before ++ (growth_by s x ++ growth r rest)) grown ∙ ap (λ (es : List Event). before ++ growth s es) (sym parts)
          ∙ c.loop-event.invariant.recorded;
      order = subst (λ (r : Rows). IsAscending group_order r.groups) (sym grown) (ascending_grown s x order);
      room = others_fit s t x rest order grown (subst (λ (es : List Event). CountingFits s es) parts c.loop-event.invariant.room);
    }

pub returns-clause-rows : goal.returns-clause-rows
returns-clause-rows c =
    let past : length c.args.events.now ≤ c.loop-event.event-index = omega arith in
    sym (figures_none c.loop-event.tables) ∙ ap (with_figures c.loop-event.tables) (sym (drop_all c.loop-event.event-index c.args.events.now past))
    ∙ c.loop-event.invariant.rows
