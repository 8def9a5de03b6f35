use Rattle.std.proofs.Common.{◌≡◌, drop, ◌++◌}
use Rattle.acd_terms.specs.Lists.{IsAscending}
use Rattle.acd_model.specs.Changes.{growth}
use Rattle.acd_model.specs.Figures.{with_figures}
use Rattle.acd_model.specs.Rules.Plan.{group_order}
use Rattle.acd_switch.specs.FigureSums.{CountingFits}
use Rattle.acd_switch.proofs.journal.grow_by_all.Given as goal

abbrev pub invariant-loop-event : goal.invariant-loop-event
invariant-loop-event l = record {
  rows : with_figures l.tables (drop l.event-index l.events) ≡ with_figures l.fn.tables l.events;
  recorded : l.changes.items ++ growth l.tables (drop l.event-index l.events) ≡ l.fn.changes.items ++ growth l.fn.tables l.events;
  order : IsAscending group_order l.tables.groups;
  room : CountingFits l.tables (drop l.event-index l.events);
}
