use Rattle.std.proofs.Common.{take}
use Rattle.acd_terms.specs.Lists.{Every}
use Rattle.acd_sql_columns.specs.InRange.{IsGoodEvent}
use Rattle.acd_sqlbook.specs.Commit.{EventFits}
use Rattle.acd_sqlbook.proofs.commit.events_fit.Given as goal

abbrev pub invariant-loop-event : goal.invariant-loop-event
invariant-loop-event l = record {
  fit : Every EventFits (take l.event-index l.events);
  good : Every IsGoodEvent (take l.event-index l.events);
}
