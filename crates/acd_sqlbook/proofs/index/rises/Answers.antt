use Rattle.std.proofs.Common.{◌≤◌, ◌<◌, rules, sym, ap, subst, ◌∙◌, arith}
use Rattle.acd_terms.specs.Lists.{Every}
use Rattle.acd_terms.specs.declared.event.Event.{Event}
use Rattle.acd_book.specs.Memory.{number_of_event}
use Rattle.acd_book.specs.Order.{Rises}
use Rattle.acd_sqlbook.specs.EventIndex.{last_of}
use Rattle.acd_sqlbook.proofs.IndexedEvents.{rises_on, below_on, ends_on, none_left, all_taken}
use Rattle.acd_sqlbook.proofs.index.rises.Goals as goal

pub loop-event-preserved : goal.loop-event-preserved
loop-event-preserved c =
    let inv = c.loop-event.invariant in
    let i = c.loop-event.event-index in
    let events = c.args.events.now in
    let e = c.event-item.result in
    let up : c.loop-event.top < e.number = search rules in
    record {
      rise = λ rest. inv.rise (rises_on c.loop-event.top i events e c.loop-event-test.true c.event-item.is up rest);
      low = omega (arith, up, inv.low);
      all = below_on c.loop-event.top i events e c.loop-event-test.true c.event-item.is up inv.all;
      end = sym (ends_on c.loop-event.top i events e c.loop-event-test.true c.event-item.is) ∙ inv.end;
    }

pub returns : goal.returns
returns c =
    let inv = c.loop-event.invariant in
    let i = c.loop-event.event-index in
    let events = c.args.events.now in
    record {
      rise = inv.rise (subst (Rises number_of_event c.loop-event.top) (sym (none_left i events c.loop-event-test.false)) tt);
      low = inv.low;
      all = subst (Every (λ (e : Event). e.number ≤ c.loop-event.top)) (all_taken i events c.loop-event-test.false) inv.all;
      end = sym (ap (last_of c.loop-event.top) (none_left i events c.loop-event-test.false)) ∙ inv.end;
    }
