use Rattle.std.proofs.Common.{◌≤◌}
use Rattle.acd_terms.specs.declared.event.Event.{Event}
use Rattle.acd_book.proofs.EventsAbove.{events_raised}
use Rattle.acd_lemmas.proofs.Lists.{every-append}
use Rattle.acd_sqlbook.proofs.index.index_extended.Goals as goal

pub returns : goal.returns
returns c =
    let i = c.args.index in
    let top = c.in_ok-top.top in
    let more = c.args.events.now in
    let e = c.in_ok-top.ensures in
    record {
      rise = e.rise;
      end = e.end;
      of_both = λ events indexes. record {
        lists = c.add_all.ensures.lists events (c.change.ensures.lists events indexes.last indexes.lists);
        last = every-append (λ (x : Event). x.number ≤ top) events more (events_raised i.last top events e.low indexes.last) e.all;
      };
    }
