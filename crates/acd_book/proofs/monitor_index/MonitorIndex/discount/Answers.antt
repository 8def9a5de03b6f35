use Rattle.std.proofs.Common.{None, ap, sym, ◌∙◌}
use Rattle.std.specs.Prelude.{option_map}
use Rattle.acd_book.specs.declared.numbers.Numbers.{Numbers}
use Rattle.acd_book.specs.MonitorIndexes.{monitor_count}
use Rattle.acd_book.proofs.MonitorCounts.{last_goes, other_stays}
use Rattle.acd_book.proofs.DeviceNumbers.{listed_but}
use Rattle.acd_book.proofs.monitor_index.MonitorIndex.discount.Goals as goal

pub returns-then-is_last-clause-lists : goal.returns-then-is_last-clause-lists
returns-then-is_last-clause-lists c events h =
    let updates = c.remove.ensures.updates in
    listed_but events events c.is_last.new.self.lists.entries c.remove.new.self.entries c.args.device None updates.1 updates.2 tt (λ q l other listed. listed)
    (c.is_last.ensures.lists events h)

pub returns-then-is_last-clause-counts : goal.returns-then-is_last-clause-counts
returns-then-is_last-clause-counts c =
    let updates = c.remove.ensures.updates in
    let counts = c.is_last.ensures.counts in
    record {
      devices = counts.devices;
      one = ap (option_map (λ (l : Numbers). l.monitors)) updates.1
          ∙ sym (last_goes (monitor_count c.args.self.now c.args.device) (monitor_count c.is_last.new.self c.args.device) counts.one
          (sym c.is_last.ensures.last ∙ c.if-is_last.true));
      others = λ d other. ap (option_map (λ (l : Numbers). l.monitors)) (updates.2 d other) ∙ counts.others d other;
    }

pub returns-else-is_last-clause-counts : goal.returns-else-is_last-clause-counts
returns-else-is_last-clause-counts c =
    let counts = c.is_last.ensures.counts in
    record {
      devices = counts.devices;
      one =
          other_stays (monitor_count c.args.self.now c.args.device) (monitor_count c.is_last.new.self c.args.device) counts.one
          (sym c.is_last.ensures.last ∙ c.if-is_last.false);
      others = counts.others;
    }
