use Rattle.std.proofs.Common.{◌∙◌, sym, subst, Option}
use Rattle.std.specs.Prelude.{IfSome}
use Rattle.acd_book.specs.MonitorIndexes.{IsListed}
use Rattle.acd_book.specs.declared.numbers.Numbers.{Numbers}
use Rattle.acd_book.proofs.DeviceNumbers.{page_listed}
use Rattle.acd_book.proofs.monitor_index.MonitorIndex.numbers.Goals as goal

pub returns : goal.returns
returns c events h =
    let list = c.in_ok-list.list.now in
    let here = subst (λ (o : Option Numbers). IfSome o (IsListed events c.args.device)) (sym c.in_ok-list.ensures.value) (h c.args.device) in
    c.after.ensures ∙ page_listed c.args.device c.args.number c.args.limit list events c.if-number-list.false here
